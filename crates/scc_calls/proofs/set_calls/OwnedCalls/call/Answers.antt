use Rattle.std.proofs.Common.{◌∙◌, inl, inr, refl, rules}
use Rattle.scc_common.specs.Contents.{entries}
use Rattle.scc_common.specs.Hashing.{hash_of}
use Rattle.scc_owned_set.specs.Keys.{find}
use Rattle.scc_calls.specs.Resized.{MovesResized}
use Rattle.scc_calls.specs.Means.{answered}
use Rattle.scc_calls.specs.Stems.{SetStems}
use Rattle.scc_calls.specs.SetCalls.{SetMoves}
use Rattle.scc_calls.specs.States.{State, ResizesTo, run_setting, state_of}
use Rattle.scc_calls.specs.declared.replies.Reply.TheVariants.{Inserted, Exists, Key, Has, Cleared, Count}
use Rattle.scc_calls.proofs.Copying.{copied_whole}
use Rattle.scc_calls.proofs.SetCalls.{cleared, inserted, removed, replaced}
use Rattle.scc_calls.proofs.set_calls.OwnedCalls.call.Goals as goal

pub returns-in-Ok : goal.returns-in-Ok
returns-in-Ok g c =
    record {
      setting = (search rules);
      ok = (
          let raw : MovesResized (λ (s : State g.row.K.Denot). s.1) (SetMoves g.K.PartialEq.eq) (ResizesTo (run_setting c.args.self.now)) (state_of c.args.self.now) c.args.call Inserted (state_of c.insert_sync.new.self) = rw c.in-Insert.is (inserted g.K.PartialEq.eq (λ h k. hash_of g.H.BuildHasher g.H.Hasher.Hasher h (g.K.Hash.hash_input k)) c.args.self.now c.insert_sync.new.self c.in-Insert.k c.in-Ok.field-0 c.in-Ok.ensures.step) in
          answered (SetStems g.K.Clone.is_clone) (SetMoves g.K.PartialEq.eq) (λ (s : State g.row.K.Denot). s.1) (ResizesTo (run_setting c.args.self.now)) _ _ c.args.call Inserted Inserted (rw c.in-Insert.is refl) raw);
      err = (search rules);
      refused = (search rules);
      answer = (search rules);
      made = (search rules);
      kept = (search rules);
    }

pub returns-in-Err-Exists : goal.returns-in-Err-Exists
returns-in-Err-Exists g c =
    record {
      setting = (search rules);
      ok = (
          let raw : MovesResized (λ (s : State g.row.K.Denot). s.1) (SetMoves g.K.PartialEq.eq) (ResizesTo (run_setting c.args.self.now)) (state_of c.args.self.now) c.args.call (Exists c.in-Err-Exists.k tt) (state_of c.insert_sync.new.self) = search rules in
          answered (SetStems g.K.Clone.is_clone) (SetMoves g.K.PartialEq.eq) (λ (s : State g.row.K.Denot). s.1) (ResizesTo (run_setting c.args.self.now)) _ _ c.args.call (Exists c.in-Err-Exists.k tt) (Exists c.in-Err-Exists.k tt) (rw c.in-Insert.is refl) raw);
      err = (search rules);
      refused = (search rules);
      answer = (search rules);
      made = (search rules);
      kept = (search rules);
    }

pub returns-in-Ok-replace_sync : goal.returns-in-Ok-replace_sync
returns-in-Ok-replace_sync g c =
    record {
      setting = (search rules);
      ok = (
          let raw : MovesResized (λ (s : State g.row.K.Denot). s.1) (SetMoves g.K.PartialEq.eq) (ResizesTo (run_setting c.args.self.now)) (state_of c.args.self.now) c.args.call (Key c.in-Ok-replace_sync.old) (state_of c.replace_sync.new.self) = rw c.in-Replace.is (replaced g.K.PartialEq.eq (λ h k. hash_of g.H.BuildHasher g.H.Hasher.Hasher h (g.K.Hash.hash_input k)) c.args.self.now c.replace_sync.new.self c.in-Replace.k c.in-Ok-replace_sync.old c.in-Ok-replace_sync.ensures.step) in
          answered (SetStems g.K.Clone.is_clone) (SetMoves g.K.PartialEq.eq) (λ (s : State g.row.K.Denot). s.1) (ResizesTo (run_setting c.args.self.now)) _ _ c.args.call (Key c.in-Ok-replace_sync.old) (Key c.in-Ok-replace_sync.old) (rw c.in-Replace.is refl) raw);
      err = (search rules);
      refused = (search rules);
      answer = (search rules);
      made = (search rules);
      kept = (search rules);
    }

pub returns-in-Remove : goal.returns-in-Remove
returns-in-Remove g c =
    record {
      setting = (search rules);
      ok = (
          let raw : MovesResized (λ (s : State g.row.K.Denot). s.1) (SetMoves g.K.PartialEq.eq) (ResizesTo (run_setting c.args.self.now)) (state_of c.args.self.now) c.args.call (Key c.remove_sync.result) (state_of c.remove_sync.new.self) = rw c.in-Remove.is (removed g.K.PartialEq.eq c.args.self.now c.remove_sync.new.self c.in-Remove.k c.remove_sync.result c.remove_sync.ensures.step) in
          answered (SetStems g.K.Clone.is_clone) (SetMoves g.K.PartialEq.eq) (λ (s : State g.row.K.Denot). s.1) (ResizesTo (run_setting c.args.self.now)) _ _ c.args.call (Key c.remove_sync.result) (Key c.remove_sync.result) (rw c.in-Remove.is refl) raw);
      err = (search rules);
      refused = (search rules);
      answer = (search rules);
      made = (search rules);
      kept = (search rules);
    }

pub returns-in-Ok-cloned_key : goal.returns-in-Ok-cloned_key
returns-in-Ok-cloned_key g c =
    record {
      setting = (search rules);
      ok = (
          let raw : MovesResized (λ (s : State g.row.K.Denot). s.1) (SetMoves g.K.PartialEq.eq) (ResizesTo (run_setting c.args.self.now)) (state_of c.args.self.now) c.args.call (Key (find g.K.PartialEq.eq (entries c.args.self.now) c.in-Read.k)) (state_of c.args.self.now) = inl (refl, rw c.in-Read.is (refl, refl)) in
          answered (SetStems g.K.Clone.is_clone) (SetMoves g.K.PartialEq.eq) (λ (s : State g.row.K.Denot). s.1) (ResizesTo (run_setting c.args.self.now)) _ _ c.args.call (Key (find g.K.PartialEq.eq (entries c.args.self.now) c.in-Read.k)) (Key c.in-Ok-cloned_key.key) (rw c.in-Read.is c.in-Ok-cloned_key.ensures.ok) raw);
      err = (search rules);
      refused = (search rules);
      answer = (
          λ copy ready. let laws = c.equals.ensures in
          let own = (copied_whole c.requires.clones Key _ refl (λ x y h. h) (find g.K.PartialEq.eq (entries c.args.self.now) c.in-Read.k) c.in-Ok-cloned_key.key c.in-Ok-cloned_key.ensures.ok) in
          let asked = rw c.in-Read.is at ready.1 in
          laws.trans (Key c.in-Ok-cloned_key.key) (Key (find g.K.PartialEq.eq (entries c.args.self.now) c.in-Read.k)) copy (laws.symm (Key c.in-Ok-cloned_key.key) (Key (find g.K.PartialEq.eq (entries c.args.self.now) c.in-Read.k)) ∙ own) asked);
      made = (search rules);
      kept = (search rules);
    }

pub returns-in-Read : goal.returns-in-Read
returns-in-Read g c =
    record {
      setting = (search rules);
      ok = (search rules);
      err = (search rules);
      refused = (inr (rw c.in-Read.is refl, rw (c.in-Read.is, c.in-Err-cloned_key.ensures.err.1) (λ h. c.in-Err-cloned_key.ensures.err.2 h)));
      answer = (search rules);
      made = (search rules);
      kept = (search rules);
    }

pub returns-in-Contains : goal.returns-in-Contains
returns-in-Contains g c =
    record {
      setting = (search rules);
      ok = (
          let raw : MovesResized (λ (s : State g.row.K.Denot). s.1) (SetMoves g.K.PartialEq.eq) (ResizesTo (run_setting c.args.self.now)) (state_of c.args.self.now) c.args.call (Has c.contains_sync.result) (state_of c.args.self.now) = search rules in
          answered (SetStems g.K.Clone.is_clone) (SetMoves g.K.PartialEq.eq) (λ (s : State g.row.K.Denot). s.1) (ResizesTo (run_setting c.args.self.now)) _ _ c.args.call (Has c.contains_sync.result) (Has c.contains_sync.result) (rw c.in-Contains.is refl) raw);
      err = (search rules);
      refused = (search rules);
      answer = (search rules);
      made = (search rules);
      kept = (search rules);
    }

pub returns-in-Clear : goal.returns-in-Clear
returns-in-Clear g c =
    record {
      setting = (search rules);
      ok = (
          let raw : MovesResized (λ (s : State g.row.K.Denot). s.1) (SetMoves g.K.PartialEq.eq) (ResizesTo (run_setting c.args.self.now)) (state_of c.args.self.now) c.args.call Cleared (state_of c.clear_sync.new.self) = rw c.in-Clear.is (cleared g.K.PartialEq.eq c.args.self.now c.clear_sync.new.self c.clear_sync.ensures.holds) in
          answered (SetStems g.K.Clone.is_clone) (SetMoves g.K.PartialEq.eq) (λ (s : State g.row.K.Denot). s.1) (ResizesTo (run_setting c.args.self.now)) _ _ c.args.call Cleared Cleared (rw c.in-Clear.is refl) raw);
      err = (search rules);
      refused = (search rules);
      answer = (search rules);
      made = (search rules);
      kept = (search rules);
    }

pub returns : goal.returns
returns g c =
    record {
      setting = (search rules);
      ok = (
          let raw : MovesResized (λ (s : State g.row.K.Denot). s.1) (SetMoves g.K.PartialEq.eq) (ResizesTo (run_setting c.args.self.now)) (state_of c.args.self.now) c.args.call (Count c.len.result) (state_of c.args.self.now) = search rules in
          answered (SetStems g.K.Clone.is_clone) (SetMoves g.K.PartialEq.eq) (λ (s : State g.row.K.Denot). s.1) (ResizesTo (run_setting c.args.self.now)) _ _ c.args.call (Count c.len.result) (Count c.len.result) (rw c.in-Len.is refl) raw);
      err = (search rules);
      refused = (search rules);
      answer = (search rules);
      made = (search rules);
      kept = (search rules);
    }
