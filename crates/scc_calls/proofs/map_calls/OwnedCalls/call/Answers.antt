use Rattle.std.proofs.Common.{Some, None, ◌∙◌, rules, inl, inr, refl}
use Rattle.scc_common.specs.Hashing.{hash_of}
use Rattle.scc_calls.specs.Resized.{MovesResized}
use Rattle.scc_calls.specs.Means.{answered}
use Rattle.scc_calls.specs.Stems.{MapStems}
use Rattle.scc_calls.specs.MapCalls.{MapMoves}
use Rattle.scc_calls.specs.States.{State, ResizesTo, run_setting, state_of}
use Rattle.scc_calls.specs.declared.replies.Reply.TheVariants.{Inserted, Exists, Old, Key, Pair, Value, Has, Cleared, Count}
use Rattle.std.specs.Option.{option_map}
use Rattle.scc_common.specs.Contents.{entries}
use Rattle.scc_common.specs.Pairs.{find}
use Rattle.scc_calls.proofs.Copying.{copied, copied-part}
use Rattle.scc_calls.proofs.MapCalls.{cleared, inserted, upserted, removed, removed-setting}
use Rattle.scc_calls.proofs.map_calls.OwnedCalls.call.Goals as goal

pub returns-in-Ok : goal.returns-in-Ok
returns-in-Ok g c =
    record {
      setting = (search rules);
      ok = (
          let raw : MovesResized (λ (s : State (g.row.K.Denot × g.row.V.Denot)). s.1) (MapMoves g.K.PartialEq.eq) (ResizesTo (run_setting c.args.self.now)) (state_of c.args.self.now) c.args.call Inserted (state_of c.insert_sync.new.self) = rw c.in-Insert.is (inserted g.K.PartialEq.eq (λ h k. hash_of g.H.BuildHasher g.H.Hasher.Hasher h (g.K.Hash.hash_input k)) c.args.self.now c.insert_sync.new.self c.in-Insert.k c.in-Insert.v c.in-Ok.field-0 c.in-Ok.ensures.step) in
          answered (MapStems g.V.Clone.is_clone) (MapMoves g.K.PartialEq.eq) (λ (s : State (g.row.K.Denot × g.row.V.Denot)). s.1) (ResizesTo (run_setting c.args.self.now)) _ _ c.args.call Inserted Inserted (rw c.in-Insert.is refl) raw);
      err = (search rules);
      refused = (search rules);
      answer = (search rules);
      made = (search rules);
      kept = (search rules);
    }

pub returns-in-Remove : goal.returns-in-Remove
returns-in-Remove g c =
    record {
      setting = (removed-setting g.K.PartialEq.eq c.args.self.now c.remove_sync.new.self c.in-Remove.k c.remove_sync.result c.remove_sync.ensures.step);
      ok = (
          let raw : MovesResized (λ (s : State (g.row.K.Denot × g.row.V.Denot)). s.1) (MapMoves g.K.PartialEq.eq) (ResizesTo (run_setting c.args.self.now)) (state_of c.args.self.now) c.args.call (Pair c.remove_sync.result) (state_of c.remove_sync.new.self) = rw c.in-Remove.is (removed g.K.PartialEq.eq c.args.self.now c.remove_sync.new.self c.in-Remove.k c.remove_sync.result c.remove_sync.ensures.step) in
          answered (MapStems g.V.Clone.is_clone) (MapMoves g.K.PartialEq.eq) (λ (s : State (g.row.K.Denot × g.row.V.Denot)). s.1) (ResizesTo (run_setting c.args.self.now)) _ _ c.args.call (Pair c.remove_sync.result) (Pair c.remove_sync.result) (rw c.in-Remove.is refl) raw);
      err = (search rules);
      refused = (search rules);
      answer = (search rules);
      made = (search rules);
      kept = (search rules);
    }

pub returns-in-Ok-upsert_sync : goal.returns-in-Ok-upsert_sync
returns-in-Ok-upsert_sync g c =
    record {
      setting = (search rules);
      ok = (
          let raw : MovesResized (λ (s : State (g.row.K.Denot × g.row.V.Denot)). s.1) (MapMoves g.K.PartialEq.eq) (ResizesTo (run_setting c.args.self.now)) (state_of c.args.self.now) c.args.call (Old c.in-Ok-upsert_sync.old) (state_of c.upsert_sync.new.self) = rw c.in-Upsert.is (upserted g.K.PartialEq.eq (λ h k. hash_of g.H.BuildHasher g.H.Hasher.Hasher h (g.K.Hash.hash_input k)) c.args.self.now c.upsert_sync.new.self c.in-Upsert.k c.in-Upsert.v c.in-Ok-upsert_sync.old c.in-Ok-upsert_sync.ensures.step) in
          answered (MapStems g.V.Clone.is_clone) (MapMoves g.K.PartialEq.eq) (λ (s : State (g.row.K.Denot × g.row.V.Denot)). s.1) (ResizesTo (run_setting c.args.self.now)) _ _ c.args.call (Old c.in-Ok-upsert_sync.old) (Old c.in-Ok-upsert_sync.old) (rw c.in-Upsert.is refl) raw);
      err = (search rules);
      refused = (search rules);
      answer = (search rules);
      made = (search rules);
      kept = (search rules);
    }

pub returns-in-Clear : goal.returns-in-Clear
returns-in-Clear g c =
    record {
      setting = (search rules);
      ok = (
          let raw : MovesResized (λ (s : State (g.row.K.Denot × g.row.V.Denot)). s.1) (MapMoves g.K.PartialEq.eq) (ResizesTo (run_setting c.args.self.now)) (state_of c.args.self.now) c.args.call Cleared (state_of c.clear_sync.new.self) = rw c.in-Clear.is (cleared g.K.PartialEq.eq c.args.self.now c.clear_sync.new.self c.clear_sync.ensures.holds) in
          answered (MapStems g.V.Clone.is_clone) (MapMoves g.K.PartialEq.eq) (λ (s : State (g.row.K.Denot × g.row.V.Denot)). s.1) (ResizesTo (run_setting c.args.self.now)) _ _ c.args.call Cleared Cleared (rw c.in-Clear.is refl) raw);
      err = (search rules);
      refused = (search rules);
      answer = (search rules);
      made = (search rules);
      kept = (search rules);
    }

pub returns-in-Read : goal.returns-in-Read
returns-in-Read g c =
    record {
      setting = (search rules);
      ok = (search rules);
      err = (search rules);
      refused = (inr (rw c.in-Read.is refl, rw (c.in-Read.is, c.in-Err-cloned_value.ensures.err.1) (λ h. c.in-Err-cloned_value.ensures.err.2 h)));
      answer = (search rules);
      made = (search rules);
      kept = (search rules);
    }

pub returns-in-Err-Exists : goal.returns-in-Err-Exists
returns-in-Err-Exists g c =
    record {
      setting = (search rules);
      ok = (
          let raw : MovesResized (λ (s : State (g.row.K.Denot × g.row.V.Denot)). s.1) (MapMoves g.K.PartialEq.eq) (ResizesTo (run_setting c.args.self.now)) (state_of c.args.self.now) c.args.call (Exists c.in-Err-Exists.k c.in-Err-Exists.v) (state_of c.insert_sync.new.self) = search rules in
          answered (MapStems g.V.Clone.is_clone) (MapMoves g.K.PartialEq.eq) (λ (s : State (g.row.K.Denot × g.row.V.Denot)). s.1) (ResizesTo (run_setting c.args.self.now)) _ _ c.args.call (Exists c.in-Err-Exists.k c.in-Err-Exists.v) (Exists c.in-Err-Exists.k c.in-Err-Exists.v) (rw c.in-Insert.is refl) raw);
      err = (search rules);
      refused = (search rules);
      answer = (search rules);
      made = (search rules);
      kept = (search rules);
    }

pub returns-in-Contains : goal.returns-in-Contains
returns-in-Contains g c =
    record {
      setting = (search rules);
      ok = (
          let raw : MovesResized (λ (s : State (g.row.K.Denot × g.row.V.Denot)). s.1) (MapMoves g.K.PartialEq.eq) (ResizesTo (run_setting c.args.self.now)) (state_of c.args.self.now) c.args.call (Has c.contains_sync.result) (state_of c.args.self.now) = search rules in
          answered (MapStems g.V.Clone.is_clone) (MapMoves g.K.PartialEq.eq) (λ (s : State (g.row.K.Denot × g.row.V.Denot)). s.1) (ResizesTo (run_setting c.args.self.now)) _ _ c.args.call (Has c.contains_sync.result) (Has c.contains_sync.result) (rw c.in-Contains.is refl) raw);
      err = (search rules);
      refused = (search rules);
      answer = (search rules);
      made = (search rules);
      kept = (search rules);
    }

pub returns-in-Ok-cloned_value : goal.returns-in-Ok-cloned_value
returns-in-Ok-cloned_value g c =
    record {
      setting = (search rules);
      ok = (
          let raw : MovesResized (λ (s : State (g.row.K.Denot × g.row.V.Denot)). s.1) (MapMoves g.K.PartialEq.eq) (ResizesTo (run_setting c.args.self.now)) (state_of c.args.self.now) c.args.call (Value (option_map (λ p. p.1) (find g.K.PartialEq.eq (entries c.args.self.now) c.in-Read.k))) (state_of c.args.self.now) = inl (refl, rw c.in-Read.is (refl, refl)) in
          answered (MapStems g.V.Clone.is_clone) (MapMoves g.K.PartialEq.eq) (λ (s : State (g.row.K.Denot × g.row.V.Denot)). s.1) (ResizesTo (run_setting c.args.self.now)) _ _ c.args.call (Value (option_map (λ p. p.1) (find g.K.PartialEq.eq (entries c.args.self.now) c.in-Read.k))) (Value c.in-Ok-cloned_value.value) (rw c.in-Read.is (copied-part g.V.Clone.is_clone (λ p. p.1) (find g.K.PartialEq.eq (entries c.args.self.now) c.in-Read.k) c.in-Ok-cloned_value.value c.in-Ok-cloned_value.ensures.ok)) raw);
      err = (search rules);
      refused = (search rules);
      answer = (
          λ copy ready. let laws = c.equals.ensures in
          let own = (copied c.requires.clones Value _ (λ p. p.1) refl (λ x y h. h) (find g.K.PartialEq.eq (entries c.args.self.now) c.in-Read.k) c.in-Ok-cloned_value.value c.in-Ok-cloned_value.ensures.ok) in
          let asked = rw c.in-Read.is at ready.1 in
          laws.trans (Value c.in-Ok-cloned_value.value) (Value (option_map (λ p. p.1) (find g.K.PartialEq.eq (entries c.args.self.now) c.in-Read.k))) copy (laws.symm (Value c.in-Ok-cloned_value.value) (Value (option_map (λ p. p.1) (find g.K.PartialEq.eq (entries c.args.self.now) c.in-Read.k))) ∙ own) asked);
      made = (search rules);
      kept = (search rules);
    }

pub returns : goal.returns
returns g c =
    record {
      setting = (search rules);
      ok = (
          let raw : MovesResized (λ (s : State (g.row.K.Denot × g.row.V.Denot)). s.1) (MapMoves g.K.PartialEq.eq) (ResizesTo (run_setting c.args.self.now)) (state_of c.args.self.now) c.args.call (Count c.len.result) (state_of c.args.self.now) = search rules in
          answered (MapStems g.V.Clone.is_clone) (MapMoves g.K.PartialEq.eq) (λ (s : State (g.row.K.Denot × g.row.V.Denot)). s.1) (ResizesTo (run_setting c.args.self.now)) _ _ c.args.call (Count c.len.result) (Count c.len.result) (rw c.in-Len.is refl) raw);
      err = (search rules);
      refused = (search rules);
      answer = (search rules);
      made = (search rules);
      kept = (search rules);
    }

pub returns-in-Replaced : goal.returns-in-Replaced
returns-in-Replaced g c =
    record {
      setting = (search rules);
      ok = (inl (search rules, (Key (Some c.in-Replaced.old), rw c.in-Replace.is refl, rw c.in-Replace.is (search rules))));
      err = (search rules);
      refused = (search rules);
      answer = (search rules);
      made = (search rules);
      kept = (search rules);
    }

pub returns-in-Replace : goal.returns-in-Replace
returns-in-Replace g c =
    record {
      setting = (search rules);
      ok = (inl (search rules, (Key None, rw c.in-Replace.is refl, rw c.in-Replace.is (search rules))));
      err = (search rules);
      refused = (search rules);
      answer = (search rules);
      made = (search rules);
      kept = (search rules);
    }
