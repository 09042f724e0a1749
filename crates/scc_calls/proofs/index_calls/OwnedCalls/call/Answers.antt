use Rattle.std.proofs.Common.{◌≡◌, ◌∙◌, true, false, inl, inr, refl, rules, ap, sym}
use Rattle.std.specs.Borrow.{MutBor}
use Rattle.std.specs.Option.{option_map}
use Rattle.scc_common.specs.Contents.{Contents, entries}
use Rattle.scc_common.specs.Pairs.{find}
use Rattle.scc_calls.specs.Resized.{MovesResized}
use Rattle.scc_calls.specs.Means.{answered}
use Rattle.scc_calls.specs.Stems.{IndexStems}
use Rattle.scc_calls.specs.IndexCalls.{IndexMoves}
use Rattle.scc_calls.specs.States.{State, ResizesTo, run_setting, state_of}
use Rattle.scc_calls.specs.declared.replies.Reply.TheVariants.{Inserted, Exists, Value, Has, Cleared, Count}
use Rattle.scc_calls.proofs.Copying.{copied, copied-part}
use Rattle.scc_calls.proofs.IndexCalls.{cleared, inserted, removed, updated}
use Rattle.scc_calls.proofs.index_calls.OwnedCalls.call.Goals as goal

pub returns-in-Ok : goal.returns-in-Ok
returns-in-Ok g c =
    record {
      setting = (search rules);
      ok = (
          let raw : MovesResized (λ (s : State (g.row.K.Denot × g.row.V.Denot)). s.1) (IndexMoves g.K.PartialEq.eq g.K.Clone.is_clone) (ResizesTo (run_setting c.args.self.now)) (state_of c.args.self.now) c.args.call Inserted (state_of c.insert_sync.new.self) = rw c.in-Insert.is (inserted g.K.PartialEq.eq g.K.Clone.is_clone c.args.self.now c.insert_sync.new.self c.in-Insert.k c.in-Insert.v c.in-Ok.field-0 c.in-Ok.ensures.step) in
          answered (IndexStems g.V.Clone.is_clone) (IndexMoves g.K.PartialEq.eq g.K.Clone.is_clone) (λ (s : State (g.row.K.Denot × g.row.V.Denot)). s.1) (ResizesTo (run_setting c.args.self.now)) _ _ c.args.call Inserted Inserted (rw c.in-Insert.is refl) raw);
      err = (search rules);
      refused = (search rules);
      answer = (search rules);
      made = (search rules);
      kept = (search rules);
    }

pub returns-in-Err-Exists : goal.returns-in-Err-Exists
returns-in-Err-Exists g c =
    record {
      setting = (search rules);
      ok = (
          let raw : MovesResized (λ (s : State (g.row.K.Denot × g.row.V.Denot)). s.1) (IndexMoves g.K.PartialEq.eq g.K.Clone.is_clone) (ResizesTo (run_setting c.args.self.now)) (state_of c.args.self.now) c.args.call (Exists c.in-Err-Exists.k c.in-Err-Exists.v) (state_of c.insert_sync.new.self) = search rules in
          answered (IndexStems g.V.Clone.is_clone) (IndexMoves g.K.PartialEq.eq g.K.Clone.is_clone) (λ (s : State (g.row.K.Denot × g.row.V.Denot)). s.1) (ResizesTo (run_setting c.args.self.now)) _ _ c.args.call (Exists c.in-Err-Exists.k c.in-Err-Exists.v) (Exists c.in-Err-Exists.k c.in-Err-Exists.v) (rw c.in-Insert.is refl) raw);
      err = (search rules);
      refused = (search rules);
      answer = (search rules);
      made = (search rules);
      kept = (search rules);
    }

pub returns-in-Ok-update : goal.returns-in-Ok-update
returns-in-Ok-update g c =
    record {
      setting = (search rules);
      ok = (
          let raw : MovesResized (λ (s : State (g.row.K.Denot × g.row.V.Denot)). s.1) (IndexMoves g.K.PartialEq.eq g.K.Clone.is_clone) (ResizesTo (run_setting c.args.self.now)) (state_of c.args.self.now) c.args.call (Has true) (state_of c.self-1.given.0) = let still : c.update.new.self.guard.ghost_name ≡ c.in-Some.entry.guard.ghost_name = ap (λ (m : MutBor (Contents (g.row.K.Denot × g.row.V.Denot) g.row.H.Denot)). m.ghost_name) c.in-Ok-update.ensures.updated.same_guard in
          let now = c.self-1.given.1 (sym c.in-Some.ensures.same_container ∙ sym still) in
          rw (now, c.in-Update.is) (updated g.met.K.Eq.laws g.K.Clone.is_clone c.args.self.now c.in-Update.k c.in-Update.v c.in-Some.entry c.update.new.self c.in-Some.ensures.entry c.in-Ok-update.ensures.updated) in
          answered (IndexStems g.V.Clone.is_clone) (IndexMoves g.K.PartialEq.eq g.K.Clone.is_clone) (λ (s : State (g.row.K.Denot × g.row.V.Denot)). s.1) (ResizesTo (run_setting c.args.self.now)) _ _ c.args.call (Has true) (Has true) (rw c.in-Update.is refl) raw);
      err = (search rules);
      refused = (search rules);
      answer = (search rules);
      made = (search rules);
      kept = (search rules);
    }

pub returns-in-Update : goal.returns-in-Update
returns-in-Update g c =
    record {
      setting = (search rules);
      ok = (
          let raw : MovesResized (λ (s : State (g.row.K.Denot × g.row.V.Denot)). s.1) (IndexMoves g.K.PartialEq.eq g.K.Clone.is_clone) (ResizesTo (run_setting c.args.self.now)) (state_of c.args.self.now) c.args.call (Has false) (state_of c.get_sync.follows.lender-at-none) = search rules in
          answered (IndexStems g.V.Clone.is_clone) (IndexMoves g.K.PartialEq.eq g.K.Clone.is_clone) (λ (s : State (g.row.K.Denot × g.row.V.Denot)). s.1) (ResizesTo (run_setting c.args.self.now)) _ _ c.args.call (Has false) (Has false) (rw c.in-Update.is refl) raw);
      err = (search rules);
      refused = (search rules);
      answer = (search rules);
      made = (search rules);
      kept = (search rules);
    }

pub returns-in-Remove : goal.returns-in-Remove
returns-in-Remove g c =
    record {
      setting = (search rules);
      ok = (
          let raw : MovesResized (λ (s : State (g.row.K.Denot × g.row.V.Denot)). s.1) (IndexMoves g.K.PartialEq.eq g.K.Clone.is_clone) (ResizesTo (run_setting c.args.self.now)) (state_of c.args.self.now) c.args.call (Has c.remove_sync.result) (state_of c.remove_sync.new.self) = rw c.in-Remove.is (removed g.K.PartialEq.eq g.K.Clone.is_clone c.args.self.now c.remove_sync.new.self c.in-Remove.k c.remove_sync.result c.remove_sync.ensures.step) in
          answered (IndexStems g.V.Clone.is_clone) (IndexMoves g.K.PartialEq.eq g.K.Clone.is_clone) (λ (s : State (g.row.K.Denot × g.row.V.Denot)). s.1) (ResizesTo (run_setting c.args.self.now)) _ _ c.args.call (Has c.remove_sync.result) (Has c.remove_sync.result) (rw c.in-Remove.is refl) raw);
      err = (search rules);
      refused = (search rules);
      answer = (search rules);
      made = (search rules);
      kept = (search rules);
    }

pub returns-in-Ok-cloned_value : goal.returns-in-Ok-cloned_value
returns-in-Ok-cloned_value g c =
    record {
      setting = (search rules);
      ok = (
          let raw : MovesResized (λ (s : State (g.row.K.Denot × g.row.V.Denot)). s.1) (IndexMoves g.K.PartialEq.eq g.K.Clone.is_clone) (ResizesTo (run_setting c.args.self.now)) (state_of c.args.self.now) c.args.call (Value (option_map (λ p. p.1) (find g.K.PartialEq.eq (entries c.args.self.now) c.in-Read.k))) (state_of c.args.self.now) = inl (refl, rw c.in-Read.is (refl, refl)) in
          answered (IndexStems g.V.Clone.is_clone) (IndexMoves g.K.PartialEq.eq g.K.Clone.is_clone) (λ (s : State (g.row.K.Denot × g.row.V.Denot)). s.1) (ResizesTo (run_setting c.args.self.now)) _ _ c.args.call (Value (option_map (λ p. p.1) (find g.K.PartialEq.eq (entries c.args.self.now) c.in-Read.k))) (Value c.in-Ok-cloned_value.value) (rw c.in-Read.is (copied-part g.V.Clone.is_clone (λ p. p.1) (find g.K.PartialEq.eq (entries c.args.self.now) c.in-Read.k) c.in-Ok-cloned_value.value c.in-Ok-cloned_value.ensures.ok)) raw);
      err = (search rules);
      refused = (search rules);
      answer = (
          λ copy ready. let laws = c.equals.ensures in
          let own = (copied c.requires.clones Value _ (λ p. p.1) refl (λ x y h. h) (find g.K.PartialEq.eq (entries c.args.self.now) c.in-Read.k) c.in-Ok-cloned_value.value c.in-Ok-cloned_value.ensures.ok) in
          let asked = rw c.in-Read.is at ready.1 in
          laws.trans (Value c.in-Ok-cloned_value.value) (Value (option_map (λ p. p.1) (find g.K.PartialEq.eq (entries c.args.self.now) c.in-Read.k))) copy (laws.symm (Value c.in-Ok-cloned_value.value) (Value (option_map (λ p. p.1) (find g.K.PartialEq.eq (entries c.args.self.now) c.in-Read.k))) ∙ own) asked);
      made = (search rules);
      kept = (search rules);
    }

pub returns-in-Read : goal.returns-in-Read
returns-in-Read g c =
    record {
      setting = (search rules);
      ok = (search rules);
      err = (search rules);
      refused = (inr (rw c.in-Read.is refl, rw (c.in-Read.is, c.in-Err-cloned_value.ensures.err.1) (λ h. c.in-Err-cloned_value.ensures.err.2 h)));
      answer = (search rules);
      made = (search rules);
      kept = (search rules);
    }

pub returns-in-Contains : goal.returns-in-Contains
returns-in-Contains g c =
    record {
      setting = (search rules);
      ok = (
          let raw : MovesResized (λ (s : State (g.row.K.Denot × g.row.V.Denot)). s.1) (IndexMoves g.K.PartialEq.eq g.K.Clone.is_clone) (ResizesTo (run_setting c.args.self.now)) (state_of c.args.self.now) c.args.call (Has c.contains.result) (state_of c.args.self.now) = search rules in
          answered (IndexStems g.V.Clone.is_clone) (IndexMoves g.K.PartialEq.eq g.K.Clone.is_clone) (λ (s : State (g.row.K.Denot × g.row.V.Denot)). s.1) (ResizesTo (run_setting c.args.self.now)) _ _ c.args.call (Has c.contains.result) (Has c.contains.result) (rw c.in-Contains.is refl) raw);
      err = (search rules);
      refused = (search rules);
      answer = (search rules);
      made = (search rules);
      kept = (search rules);
    }

pub returns-in-Clear : goal.returns-in-Clear
returns-in-Clear g c =
    record {
      setting = (search rules);
      ok = (
          let raw : MovesResized (λ (s : State (g.row.K.Denot × g.row.V.Denot)). s.1) (IndexMoves g.K.PartialEq.eq g.K.Clone.is_clone) (ResizesTo (run_setting c.args.self.now)) (state_of c.args.self.now) c.args.call Cleared (state_of c.clear_sync.new.self) = rw c.in-Clear.is (cleared g.K.PartialEq.eq g.K.Clone.is_clone c.args.self.now c.clear_sync.new.self c.clear_sync.ensures.holds) in
          answered (IndexStems g.V.Clone.is_clone) (IndexMoves g.K.PartialEq.eq g.K.Clone.is_clone) (λ (s : State (g.row.K.Denot × g.row.V.Denot)). s.1) (ResizesTo (run_setting c.args.self.now)) _ _ c.args.call Cleared Cleared (rw c.in-Clear.is refl) raw);
      err = (search rules);
      refused = (search rules);
      answer = (search rules);
      made = (search rules);
      kept = (search rules);
    }

pub returns : goal.returns
returns g c =
    record {
      setting = (search rules);
      ok = (
          let raw : MovesResized (λ (s : State (g.row.K.Denot × g.row.V.Denot)). s.1) (IndexMoves g.K.PartialEq.eq g.K.Clone.is_clone) (ResizesTo (run_setting c.args.self.now)) (state_of c.args.self.now) c.args.call (Count c.len.result) (state_of c.args.self.now) = search rules in
          answered (IndexStems g.V.Clone.is_clone) (IndexMoves g.K.PartialEq.eq g.K.Clone.is_clone) (λ (s : State (g.row.K.Denot × g.row.V.Denot)). s.1) (ResizesTo (run_setting c.args.self.now)) _ _ c.args.call (Count c.len.result) (Count c.len.result) (rw c.in-Len.is refl) raw);
      err = (search rules);
      refused = (search rules);
      answer = (search rules);
      made = (search rules);
      kept = (search rules);
    }
