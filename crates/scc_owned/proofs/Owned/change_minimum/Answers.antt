use Rattle.std.proofs.Common.{◌≡◌, ◌∙◌, ◌↔◌, Bool, IsTrue, arith, rules}
use Rattle.scc_common.specs.Contents.{minimum_of}
use Rattle.scc_owned.proofs.Owned.change_minimum.Goals as goal

taken : {A B C : Type 0} {b : Bool} → (IsTrue b ↔ A) → (IsTrue b → B) → (IsTrue b → C) → A → B × C
taken answer gives due a = let t = answer.1 a in (gives t, due t)

pub returns-then-share-minimum : goal.returns-then-share-minimum
returns-then-share-minimum g c =
    let start : c.start-minimum.result.now ≡ minimum_of c.args.self.now = c.start-minimum.ensures ∙ c.capacity_range.ensures.low in
    let most = c.requires in
    record {
      kept = (search rules);
      raised = λ below. rw (← start) (taken (rw c.self.view_is at c.raise_minimum.ensures.answer) (rw c.self.view_is at c.raise_minimum.ensures.yes) (rw c.self.view_is at c.raise_minimum.ensures.due) (omega (arith, start, below), omega (arith, start, below, most)));
      lowered = (search rules);
      same = (search rules);
      unique = (search rules);
    }

pub returns-then-share-minimum-2 : goal.returns-then-share-minimum-2
returns-then-share-minimum-2 g c =
    let start : c.start-minimum.result.now ≡ minimum_of c.args.self.now = c.start-minimum.ensures ∙ c.capacity_range.ensures.low in
    record {
      kept = (search rules);
      raised = (search rules);
      lowered = λ asked below. rw (← start) (taken (rw c.self.view_is at c.lower_minimum.ensures.answer) (rw c.self.view_is at c.lower_minimum.ensures.yes) (rw c.self.view_is at c.lower_minimum.ensures.due) (omega (arith, start, asked, below)));
      same = (search rules);
      unique = (search rules);
    }
