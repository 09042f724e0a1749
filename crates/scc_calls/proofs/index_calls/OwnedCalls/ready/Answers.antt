use Rattle.std.proofs.Common.{◌≡◌, ◌∙◌, true, false, inr, sym, ap, subst, rules}
use Rattle.scc_common.specs.Contents.{notes_of}
use Rattle.scc_common.specs.Steps.{IsUnchanged}
use Rattle.scc_buckets.proofs.Unmarked.{without_mark-notes, without_mark-unchanged}
use Rattle.scc_calls.proofs.States.{unchanged-state}
use Rattle.scc_calls.proofs.index_calls.OwnedCalls.ready.Goals as goal

pub returns-in-Err : goal.returns-in-Err
returns-in-Err g c =
    let same = subst (IsUnchanged c.prepare.new.index) (sym c.drop_room.ensures.cleared) (without_mark-unchanged c.prepare.new.index) in
    record {
      setting = (search rules);
      stays = (search rules);
      grows = (search rules);
      adds = (search rules);
      ready = (search rules);
      refused = (inr (rw same.exact c.in-Err.ensures.refused));
      unmarked = (λ h. let n = ap (λ p. p.1) (ap notes_of c.drop_room.ensures.cleared ∙ without_mark-notes c.prepare.new.index) in absurd (let z : true ≡ false = sym h ∙ n in cc));
      still = (
          let state = unchanged-state c.prepare.new.index c.drop_room.new.self same in
          λ h. c.prepare.ensures.still (rw state at h));
    }
