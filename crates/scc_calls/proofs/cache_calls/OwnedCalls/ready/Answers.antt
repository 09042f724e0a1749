use Rattle.std.proofs.Common.{◌≡◌, ◌∙◌, true, false, inr, sym, ap, rules}
use Rattle.scc_common.specs.Contents.{lists_of, notes_of, settings_of}
use Rattle.scc_buckets.proofs.Unmarked.{without_mark-lists, without_mark-notes, without_mark-unchanged}
use Rattle.scc_calls.proofs.cache_calls.OwnedCalls.ready.Goals as goal

pub returns-in-Err : goal.returns-in-Err
returns-in-Err g c =
    let m = c.prepare.new.cache.contents in
    let lists = ap (λ d. lists_of d.contents) c.drop_room.ensures.cleared ∙ without_mark-lists m in
    let settings = ap (λ d. settings_of d.contents) c.drop_room.ensures.cleared ∙ (without_mark-unchanged m).settings in
    record {
      setting = (search rules);
      stays = (rw lists c.prepare.ensures.stays);
      grows = (rw lists c.prepare.ensures.grows);
      adds = (rw lists c.prepare.ensures.adds);
      ready = (search rules);
      refused = (inr (rw (lists, settings) c.in-Err.ensures.refused));
      unmarked = (λ h. let n = ap (λ p. p.1) (ap (λ d. notes_of d.contents) c.drop_room.ensures.cleared ∙ without_mark-notes m) in absurd (let z : true ≡ false = sym h ∙ n in cc));
      still = (rw lists c.prepare.ensures.still);
    }
