use Rattle.std.proofs.Common.{◌∙◌, ap, false}
use Rattle.scc_buckets.proofs.Unmarked.{is-without_mark}
use Rattle.scc_table.proofs.relocations.ShortLists.{listed-later}
use Rattle.scc_table.proofs.Table.drop_mark.Goals as goal

pub returns-clause-cleared : goal.returns-clause-cleared
returns-clause-cleared g c =
    let m = c.mark.ensures in
    is-without_mark c.args.self.now c.mark.new.self m.lists m.settings (m.noted ∙ ap (λ r. (r, false)) c.is_resize_refused-refused.ensures) m.spilled m.waiting m.owed

pub returns-clause-listed : goal.returns-clause-listed
returns-clause-listed g c = λ h.
    listed-later (λ s (e : g.row.E.Denot). g.H.Hashes.hash_of s.hasher (g.E.Keyed.key_of e)) c.args.self.now c.mark.new.self c.mark.ensures.lists c.mark.ensures.settings (c.mark.ensures.spilled ∙ h.bounded) h
