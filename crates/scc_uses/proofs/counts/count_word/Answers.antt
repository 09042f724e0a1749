use Rattle.std.proofs.Common.{rules, Some, subst, sym, nat_eq}
use Rattle.std.specs.Cmp.{nat_eq_equiv}
use Rattle.scc_common.specs.Contents.{entries}
use Rattle.scc_common.specs.Pairs.{find, FindsInstead}
use Rattle.scc_owned.proofs.CallerLemmas.{finds-modify_or_insert}
use Rattle.scc_owned.specs.Held.{occupied_pair}
use Rattle.scc_uses.specs.Counts.{one_more}
use Rattle.scc_uses.proofs.Counting.{counted}
use Rattle.scc_uses.proofs.counts.count_word.Goals as goal

pub returns-clause-counted : goal.returns-clause-counted
unfolding entries
returns-clause-counted c =
    let o = c.in_ok-counts.field-0 in
    let h = finds-modify_or_insert nat_eq_equiv c.args.counts.now c.args.word _ _ c.entry_sync.result c.and_modify.result 1 o c.entry_sync.ensures.entry c.and_modify.ensures.modifies c.in_ok-counts.ensures.inserts.entry c.in_ok-counts.ensures.inserts.unique in
    let pair = counted c.args.counts.now c.args.word _ _ (λ m n says. search rules) c.entry_sync.result (occupied_pair o) c.entry_sync.ensures.entry h.0 in
    let finds : FindsInstead nat_eq (entries c.args.counts.now) c.args.word (Some (c.args.word, one_more (find nat_eq (entries c.args.counts.now) c.args.word))) (entries o.guard.now) =
    subst (λ q. FindsInstead nat_eq (entries c.args.counts.now) c.args.word (Some q) (entries o.guard.now)) pair h.1 in
    let last = c.counts-in_ok-counts-1.given.1 (search rules) in
    subst (λ e. FindsInstead nat_eq (entries c.args.counts.now) c.args.word (Some (c.args.word, one_more (find nat_eq (entries c.args.counts.now) c.args.word))) (entries e)) (sym last) finds
