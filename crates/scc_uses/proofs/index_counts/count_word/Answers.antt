use Rattle.std.proofs.Common.{rules, ◌≡◌, nat_eq, Some, sym, subst}
use Rattle.scc_common.specs.Contents.{entries}
use Rattle.scc_common.specs.Pairs.{find, FindsInstead}
use Rattle.scc_uses.specs.Counts.{one_more}
use Rattle.scc_uses.proofs.IndexCounting.{CountsUp, counted}
use Rattle.scc_uses.proofs.index_counts.count_word.Goals as goal

pub returns-in_ok-counts-in-Ok-clause-counted : goal.returns-in_ok-counts-in-Ok-clause-counted
returns-in_ok-counts-in-Ok-clause-counted c =
    let a = c.args.counts.now in
    let up : CountsUp (λ k q. q ≡ k) c.entry_sync.result c.in-Ok.entry = search rules in
    let after = c.in_ok-counts-in-Ok.ensures.inserts in
    let finds = counted a c.args.word _ c.entry_sync.result c.in-Ok.entry c.in_ok-counts-in-Ok.field-0 c.entry_sync.ensures.entry up after.entry after.unique in
    let last = c.counts-in_ok-counts-in-Ok-1.given.1 (search rules) in
    subst (λ m. FindsInstead nat_eq (entries a) c.args.word (Some (c.args.word, one_more (find nat_eq (entries a) c.args.word))) (entries m)) (sym last) finds
