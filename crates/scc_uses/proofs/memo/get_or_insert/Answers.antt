use Rattle.std.proofs.Common.{◌≡◌, rules, Some, nat_eq, sym, ap, subst, ◌∙◌}
use Rattle.std.specs.Cmp.{nat_eq_equiv}
use borrow.Author.Tests.{eqb-true}
use Rattle.scc_common.specs.Contents.{entries}
use Rattle.scc_common.specs.Pairs.{FindsInstead}
use Rattle.scc_owned.proofs.CallerLemmas.{finds-or_insert}
use Rattle.scc_owned.specs.Entries.{IsEntryOf, OrInserts}
use Rattle.scc_owned.specs.Held.{occupied_pair}
use Rattle.scc_owned.specs.declared.held.HeldEntry.TheVariants.{Occupied, Vacant}
use Rattle.scc_uses.proofs.memo.get_or_insert.Goals as goal

pub returns-clause-stored : goal.returns-clause-stored
unfolding entries
returns-clause-stored c =
    let o = c.in_ok-entry.entry in
    let h : FindsInstead nat_eq (entries c.args.values.now) c.args.key (Some (occupied_pair o)) (entries o.guard.now) =
    finds-or_insert nat_eq_equiv c.args.values.now c.args.key c.entry_sync.result c.args.default o c.entry_sync.ensures.entry c.in_ok-entry.ensures.inserts.entry c.in_ok-entry.ensures.inserts.unique in
    let key : (occupied_pair o).0 ≡ c.args.key = (elim c.entry_sync.result as (λ e. IsEntryOf nat_eq c.args.values.now c.args.key e → OrInserts e c.args.default o → (occupied_pair o).0 ≡ c.args.key) [
      | Occupied p ↦ λ at is. rw is (sym (eqb-true c.args.key (occupied_pair p).0 at.equal))
      | Vacant d ↦ λ at is. ap (λ x. x.0) is.at.here ∙ at.key
    ]) c.entry_sync.ensures.entry c.in_ok-entry.ensures.inserts.entry in
    let pair : occupied_pair o ≡ (c.args.key, c.get.result.now) = ap (λ k. (k, (occupied_pair o).1)) key ∙ ap (λ v. (c.args.key, v)) (sym c.get.ensures.value) in
    let last = c.values-2-1.given.1 (search rules) in
    let found = subst (λ q. FindsInstead nat_eq (entries c.args.values.now) c.args.key (Some q) (entries o.guard.now)) pair h in
    subst (λ e. FindsInstead nat_eq (entries c.args.values.now) c.args.key (Some (c.args.key, c.get.result.now)) (entries e)) (sym last) found
