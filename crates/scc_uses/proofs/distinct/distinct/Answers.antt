use Rattle.std.proofs.Common.{rules, ◌≡◌, ◌≤◌, true, nat_eq, ◌+◌, length, take, [], ◌∷◌, ◌++◌, slice_index_or, sym, ap, subst, ◌∙◌, arith, add-one}
use Rattle.std.specs.Cmp.{nat_eq_equiv}
use Rattle.std.specs.List.{IsDistinct}
use Rattle.std.specs.Set.{is_member}
use Rattle.std.proofs.Math.Seq.{take-suc}
use Rattle.std.proofs.lemmas.List.{take_all}
use Rattle.std.proofs.lemmas.Map.Keys.{IsDistinct-push}
use Rattle.scc_common.specs.Contents.{entries}
use Rattle.scc_uses.proofs.KeyLemmas.{none-distinct, one-more, listed-more, no-more, not-there, same-members, is-there}
use Rattle.scc_uses.proofs.distinct.distinct.Goals as goal
use Rattle.scc_uses.proofs.distinct.distinct.Goals.{in-Ok+else-is_err, in-Err-Exists}

pub loop-word-init : goal.loop-word-init
loop-word-init c = record {
  seen = λ q. ap (λ l. is_member nat_eq l q) c.new-seen.ensures.entries;
  listed = λ q. ap (λ l. is_member nat_eq l q) c.new-list.ensures.items;
  once = subst (IsDistinct nat_eq) (sym c.new-list.ensures.items) (none-distinct nat_eq);
}

pub loop-word-preserved : goal.loop-word-preserved
loop-word-preserved c =
    let inv = c.loop-word.invariant in
    let word = slice_index_or c.args.words.now c.loop-word.word-index 0 in
    let done = take c.loop-word.word-index c.args.words.now in
    let next : take (c.loop-word.word-index + 1) c.args.words.now ≡ done ++ word ∷ [] = rw add-one (take-suc c.args.words.now c.loop-word.word-index 0 c.loop-word-test.true) in
    elim c.match-insert_sync.branch [
      | in-Ok+else-is_err w ↦ (let h = rw w.in-Ok.is at c.insert_sync.ensures.step in
          let finds = rw w.in-Ok.is at c.insert_sync.ensures.finds in
          let more : w.push.new.self.items ≡ c.loop-word.list.items ++ word ∷ [] = search rules in
          let items : c.match-insert_sync.list.items ≡ c.loop-word.list.items ++ word ∷ [] = ap (λ l. l.items) w.list-is ∙ more in
          record {
            seen = λ q. one-more nat_eq (entries c.loop-word.seen) (entries c.insert_sync.new.self) done word inv.seen finds q ∙ ap (λ l. is_member nat_eq l q) (sym next);
            listed = λ q. ap (λ l. is_member nat_eq l q) items ∙ listed-more nat_eq c.loop-word.list.items done word inv.listed q ∙ ap (λ l. is_member nat_eq l q) (sym next);
            once = subst (IsDistinct nat_eq) (sym items) (IsDistinct-push nat_eq_equiv c.loop-word.list.items word inv.once (inv.listed word ∙ sym (inv.seen word) ∙ not-there nat_eq (entries c.loop-word.seen) word h.0));
          })
      | in-Err-Exists w ↦ (let h = rw w.in-Err-Exists.field-0-is at w.in-Err-Exists.ensures.step in
          let here : is_member nat_eq done word ≡ true = sym (inv.seen word) ∙ sym (is-there nat_eq (entries c.loop-word.seen) word) ∙ h.1 in
          let same = same-members nat_eq (entries c.loop-word.seen) (entries c.insert_sync.new.self) w.in-Err-Exists.ensures.same in
          let items = ap (λ l. l.items) w.list-is in
          record {
            seen = λ q. same q ∙ no-more nat_eq_equiv (entries c.loop-word.seen) done word inv.seen here q ∙ ap (λ l. is_member nat_eq l q) (sym next);
            listed = λ q. ap (λ l. is_member nat_eq l q) items ∙ no-more nat_eq_equiv c.loop-word.list.items done word inv.listed here q ∙ ap (λ l. is_member nat_eq l q) (sym next);
            once = subst (IsDistinct nat_eq) (sym items) inv.once;
          })
    ]

pub returns-clause-words : goal.returns-clause-words
returns-clause-words c =
    let through : length c.args.words.now ≤ c.loop-word.word-index = omega (arith, c.loop-word-test.false) in
    λ q. c.loop-word.invariant.listed q ∙ ap (λ l. is_member nat_eq l q) (take_all c.loop-word.word-index c.args.words.now through)

pub returns-clause-once : goal.returns-clause-once
returns-clause-once c = c.loop-word.invariant.once
