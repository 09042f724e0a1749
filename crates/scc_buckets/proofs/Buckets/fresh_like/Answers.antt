use Rattle.std.proofs.Common.{◌≡◌, length, refl, sym, ◌∙◌, arith, rules}
use Rattle.scc_common.specs.Contents.{notes_of, waiting_of}
use Rattle.scc_buckets.proofs.CloningLemmas.{array-of_some}
use Rattle.scc_buckets.proofs.MakingLemmas.{kept-fresh, entries-fresh}
use Rattle.scc_buckets.proofs.Views.{count-view, settings-view}
use Rattle.scc_buckets.proofs.Buckets.fresh_like.Goals as goal

pub returns-then-count-eq0-clause-buckets : goal.returns-then-count-eq0-clause-buckets
returns-then-count-eq0-clause-buckets g c =
    let bs = c.self.inside.buckets in
    let len : c.len-count.result ≡ length bs = search rules in
    rw (c.bare.ensures.buckets, count-view bs _ c.args.self.now c.self.view_is) (sym c.if-count-eq0.true ∙ len)

pub returns-then-count-eq0-clause-settings : goal.returns-then-count-eq0-clause-settings
returns-then-count-eq0-clause-settings g c =
    let bs = c.self.inside.buckets in
    let len : c.len-count.result ≡ length bs = search rules in
    let none : length bs ≡ 0 = sym len ∙ c.if-count-eq0.true in
    rw (c.bare.ensures.settings, count-view bs _ c.args.self.now c.self.view_is, none) refl

pub invariant_of-result : goal.invariant_of-result
invariant_of-result g c =
    let bs = c.self.inside.buckets in
    let len : c.len-count.result ≡ length bs = search rules in
    let array = array-of_some (length bs) c.self.invariant.table.sized (λ n. c.if-count-eq0.false (len ∙ n)) in
    kept-fresh _ _ _ c.args.router.skipped _ (length bs) 0 0 c.in-Ok.buckets c.in-Ok.ensures.empty (c.in-Ok.ensures.count ∙ len) array (omega (arith, array.most, len)) refl refl

pub returns-in-Ok-clause-entries : goal.returns-in-Ok-clause-entries
returns-in-Ok-clause-entries g c = entries-fresh c.in-Ok.buckets _ _ c.in-Ok.ensures.empty

pub returns-in-Ok-clause-buckets : goal.returns-in-Ok-clause-buckets
returns-in-Ok-clause-buckets g c =
    let bs = c.self.inside.buckets in
    let len : c.len-count.result ≡ length bs = search rules in
    rw (count-view c.in-Ok.buckets _ _ refl, count-view bs _ c.args.self.now c.self.view_is) (c.in-Ok.ensures.count ∙ len)

pub returns-in-Ok-clause-settings : goal.returns-in-Ok-clause-settings
returns-in-Ok-clause-settings g c =
    let bs = c.self.inside.buckets in
    let len : c.len-count.result ≡ length bs = search rules in
    rw (settings-view c.in-Ok.buckets _ _ refl, count-view bs _ c.args.self.now c.self.view_is, len) refl

pub returns-in-Ok-clause-noted : goal.returns-in-Ok-clause-noted
unfolding notes_of
returns-in-Ok-clause-noted g c = refl

pub returns-in-Ok-clause-waiting : goal.returns-in-Ok-clause-waiting
unfolding waiting_of
returns-in-Ok-clause-waiting g c = refl
