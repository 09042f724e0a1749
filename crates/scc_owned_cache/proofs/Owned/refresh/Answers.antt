use Rattle.std.proofs.Common.{◌≡◌, ◌∙◌, true, false, refl, sym, ap, arith}
use Rattle.scc_common.specs.Contents.{bucket_count, settings_of, waiting_of}
use Rattle.scc_common.specs.Hashing.{hash_of}
use Rattle.scc_common.specs.Routing.{bucket_number}
use Rattle.scc_buckets.proofs.Bounds.{unlisted-none}
use Rattle.scc_table.specs.TwoArrays.{waits_at}
use Rattle.scc_table.proofs.places.Searches.{not_true}
use Rattle.scc_owned_cache.proofs.Caching.{is-lacking}
use Rattle.scc_owned_cache.proofs.Relocations.{any-some, not_waiting-one}
use Rattle.scc_owned_cache.proofs.Owned.refresh.Goals as goal

pub returns-then-bucket_count-eq0-clause-step : goal.returns-then-bucket_count-eq0-clause-step
returns-then-bucket_count-eq0-clause-step g c =
    let t = c.self.inside.table in
    let none : bucket_count t ≡ 0 = omega (arith, c.bucket_count.ensures.count, c.if-bucket_count-eq0.true) in
    rw (← c.self.view_is) (is-lacking (λ k. hash_of g.H.BuildHasher g.H.Hasher.Hasher (settings_of t).hasher (g.K.Hash.hash_input k)) g.K.PartialEq.eq t c.args.k.now _ refl (unlisted-none _ t _ none), refl)

pub returns-clause-relocates : goal.returns-clause-relocates
returns-clause-relocates g c =
    let t = c.self.inside.table in
    let i = c.bucket_at-bucket.result in
    let at = c.bucket_at-bucket.ensures.value ∙ ap (bucket_number (settings_of t).skipped (bucket_count t)) (rw (← c.self.view_is) at c.requires) in
    let down : waits_at (waiting_of t) i ≡ false = not_true (waits_at (waiting_of t) i) (λ up. let z : true ≡ false = sym (c.is_waiting.ensures.1 up) ∙ c.if-is_waiting.false in cc) in
    let low = ap (waits_at (waiting_of t)) (sym at) ∙ down in
    any-some c.refresh_in_bucket.result (rw (← c.self.view_is) (not_waiting-one _ t c.refresh_in_bucket.new.self.contents (rw (← c.self.view_is) at c.refresh_in_bucket.ensures.waiting) low))
