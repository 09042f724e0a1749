-- Facts about a new cache, as a part.
use Rattle.std.proofs.Common.{◌≡◌, ℕ, ◌+◌, ◌*◌, ◌<◌, List, [], ◌∷◌, ◌++◌, length, max, Ok, Err, refl, sym, ap, ◌∙◌, subst, arith, length-append}
use Rattle.std.specs.Prelude.{Result, IfOk, replicate}
use Rattle.std.specs.List.{flat_map}
use Rattle.std.proofs.lemmas.List.{nil_from_length}
use Rattle.scc_common.specs.Contents.{entries, bucket_count, settings_of, lists_of}
use Rattle.scc_common.specs.Sizes.{IsArraySize}
use Rattle.scc_owned_cache.specs.Caches.{Cached}
use Rattle.scc_calls.specs.CacheCalls.{cache_setting}
use Rattle.scc_calls.specs.Made.{IsMadeFor}

pub made-for-cache : {E H X : Type 0} (h : H) (t n x : ℕ) (r : Result (Cached E H) X)
    → IfOk r (λ c. n ≡ 0 → bucket_count c.contents ≡ 0) → IfOk r (λ c. 0 < n → IsArraySize n (32 * bucket_count c.contents))
    → IfOk r (λ c. settings_of c.contents ≡ record { hasher = h; skipped = t; asked = 32 * bucket_count c.contents; reserved = 0 })
    → IfOk r (λ c. IsArraySize (max x (32 * bucket_count c.contents)) c.maximum)
    → IfOk r (λ c. IsMadeFor (λ asked slots m. IsArraySize (max asked slots) m) (record { hasher = h; skipped = t; slots = n; maximum = x }) (cache_setting c))
made-for-cache h t n x (Ok m) empty size s most =
    let a = ap (λ u. u.asked) s in
    let z = ap (λ u. u.reserved) s in
    let e : (settings_of m.contents).asked + (settings_of m.contents).reserved ≡ 32 * bucket_count m.contents = omega (arith, a, z) in
    record {
      hasher = ap (λ u. u.hasher) s;
      skipped = ap (λ u. u.skipped) s;
      none = λ none. let b = empty none in omega (arith, b, e);
      size = λ some. subst (λ k. IsArraySize n k) (sym e) (size some);
      maximum = subst (λ k. IsArraySize (max x k) m.maximum) (sym e) most;
    }
made-for-cache h t n x (Err y) empty size s most = tt

pub made-size : {E H X : Type 0} (h : H) (t : ℕ) (r : Result (Cached E H) X) → IfOk r (λ c. settings_of c.contents ≡ record { hasher = h; skipped = t; asked = 32 * bucket_count c.contents; reserved = 0 })
    → IfOk r (λ c. (cache_setting c).minimum ≡ 32 * length (lists_of c.contents))
unfolding bucket_count lists_of
made-size h t (Ok m) s = let a = ap (λ u. u.asked) s in let z = ap (λ u. u.reserved) s in omega (arith, a, z)
made-size h t (Err y) s = tt

-- if the joined lists have no element, each list is empty
none-left : {X : Type 0} (ls : List (List X)) → flat_map (λ l. l) ls ≡ [] → ls ≡ replicate (length ls) []
none-left [] none = refl
none-left {X} (l ∷ ls) none =
    let both = length-append l (flat_map (λ x. x) ls) in
    let nothing : length (l ++ flat_map (λ x. x) ls) ≡ 0 = ap length none in
    let here : l ≡ [] = nil_from_length l (omega arith) in
    let rest : flat_map (λ x. x) ls ≡ [] = nil_from_length (flat_map (λ x. x) ls) (omega arith) in
    ap (λ y. y ∷ ls) here ∙ ap (λ y. let r : List (List X) = [] ∷ y in r) (none-left ls rest)

pub made-empty : {E H X : Type 0} (r : Result (Cached E H) X) → IfOk r (λ c. entries c.contents ≡ []) → IfOk r (λ c. lists_of c.contents ≡ replicate (length (lists_of c.contents)) [])
unfolding entries lists_of
made-empty (Ok m) none = none-left m.contents.lists none
made-empty (Err y) none = tt
