-- Room that is made for a put of a cache, as a resize of its lists.
use Rattle.std.proofs.Common.{◌≡◌, ◌==◌, ℕ, ◌*◌, ◌<◌, ◌≤◌, inl, inr, Bool, false, List, length, refl, ap, arith}
use Rattle.std.proofs.lemmas.Bool.Decides.{nat_tests}
use Rattle.scc_common.specs.Contents.{bucket_count, lists_of}
use Rattle.scc_owned_cache.specs.CacheSteps.{PreparesPut, list_number}
use Rattle.scc_owned_cache.specs.Caches.{Cached}
use Rattle.scc_calls.specs.CacheCalls.{cache_setting, CacheMayRefuse, CacheResizes}
use Rattle.scc_calls.specs.Resized.{Stays}
use Rattle.scc_calls.specs.declared.calls_as_values.CacheCall.TheVariants.{Put}
use Rattle.scc_calls.proofs.CacheCalls.{grown, resized, stays-same}

stays-more : {X : Type 0} (R : List X → ℕ → List X → Type 0) (s t : List X) → length s < length t → R s (length t) t → Stays length R s t
stays-more R s t more r = let f : (length s == length t) ≡ false = grind (arith, nat_tests, more) in rw f r

module _ {K V H : Type 0} (hash : K → ℕ) (eq : K → K → Bool) (c d : Cached (K × V) H) (k : K) (room : PreparesPut hash c k d) where
  -- room for a put leaves the lists, or makes more of them
  pub room-stays : 32 * bucket_count d.contents ≤ c.maximum → Stays length (CacheResizes (cache_setting c) (list_number hash c.contents)) (lists_of c.contents) (lists_of d.contents)
  unfolding bucket_count lists_of
  room-stays within =
      let R : List (List (K × V)) → ℕ → List (List (K × V)) → Type 0 = CacheResizes (cache_setting c) (list_number hash c.contents) in
      elim (grown (λ e. hash e.0) _ c d room.grows) as (λ _. Stays length (CacheResizes (cache_setting c) (list_number hash c.contents)) (lists_of c.contents) (lists_of d.contents)) [
        | inl e ↦ stays-same R (lists_of c.contents) (lists_of d.contents) e
        | inr r ↦ stays-more R (lists_of c.contents) (lists_of d.contents) r.0 (resized hash c c d refl refl r.1 room.grows.listed.short within (λ less. absurd (omega (arith, r.0))))
      ]

  pub room-more : length (lists_of c.contents) ≤ length (lists_of d.contents)
  unfolding bucket_count lists_of
  room-more = elim (grown (λ e. hash e.0) _ c d room.grows) as (λ _. length (lists_of c.contents) ≤ length (lists_of d.contents)) [
    | inl e ↦ let n = ap length e in omega arith
    | inr r ↦ let l = r.0 in omega arith
  ]

  -- if there is an array, no put is refused: so a put after room was made is refused only if it may be refused before
  pub room-still : (v : V) → CacheMayRefuse eq (list_number hash c.contents) (lists_of d.contents) (Put k v) → CacheMayRefuse eq (list_number hash c.contents) (lists_of c.contents) (Put k v)
  unfolding bucket_count lists_of
  room-still v h = absurd (let some = room.ready.0 in let none = h.1 in omega arith)
