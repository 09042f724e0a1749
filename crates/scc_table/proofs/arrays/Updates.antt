-- A write to an entry of the current array of two arrays, where no bucket waits.
use Rattle.std.proofs.Common.{◌≡◌, ℕ, Bool, true, Option, Some, None, sym, ap, subst, ◌∙◌}
use Rattle.std.specs.Cmp.{IsEquivalence}
use Rattle.std.specs.List.{position}
use Rattle.std.specs.Prelude.{[]}
use Rattle.scc_common.specs.Contents.{Contents, Settings, settings_of}
use Rattle.scc_buckets.specs.Updates as one
use Rattle.scc_buckets.specs.Writes as writes
use Rattle.scc_draining.specs.Drainings.{Draining}
use Rattle.scc_table.specs.TwoArrays.{together, IsTable}
use Rattle.scc_table.specs.Updates.{WritesFirst}
use Rattle.scc_table.proofs.arrays.CurrentChanges.{settings-write}
use Rattle.scc_table.proofs.places.Searches.{entries-not_waiting, found-not_waiting}
use Rattle.scc_table.proofs.arrays.Writes.{own-got, own-kept, own-written}

module _ {E K V R S : Type 0} (gives : E → R → V → Type 0) (key : E → K) (put : E → V → E) (p : E → Bool) {eq : K → K → Bool} (laws : IsEquivalence eq) (hash_for : Settings S → K → ℕ) (c d : Contents E S)
    (drain : Draining E) (inv : IsTable eq key (hash_for (settings_of c)) c drain) (none : drain.waiting ≡ []) where
  abbrev hk : K → ℕ
  hk = hash_for (settings_of c)

  abbrev both : Contents E S → Contents E S
  both z = together (λ e. hash_for (settings_of z) (key e)) z drain.waiting drain.array

  -- a write to the current array is a write to both arrays
  pub not_waiting-first : (r : Option R) → one.WritesFirstSpot gives put p c d r → WritesFirst gives put p (both c) (both d) r
  not_waiting-first None (missed, stays) = (ap (position p) (entries-not_waiting (λ e. hk (key e)) c drain.array drain.waiting none) ∙ missed, ap both stays)
  not_waiting-first (Some r) (q, e, w, found, got, called, written) =
      let at = found-not_waiting (λ x. hk (key x)) c drain.array drain.waiting none p q found in
      let near = found.within.bucket in (
        q,
        e,
        w,
        at,
        own-got laws inv q at.within near e got,
        called,
        ap both written ∙ ap (λ s. together (λ x. hash_for s (key x)) (writes.with_write_at_spot put c q w) drain.waiting drain.array) (settings-write put c q w) ∙ own-written laws inv q at.within near put w,
      )

  -- the invariant `IsTable` holds after the write, if a written value keeps the key
  pub not_waiting-kept : ((e : E) (w : V) → eq (key (put e w)) (key e) ≡ true) → (r : Option R) → one.WritesFirstSpot gives put p c d r → IsTable eq key (hash_for (settings_of d)) d drain
  not_waiting-kept keeps None (missed, stays) = subst (λ (z : Contents E S). IsTable eq key (hash_for (settings_of z)) z drain) (sym stays) inv
  not_waiting-kept keeps (Some r) (q, e, w, found, got, called, written) =
      let at = found-not_waiting (λ x. hk (key x)) c drain.array drain.waiting none p q found in
      subst (λ (z : Contents E S). IsTable eq key (hash_for (settings_of z)) z drain) (sym written)
      (subst (λ (s : Settings S). IsTable eq key (hash_for s) (writes.with_write_at_spot put c q w) drain) (sym (settings-write put c q w))
      (own-kept laws inv q at.within found.within.bucket put w e got (keeps e w)))
