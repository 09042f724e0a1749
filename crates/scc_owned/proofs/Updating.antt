-- The map after a call that runs a closure at the pair of a key.
use Rattle.std.proofs.Common.{◌≡◌, Bool, true, Option, Some, None, refl, sym, ap, subst, ◌∙◌}
use Rattle.std.specs.Borrow.{Bor, MutBor}
use Rattle.std.specs.Cmp.{IsEquivalence}
use Rattle.std.specs.Fn.{Once}
use Rattle.std.specs.Map.{set_value}
use Rattle.std.specs.Prelude.{IfSome, IfNone}
use Rattle.scc_table.specs.Updates.{UpdatesFirst}
use Rattle.scc_table.proofs.places.Entries.{noted-write, place-found, value-written, value-unique}
use Rattle.scc_table.proofs.relocations.AfterWrites.{waiting-write}
use Rattle.scc_owned.specs.MapSteps.{UpdatesAt}
use Rattle.scc_owned.proofs.CallerLemmas.{finds-set_value}
use Rattle.scc_common.specs.Contents.{Contents, bucket_count, entries, notes_of, settings_of, waiting_of}
use Rattle.scc_common.specs.Pairs.{find, FindsInstead, IsUnique, with_pair_value}
use Rattle.scc_common.specs.Steps.{HoldsExactly}
use Rattle.scc_buckets.proofs.Lookups.{find-position_none}
use Rattle.scc_common.specs.Closures.{WritesAt}

module _ {F K V R S : Type 0} (g : Once F (Bor K × (MutBor V × Unit {0})) (R × (MutBor V × Unit {0}))) (f : F) {eq : K → K → Bool} (laws : IsEquivalence eq) (c d : Contents (K × V) S) (k : K) (unique : IsUnique eq c) where
  abbrev Step : Option R → Type 0
  Step r = UpdatesFirst g f (λ (e : K × V). e.0) (λ (e : K × V). e.1) with_pair_value (λ (e : K × V). eq k e.0) c d r

  pub updated-step : (r : Option R) → Step r → UpdatesAt g f eq c k d (find eq (entries c) k) r
  updated-step None (missed, stays) = rw (find-position_none (eq k) (entries c) missed) (refl, record { exact = ap entries stays; buckets = ap bucket_count stays; settings = ap settings_of stays })
  updated-step (Some r) (q, e, w, found, got, called, written) =
      let at = place-found eq c k q found in
      let here : find eq (entries c) k ≡ Some e = at.2 ∙ sym at.1 ∙ got in
      rw here (
        r,
        w,
        refl,
        called,
        subst (λ (z : Contents (K × V) S). HoldsExactly c (set_value (eq k) (entries c) w) z) (sym written) (value-written laws c q found.within k unique at w),
      )

  pub updated-finds : (r : Option R) → Step r → IfSome r (λ x. (p : K × V) × (w : V) × (find eq (entries c) k ≡ Some p) × (eq k p.0 ≡ true) × WritesAt g f p x w × FindsInstead eq (entries c) k (Some (p.0, w)) (entries d))
  updated-finds None h = tt
  updated-finds (Some r) (q, e, w, found, got, called, written) =
      let at = place-found eq c k q found in
      let here : find eq (entries c) k ≡ Some e = at.2 ∙ sym at.1 ∙ got in
      let pair : at.0 ≡ e = let s : Some at.0 ≡ Some e = sym at.1 ∙ got in cc in (
        e,
        w,
        here,
        ap (λ (x : K × V). eq k x.0) (sym pair) ∙ at.3,
        called,
        finds-set_value laws c d k e w here (subst (λ (z : Contents (K × V) S). HoldsExactly c (set_value (eq k) (entries c) w) z) (sym written) (value-written laws c q found.within k unique at w)),
      )

  pub updated-missing : (r : Option R) → Step r → IfNone r (find eq (entries c) k ≡ None)
  updated-missing None (missed, stays) = find-position_none (eq k) (entries c) missed
  updated-missing (Some r) h = tt

  pub updated-noted : (r : Option R) → Step r → notes_of d ≡ notes_of c
  updated-noted None (missed, stays) = ap notes_of stays
  updated-noted (Some r) (q, e, w, found, got, called, written) = ap notes_of written ∙ noted-write with_pair_value c q w

  pub updated-waiting : (r : Option R) → Step r → waiting_of d ≡ waiting_of c
  updated-waiting None (missed, stays) = ap waiting_of stays
  updated-waiting (Some r) (q, e, w, found, got, called, written) = ap waiting_of written ∙ waiting-write with_pair_value c q w

  pub updated-unique : (r : Option R) → Step r → IsUnique eq d
  updated-unique None (missed, stays) = subst (λ (z : Contents (K × V) S). IsUnique eq z) (sym stays) unique
  updated-unique (Some r) (q, e, w, found, got, called, written) = subst (λ (z : Contents (K × V) S). IsUnique eq z) (sym written) (value-unique laws c q found.within k unique (place-found eq c k q found) w)
