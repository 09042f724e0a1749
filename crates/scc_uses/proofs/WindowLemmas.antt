-- From the look-ups of a map to windows.
use Rattle.std.proofs.Common.{◌≡◌, ◌-◌, ℕ, Bool, true, false, cond, not, List, ◌++◌, Option, None, Some, Result, Ok, Err, refl, sym, subst, ◌∙◌, nat_eq, Bor, MutBor, All, get_or}
use Rattle.std.specs.Cmp.{nat_eq_equiv}
use Rattle.std.specs.Fn.{Once}
use Rattle.std.specs.Prelude.{nat_le}
use Rattle.std.specs.List.{filter}
use Rattle.std.specs.List.Sorted.{IsPermutation}
use Rattle.std.specs.Result.{OnOk}
use Rattle.std.proofs.lemmas.List.Elements.{All-from_recursion, filter_passes}
use Rattle.std.proofs.lemmas.List.Sorted.{IsPermutation-trans, IsPermutation-append_left, All-permutation}
use Rattle.scc_common.specs.Contents.{Contents, entries}
use Rattle.scc_common.specs.Pairs.{find, FindsInstead, IsUnique}
use Rattle.scc_common.specs.Steps.{Holds}
use Rattle.scc_common.specs.declared.errors.InsertError.{InsertError}
use Rattle.scc_common.specs.declared.errors.InsertError.TheVariants.{Exists, Memory}
use Rattle.scc_owned.specs.MapSteps.{UpdatesAt, Inserts}
use Rattle.scc_common.specs.Closures.{WritesAt}
use Rattle.scc_owned.proofs.CallerLemmas.{finds-set_value, finds-rearranged, finds-unchanged}
use Rattle.scc_uses.specs.declared.requests.Window.{Window}
use Rattle.scc_uses.specs.Windows.{after_hit, IsExpired, IsLive, live_at}
use Rattle.scc_owned.proofs.Filtering.{Sorts, passing, finds-filtered}
use Rattle.std.proofs.lemmas.Bool.{leb-true, leb-false}
use Rattle.scc_buckets.proofs.Lookups.{along, place-of_find}
use borrow.Author.Tests.{eqb-true}

module _ {S : Type 0} (c d : Contents (ℕ × Window) S) where
  -- after a hit in a window that is there, a look-up of the user finds the window after the hit
  pub hit_again : {F : Type 0} (g : Once F (Bor ℕ × (MutBor Window × Unit {0})) (ℕ × (MutBor Window × Unit {0}))) (f : F) (width user now hits : ℕ)
      → ((p : ℕ × Window) (u : ℕ) (w : Window) → WritesAt g f p u w → w ≡ after_hit width now (Some p))
      → (o : Option (ℕ × Window)) → find nat_eq (entries c) user ≡ o → UpdatesAt g f nat_eq c user d o (Some hits)
      → FindsInstead nat_eq (entries c) user (Some (user, after_hit width now o)) (entries d)
  hit_again g f width user now hits says None e u = absurd (let z : Some hits ≡ None = u.0 in cc)
  hit_again g f width user now hits says (Some p) e u =
      let key : user ≡ p.0 = eqb-true user p.0 (place-of_find (nat_eq user) (entries c) p e).2 in
      let value : u.1 ≡ after_hit width now (Some p) = says p u.0 u.1 u.3 in
      subst (λ x. FindsInstead nat_eq (entries c) user (Some x) (entries d)) (λ i. (sym key i, value i)) (finds-set_value nat_eq_equiv c d user p u.1 e u.4)

  -- if no window was there, nothing is written, and look-ups find what they found before
  pub untouched : {F : Type 0} (g : Once F (Bor ℕ × (MutBor Window × Unit {0})) (ℕ × (MutBor Window × Unit {0}))) (f : F) (user : ℕ) (o : Option (ℕ × Window)) (r : Option ℕ) → r ≡ None → UpdatesAt g f nat_eq c user d o r → (q : ℕ) → find nat_eq (entries d) q ≡ find nat_eq (entries c) q
  untouched g f user None r e u = finds-unchanged nat_eq_equiv c d u.1
  untouched g f user (Some p) r e u = absurd (let z : None ≡ Some u.0 = sym e ∙ u.2 in cc)

  -- after a refused insertion, look-ups find what they found before
  pub hit_refused : (p : ℕ × Window) (hash : ℕ → ℕ) (x : InsertError ℕ Window) → IsUnique nat_eq d → Inserts nat_eq hash c p (Err x) d → (q : ℕ) → find nat_eq (entries d) q ≡ find nat_eq (entries c) q
  hit_refused p hash (Exists q) v s = finds-unchanged nat_eq_equiv c d s.2
  hit_refused p hash (Memory q) v s = finds-rearranged nat_eq_equiv c d s.2 v

-- the test whether a window is expired
abbrev pub expires : ℕ → ℕ → ℕ × Window → Bool
expires width now p = nat_le width (now - p.1.since)

is_live : (width now : ℕ) (p : ℕ × Window) → not (expires width now p) ≡ true → IsLive width now p
is_live width now p h = by (expires width now p) refl h
  where
    by : (b : Bool) → expires width now p ≡ b → not b ≡ true → IsLive width now p
    by true e h = absurd (let z : false ≡ true = h in cc)
    by false e h = leb-false width (now - p.1.since) e

flipped : (b : Bool) (p : ℕ × Window) → cond (not b) (Some p) None ≡ cond b None (Some p)
flipped true p = refl
flipped false p = refl

lives : (width now : ℕ) (o : Option (ℕ × Window)) → passing (λ p. not (expires width now p)) o ≡ live_at width now o
lives width now None = refl
lives width now (Some p) = flipped (expires width now p) p

module _ {S E : Type 0} (c d : Contents (ℕ × Window) S) (es stay more : List (ℕ × Window)) (r : Result Bool E) (width now : ℕ) (same : IsPermutation (entries c) es) (sorts : Sorts (expires width now) es stay more r) (holds : Holds c stay d) where
  -- the expired windows are taken, and all others stay
  pub swept : All (IsExpired width now) more × IsPermutation (entries c) (entries d ++ more)
  swept = (
    All-from_recursion (IsExpired width now) more (along (λ p h. leb-true width (now - p.1.since) h) more sorts.taken),
    IsPermutation-trans (entries c) es (entries d ++ more) same (IsPermutation-trans es (stay ++ more) (entries d ++ more) sorts.all (IsPermutation-append_left more stay (entries d) holds.same)),
  )

  module _ (b : Bool) (is : r ≡ Ok b) where
    all : stay ≡ filter (λ p. not (expires width now p)) es
    all = subst (λ z. OnOk z (stay ≡ filter (λ p. not (expires width now p)) es)) is sorts.left

    -- if the walk went through, just the live windows stay
    pub all_live : All (IsLive width now) (entries d)
    all_live = All-permutation (IsLive width now) stay (entries d) holds.same (subst (All (IsLive width now)) (sym all) (λ k x h. is_live width now (get_or (filter (λ p. not (expires width now p)) es) k x) (filter_passes (λ p. not (expires width now p)) es k x h)))

    pub all_found : IsUnique nat_eq c → IsUnique nat_eq d → (q : ℕ) → find nat_eq (entries d) q ≡ live_at width now (find nat_eq (entries c) q)
    all_found u v q = finds-filtered nat_eq_equiv (λ p. not (expires width now p)) c d es stay same all holds u v q ∙ lives width now (find nat_eq (entries c) q)
