-- From the look-ups of a map to routes.
use Rattle.std.proofs.Common.{◌≡◌, ◌≤◌, ◌<◌, ℕ, Bool, true, false, cond, not, Option, None, Some, refl, sym, ap, subst, ◌∙◌, nat_eq, arith}
use Rattle.std.specs.Cmp.{nat_eq_equiv}
use Rattle.std.specs.Option.{option_map}
use Rattle.std.specs.declared.cmp.PartialEq as equality
use Rattle.std.specs.declared.hash.Hash as hash
use Rattle.std.specs.declared.hash.Hasher as hasher
use Rattle.std.specs.declared.hash.BuildHasher as builder
use Rattle.scc_owned.specs.MapEntries.{RestsRefused, IsWritten}
use Rattle.scc_owned.specs.Held.{occupied_pair}
use Rattle.scc_owned.specs.Entries.{IsOccupiedAt, IsVacantAt, IsInserted}
use Rattle.scc_owned.specs.declared.held.HeldOccupied.{HeldOccupied}
use Rattle.scc_owned.specs.declared.held.HeldVacant.{HeldVacant}
use Rattle.scc_common.specs.declared.guard.Guard as guard
use Rattle.scc_owned.proofs.CallerLemmas.{finds-rearranged, finds-written, finds-put}
use Rattle.scc_common.specs.Contents.{Contents, entries}
use Rattle.scc_common.specs.Pairs.{find, FindsInstead, IsUnique}
use Rattle.scc_uses.specs.declared.routing.Route.{Route}
use Rattle.scc_uses.specs.Routing.{route_to, Sets, IsAsBefore, Offers, not_by}
use Rattle.scc_owned.proofs.Filtering.{passing}
use Rattle.scc_owned.specs.Lends.{pair_keys}

pub no_route : {S : Type 0} (c : Contents (ℕ × Route) S) (k : ℕ) → find nat_eq (entries c) k ≡ None → route_to c k ≡ None
unfolding route_to
no_route c k e = ap (option_map (λ p. p.1)) e

pub a_route : {S : Type 0} (c : Contents (ℕ × Route) S) (k : ℕ) (p : ℕ × Route) → find nat_eq (entries c) k ≡ Some p → route_to c k ≡ Some p.1
unfolding route_to
a_route c k p e = ap (option_map (λ p. p.1)) e

pick : (b : Bool) (o r : Option (ℕ × Route)) → option_map (λ p. p.1) (cond b o r) ≡ cond b (option_map (λ p. p.1) o) (option_map (λ p. p.1) r)
pick true o r = refl
pick false o r = refl

module _ {S : Type 0} (c d : Contents (ℕ × Route) S) where
  pub sets : (k : ℕ) (p : ℕ × Route) → FindsInstead nat_eq (entries c) k (Some p) (entries d) → Sets c k p.1 d
  unfolding route_to
  sets k p f = record { routes = λ q. ap (option_map (λ p. p.1)) (f.finds q) ∙ pick (nat_eq q k) (Some p) (find nat_eq (entries c) q) }

  pub as_before : ((q : ℕ) → find nat_eq (entries d) q ≡ find nat_eq (entries c) q) → IsAsBefore c d
  unfolding route_to
  as_before f = record { routes = λ q. ap (option_map (λ p. p.1)) (f q) }

  pub first : (k : ℕ) (r : Route) → find nat_eq (entries c) k ≡ None → FindsInstead nat_eq (entries c) k (Some (k, r)) (entries d) → Offers (route_to c k) c k r d true
  first k r e f = subst (λ o. Offers o c k r d true) (sym (no_route c k e)) (refl, sets k (k, r) f)

  pub better : (k q : ℕ) (r old : Route) → find nat_eq (entries c) k ≡ Some (q, old) → r.metric < old.metric → FindsInstead nat_eq (entries c) k (Some (q, r)) (entries d) → Offers (route_to c k) c k r d true
  better k q r old e less f = subst (λ o. Offers o c k r d true) (sym (a_route c k (q, old) e)) ((λ h. (refl, sets k (q, r) f)), (λ h. absurd (omega arith)))

  pub worse : (k q : ℕ) (r old : Route) → find nat_eq (entries c) k ≡ Some (q, old) → old.metric ≤ r.metric → IsAsBefore c d → Offers (route_to c k) c k r d false
  worse k q r old e more f = subst (λ o. Offers o c k r d false) (sym (a_route c k (q, old) e)) ((λ h. absurd (omega arith)), (λ h. (refl, f)))

other : (b : Bool) (p : ℕ × Route) → option_map (λ p. p.1) (cond (not b) (Some p) None) ≡ cond b None (Some p.1)
other true p = refl
other false p = refl

module _ {S : Type 0} (c d : Contents (ℕ × Route) S) where
  pub withdrawn : (hop k : ℕ) → find nat_eq (entries d) k ≡ passing (λ p. not (nat_eq p.1.next_hop hop)) (find nat_eq (entries c) k) → route_to d k ≡ not_by hop (route_to c k)
  unfolding route_to
  withdrawn hop k e = ap (option_map (λ p. p.1)) e ∙ by (find nat_eq (entries c) k)
    where
      by : (o : Option (ℕ × Route)) → option_map (λ p. p.1) (passing (λ p. not (nat_eq p.1.next_hop hop)) o) ≡ not_by hop (option_map (λ p. p.1) o)
      by None = refl
      by (Some p) = other (nat_eq p.1.next_hop hop) p

module _ {G N S T : Type 0} {keep : guard.Ghosts G (Contents (ℕ × Route) S)} {g : equality.Ghosts ℕ} {h : hash.Ghosts ℕ} {b : builder.Ghosts S T} {w : hasher.Ghosts T} (c : Contents (ℕ × Route) S) (k : ℕ) (r : Route) where
  -- a better route is written over the route that is there
  pub offer_better : (o d : HeldOccupied G N (ℕ × Route) S ℕ T keep pair_keys g b w h) → IsOccupiedAt nat_eq c k o → IsWritten o r d → r.metric < (occupied_pair o).1.metric → Offers (route_to c k) c k r (keep.inner d.guard) true
  offer_better o d at written less = better c (keep.inner d.guard) k (occupied_pair o).0 r (occupied_pair o).1 at.found less (finds-written nat_eq_equiv c k o d r at written)

  pub offer_worse : (o : HeldOccupied G N (ℕ × Route) S ℕ T keep pair_keys g b w h) → IsOccupiedAt nat_eq c k o → (occupied_pair o).1.metric ≤ r.metric → Offers (route_to c k) c k r (keep.inner o.guard) false
  offer_worse o at more = worse c (keep.inner o.guard) k (occupied_pair o).0 r (occupied_pair o).1 at.found more (as_before c (keep.inner o.guard) (λ q. ap (λ d. find nat_eq (entries d) q) at.contents))

  pub offer_first : (e : HeldVacant G N (ℕ × Route) S ℕ T keep pair_keys g b w h) (o : HeldOccupied G N (ℕ × Route) S ℕ T keep pair_keys g b w h) → IsVacantAt nat_eq c k e → IsInserted e r o → IsUnique nat_eq (keep.inner o.guard) → Offers (route_to c k) c k r (keep.inner o.guard) true
  offer_first e o at put u = first c (keep.inner o.guard) k r at.found (finds-put nat_eq_equiv c k e o r at put u)

  -- a refused insertion changes no route
  pub offer_refused : (e : HeldVacant G N (ℕ × Route) S ℕ T keep pair_keys g b w h) → IsVacantAt nat_eq c k e → (hash : ℕ → ℕ) (d : Contents (ℕ × Route) S) → RestsRefused nat_eq hash (keep.inner e.guard) k d → IsAsBefore c d
  offer_refused e at hash d r = as_before c d (λ q. finds-rearranged nat_eq_equiv (keep.inner e.guard) d r.rests r.unique q ∙ ap (λ m. find nat_eq (entries m) q) at.contents)
