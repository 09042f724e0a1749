-- The meaning of a routing table: the route to each destination.
use Rattle.std.specs.Prelude.{◌≡◌, ◌≤◌, ◌<◌, ℕ, Bool, true, false, cond, Option, None, Some, nat_eq}
use Rattle.std.specs.Option.{option_map}
use Rattle.scc_common.specs.Contents.{Contents, entries}
use Rattle.scc_common.specs.Pairs.{find}
use Rattle.scc_uses.specs.declared.routing.Route.{Route}

-- the route, unless it is by this next hop
abbrev pub not_by : ℕ → Option Route → Option Route
not_by hop None = None
not_by hop (Some r) = cond (nat_eq r.next_hop hop) None (Some r)

module _ {S : Type 0} where
  -- the route to a destination
  unfoldable pub route_to : Contents (ℕ × Route) S → ℕ → Option Route
  route_to c d = option_map (λ p. p.1) (find nat_eq (entries c) d)

  -- r is the route to d, and each other route is as before
  pub record Sets (c : Contents (ℕ × Route) S) (d : ℕ) (r : Route) (c' : Contents (ℕ × Route) S) : Type 0 where
    pub routes : (q : ℕ) → route_to c' q ≡ cond (nat_eq q d) (Some r) (route_to c q)

  -- each route is as before
  pub record IsAsBefore (c c' : Contents (ℕ × Route) S) : Type 0 where
    pub routes : (q : ℕ) → route_to c' q ≡ route_to c q

  -- a route is taken if it is the first to its destination or better than the stored route
  abbrev pub Offers : Option Route → Contents (ℕ × Route) S → ℕ → Route → Contents (ℕ × Route) S → Bool → Type 0
  Offers None c d r c' b = (b ≡ true) × Sets c d r c'
  Offers (Some old) c d r c' b = (r.metric < old.metric → (b ≡ true) × Sets c d r c') × (old.metric ≤ r.metric → (b ≡ false) × IsAsBefore c c')
