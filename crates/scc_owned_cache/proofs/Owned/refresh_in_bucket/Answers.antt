use Rattle.std.proofs.Common.{◌≡◌, ◌∙◌, ◌++◌, ◌+◌, ◌-◌, [], ◌∷◌, ℕ, false, length, refl, sym, ap, subst, arith}
use Rattle.std.specs.List.{remove}
use Rattle.scc_common.specs.Contents.{bucket_count, owed_of, list_of, settings_of, waiting_of}
use Rattle.scc_common.specs.Hashing.{hash_of}
use Rattle.scc_common.specs.Routing.{bucket_number}
use Rattle.scc_buckets.specs.declared.place.Place.{Place}
use Rattle.scc_table.specs.Places.{spot_of}
use Rattle.scc_table.specs.TwoArrays.{waits_at}
use Rattle.scc_table.proofs.places.OldSpots.{spot-own}
use Rattle.scc_table.proofs.places.Searches.{not_true}
use Rattle.scc_owned_cache.proofs.Caching.{at-spot, is-missing, is-there, last-length, last-place, list-count, position-passes, sets-list, state-after}
use Rattle.scc_owned_cache.proofs.Owned.refresh_in_bucket.Goals as goal

pub returns-in_err-slot-clause-step : goal.returns-in_err-slot-clause-step
returns-in_err-slot-clause-step g c =
    let t = c.self.inside.table in
    let number : ℕ → g.row.K.Denot → ℕ = (λ n k. bucket_number (settings_of t).skipped n (hash_of g.H.BuildHasher g.H.Hasher.Hasher (settings_of t).hasher (g.K.Hash.hash_input k))) in
    let routed = rw (← c.self.view_is) at c.requires.routed in
    let hashed = rw (← c.self.view_is) at c.requires.hashed in
    let at = routed ∙ ap (bucket_number (settings_of t).skipped (bucket_count t)) hashed in
    let none = sym c.in_err-slot.ensures.place in
    let all = c.in_err-slot.ensures.missed refl in
    rw c.from_residual.ensures (rw (← c.self.view_is) (record { absent = is-missing g.K.PartialEq.eq number t c.args.k.now c.args.bucket at none; all = all }, refl))

pub touch-requires-clause-hashed : goal.touch-requires-clause-hashed
touch-requires-clause-hashed g c =
    let t = c.self.inside.table in
    let hashed = rw (← c.self.view_is) at c.requires.hashed in
    let found = sym c.in_ok-slot.ensures.place in
    λ e got.
    let same = position-passes (λ p. g.K.PartialEq.eq c.args.k.now p.0) _ c.in_ok-slot.slot e found got in
    hashed ∙ ap (hash_of g.H.BuildHasher g.H.Hasher.Hasher (settings_of t).hasher) (g.met.K.Hash.respects_eq c.args.k.now e.0 same)

pub list_len-slot-requires : goal.list_len-slot-requires
list_len-slot-requires g c =
    let list = c.touch.ensures.list in
    let within = rw (← c.self.view_is) at c.requires.within in
    rw (list-count c.self.inside.table c.touch.new.self _ _ list.2) within

pub overflow_sub-slot : goal.overflow_sub-slot
overflow_sub-slot g c =
    let list = c.touch.ensures.list in
    let within = rw (← c.self.view_is) at c.requires.within in
    omega (arith, c.list_len-slot.ensures.len, last-length c.self.inside.table c.touch.new.self _ _ list.0 list.2 within)

pub invariant_of-self : goal.invariant_of-self
invariant_of-self g c =
    let h = c.self.invariant in
    let list = c.touch.ensures.list in
    let same = list-count c.self.inside.table c.touch.new.self _ _ list.2 in
    state-after g.K.PartialEq.eq _ _ c.self.inside.table c.touch.new.self c.self.inside.maximum h (c.touch.ensures.listed h.lists) c.touch.ensures.unique list.2.settings (omega (arith, h.within))

pub returns-clause-state : goal.returns-clause-state
returns-clause-state g c =
    let h = c.self.invariant in
    let list = c.touch.ensures.list in
    let same = list-count c.self.inside.table c.touch.new.self _ _ list.2 in
    state-after g.K.PartialEq.eq _ _ c.self.inside.table c.touch.new.self c.self.inside.maximum h (c.touch.ensures.listed h.lists) c.touch.ensures.unique list.2.settings (omega (arith, h.within))

pub returns-clause-step : goal.returns-clause-step
returns-clause-step g c =
    let t = c.self.inside.table in
    let d = c.touch.new.self in
    let i = c.args.bucket in
    let slot = c.in_ok-slot.slot in
    let number : ℕ → g.row.K.Denot → ℕ = (λ n k. bucket_number (settings_of t).skipped n (hash_of g.H.BuildHasher g.H.Hasher.Hasher (settings_of t).hasher (g.K.Hash.hash_input k))) in
    let routed = rw (← c.self.view_is) at c.requires.routed in
    let hashed = rw (← c.self.view_is) at c.requires.hashed in
    let at = routed ∙ ap (bucket_number (settings_of t).skipped (bucket_count t)) hashed in
    let within = rw (← c.self.view_is) at c.requires.within in
    let not_waiting = rw (← c.self.view_is) at c.requires.not_waiting in
    let down : waits_at (waiting_of d) i ≡ false = ap (λ w. waits_at w i) c.touch.ensures.waiting ∙ not_true (waits_at (waiting_of t) i) not_waiting in
    let list = c.touch.ensures.list in
    let found = sym c.in_ok-slot.ensures.place in
    let here = is-there g.K.PartialEq.eq number t c.args.k.now i at slot list.0 found list.1 in
    let some = last-length t d _ _ list.0 list.2 within in
    let n = c.list_len-slot.result - 1 in
    let own : Place = record { bucket = i; slot = n } in
    let after = last-place t d i _ list.0 list.2 within n (omega (arith, c.list_len-slot.ensures.len)) in
    let place = at-spot d own list.0 after down in
    let spot : spot_of d own ≡ own = spot-own (waiting_of d) (owed_of d) (bucket_count d) own after.0.bucket down in
    rw (← c.self.view_is) (record {
      within = place.0;
      pair = list.0;
      here = place.1;
      changes = record {
        lists = (slot, here, sets-list g.K.PartialEq.eq number t c.args.k.now i at (λ es. remove es slot ++ list.0 ∷ []) d list.2);
        settings = list.2.settings;
        refused = list.2.refused;
        maximum = refl;
      };
      bucket = ap (λ (q : Place). q.bucket) spot ∙ at;
      last = subst (λ (q : Place). q.slot + 1 ≡ length (list_of d q.bucket)) (sym spot) (omega (arith, c.list_len-slot.ensures.len));
    })
