use Rattle.std.proofs.Common.{◌+◌, ◌<◌, ◌∙◌, length, subst, arith}
use Rattle.scc_buckets.specs.Places as spots
use Rattle.scc_buckets.specs.declared.place.Place.{Place}
use Rattle.scc_common.specs.Contents.{hash_in}
use Rattle.scc_table.specs.Places.{StandsAt}
use Rattle.scc_table.proofs.arrays.OneBucket.{flag-up, list-coming, old-multiples, old-sized, target-within}
use Rattle.scc_table.proofs.places.NextPlaces.{rank-first}
use Rattle.scc_table.proofs.Table.first_old.Goals as goal

pub first_spot-requires-clause-sized : goal.first_spot-requires-clause-sized
first_spot-requires-clause-sized g c = old-sized c.self.invariant _ (flag-up c.self.invariant _ c.self.view_is c.requires)

pub first_spot-requires-clause-target : goal.first_spot-requires-clause-target
first_spot-requires-clause-target g c =
    let within = target-within c.self.invariant _ (flag-up c.self.invariant _ c.self.view_is c.requires) in
    omega (arith, within, c.bucket_count-count.ensures.count)

pub first_spot-requires-clause-multiples : goal.first_spot-requires-clause-multiples
first_spot-requires-clause-multiples g c = rw c.bucket_count-count.ensures.count (old-multiples c.self.invariant _ (flag-up c.self.invariant _ c.self.view_is c.requires))

pub first_spot-requires-clause-own : goal.first_spot-requires-clause-own
first_spot-requires-clause-own g c = rw c.router.ensures c.self.invariant.arrays.own

pub returns-in-Some : goal.returns-in-Some
returns-in-Some g c =
    let t = c.self.inside in
    let hash = λ (e : g.row.E.Denot). hash_in g.H.Hashes.hash_of t.current (g.E.Keyed.key_of e) in
    let up = flag-up c.self.invariant _ c.self.view_is c.requires in
    let array = old-sized c.self.invariant _ up in
    let some : 0 < length t.draining.array = omega (arith, array.least) in
    let p : Place = record { bucket = c.bucket_count-count.result + c.in-Some.old; slot = c.in-Some.number } in
    let next = rw (c.router.ensures, c.bucket_count-count.ensures.count) at c.in-Some.ensures in
    subst (λ d. StandsAt d (spots.index_of_spot d (record { bucket = c.args.target; slot = 0 })) p) c.self.view_is
    (rank-first hash t.current t.draining.waiting.items t.draining.array c.self.invariant.arrays c.args.target up _ _ some next p (omega (arith, c.in-Some.old-is, c.bucket_count-count.ensures.count)) (omega (arith, c.in-Some.number-is)))

pub returns-in-None : goal.returns-in-None
returns-in-None g c =
    let coming = list-coming c.self.invariant _ (flag-up c.self.invariant _ c.self.view_is c.requires) c.self.view_is in
    coming ∙ rw (c.router.ensures, c.bucket_count-count.ensures.count) at c.in-None.ensures
