use Rattle.std.proofs.Common.{◌≡◌, ◌+◌, ◌<◌, length, subst, arith}
use Rattle.scc_buckets.specs.Places as spots
use Rattle.scc_buckets.specs.declared.place.Place.{Place}
use Rattle.scc_common.specs.Contents.{hash_in, list_of}
use Rattle.scc_table.specs.NextPlaces.{rank_on}
use Rattle.scc_table.specs.Places.{StandsAt}
use Rattle.scc_table.proofs.arrays.OneBucket.{flag-up, old-multiples, old-sized, owed-length, target-within}
use Rattle.scc_table.proofs.places.NextPlaces.{rank-end, rank-next}
use Rattle.scc_table.proofs.Table.old_place.Goals as goal

pub spot_from-requires-clause-sized : goal.spot_from-requires-clause-sized
spot_from-requires-clause-sized g c = old-sized c.self.invariant _ (flag-up c.self.invariant _ c.self.view_is c.requires.waits)

pub spot_from-requires-clause-target : goal.spot_from-requires-clause-target
spot_from-requires-clause-target g c =
    let within = target-within c.self.invariant _ (flag-up c.self.invariant _ c.self.view_is c.requires.waits) in
    omega (arith, within, c.bucket_count-count.ensures.count)

pub spot_from-requires-clause-multiples : goal.spot_from-requires-clause-multiples
spot_from-requires-clause-multiples g c = rw c.bucket_count-count.ensures.count (old-multiples c.self.invariant _ (flag-up c.self.invariant _ c.self.view_is c.requires.waits))

pub spot_from-requires-clause-own : goal.spot_from-requires-clause-own
spot_from-requires-clause-own g c = rw c.router.ensures c.self.invariant.arrays.own

pub spot_from-requires-clause-source : goal.spot_from-requires-clause-source
spot_from-requires-clause-source g c =
    let owed = owed-length c.self.invariant _ (flag-up c.self.invariant _ c.self.view_is c.requires.waits) c.self.view_is in
    omega (arith, owed, c.requires.source)

pub returns-in-Some : goal.returns-in-Some
returns-in-Some g c =
    let t = c.self.inside in
    let hash = λ (e : g.row.E.Denot). hash_in g.H.Hashes.hash_of t.current (g.E.Keyed.key_of e) in
    let up = flag-up c.self.invariant _ c.self.view_is c.requires.waits in
    let i = c.args.target in
    let few : c.args.source < length t.draining.array = let owed = owed-length c.self.invariant _ up c.self.view_is in omega (arith, owed, c.requires.source) in
    let p : Place = record { bucket = c.bucket_count-count.result + c.in-Some.old; slot = c.in-Some.number } in
    let next = rw (c.router.ensures, c.bucket_count-count.ensures.count) at c.in-Some.ensures in
    subst (λ d. StandsAt d (spots.index_of_spot d (record { bucket = i; slot = rank_on d i c.args.source c.args.slot })) p) c.self.view_is
    (rank-next hash t.current t.draining.waiting.items t.draining.array c.self.invariant.arrays i up c.args.source c.args.slot _ _ few next p (omega (arith, c.in-Some.old-is, c.bucket_count-count.ensures.count)) (omega (arith, c.in-Some.number-is)))

pub returns-in-None : goal.returns-in-None
returns-in-None g c =
    let t = c.self.inside in
    let hash = λ (e : g.row.E.Denot). hash_in g.H.Hashes.hash_of t.current (g.E.Keyed.key_of e) in
    let up = flag-up c.self.invariant _ c.self.view_is c.requires.waits in
    let i = c.args.target in
    let few : c.args.source < length t.draining.array = let owed = owed-length c.self.invariant _ up c.self.view_is in omega (arith, owed, c.requires.source) in
    let none = rw (c.router.ensures, c.bucket_count-count.ensures.count) at c.in-None.ensures in
    subst (λ d. rank_on d i c.args.source c.args.slot ≡ length (list_of d i)) c.self.view_is (rank-end hash t.current t.draining.waiting.items t.draining.array c.self.invariant.arrays i up c.args.source c.args.slot few none)
