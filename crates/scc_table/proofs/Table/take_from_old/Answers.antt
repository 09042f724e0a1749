use Rattle.std.proofs.Common.{◌<◌, length, subst, arith}
use Rattle.scc_common.specs.Contents.{Contents, bucket_count, hash_in, settings_of}
use Rattle.scc_common.specs.Routing.{bucket_number}
use Rattle.scc_table.specs.Removals.{SwapTakesFirst}
use Rattle.scc_table.specs.TwoArrays.{together}
use Rattle.scc_table.proofs.arrays.OneBucket.{count-own, flag-up, left-most, owed-length}
use Rattle.scc_table.proofs.places.KeyBuckets.{bucket-waits, hash-own, old-below, old-some, routed-own-hash}
use Rattle.scc_table.proofs.removals.OldArray.{old-keeps, old-takes}
use Rattle.scc_table.proofs.Table.take_from_old.Goals as goal

pub take-requires-clause-some : goal.take-requires-clause-some
take-requires-clause-some g c = old-some c.self.invariant c.self.view_is _ (flag-up c.self.invariant (bucket_number (settings_of c.args.self.now).skipped (bucket_count c.args.self.now) c.args.hash) c.self.view_is c.requires.waiting)

pub take-requires-clause-own : goal.take-requires-clause-own
take-requires-clause-own g c = rw c.router.ensures (c.self.invariant.arrays.own)

pub take-requires-clause-hashed : goal.take-requires-clause-hashed
take-requires-clause-hashed g c = rw c.router.ensures (hash-own g.H.Hashes.hash_of c.self.invariant c.self.view_is c.args.key.now c.requires.hashed)

pub take-requires-clause-left : goal.take-requires-clause-left
take-requires-clause-left g c =
    let inv = c.self.invariant in
    let below = old-below inv c.self.view_is c.args.hash _ (flag-up inv (bucket_number (settings_of c.args.self.now).skipped (bucket_count c.args.self.now) c.args.hash) c.self.view_is c.requires.waiting) in
    rw c.router.ensures (left-most inv _ below)

pub invariant_of-self : goal.invariant_of-self
invariant_of-self g c =
    let o = c.self.inside.draining in
    let inv = c.self.invariant in
    let b = bucket-waits g.H.Hashes.hash_of inv c.self.view_is g.met.H.Hashes.respects_eq c.requires.hashed c.requires.waiting in
    let routed = routed-own-hash g.H.Hashes.hash_of inv c.self.view_is c.requires.routed in
    let fewer : bucket_count c.self.inside.current < length o.array = let shrunk = c.requires.shrunk in omega (arith, shrunk, owed-length inv _ b.flag c.self.view_is, count-own inv c.self.view_is) in
    let took = rw c.router.ensures at c.take.ensures in
    old-keeps g.met.E.Key.Eq.laws o c.take.new.self inv routed b fewer c.take.result took

pub returns : goal.returns
returns g c =
    let o = c.self.inside.draining in
    let inv = c.self.invariant in
    let b = bucket-waits g.H.Hashes.hash_of inv c.self.view_is g.met.H.Hashes.respects_eq c.requires.hashed c.requires.waiting in
    let routed = routed-own-hash g.H.Hashes.hash_of inv c.self.view_is c.requires.routed in
    let fewer : bucket_count c.self.inside.current < length o.array = let shrunk = c.requires.shrunk in omega (arith, shrunk, owed-length inv _ b.flag c.self.view_is, count-own inv c.self.view_is) in
    let took = rw c.router.ensures at c.take.ensures in
    let hash = λ (e : g.row.E.Denot). hash_in g.H.Hashes.hash_of c.self.inside.current (g.E.Keyed.key_of e) in
    let passes = λ (e : g.row.E.Denot). g.E.Key.PartialEq.eq c.args.key.now (g.E.Keyed.key_of e) in
    let d = c.take.new.self in
    subst (λ (z : Contents g.row.E.Denot g.row.H.Denot). SwapTakesFirst g.E.Key.PartialEq.eq g.E.Keyed.key_of passes z (together hash c.self.inside.current d.waiting.items d.array) c.take.result) c.self.view_is
    (old-takes g.met.E.Key.Eq.laws o d inv routed b fewer c.take.result took)
