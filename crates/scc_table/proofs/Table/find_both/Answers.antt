use Rattle.std.proofs.Common.{◌∙◌, sym}
use Rattle.scc_table.proofs.arrays.OneBucket.{index-within}
use Rattle.scc_table.proofs.places.KeyBuckets.{bucket-read, find-here, find-there, hash-own, old-some}
use Rattle.scc_table.proofs.Table.find_both.Goals as goal

pub is_waiting-requires : goal.is_waiting-requires
is_waiting-requires g c = index-within c.self.invariant c.self.view_is c.requires.pending c.bucket_at-bucket.ensures.within

pub find-requires-clause-some : goal.find-requires-clause-some
find-requires-clause-some g c = old-some c.self.invariant c.self.view_is c.bucket_at-bucket.result (sym c.is_waiting.ensures ∙ c.if-is_waiting.true)

pub find-requires-clause-own : goal.find-requires-clause-own
find-requires-clause-own g c = rw c.router.ensures (c.self.invariant.arrays.own)

pub find-requires-clause-hashed : goal.find-requires-clause-hashed
find-requires-clause-hashed g c = rw c.router.ensures (hash-own g.H.Hashes.hash_of c.self.invariant c.self.view_is c.args.key.now c.requires.hashed)

pub returns-then-is_waiting : goal.returns-then-is_waiting
returns-then-is_waiting g c =
    let inv = c.self.invariant in
    let b = bucket-read g.H.Hashes.hash_of inv c.self.view_is g.met.H.Hashes.respects_eq c.requires.hashed c.requires.pending c.bucket_at-bucket.ensures.value c.bucket_at-bucket.ensures.within (sym c.is_waiting.ensures ∙ c.if-is_waiting.true) in
    (rw c.router.ensures at c.find.ensures) ∙ find-there inv c.self.view_is c.bucket_at-bucket.ensures.routed b

pub find-requires-2 : goal.find-requires-2
find-requires-2 g c = hash-own g.H.Hashes.hash_of c.self.invariant c.self.view_is c.args.key.now c.requires.hashed

pub returns : goal.returns
returns g c =
    let inv = c.self.invariant in
    let b = bucket-read g.H.Hashes.hash_of inv c.self.view_is g.met.H.Hashes.respects_eq c.requires.hashed c.requires.pending c.bucket_at-bucket.ensures.value c.bucket_at-bucket.ensures.within (sym c.is_waiting.ensures ∙ c.if-is_waiting.false) in
    c.find-2.ensures ∙ find-here inv c.self.view_is c.bucket_at-bucket.ensures.routed b
