use Rattle.std.proofs.Common.{◌∙◌, sym, subst, arith}
use Rattle.scc_common.specs.Contents.{Contents, Settings, settings_of}
use Rattle.scc_draining.specs.Drainings.{draining_of}
use Rattle.scc_table.specs.Removals.{SwapTakesFirst}
use Rattle.scc_table.specs.TwoArrays.{together, IsWaiting}
use Rattle.scc_table.proofs.removals.CurrentArray.{down-left, down-taken}
use Rattle.scc_table.proofs.arrays.OneBucket.{count-own, count-within, flag-seen, index-within, owed-length, routed-own}
use Rattle.scc_table.proofs.places.KeyBuckets.{bucket-read, hash-own, routed-own-hash}
use Rattle.scc_table.proofs.Table.take_from_both.Goals as goal

pub is_waiting-requires : goal.is_waiting-requires
is_waiting-requires g c = index-within c.self.invariant c.self.view_is c.requires.pending (count-within c.self.invariant c.self.view_is c.bucket_at-bucket.ensures.within)

pub take_first-requires : goal.take_first-requires
take_first-requires g c = hash-own g.H.Hashes.hash_of c.self.invariant c.self.view_is c.args.key.now c.requires.hashed

pub invariant_of-self : goal.invariant_of-self
invariant_of-self g c =
    let inv = c.self.invariant in
    let routed = routed-own-hash g.H.Hashes.hash_of inv c.self.view_is c.bucket_at-bucket.ensures.routed in
    let b = bucket-read g.H.Hashes.hash_of inv c.self.view_is g.met.H.Hashes.respects_eq c.requires.hashed c.requires.pending (routed-own inv c.args.hash c.self.view_is c.bucket_at-bucket.ensures.value) (count-within inv c.self.view_is c.bucket_at-bucket.ensures.within) (sym c.is_waiting.ensures ∙ c.if-not-is_waiting.true) in
    let hash_for = λ (s : Settings g.row.H.Denot) (k : g.row.E-Key.Denot). g.H.Hashes.hash_of s.hasher k in
    let passes = λ (e : g.row.E.Denot). g.E.Key.PartialEq.eq c.args.key.now (g.E.Keyed.key_of e) in
    let d = c.take_first.new.self in
    down-left g.E.Keyed.key_of passes g.met.E.Key.Eq.laws hash_for c.self.inside.current d (draining_of c.self.inside.draining) inv routed c.args.hash c.bucket_at-bucket.result b.same b.at b.within b.flag c.take_first.result c.take_first.ensures

pub returns-then-not-is_waiting : goal.returns-then-not-is_waiting
returns-then-not-is_waiting g c =
    let inv = c.self.invariant in
    let routed = routed-own-hash g.H.Hashes.hash_of inv c.self.view_is c.bucket_at-bucket.ensures.routed in
    let b = bucket-read g.H.Hashes.hash_of inv c.self.view_is g.met.H.Hashes.respects_eq c.requires.hashed c.requires.pending (routed-own inv c.args.hash c.self.view_is c.bucket_at-bucket.ensures.value) (count-within inv c.self.view_is c.bucket_at-bucket.ensures.within) (sym c.is_waiting.ensures ∙ c.if-not-is_waiting.true) in
    let hash_for = λ (s : Settings g.row.H.Denot) (k : g.row.E-Key.Denot). g.H.Hashes.hash_of s.hasher k in
    let passes = λ (e : g.row.E.Denot). g.E.Key.PartialEq.eq c.args.key.now (g.E.Keyed.key_of e) in
    let d = c.take_first.new.self in
    let new = together (λ (e : g.row.E.Denot). hash_for (settings_of d) (g.E.Keyed.key_of e)) d c.self.inside.draining.waiting.items c.self.inside.draining.array in
    subst (λ (z : Contents g.row.E.Denot g.row.H.Denot). SwapTakesFirst g.E.Key.PartialEq.eq g.E.Keyed.key_of passes z new c.take_first.result) c.self.view_is
    (down-taken g.E.Keyed.key_of passes g.met.E.Key.Eq.laws hash_for c.self.inside.current d (draining_of c.self.inside.draining) inv routed c.args.hash c.bucket_at-bucket.result b.same b.at b.within b.flag c.take_first.result c.take_first.ensures)

pub take_from_old-requires-clause-waiting : goal.take_from_old-requires-clause-waiting
take_from_old-requires-clause-waiting g c =
    subst (λ n. IsWaiting c.args.self.now n) c.bucket_at-bucket.ensures.value (flag-seen c.self.invariant c.bucket_at-bucket.result c.self.view_is (sym c.is_waiting.ensures ∙ c.if-not-is_waiting.false))

pub take_from_old-requires-clause-shrunk : goal.take_from_old-requires-clause-shrunk
take_from_old-requires-clause-shrunk g c =
    let inv = c.self.invariant in
    let up = sym c.is_waiting.ensures ∙ c.if-not-is_waiting.false in
    let more = c.if-len-bucket_count.false in
    omega (arith, more, owed-length inv c.bucket_at-bucket.result up c.self.view_is, count-own inv c.self.view_is, c.len.ensures.count, c.bucket_count.ensures.count)
