use Rattle.std.proofs.Common.{◌∙◌, ◌+◌, sym, ap, arith}
use Rattle.std.specs.List.{position}
use Rattle.scc_common.specs.Contents.{bucket_count, list_of}
use Rattle.scc_buckets.specs.declared.place.Place.{Place}
use Rattle.scc_table.proofs.arrays.OneBucket.{index-within, routed-seen}
use Rattle.scc_table.proofs.places.KeyBuckets.{bucket-read, found-here, found-there, hash-own, missed-here, missed-there, old-near, old-some}
use Rattle.scc_table.proofs.Table.search_both.Goals as goal

pub is_waiting-requires : goal.is_waiting-requires
is_waiting-requires g c = index-within c.self.invariant c.self.view_is c.requires.pending c.bucket_at-bucket.ensures.within

pub search-requires-clause-some : goal.search-requires-clause-some
search-requires-clause-some g c = old-some c.self.invariant c.self.view_is c.bucket_at-bucket.result (sym c.is_waiting.ensures ∙ c.if-is_waiting.true)

pub search-requires-clause-own : goal.search-requires-clause-own
search-requires-clause-own g c = rw c.router.ensures (c.self.invariant.arrays.own)

pub search-requires-clause-hashed : goal.search-requires-clause-hashed
search-requires-clause-hashed g c = rw c.router.ensures (hash-own g.H.Hashes.hash_of c.self.invariant c.self.view_is c.args.key.now c.requires.hashed)

pub returns-in-Some-clause-found : goal.returns-in-Some-clause-found
returns-in-Some-clause-found g c =
    let inv = c.self.invariant in
    let b = bucket-read g.H.Hashes.hash_of inv c.self.view_is g.met.H.Hashes.respects_eq c.requires.hashed c.requires.pending c.bucket_at-bucket.ensures.value c.bucket_at-bucket.ensures.within (sym c.is_waiting.ensures ∙ c.if-is_waiting.true) in
    let old = c.in-Some.old in
    let q : Place = record { bucket = c.bucket_count-count.result + old.bucket; slot = old.slot } in
    let found = rw c.router.ensures at c.in-Some.ensures in
    λ _. found-there inv c.self.view_is c.bucket_at-bucket.ensures.routed b q (ap (λ n. n + old.bucket) c.bucket_count-count.ensures.count ∙ ap (λ j. bucket_count c.self.inside.current + j) found.0) found.1

pub returns-in-Some-clause-missed : goal.returns-in-Some-clause-missed
returns-in-Some-clause-missed g c =
    let near = old-near c.self.invariant c.self.view_is c.args.hash c.bucket_at-bucket.result (sym c.is_waiting.ensures ∙ c.if-is_waiting.true) in
    let found = rw c.router.ensures at c.in-Some.ensures in
    λ far. absurd (omega (arith, found.0, near, c.bucket_count-count.ensures.most, far))

pub returns-in-None-clause-found : goal.returns-in-None-clause-found
returns-in-None-clause-found g c = λ near. absurd (omega (arith, near))

pub returns-in-None-clause-missed : goal.returns-in-None-clause-missed
returns-in-None-clause-missed g c =
    let inv = c.self.invariant in
    let b = bucket-read g.H.Hashes.hash_of inv c.self.view_is g.met.H.Hashes.respects_eq c.requires.hashed c.requires.pending c.bucket_at-bucket.ensures.value c.bucket_at-bucket.ensures.within (sym c.is_waiting.ensures ∙ c.if-is_waiting.true) in
    λ _. missed-there inv c.self.view_is c.bucket_at-bucket.ensures.routed b (rw c.router.ensures at c.in-None.ensures)

pub search_place-requires : goal.search_place-requires
search_place-requires g c = hash-own g.H.Hashes.hash_of c.self.invariant c.self.view_is c.args.key.now c.requires.hashed

pub returns-in-Some-search_place-clause-found : goal.returns-in-Some-search_place-clause-found
returns-in-Some-search_place-clause-found g c =
    let inv = c.self.invariant in
    let b = bucket-read g.H.Hashes.hash_of inv c.self.view_is g.met.H.Hashes.respects_eq c.requires.hashed c.requires.pending c.bucket_at-bucket.ensures.value c.bucket_at-bucket.ensures.within (sym c.is_waiting.ensures ∙ c.if-is_waiting.false) in
    let passes = λ (e : g.row.E.Denot). g.E.Key.PartialEq.eq c.args.key.now (g.E.Keyed.key_of e) in
    let f = c.in-Some-search_place.ensures in
    λ _. found-here inv c.self.view_is c.bucket_at-bucket.ensures.routed b c.in-Some-search_place.place (f.bucket ∙ sym b.at) (ap (λ k. position passes (list_of c.self.inside.current k)) b.at ∙ f.found)

pub returns-in-Some-search_place-clause-missed : goal.returns-in-Some-search_place-clause-missed
returns-in-Some-search_place-clause-missed g c =
    let inv = c.self.invariant in
    let b = bucket-read g.H.Hashes.hash_of inv c.self.view_is g.met.H.Hashes.respects_eq c.requires.hashed c.requires.pending c.bucket_at-bucket.ensures.value c.bucket_at-bucket.ensures.within (sym c.is_waiting.ensures ∙ c.if-is_waiting.false) in
    λ far. absurd (omega (arith, (c.in-Some-search_place.ensures).bucket, b.at, b.within, c.bucket_count-count.ensures.most, far))

pub returns-in-None-search_place-clause-found : goal.returns-in-None-search_place-clause-found
returns-in-None-search_place-clause-found g c = λ near. absurd (omega (arith, near))

pub returns-in-None-search_place-clause-missed : goal.returns-in-None-search_place-clause-missed
returns-in-None-search_place-clause-missed g c =
    let inv = c.self.invariant in
    let b = bucket-read g.H.Hashes.hash_of inv c.self.view_is g.met.H.Hashes.respects_eq c.requires.hashed c.requires.pending c.bucket_at-bucket.ensures.value c.bucket_at-bucket.ensures.within (sym c.is_waiting.ensures ∙ c.if-is_waiting.false) in
    let passes = λ (e : g.row.E.Denot). g.E.Key.PartialEq.eq c.args.key.now (g.E.Keyed.key_of e) in
    λ _. missed-here inv c.self.view_is c.bucket_at-bucket.ensures.routed b (ap (λ k. position passes (list_of c.self.inside.current k)) b.at ∙ (c.in-None-search_place.ensures).list)

pub returns-in-Some-clause-routed : goal.returns-in-Some-clause-routed
returns-in-Some-clause-routed g c = routed-seen g.H.Hashes.hash_of g.E.Keyed.key_of c.self.invariant c.self.view_is c.bucket_count-count.ensures.routed

pub returns-in-None-clause-routed : goal.returns-in-None-clause-routed
returns-in-None-clause-routed g c = routed-seen g.H.Hashes.hash_of g.E.Keyed.key_of c.self.invariant c.self.view_is c.bucket_count-count.ensures.routed

pub returns-in-Some-search_place-clause-routed : goal.returns-in-Some-search_place-clause-routed
returns-in-Some-search_place-clause-routed g c = routed-seen g.H.Hashes.hash_of g.E.Keyed.key_of c.self.invariant c.self.view_is c.bucket_count-count.ensures.routed

pub returns-in-None-search_place-clause-routed : goal.returns-in-None-search_place-clause-routed
returns-in-None-search_place-clause-routed g c = routed-seen g.H.Hashes.hash_of g.E.Keyed.key_of c.self.invariant c.self.view_is c.bucket_count-count.ensures.routed
