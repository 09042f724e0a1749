use Rattle.std.proofs.Common.{◌≡◌, ap, true}
use Rattle.scc_common.specs.Contents.{settings_of}
use Rattle.scc_common.specs.Hashing.{hash_of}
use Rattle.scc_owned_cache.specs.CacheSteps.{IsAbsent, IsPresent}
use Rattle.scc_owned_cache.proofs.FirstOfAll.{by_borrow, first-of-all}
use Rattle.scc_owned_cache.proofs.Owned.pair_by_hint.Goals as goal

pub returns-in-Some-clause-found : goal.returns-in-Some-clause-found
returns-in-Some-clause-found g c =
    let t = c.self.inside.table in
    let k = c.args.k.now in
    let hash = λ (q : g.row.K.Denot). hash_of g.H.BuildHasher g.H.Hasher.Hasher (settings_of t).hasher (g.K.Hash.hash_input q) in
    let alike : (q : g.row.K.Denot) → g.K.PartialEq.eq k q ≡ true → hash k ≡ hash q = λ q e. ap (hash_of g.H.BuildHasher g.H.Hasher.Hasher (settings_of t).hasher) (g.met.K.Hash.respects_eq k q e) in
    let found = by_borrow (IsAbsent hash g.K.PartialEq.eq t k) (IsPresent hash g.K.PartialEq.eq t k) c.find_by_hint.result (first-of-all hash g.K.PartialEq.eq t k c.self.invariant.lists alike _ c.find_by_hint.ensures) in
    rw (← c.self.view_is, c.parts.ensures.key, c.parts.ensures.value) (rw c.in-Some.is at found)

pub returns-in-None-clause-found : goal.returns-in-None-clause-found
returns-in-None-clause-found g c =
    let t = c.self.inside.table in
    let k = c.args.k.now in
    let hash = λ (q : g.row.K.Denot). hash_of g.H.BuildHasher g.H.Hasher.Hasher (settings_of t).hasher (g.K.Hash.hash_input q) in
    let alike : (q : g.row.K.Denot) → g.K.PartialEq.eq k q ≡ true → hash k ≡ hash q = λ q e. ap (hash_of g.H.BuildHasher g.H.Hasher.Hasher (settings_of t).hasher) (g.met.K.Hash.respects_eq k q e) in
    let found = by_borrow (IsAbsent hash g.K.PartialEq.eq t k) (IsPresent hash g.K.PartialEq.eq t k) c.find_by_hint.result (first-of-all hash g.K.PartialEq.eq t k c.self.invariant.lists alike _ c.find_by_hint.ensures) in
    rw (← c.self.view_is) (rw c.in-None.is at found)
