use Rattle.std.proofs.Common.{◌≡◌, ◌∙◌, ◌<◌, [], true, false, length, sym, subst, arith}
use Rattle.scc_common.specs.Contents.{bucket_count, hash_in, list_of}
use Rattle.scc_buckets.specs.Places as spots
use Rattle.scc_buckets.specs.declared.place.Place.{Place}
use Rattle.scc_buckets.proofs.Standing.{length-zero}
use Rattle.scc_table.specs.Places.{StandsAt}
use Rattle.scc_table.specs.TwoArrays.{waits_at}
use Rattle.scc_table.proofs.places.NextPlaces.{own-stands}
use Rattle.scc_table.proofs.places.OldSpots.{own-list}
use Rattle.scc_table.proofs.arrays.OneBucket.{count-own, flag-free}
use Rattle.scc_table.proofs.Table.first_in.Goals as goal

pub list_len-requires : goal.list_len-requires
list_len-requires g c =
    let count = count-own c.self.invariant c.self.view_is in
    omega (arith, count, c.requires)

pub returns-then-list_len-eq0 : goal.returns-then-list_len-eq0
returns-then-list_len-eq0 g c =
    let t = c.self.inside in
    let cur = t.current in
    let ws = t.draining.waiting.items in
    let olds = t.draining.array in
    let inv = c.self.invariant in
    let hk = hash_in g.H.Hashes.hash_of cur in
    let hash = λ (e : g.row.E.Denot). hk (g.E.Keyed.key_of e) in
    let count = count-own c.self.invariant c.self.view_is in
    let i = c.args.bucket in
    let down : waits_at ws i ≡ false = flag-free c.self.invariant _ c.self.view_is (λ up. let q = c.is_waiting.ensures.1 up in let z : true ≡ false = sym q ∙ c.if-is_waiting.false in cc) in
    let within : i < bucket_count cur = omega (arith, count, c.requires) in
    let none = length-zero (list_of cur i) (sym c.if-list_len-eq0.true ∙ c.list_len.ensures.len) in
    subst (λ d. list_of d i ≡ []) c.self.view_is (own-list hash cur ws olds inv.arrays i within down ∙ none)

pub returns : goal.returns
returns g c =
    let t = c.self.inside in
    let cur = t.current in
    let ws = t.draining.waiting.items in
    let olds = t.draining.array in
    let inv = c.self.invariant in
    let hk = hash_in g.H.Hashes.hash_of cur in
    let hash = λ (e : g.row.E.Denot). hk (g.E.Keyed.key_of e) in
    let count = count-own c.self.invariant c.self.view_is in
    let i = c.args.bucket in
    let down : waits_at ws i ≡ false = flag-free c.self.invariant _ c.self.view_is (λ up. let q = c.is_waiting.ensures.1 up in let z : true ≡ false = sym q ∙ c.if-is_waiting.false in cc) in
    let within : i < bucket_count cur = omega (arith, count, c.requires) in
    let p : Place = record { bucket = i; slot = 0 } in
    let some : 0 < length (list_of cur i) = omega (arith, c.list_len.ensures.len, c.if-list_len-eq0.false) in
    subst (λ d. StandsAt d (spots.index_of_spot d p) p) c.self.view_is (own-stands hash cur ws olds inv.arrays p within down some)
