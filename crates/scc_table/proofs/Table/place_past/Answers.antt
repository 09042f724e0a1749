use Rattle.std.proofs.Common.{◌≡◌, ◌∙◌, ◌+◌, ◌<◌, ◌≤◌, length, sym, ap, arith, add-one}
use Rattle.scc_common.specs.Contents.{bucket_count}
use Rattle.scc_buckets.specs.Places as spots
use Rattle.scc_buckets.specs.declared.place.Place.{Place}
use Rattle.scc_buckets.proofs.Standing.{index-end, index-skip}
use Rattle.scc_table.proofs.arrays.OneBucket.{count-own}
use Rattle.scc_table.proofs.Table.place_past.Goals as goal

pub first_in-requires : goal.first_in-requires
first_in-requires g c =
    let count = count-own c.self.invariant c.self.view_is in
    omega (arith, count, c.bucket_count-next-end.ensures.count)

pub loop-next-preserved : goal.loop-next-preserved
loop-next-preserved g c =
    let now = c.args.self.now in
    let count = count-own c.self.invariant c.self.view_is in
    let n = c.loop-next.next in
    let within : n < bucket_count now = omega (arith, count, c.bucket_count-next-end.ensures.count) in
    let z : spots.index_of_spot now (record { bucket = n + 1; slot = 0 }) ≡ spots.index_of_spot now (record { bucket = n; slot = 0 }) = ap (λ m. spots.index_of_spot now (record { bucket = m; slot = 0 })) (add-one n) ∙ index-skip now n 0 within (sym (ap length c.in_default.ensures)) in
    z ∙ c.loop-next.invariant

pub returns-clause-place : goal.returns-clause-place
returns-clause-place g c =
    let now = c.args.self.now in
    let count = count-own c.self.invariant c.self.view_is in
    let p : Place = record { bucket = c.loop-next.next; slot = 0 } in
    let far : bucket_count now ≤ c.loop-next.next = omega (arith, count, c.bucket_count-next-end.ensures.count) in
    sym c.loop-next.invariant ∙ index-end now p far (omega arith)
