use Rattle.std.proofs.Common.{refl, arith}
use Rattle.scc_table.specs.Relocations.{lone, kept, moved}
use Rattle.scc_table.proofs.arrays.OneBucket.{flag-seen}
use Rattle.scc_table.proofs.arrays.Views.{pending-seen, waiting-seen}
use Rattle.scc_table.proofs.Table.relocate_second.Goals as goal

pub second_waiting-requires-clause-some : goal.second_waiting-requires-clause-some
second_waiting-requires-clause-some g c =
    let t = c.self.inside in
    let counted = pending-seen _ t.current t.draining.waiting.items t.draining.array c.args.self.now c.self.view_is in
    omega (arith, counted, c.requires)

pub second_waiting-requires-clause-below : goal.second_waiting-requires-clause-below
second_waiting-requires-clause-below g c = c.self.invariant.below

pub relocate-requires : goal.relocate-requires
relocate-requires g c = flag-seen c.self.invariant c.in-Some.bucket c.self.view_is c.in-Some.ensures.second.1.waits

pub returns-in-Ok : goal.returns-in-Ok
returns-in-Ok g c =
    let t = c.self.inside in
    let flags = waiting-seen _ t.current t.draining.waiting.items t.draining.array _ c.self.view_is in
    let h = c.in-Some.ensures.second in
    moved h.0 c.in-Some.bucket (rw flags h.1) c.in-Ok.ensures.ok

pub returns-in-Err : goal.returns-in-Err
returns-in-Err g c =
    let t = c.self.inside in
    let flags = waiting-seen _ t.current t.draining.waiting.items t.draining.array _ c.self.view_is in
    let h = c.in-Some.ensures.second in
    kept h.0 c.in-Some.bucket (rw flags h.1) c.in-Err.ensures.refused c.in-Err.ensures.err

pub returns-in-None : goal.returns-in-None
returns-in-None g c =
    let t = c.self.inside in
    let flags = waiting-seen _ t.current t.draining.waiting.items t.draining.array _ c.self.view_is in
    let h = c.in-None.ensures.lone in
    lone h.0 (rw flags h.1) refl
