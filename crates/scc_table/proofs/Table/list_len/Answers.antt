use Rattle.std.proofs.Common.{◌≡◌, ◌∙◌, ◌<◌, true, false, length, sym, ap, arith}
use Rattle.scc_common.specs.Contents.{bucket_count, hash_in, list_of}
use Rattle.scc_table.specs.TwoArrays.{waits_at}
use Rattle.scc_table.proofs.places.OldSpots.{own-list}
use Rattle.scc_table.proofs.arrays.OneBucket.{count-own, flag-free, routed-seen}
use Rattle.scc_table.proofs.Table.list_len.Goals as goal

pub list_len-requires : goal.list_len-requires
list_len-requires g c =
    let count = count-own c.self.invariant c.self.view_is in
    omega (arith, count, c.requires)

pub returns-clause-len : goal.returns-clause-len
returns-clause-len g c =
    let t = c.self.inside in
    let cur = t.current in
    let ws = t.draining.waiting.items in
    let olds = t.draining.array in
    let inv = c.self.invariant in
    let hk = hash_in g.H.Hashes.hash_of cur in
    let hash = λ (e : g.row.E.Denot). hk (g.E.Keyed.key_of e) in
    let count = count-own c.self.invariant c.self.view_is in
    let i = c.args.bucket in
    let down : waits_at ws i ≡ false = flag-free c.self.invariant _ c.self.view_is (λ up. let q = c.is_waiting.ensures.1 up in let z : true ≡ false = sym q ∙ c.if-is_waiting.false in cc) in
    let within : i < bucket_count cur = omega (arith, count, c.requires) in
    c.list_len.ensures.len ∙ ap length (sym (own-list hash cur ws olds inv.arrays i within down)) ∙ ap (λ d. length (list_of d i)) c.self.view_is

pub returns-clause-routed : goal.returns-clause-routed
returns-clause-routed g c = routed-seen g.H.Hashes.hash_of g.E.Keyed.key_of c.self.invariant c.self.view_is c.list_len.ensures.routed

pub returns-then-is_waiting-clause-len : goal.returns-then-is_waiting-clause-len
returns-then-is_waiting-clause-len g c = c.waiting_len.ensures.len

pub returns-then-is_waiting-clause-routed : goal.returns-then-is_waiting-clause-routed
returns-then-is_waiting-clause-routed g c = c.waiting_len.ensures.routed
