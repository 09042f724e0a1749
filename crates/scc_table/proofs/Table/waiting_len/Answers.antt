use Rattle.std.proofs.Common.{◌∙◌, length, sym, ap, arith}
use Rattle.scc_table.proofs.arrays.OneBucket.{flag-up, list-coming, old-multiples, old-sized, routed-seen, target-within}
use Rattle.scc_table.proofs.Table.waiting_len.Goals as goal

pub destined_len-requires-clause-sized : goal.destined_len-requires-clause-sized
destined_len-requires-clause-sized g c = old-sized c.self.invariant _ (flag-up c.self.invariant _ c.self.view_is c.requires)

pub destined_len-requires-clause-target : goal.destined_len-requires-clause-target
destined_len-requires-clause-target g c =
    let within = target-within c.self.invariant _ (flag-up c.self.invariant _ c.self.view_is c.requires) in
    omega (arith, within, c.bucket_count-count.ensures.count)

pub destined_len-requires-clause-multiples : goal.destined_len-requires-clause-multiples
destined_len-requires-clause-multiples g c = rw c.bucket_count-count.ensures.count (old-multiples c.self.invariant _ (flag-up c.self.invariant _ c.self.view_is c.requires))

pub destined_len-requires-clause-own : goal.destined_len-requires-clause-own
destined_len-requires-clause-own g c = rw c.router.ensures c.self.invariant.arrays.own

pub returns-clause-len : goal.returns-clause-len
returns-clause-len g c =
    let inv = c.self.invariant in
    let coming = list-coming inv _ (flag-up inv _ c.self.view_is c.requires) c.self.view_is in
    rw (c.router.ensures, c.bucket_count-count.ensures.count) at c.destined_len.ensures ∙ ap length (sym coming)

pub returns-clause-routed : goal.returns-clause-routed
returns-clause-routed g c = routed-seen g.H.Hashes.hash_of g.E.Keyed.key_of c.self.invariant c.self.view_is c.bucket_count-count.ensures.routed
