use Rattle.std.proofs.Common.{arith}
use Rattle.scc_table.proofs.arrays.OneBucket.{left-most}
use Rattle.scc_table.proofs.removals.OldEntry.{entry-far, entry-swapped, entry-swapped_table, entry-there}
use Rattle.scc_table.proofs.removals.OneList.{swapped-count, swapped-moved, swapped-unique, taken-swapped}
use Rattle.scc_table.specs.Places.{spot_of}
use Rattle.scc_table.proofs.Table.swap_take_old.Goals as goal

pub returns-then-len-count : goal.returns-then-len-count
returns-then-len-count g c =
    let now = c.args.self.now in
    let after = c.take_old.new.self in
    let q = spot_of now c.args.place in
    let taken = taken-swapped now after q c.requires.place c.take_old.ensures.exact in
    record {
      entry = c.take_old.ensures.entry;
      others = (swapped-moved now after q c.requires.place taken);
      buckets = (swapped-count now after q c.requires.place taken);
      noted = taken.refused;
      settings = taken.settings;
      waiting = c.take_old.ensures.waiting;
      owed = c.take_old.ensures.owed;
      exact = taken;
      unique = (swapped-unique now after q c.requires.place taken g.met.E.Key.Eq.laws g.E.Keyed.key_of c.take_old.result c.take_old.ensures.entry c.take_old.ensures.unique);
    }

pub swap_remove_at-requires-clause-left : goal.swap_remove_at-requires-clause-left
swap_remove_at-requires-clause-left g c = left-most c.self.invariant _ (entry-there g.met.E.Key.Eq.laws c.self.invariant c.self.view_is c.args.place c.requires.place c.requires.old c.bucket_count-count.ensures.count).0

pub overflow_sub-place : goal.overflow_sub-place
overflow_sub-place g c = entry-far g.met.E.Key.Eq.laws c.self.invariant c.self.view_is c.args.place c.requires.place c.requires.old c.bucket_count-count.ensures.count

pub swap_remove_at-requires-clause-bucket : goal.swap_remove_at-requires-clause-bucket
swap_remove_at-requires-clause-bucket g c = (entry-there g.met.E.Key.Eq.laws c.self.invariant c.self.view_is c.args.place c.requires.place c.requires.old c.bucket_count-count.ensures.count).0

pub swap_remove_at-requires-clause-slot : goal.swap_remove_at-requires-clause-slot
swap_remove_at-requires-clause-slot g c = (entry-there g.met.E.Key.Eq.laws c.self.invariant c.self.view_is c.args.place c.requires.place c.requires.old c.bucket_count-count.ensures.count).1

pub invariant_of-self : goal.invariant_of-self
invariant_of-self g c = rw c.swap_remove_at.ensures.others (entry-swapped_table g.met.E.Key.Eq.laws c.self.invariant c.self.view_is c.args.place c.requires.place c.requires.old c.bucket_count-count.ensures.count c.swap_remove_at.result c.swap_remove_at.ensures.entry (omega (arith, c.bucket_count-count.ensures.count, c.len.ensures.count, c.if-len-count.false)))

pub returns : goal.returns
returns g c = rw c.swap_remove_at.ensures.others (entry-swapped g.met.E.Key.Eq.laws c.self.invariant c.self.view_is c.args.place c.requires.place c.requires.old c.bucket_count-count.ensures.count c.swap_remove_at.result c.swap_remove_at.ensures.entry (omega (arith, c.bucket_count-count.ensures.count, c.len.ensures.count, c.if-len-count.false)))
