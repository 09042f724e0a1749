use Rattle.std.proofs.Common.{map, refl, subst}
use Rattle.std.specs.List.{IsDistinct}
use Rattle.scc_common.specs.Contents.{Contents, entries}
use Rattle.scc_table.proofs.arrays.OneBucket.{left-most}
use Rattle.scc_table.proofs.removals.OldEntry.{entry-far, entry-less, entry-owed, entry-read, entry-taken, entry-there, entry-waiting}
use Rattle.scc_table.proofs.Table.take_old.Goals as goal

pub remove_at-requires-clause-bucket : goal.remove_at-requires-clause-bucket
remove_at-requires-clause-bucket g c = (entry-there g.met.E.Key.Eq.laws c.self.invariant c.self.view_is c.args.place c.requires.place c.requires.old c.bucket_count-count.ensures.count).0

pub remove_at-requires-clause-slot : goal.remove_at-requires-clause-slot
remove_at-requires-clause-slot g c = (entry-there g.met.E.Key.Eq.laws c.self.invariant c.self.view_is c.args.place c.requires.place c.requires.old c.bucket_count-count.ensures.count).1

pub overflow_sub-place : goal.overflow_sub-place
overflow_sub-place g c = entry-far g.met.E.Key.Eq.laws c.self.invariant c.self.view_is c.args.place c.requires.place c.requires.old c.bucket_count-count.ensures.count

pub remove_at-requires-clause-left : goal.remove_at-requires-clause-left
remove_at-requires-clause-left g c = left-most c.self.invariant _ (entry-there g.met.E.Key.Eq.laws c.self.invariant c.self.view_is c.args.place c.requires.place c.requires.old c.bucket_count-count.ensures.count).0

pub invariant_of-self : goal.invariant_of-self
invariant_of-self g c = rw c.remove_at.ensures.others (entry-less g.met.E.Key.Eq.laws c.self.invariant c.self.view_is c.args.place c.requires.place c.requires.old c.bucket_count-count.ensures.count c.remove_at.result c.remove_at.ensures.entry _ refl)

pub returns-clause-entry : goal.returns-clause-entry
returns-clause-entry g c = entry-read g.met.E.Key.Eq.laws c.self.invariant c.self.view_is c.args.place c.requires.place c.requires.old c.bucket_count-count.ensures.count c.remove_at.result c.remove_at.ensures.entry

pub returns-clause-waiting : goal.returns-clause-waiting
returns-clause-waiting g c = rw c.remove_at.ensures.others (entry-waiting g.met.E.Key.Eq.laws c.self.invariant c.self.view_is c.args.place c.requires.place c.requires.old c.bucket_count-count.ensures.count c.remove_at.result c.remove_at.ensures.entry _ refl)

pub returns-clause-owed : goal.returns-clause-owed
returns-clause-owed g c = rw c.remove_at.ensures.others (entry-owed g.met.E.Key.Eq.laws c.self.invariant c.self.view_is c.args.place c.requires.place c.requires.old c.bucket_count-count.ensures.count c.remove_at.result c.remove_at.ensures.entry _ refl)

pub returns-clause-exact : goal.returns-clause-exact
returns-clause-exact g c = rw c.remove_at.ensures.others (entry-taken g.met.E.Key.Eq.laws c.self.invariant c.self.view_is c.args.place c.requires.place c.requires.old c.bucket_count-count.ensures.count c.remove_at.result c.remove_at.ensures.entry _ refl)

pub returns-clause-unique : goal.returns-clause-unique
returns-clause-unique g c =
    let view = c.self.view_is in
    subst (λ (z : Contents g.row.E.Denot g.row.H.Denot). IsDistinct g.E.Key.PartialEq.eq (map g.E.Keyed.key_of (entries z))) view c.self.invariant.unique
