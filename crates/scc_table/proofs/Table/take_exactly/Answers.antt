use Rattle.std.proofs.Common.{◌<◌, map, subst, arith}
use Rattle.std.specs.List.{IsDistinct}
use Rattle.scc_common.specs.Contents.{Contents, bucket_count, entries}
use Rattle.scc_table.proofs.removals.CurrentEntry.{entry-here, entry-less, entry-owed, entry-read, entry-taken, entry-waiting}
use Rattle.scc_table.proofs.Table.take_exactly.Goals as goal

pub take_in-requires : goal.take_in-requires
take_in-requires g c =
    let below : c.args.place.bucket < bucket_count c.args.self.now = omega (arith, c.bucket_count.ensures.count, c.if-place-bucket_count.true) in
    entry-here g.met.E.Key.Eq.laws g.H.Hashes.hash_of c.self.invariant c.self.view_is c.args.place c.requires below

pub invariant_of-self : goal.invariant_of-self
invariant_of-self g c =
    let below : c.args.place.bucket < bucket_count c.args.self.now = omega (arith, c.bucket_count.ensures.count, c.if-place-bucket_count.true) in
    entry-less g.met.E.Key.Eq.laws g.H.Hashes.hash_of c.self.invariant c.self.view_is c.args.place c.requires below c.take_in.result c.take_in.ensures.entry c.take_in.new.self c.take_in.ensures.exact

pub returns-then-place-bucket_count-clause-entry : goal.returns-then-place-bucket_count-clause-entry
returns-then-place-bucket_count-clause-entry g c =
    let below : c.args.place.bucket < bucket_count c.args.self.now = omega (arith, c.bucket_count.ensures.count, c.if-place-bucket_count.true) in
    entry-read g.met.E.Key.Eq.laws g.H.Hashes.hash_of c.self.invariant c.self.view_is c.args.place c.requires below c.take_in.result c.take_in.ensures.entry

pub returns-then-place-bucket_count-clause-waiting : goal.returns-then-place-bucket_count-clause-waiting
returns-then-place-bucket_count-clause-waiting g c =
    let below : c.args.place.bucket < bucket_count c.args.self.now = omega (arith, c.bucket_count.ensures.count, c.if-place-bucket_count.true) in
    entry-waiting g.met.E.Key.Eq.laws g.H.Hashes.hash_of c.self.invariant c.self.view_is c.args.place c.requires below c.take_in.result c.take_in.ensures.entry c.take_in.new.self c.take_in.ensures.exact

pub returns-then-place-bucket_count-clause-owed : goal.returns-then-place-bucket_count-clause-owed
returns-then-place-bucket_count-clause-owed g c =
    let below : c.args.place.bucket < bucket_count c.args.self.now = omega (arith, c.bucket_count.ensures.count, c.if-place-bucket_count.true) in
    entry-owed g.met.E.Key.Eq.laws g.H.Hashes.hash_of c.self.invariant c.self.view_is c.args.place c.requires below c.take_in.result c.take_in.ensures.entry c.take_in.new.self c.take_in.ensures.exact

pub returns-then-place-bucket_count-clause-exact : goal.returns-then-place-bucket_count-clause-exact
returns-then-place-bucket_count-clause-exact g c =
    let below : c.args.place.bucket < bucket_count c.args.self.now = omega (arith, c.bucket_count.ensures.count, c.if-place-bucket_count.true) in
    entry-taken g.met.E.Key.Eq.laws g.H.Hashes.hash_of c.self.invariant c.self.view_is c.args.place c.requires below c.take_in.result c.take_in.ensures.entry c.take_in.new.self c.take_in.ensures.exact

pub returns-then-place-bucket_count-clause-unique : goal.returns-then-place-bucket_count-clause-unique
returns-then-place-bucket_count-clause-unique g c =
    let view = c.self.view_is in
    subst (λ (z : Contents g.row.E.Denot g.row.H.Denot). IsDistinct g.E.Key.PartialEq.eq (map g.E.Keyed.key_of (entries z))) view c.self.invariant.unique
