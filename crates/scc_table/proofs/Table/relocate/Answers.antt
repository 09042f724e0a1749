use Rattle.std.proofs.Common.{◌∙◌, length, sym, ap, subst, arith}
use Rattle.std.proofs.lemmas.List.Concat.{length-flat_map}
use Rattle.std.proofs.lemmas.Result.{on_err_weaker, on_ok_weaker}
use Rattle.scc_array.specs.Shelf.{shelf_entries}
use Rattle.scc_common.specs.Contents.{Contents, hash_in, overflow_of, waiting_of}
use Rattle.scc_buckets.specs.Bounded.{IsListed}
use Rattle.scc_table.specs.TwoArrays.{waits_at}
use Rattle.scc_table.proofs.arrays.NoneWaits.{either-answer}
use Rattle.scc_table.proofs.arrays.OneBucket.{flag-up, flags-whole, list-coming, old-multiples, old-sized, routed-seen, unique-coming}
use Rattle.scc_table.proofs.relocations.MovedOut.{moved-bounded, moved-fields, moved-relocated}
use Rattle.scc_table.proofs.relocations.ShortLists.{listed-later, settle-here}
use Rattle.scc_table.proofs.relocations.Targets.{targets-after}
use Rattle.scc_table.proofs.Table.relocate.Goals as goal

pub relocate-requires-clause-waits : goal.relocate-requires-clause-waits
relocate-requires-clause-waits g c = flag-up c.self.invariant _ c.self.view_is c.requires

pub relocate-requires-clause-flags : goal.relocate-requires-clause-flags
relocate-requires-clause-flags g c = flags-whole c.self.invariant _ (flag-up c.self.invariant _ c.self.view_is c.requires)

pub relocate-requires-clause-bare : goal.relocate-requires-clause-bare
relocate-requires-clause-bare g c = c.self.invariant.arrays.bare c.args.bucket (flag-up c.self.invariant _ c.self.view_is c.requires)

pub relocate-requires-clause-sized : goal.relocate-requires-clause-sized
relocate-requires-clause-sized g c = old-sized c.self.invariant _ (flag-up c.self.invariant _ c.self.view_is c.requires)

pub relocate-requires-clause-multiples : goal.relocate-requires-clause-multiples
relocate-requires-clause-multiples g c = old-multiples c.self.invariant _ (flag-up c.self.invariant _ c.self.view_is c.requires)

pub relocate-requires-clause-left : goal.relocate-requires-clause-left
relocate-requires-clause-left g c = let all = length-flat_map (shelf_entries {E = g.row.E.Denot}) c.self.inside.draining.array in omega (arith, all, c.self.invariant.left_is)

pub relocate-requires-clause-unique : goal.relocate-requires-clause-unique
relocate-requires-clause-unique g c = unique-coming c.self.invariant _ (flag-up c.self.invariant _ c.self.view_is c.requires)

pub invariant_of-self : goal.invariant_of-self
invariant_of-self g c =
    let e = c.relocate.ensures in
    let inv = c.self.invariant in
    either-answer c.relocate.result e.ok e.err (λ x out. moved-fields g.H.Hashes.hash_of inv c.self.view_is c.requires out) (λ y stays. rw (stays.0, stays.1) inv)

pub returns-clause-ok : goal.returns-clause-ok
returns-clause-ok g c = on_ok_weaker c.relocate.result (λ out. moved-relocated g.H.Hashes.hash_of c.self.invariant c.self.view_is c.requires out) c.relocate.ensures.ok

pub returns-clause-err : goal.returns-clause-err
returns-clause-err g c = on_err_weaker c.relocate.result (λ stays. rw (stays.0, stays.1) c.self.view_is) c.relocate.ensures.err

pub returns-clause-refused : goal.returns-clause-refused
returns-clause-refused g c =
    let inv = c.self.invariant in
    let coming = ap length (list-coming inv _ (flag-up inv _ c.self.view_is c.requires) c.self.view_is) in
    on_err_weaker c.relocate.result (λ many. omega (arith, coming, many)) c.relocate.ensures.refused

pub returns-clause-bounded : goal.returns-clause-bounded
returns-clause-bounded g c =
    let e = c.relocate.ensures in
    either-answer c.relocate.result e.ok e.err (λ x out. moved-bounded g.H.Hashes.hash_of c.self.invariant c.self.view_is c.requires out)
    (λ y stays none few. rw (stays.0, stays.1) (ap overflow_of c.self.view_is ∙ none))

pub returns-clause-listed : goal.returns-clause-listed
returns-clause-listed g c =
    let e = c.relocate.ensures in
    let inv = c.self.invariant in
    let view = c.self.view_is in
    λ h. either-answer c.relocate.result e.ok e.err
    (λ x out.
    let r = moved-relocated g.H.Hashes.hash_of inv view c.requires out in
    let bounded = moved-bounded g.H.Hashes.hash_of inv view c.requires out h.bounded (h.short c.args.bucket) in
    listed-later (λ s (e : g.row.E.Denot). g.H.Hashes.hash_of s.hasher (g.E.Keyed.key_of e)) c.args.self.now _ r.lists r.settings bounded h)
    (λ y stays.
    rw (stays.0, stays.1) (subst (λ (z : Contents g.row.E.Denot g.row.H.Denot). IsListed (λ (e : g.row.E.Denot). hash_in g.H.Hashes.hash_of z (g.E.Keyed.key_of e)) z) (sym view) h))

pub returns-clause-not_waiting : goal.returns-clause-not_waiting
returns-clause-not_waiting g c =
    let a = c.args.self.now in
    on_ok_weaker c.relocate.result (λ out. ap (λ w. waits_at w c.args.bucket) (moved-relocated g.H.Hashes.hash_of c.self.invariant c.self.view_is c.requires out).waiting ∙ settle-here (waiting_of a) c.args.bucket) c.relocate.ensures.ok

pub returns-clause-targets : goal.returns-clause-targets
returns-clause-targets g c =
    on_ok_weaker c.relocate.result (λ out. targets-after c.args.bucket c.args.self.now _ (moved-relocated g.H.Hashes.hash_of c.self.invariant c.self.view_is c.requires out)) c.relocate.ensures.ok

pub returns-clause-routed : goal.returns-clause-routed
returns-clause-routed g c = routed-seen g.H.Hashes.hash_of g.E.Keyed.key_of c.self.invariant c.self.view_is c.relocate.ensures.routed

pub returns-clause-unique : goal.returns-clause-unique
returns-clause-unique g c = (invariant_of-self g c).unique
