use Rattle.std.proofs.Common.{refl, sym, subst}
use Rattle.scc_owned_cache.proofs.Entries.{refused-through, or-refused, pair-is, sets-put, within-after, written-after}
use Rattle.scc_owned_cache.proofs.borrowed.insertions.Entry+K+V+H+R.put_entry.Goals as goal

pub write_at-old-requires-clause-kept : goal.write_at-old-requires-clause-kept
write_at-old-requires-clause-kept g c = λ p got. subst (λ (q : g.row.K.Denot × g.row.V.Denot). g.R.Rule.holds q.0 c.args.value) (sym (pair-is c.in-Occupied.entry c.in-Occupied.entry.guard.now p refl got)) (rw c.in-Occupied.is at c.requires)

pub put_entry-requires : goal.put_entry-requires
put_entry-requires g c = rw c.in-Vacant.is at c.requires

pub invariant_of-self : goal.invariant_of-self
invariant_of-self g c = record { within = within-after c.in-Occupied.entry c.in-Occupied.entry.guard.now c.write_at-old.new.self c.args.value refl c.write_at-old.ensures.new }

pub returns-in-Occupied : goal.returns-in-Occupied
returns-in-Occupied g c =
    ((refl, λ w. refl, tt), record { entry = rw c.in-Occupied.is (refl, written-after c.in-Occupied.entry c.in-Occupied.entry.guard.now c.write_at-old.new.self c.args.value refl c.write_at-old.ensures.new _); refused = tt; kept = tt })

pub returns-in-Vacant : goal.returns-in-Vacant
returns-in-Vacant g c =
    let self = c.args.self in
    let x = c.in-Vacant.entry in
    let r = c.put_entry.result in
    let is = c.in-Vacant.is in
    let p = c.put_entry.ensures in
    ((refl, c.put_entry.follows.holds, refused-through self x r _ is c.put_entry.follows.holds-at-none), record { entry = sets-put self x r is g.K.PartialEq.eq c.args.value p.put; refused = or-refused self x r is c.args.value p.refused; kept = tt })
