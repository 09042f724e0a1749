use Rattle.std.proofs.Common.{refl}
use Rattle.scc_owned_cache.proofs.Entries.{refused-through, none-refused, some-handed, some-put, some-refused}
use Rattle.scc_owned_cache.proofs.borrowed.insertions.Entry+K+V+H+R.or_default.Goals as goal

pub returns-in-Occupied : goal.returns-in-Occupied
returns-in-Occupied g c =
    let self = c.args.self in
    let o = c.in-Occupied.entry in
    let r = c.as_it_is.result in
    let is = c.in-Occupied.is in
    let same = c.as_it_is.ensures.same in
    ((refl, c.as_it_is.follows.holds, none-refused r same _), record { entry = some-handed g.K.PartialEq.eq self o r is same (λ k v. g.V.MadeWith.is_made_with v); refused = none-refused r same _; kept = tt })

pub returns-in-Vacant : goal.returns-in-Vacant
returns-in-Vacant g c =
    let self = c.args.self in
    let x = c.in-Vacant.entry in
    let r = c.put_entry.result in
    let is = c.in-Vacant.is in
    let p = c.put_entry.ensures in
    ((refl, c.put_entry.follows.holds, refused-through self x r _ is c.put_entry.follows.holds-at-none), record { entry = some-put self x r is g.K.PartialEq.eq (λ k v. g.V.MadeWith.is_made_with v) c.made_with-value.result c.made_with-value.ensures p.put; refused = some-refused self x r is (λ k v. g.V.MadeWith.is_made_with v) c.made_with-value.result c.made_with-value.ensures p.refused; kept = tt })

pub put_entry-requires : goal.put_entry-requires
put_entry-requires g c = (rw c.in-Vacant.is at c.requires) tt c.made_with-value.result c.made_with-value.ensures
