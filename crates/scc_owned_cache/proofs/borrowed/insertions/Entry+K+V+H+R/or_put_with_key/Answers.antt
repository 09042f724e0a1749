use Rattle.std.proofs.Common.{refl}
use Rattle.std.specs.Fn.{FnOnceReturnsAt}
use Rattle.scc_owned_cache.proofs.Entries.{none-refused, some-handed, some-put, some-refused, refused-through, keeps-vacant}
use Rattle.scc_owned_cache.proofs.borrowed.insertions.Entry+K+V+H+R.or_put_with_key.Goals as goal

pub returns-in-Occupied : goal.returns-in-Occupied
returns-in-Occupied g c =
    let self = c.args.self in
    let o = c.in-Occupied.entry in
    let r = c.as_it_is.result in
    let is = c.in-Occupied.is in
    let same = c.as_it_is.ensures.same in
    ((refl, c.as_it_is.follows.holds, none-refused r same _), record { entry = some-handed g.K.PartialEq.eq self o r is same (FnOnceReturnsAt g.F.FnOnce c.args.f); refused = none-refused r same _; kept = tt })

pub returns-in-Vacant : goal.returns-in-Vacant
returns-in-Vacant g c =
    let self = c.args.self in
    let x = c.in-Vacant.entry in
    let r = c.put_entry.result in
    let is = c.in-Vacant.is in
    let p = c.put_entry.ensures in
    ((refl, c.put_entry.follows.holds, refused-through self x r _ is c.put_entry.follows.holds-at-none), record { entry = some-put self x r is g.K.PartialEq.eq (FnOnceReturnsAt g.F.FnOnce c.args.f) c.f-value.result (c.key.result, c.f-value.ensures, c.key.ensures) p.put; refused = some-refused self x r is (FnOnceReturnsAt g.F.FnOnce c.args.f) c.f-value.result (c.key.result, c.f-value.ensures, c.key.ensures) p.refused; kept = tt })

pub put_entry-requires : goal.put_entry-requires
put_entry-requires g c = keeps-vacant c.args.self c.in-Vacant.entry c.in-Vacant.is (FnOnceReturnsAt g.F.FnOnce c.args.f) g.R.Rule.holds c.f-value.result c.requires.keeps (c.key.result, c.f-value.ensures, c.key.ensures)
