use Rattle.std.proofs.Common.{Ok, Err, refl}
use Rattle.std.specs.Fn.{FnOnceReturnsAt}
use Rattle.scc_owned.specs.Insertions.{Memory}
use Rattle.scc_owned.proofs.Inserting.{fails-at, inserts-at-vacant, through-vacant}
use Rattle.scc_owned.proofs.HeldEntries.{same-made}
use Rattle.scc_owned.proofs.locked.insertions.Entry+E+H.or_try_insert_with_key.Goals as goal

pub returns-in-Occupied : goal.returns-in-Occupied
returns-in-Occupied g c = record {
  entry = rw c.in-Occupied.is (same-made c.in-Occupied.entry c.at.result c.at.ensures.guard c.at.ensures.place c.at.ensures.rest);
  refused = tt;
  vacant = tt;
  full = tt;
  growth = rw c.in-Occupied.is tt;
  relocates = rw (c.in-Occupied.is, c.at.ensures.guard) refl;
  unique = c.at.result.unique;
}

pub returns-in-Ok-insert_into : goal.returns-in-Ok-insert_into
returns-in-Ok-insert_into g c =
    let x = c.in-Vacant.entry in
    let put = inserts-at-vacant g.E.Key.PartialEq.eq _ x c.deref_mut.result.now c.insert_into.new.owned c.in-Ok.value c.at-in-Ok-insert_into.result _ c.at-in-Ok-insert_into.ensures.guard c.at-in-Ok-insert_into.ensures.place c.at-in-Ok-insert_into.ensures.rest c.deref_mut.ensures.value c.in-Ok-insert_into.ensures.ok c.in-Ok-insert_into.ensures.growth c.insert_into.ensures.relocates c.in-Ok-insert_into.ensures.two c.insert_into.ensures.unique in
    through-vacant g.E.Key.PartialEq.eq _ (λ k v. FnOnceReturnsAt g.F.FnOnce c.args.f k (Ok v)) c.args.self x c.in-Ok.value (Ok c.at-in-Ok-insert_into.result) c.in-Vacant.is (_, c.in-Ok.ensures, refl) put

pub returns-in-Ok : goal.returns-in-Ok
returns-in-Ok g c =
    let x = c.in-Vacant.entry in
    through-vacant g.E.Key.PartialEq.eq _ (λ k v. FnOnceReturnsAt g.F.FnOnce c.args.f k (Ok v)) c.args.self x c.in-Ok.value (Err (Memory c.in-Err-insert_into.pair)) c.in-Vacant.is (_, c.in-Ok.ensures, refl) record { inserted = tt; growth = tt; relocates = tt; two = tt; unique = tt; refused = rw c.in-Err-insert_into.ensures.refused refl; full = rw (← c.deref_mut.ensures.value) c.in-Err-insert_into.ensures.full }

pub returns : goal.returns
returns g c = fails-at (λ k e. FnOnceReturnsAt g.F.FnOnce c.args.f k (Err e)) c.args.self c.in-Vacant.entry c.in-Err.error c.in-Vacant.is (_, c.in-Err.ensures, refl)

pub insert_into-requires-clause-allowed : goal.insert_into-requires-clause-allowed
insert_into-requires-clause-allowed g c = let keeps = rw c.in-Vacant.is at c.requires.keeps in keeps tt c.in-Ok.value (_, c.in-Ok.ensures, refl)
