use Rattle.std.proofs.Common.{Ok, Err, refl}
use Rattle.std.specs.Fn.{FnOnceReturnsAt}
use Rattle.scc_owned_cache.proofs.Entries.{fails-at, made-put, made-refused, put-after, keeps-vacant}
use Rattle.scc_owned_cache.proofs.locked.insertions.Entry+K+V+H+R.or_try_put_with_key.Goals as goal

pub returns-in-Ok-put_new : goal.returns-in-Ok-put_new
returns-in-Ok-put_new g c =
    let x = c.in-Vacant.entry in
    let put = put-after g.K.PartialEq.eq x c.deref_mut.result.now c.put_new.new.self c.in-Ok.value c.in-Ok-put_new.evicted c.at.result _ c.at.ensures.guard c.at.ensures.place c.at.ensures.rest c.deref_mut.ensures.value c.in-Ok-put_new.ensures.step c.in-Ok-put_new.ensures.relocates c.put_new.ensures.once c.in-Ok-put_new.ensures.here.1 in
    record { entry = made-put c.args.self c.in-Vacant.entry c.in-Vacant.is (λ k v. FnOnceReturnsAt g.F.FnOnce c.args.f k (Ok v)) (λ k e. FnOnceReturnsAt g.F.FnOnce c.args.f k (Err e)) g.K.PartialEq.eq c.in-Ok.value c.in-Ok-put_new.evicted c.at.result (_, c.in-Ok.ensures, refl) put; refused = tt; evicted = rw c.in-Vacant.is c.in-Ok-put_new.ensures.evicted }

pub returns-in-Ok : goal.returns-in-Ok
returns-in-Ok g c = record { evicted = tt; entry = tt; refused = made-refused c.args.self c.in-Vacant.entry c.in-Vacant.is (λ k v. FnOnceReturnsAt g.F.FnOnce c.args.f k (Ok v)) (λ k e. FnOnceReturnsAt g.F.FnOnce c.args.f k (Err e)) c.in-Ok.value c.in-Err-put_new.pair (_, c.in-Ok.ensures, refl) c.in-Err-put_new.ensures.refused.0 (rw (← c.deref_mut.ensures.value) c.in-Err-put_new.ensures.refused.1) }

pub returns : goal.returns
returns g c = record { evicted = tt; entry = tt; refused = fails-at (λ k e. FnOnceReturnsAt g.F.FnOnce c.args.f k (Err e)) c.args.self c.in-Vacant.entry c.in-Err.error c.in-Vacant.is (_, c.in-Err.ensures, refl) }

pub put_new-requires-clause-kept : goal.put_new-requires-clause-kept
put_new-requires-clause-kept g c = keeps-vacant c.args.self c.in-Vacant.entry c.in-Vacant.is (λ k v. FnOnceReturnsAt g.F.FnOnce c.args.f k (Ok v)) g.R.Rule.holds c.in-Ok.value c.requires.keeps (_, c.in-Ok.ensures, refl)
