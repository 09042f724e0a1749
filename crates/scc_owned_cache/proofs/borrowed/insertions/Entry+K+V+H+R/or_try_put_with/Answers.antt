use Rattle.std.proofs.Common.{Ok, Err, refl}
use Rattle.scc_owned_cache.proofs.Entries.{fails-as, puts-as}
use Rattle.scc_owned_cache.proofs.borrowed.insertions.Entry+K+V+H+R.or_try_put_with.Goals as goal

pub returns : goal.returns
returns g c = (
  (refl, c.or_try_put_with_key.follows.holds, c.or_try_put_with_key.follows.holds-at-none),
  record {
    entry = puts-as g.K.PartialEq.eq (λ k v. goal.F-post g c.args.f (Ok v)) c.args.self c.or_try_put_with_key.result c.or_try_put_with_key.ensures.entry (λ k v made. made.1);
    refused = fails-as (λ k v. goal.F-post g c.args.f (Ok v)) (λ k e. goal.F-post g c.args.f (Err e)) c.args.self c.or_try_put_with_key.result c.or_try_put_with_key.ensures.refused (λ k v made. made.1) (λ k e made. made.1);
    kept = tt;
  },
)
