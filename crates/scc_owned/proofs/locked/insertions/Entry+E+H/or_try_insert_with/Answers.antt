use Rattle.std.proofs.Common.{Ok, Err}
use Rattle.scc_owned.proofs.Inserting.{tries-as}
use Rattle.scc_owned.proofs.locked.insertions.Entry+E+H.or_try_insert_with.Goals as goal

pub returns : goal.returns
returns g c = tries-as g.E.Stored.lookups.made g.E.Stored.taking g.E.Key.PartialEq.eq _ (λ k v. goal.F-post g c.args.f (Ok v)) (λ k e. goal.F-post g c.args.f (Err e)) c.args.self c.or_try_insert_with_key.result c.or_try_insert_with_key.ensures (λ k v made. made.1) (λ k e made. made.1)
