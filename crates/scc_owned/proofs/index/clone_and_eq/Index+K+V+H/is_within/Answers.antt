use Rattle.std.proofs.Common.{◌≡◌, Some, refl, of_calls}
use Rattle.std.specs.Option.{option_eq}
use Rattle.scc_common.specs.Contents.{entries}
use Rattle.scc_common.specs.Pairs.{find}
use Rattle.scc_table.proofs.walks.Comparisons.{walk-list_all}
use Rattle.scc_owned.proofs.index.clone_and_eq.Index+K+V+H.is_within.Goals as goal

pub returns : goal.returns
returns g c =
    rw (← c.self.view_is) (walk-list_all (λ f. f.0.now ≡ c.args.other.now) (λ p. option_eq (λ p q. g.V.PartialEq.eq p.1 q.1) (Some p) (find g.K.PartialEq.eq (entries c.args.other.now) p.0)) (λ f p r f' i called. let m = called.called.met in rw (← called.shows) (search of_calls)) refl c.walk.ensures.1)
