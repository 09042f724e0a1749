use Rattle.std.proofs.Common.{ap, nat_eq}
use Rattle.std.specs.Option.{option_map}
use Rattle.scc_common.specs.Pairs.{find}
use Rattle.scc_uses.specs.Routing.{route_to}
use Rattle.scc_uses.proofs.routing.Routes.new.Goals as goal

pub returns : goal.returns
unfolding route_to
returns c d = ap (λ es. option_map (λ p. p.1) (find nat_eq es d)) c.new.ensures.entries
