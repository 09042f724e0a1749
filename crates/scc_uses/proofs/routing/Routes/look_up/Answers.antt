use Rattle.std.proofs.Common.{rules}
use Rattle.scc_uses.specs.Routing.{route_to}
use Rattle.scc_uses.proofs.routing.Routes.look_up.Goals as goal

pub returns : goal.returns
unfolding route_to
returns c = search rules
