use Rattle.std.proofs.Common.{ap, nat_eq}
use Rattle.std.specs.Option.{option_map}
use Rattle.scc_common.specs.Pairs.{find}
use Rattle.scc_uses.specs.Sessions.{end_of}
use Rattle.scc_uses.proofs.sessions.Sessions.new.Goals as goal

pub returns : goal.returns
unfolding end_of
returns c id = ap (λ es. option_map (λ p. p.1) (find nat_eq es id)) c.new.ensures.entries
