use Rattle.std.proofs.Common.{rules}
use Rattle.scc_uses.proofs.Ends.{renewed}
use Rattle.scc_uses.proofs.sessions.Sessions.renew.Goals as goal

pub returns : goal.returns
returns c = renewed c.args.self.now c.update_sync.new.self _ _ c.args.id c.args.end (λ p u w at. search rules) c.update_sync.result c.is_some.result c.is_some.ensures (rw c.self.view_is at c.update_sync.ensures.step)
