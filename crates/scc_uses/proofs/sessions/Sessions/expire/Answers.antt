use Rattle.std.proofs.Common.{rules}
use Rattle.scc_uses.proofs.Ends.{expired}
use Rattle.scc_uses.proofs.sessions.Sessions.expire.Goals as goal

pub returns : goal.returns
returns c = expired c.args.self.now c.remove_if_sync.new.self _ _ c.args.id c.args.now (λ m b n call. search rules) c.remove_if_sync.result c.is_some.result c.is_some.ensures (rw c.self.view_is at c.remove_if_sync.ensures.step) (rw c.self.view_is at c.remove_if_sync.ensures.finds)
