use Rattle.scc_uses.proofs.Ends.{begun, refused}
use Rattle.scc_uses.proofs.sessions.Sessions.begin.Goals as goal

pub returns-clause-begun : goal.returns-clause-begun
returns-clause-begun c = begun c.args.self.now c.insert_sync.new.self c.args.id c.args.end _ c.insert_sync.result (rw c.self.view_is at c.insert_sync.ensures.step) (rw c.self.view_is at c.insert_sync.ensures.finds)

pub returns-clause-refused : goal.returns-clause-refused
returns-clause-refused c = refused c.args.self.now c.insert_sync.new.self c.args.id c.args.end _ c.insert_sync.result c.insert_sync.ensures.unique (rw c.self.view_is at c.insert_sync.ensures.step)
