use Rattle.scc_calls.proofs.Making.{made-for}
use Rattle.scc_calls.proofs.set_calls.OwnedCalls.make.Goals as goal

pub returns-clause-made : goal.returns-clause-made
returns-clause-made g c = made-for c.args.hasher c.args.skipped c.args.slots c.args.maximum c.skipping.result c.skipping.ensures.none c.skipping.ensures.size c.skipping.ensures.settings
