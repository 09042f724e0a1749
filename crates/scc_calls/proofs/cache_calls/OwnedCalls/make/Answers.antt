use Rattle.scc_calls.proofs.CacheMaking.{made-for-cache, made-empty, made-size}
use Rattle.scc_calls.proofs.cache_calls.OwnedCalls.make.Goals as goal

pub returns-clause-made : goal.returns-clause-made
returns-clause-made g c = made-for-cache c.args.hasher c.args.skipped c.args.slots c.args.maximum c.skipping.result c.skipping.ensures.made.none c.skipping.ensures.made.size c.skipping.ensures.made.settings c.skipping.ensures.made.maximum

pub returns-clause-state : goal.returns-clause-state
returns-clause-state g c = made-empty c.skipping.result c.skipping.ensures.made.entries

pub returns-clause-size : goal.returns-clause-size
returns-clause-size g c = made-size c.args.hasher c.args.skipped c.skipping.result c.skipping.ensures.made.settings
