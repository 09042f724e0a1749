use Rattle.std.proofs.Common.{true}
use Rattle.scc_common.proofs.RuleWalks.{callable-each}
use Rattle.scc_shared_cache.proofs.walks.ruled.RuledCache+K+V+R+H.iter_sync.Goals as goal

pub iter_stripes-requires : goal.iter_stripes-requires
iter_stripes-requires g c = λ es. callable-each g.R.Rule.holds g.F.FnMut true c.args.f es c.requires
