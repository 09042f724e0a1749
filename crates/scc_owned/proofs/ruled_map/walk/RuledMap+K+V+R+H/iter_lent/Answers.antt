use Rattle.std.proofs.Common.{true, take}
use Rattle.scc_common.specs.Contents.{entries}
use Rattle.scc_common.proofs.RuleWalks.{callable-kept}
use Rattle.scc_owned.proofs.ruled_map.walk.RuledMap+K+V+R+H.iter_lent.Goals as goal

pub walk_while-requires : goal.walk_while-requires
walk_while-requires g c = λ n kept. callable-kept g.R.Rule.holds g.F.FnMut true c.requires c.args.f.now (take n (entries c.args.self.now)) kept
