use Rattle.std.proofs.Common.{◌-◌, Bool, length, drop, IfSome, true}
use Rattle.scc_common.specs.Contents.{entries}
use Rattle.scc_table.specs.Places.{IsPlace}
use Rattle.scc_common.specs.RuleWalks.{CallableOnKept, CalledOnKept}
use Rattle.scc_common.specs.Walks.{Walks}
use Rattle.scc_table.proofs.walks.Reach.{reached}
use Rattle.scc_owned_cache.proofs.Owned.iter_lent.Given as goal

abbrev pub invariant-loop-at : goal.invariant-loop-at
invariant-loop-at g l = record {
  callable : CallableOnKept g.R.Rule.holds g.F.FnMut true l.f (drop (reached l.self.contents l.at) (entries l.self.contents));
  within : IfSome l.at (IsPlace l.self.contents);
  calls : (b : Bool) (last : g.row.F.Denot) → Walks (CalledOnKept g.R.Rule.holds g.F.FnMut) l.f (drop (reached l.self.contents l.at) (entries l.self.contents)) b last → Walks (CalledOnKept g.R.Rule.holds g.F.FnMut) l.fn.f (entries l.self.contents) b last;
}

abbrev pub decreases-loop-at : goal.decreases-loop-at
decreases-loop-at g l = length (entries l.self.contents) - reached l.self.contents l.at
