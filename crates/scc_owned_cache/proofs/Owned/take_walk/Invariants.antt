use Rattle.std.proofs.Common.{◌≡◌, ◌≤◌, ◌-◌, ◌++◌, List, Bool, Result, length, take, drop, IfSome}
use Rattle.std.specs.Vec.{vec_capacity}
use Rattle.scc_common.specs.Contents.{entries, bucket_count, settings_of, notes_of, waiting_of}
use Rattle.scc_table.specs.Places.{IsPlace}
use Rattle.scc_common.specs.declared.errors.WalkError.{WalkError}
use Rattle.scc_common.specs.PairWalks.{GoesOn, Takes}
use Rattle.scc_common.specs.RuleWalks.{CallableToWriteKept, CalledToWriteKept}
use Rattle.scc_table.proofs.walks.Steps.{reached}
use Rattle.scc_table.proofs.walks.Reach.{walk_spot}
use Rattle.scc_owned_cache.proofs.Owned.take_walk.Given as goal

abbrev pub invariant-loop-at : goal.invariant-loop-at
invariant-loop-at g l = record {
  callable : CallableToWriteKept g.R.Rule.holds g.F.FnMut GoesOn l.f (drop (reached l.self.contents (walk_spot l.self.contents l.at)) (entries l.self.contents));
  within : IfSome l.at (IsPlace l.self.contents);
  buckets : bucket_count l.self.contents ≡ bucket_count l.fn.self.contents;
  settings : settings_of l.self.contents ≡ settings_of l.fn.self.contents;
  refused : notes_of l.self.contents ≡ notes_of l.fn.self.contents;
  maximum : l.self.maximum ≡ l.fn.self.maximum;
  waiting : waiting_of l.self.contents ≡ waiting_of l.fn.self.contents;
  room : vec_capacity l.fn.taken ≤ vec_capacity l.taken;
  calls : (more : List (g.row.K.Denot × g.row.V.Denot)) × (l.taken.items ≡ l.fn.taken.items ++ more)
      × ((stay next : List (g.row.K.Denot × g.row.V.Denot)) (r : Result Bool WalkError) (last : g.row.F.Denot) → Takes (CalledToWriteKept g.R.Rule.holds g.F.FnMut) l.f (drop (reached l.self.contents (walk_spot l.self.contents l.at)) (entries l.self.contents)) stay next r last
      → Takes (CalledToWriteKept g.R.Rule.holds g.F.FnMut) l.fn.f (entries l.fn.self.contents) (take (reached l.self.contents (walk_spot l.self.contents l.at)) (entries l.self.contents) ++ stay) (more ++ next) r last);
}

abbrev pub decreases-loop-at : goal.decreases-loop-at
decreases-loop-at g l = length (entries l.self.contents) - reached l.self.contents (walk_spot l.self.contents l.at)
