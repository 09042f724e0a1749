use Rattle.std.proofs.Common.{◌≡◌, ◌≤◌, ◌-◌, ◌++◌, List, Bool, Result, length, take, drop, IfSome}
use Rattle.scc_common.specs.Contents.{entries, bucket_count, settings_of, notes_of, waiting_of}
use Rattle.scc_table.specs.Places.{IsPlace}
use Rattle.scc_common.specs.declared.errors.WalkError.{WalkError}
use Rattle.scc_common.specs.PairWalks.{CallableToWrite, CalledToWrite, GoesOn, Takes}
use Rattle.scc_table.proofs.walks.Steps.{reached}
use Rattle.scc_table.proofs.walks.Reach.{walk_spot}
use Rattle.scc_owned.proofs.map.walk.take.Map+K+V+H.take_walk.Given as goal

abbrev pub invariant-loop-at : goal.invariant-loop-at
invariant-loop-at g l = record {
  callable : CallableToWrite g.F.FnMut GoesOn l.f (drop (reached l.self (walk_spot l.self l.at)) (entries l.self));
  within : IfSome l.at (IsPlace l.self);
  buckets : bucket_count l.self ≡ bucket_count l.fn.self;
  settings : settings_of l.self ≡ settings_of l.fn.self;
  noted : notes_of l.self ≡ notes_of l.fn.self;
  waiting : waiting_of l.self ≡ waiting_of l.fn.self;
  room : g.L.Sink.capacity l.fn.taken ≤ g.L.Sink.capacity l.taken;
  calls : (more : List (g.row.K.Denot × g.row.V.Denot)) × (g.L.Sink.pairs l.taken ≡ g.L.Sink.pairs l.fn.taken ++ more)
      × ((stay next : List (g.row.K.Denot × g.row.V.Denot)) (r : Result Bool WalkError) (last : g.row.F.Denot) → Takes (CalledToWrite g.F.FnMut) l.f (drop (reached l.self (walk_spot l.self l.at)) (entries l.self)) stay next r last
      → Takes (CalledToWrite g.F.FnMut) l.fn.f (entries l.fn.self) (take (reached l.self (walk_spot l.self l.at)) (entries l.self) ++ stay) (more ++ next) r last);
}

abbrev pub decreases-loop-at : goal.decreases-loop-at
decreases-loop-at g l = length (entries l.self) - reached l.self (walk_spot l.self l.at)
