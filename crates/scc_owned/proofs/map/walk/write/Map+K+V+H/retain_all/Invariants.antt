use Rattle.std.proofs.Common.{◌≡◌, ◌-◌, ◌++◌, List, length, take, drop, IfSome}
use Rattle.std.specs.Prelude.{⊤}
use Rattle.scc_common.specs.Contents.{entries, bucket_count, settings_of, notes_of, waiting_of}
use Rattle.scc_table.specs.Places.{IsPlace}
use Rattle.scc_common.specs.PairWalks.{CallableToWrite, CalledToWrite, Retains}
use Rattle.scc_table.proofs.walks.Steps.{reached}
use Rattle.scc_table.proofs.walks.Reach.{walk_spot}
use Rattle.scc_owned.proofs.map.walk.write.Map+K+V+H.retain_all.Given as goal

abbrev pub invariant-loop-at : goal.invariant-loop-at
invariant-loop-at g l = record {
  callable : CallableToWrite g.F.FnMut (λ answer. ⊤) l.f (drop (reached l.self (walk_spot l.self l.at)) (entries l.self));
  within : IfSome l.at (IsPlace l.self);
  buckets : bucket_count l.self ≡ bucket_count l.fn.self;
  settings : settings_of l.self ≡ settings_of l.fn.self;
  noted : notes_of l.self ≡ notes_of l.fn.self;
  waiting : waiting_of l.self ≡ waiting_of l.fn.self;
  calls : (stay : List (g.row.K.Denot × g.row.V.Denot)) (last : g.row.F.Denot) → Retains (CalledToWrite g.F.FnMut) l.f (drop (reached l.self (walk_spot l.self l.at)) (entries l.self)) stay last
      → Retains (CalledToWrite g.F.FnMut) l.fn.f (entries l.fn.self) (take (reached l.self (walk_spot l.self l.at)) (entries l.self) ++ stay) last;
}

abbrev pub decreases-loop-at : goal.decreases-loop-at
decreases-loop-at g l = length (entries l.self) - reached l.self (walk_spot l.self l.at)
