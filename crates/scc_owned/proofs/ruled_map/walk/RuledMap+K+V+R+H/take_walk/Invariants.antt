use Rattle.std.proofs.Common.{◌≡◌, ◌≤◌, ◌-◌, ◌++◌, List, length, drop, take, IfSome, Ok, true}
use Rattle.scc_common.specs.Contents.{bucket_count, entries, notes_of, settings_of, waiting_of}
use Rattle.scc_common.specs.PairWalks.{CalledToWrite, Takes}
use Rattle.scc_common.specs.Rules.{AllKeep}
use Rattle.scc_table.specs.Places.{IsPlace}
use Rattle.scc_table.proofs.walks.Steps.{reached}
use Rattle.scc_table.proofs.walks.Reach.{walk_spot}
use Rattle.scc_owned.proofs.ruled_map.walk.RuledMap+K+V+R+H.take_walk.Given as goal

abbrev pub invariant-loop-at : goal.invariant-loop-at
invariant-loop-at g l = record {
  buckets : bucket_count l.self ≡ bucket_count l.fn.self;
  settings : settings_of l.self ≡ settings_of l.fn.self;
  noted : notes_of l.self ≡ notes_of l.fn.self;
  waiting : waiting_of l.self ≡ waiting_of l.fn.self;
  within : IfSome l.at (IsPlace l.self);
  room : g.L.Sink.capacity l.fn.taken ≤ g.L.Sink.capacity l.taken;
  seen : (es : List (g.row.K.Denot × g.row.V.Denot)) × (stay : List (g.row.K.Denot × g.row.V.Denot)) × (more : List (g.row.K.Denot × g.row.V.Denot)) × (entries l.fn.self ≡ es ++ drop (reached l.self (walk_spot l.self l.at)) (entries l.self)) × AllKeep g.R.Rule.holds es × AllKeep g.R.Rule.holds stay × AllKeep g.R.Rule.holds more
      × Takes (CalledToWrite g.F.FnMut) l.fn.f es stay more (Ok true) l.f × (g.L.Sink.pairs l.taken ≡ g.L.Sink.pairs l.fn.taken ++ more) × (take (reached l.self (walk_spot l.self l.at)) (entries l.self) ≡ stay);
}

abbrev pub decreases-loop-at : goal.decreases-loop-at
decreases-loop-at g l = length (entries l.self) - reached l.self (walk_spot l.self l.at)
