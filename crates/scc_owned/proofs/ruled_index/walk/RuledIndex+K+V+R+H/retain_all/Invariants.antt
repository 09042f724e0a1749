use Rattle.std.proofs.Common.{◌≡◌, ◌-◌, ◌++◌, List, length, drop, take, IfSome}
use Rattle.scc_common.specs.Contents.{bucket_count, entries, notes_of, settings_of, waiting_of}
use Rattle.scc_common.specs.Walks.{CalledOn}
use Rattle.scc_owned.specs.IndexWalks.{Retains}
use Rattle.scc_common.specs.Rules.{AllKeep}
use Rattle.scc_table.specs.Places.{IsPlace}
use Rattle.scc_table.proofs.walks.Reach.{reached}
use Rattle.scc_owned.proofs.ruled_index.walk.RuledIndex+K+V+R+H.retain_all.Given as goal

abbrev pub invariant-loop-at : goal.invariant-loop-at
invariant-loop-at g l = record {
  buckets : bucket_count l.self ≡ bucket_count l.fn.self;
  settings : settings_of l.self ≡ settings_of l.fn.self;
  noted : notes_of l.self ≡ notes_of l.fn.self;
  waiting : waiting_of l.self ≡ waiting_of l.fn.self;
  within : IfSome l.at (IsPlace l.self);
  seen : (es : List (g.row.K.Denot × g.row.V.Denot)) × (stay : List (g.row.K.Denot × g.row.V.Denot)) × (entries l.fn.self ≡ es ++ drop (reached l.self l.at) (entries l.self)) × AllKeep g.R.Rule.holds es × AllKeep g.R.Rule.holds stay × Retains (CalledOn g.F.FnMut) l.fn.f es stay l.f
      × (take (reached l.self l.at) (entries l.self) ≡ stay);
}

abbrev pub decreases-loop-at : goal.decreases-loop-at
decreases-loop-at g l = length (entries l.self) - reached l.self l.at
