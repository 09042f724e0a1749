use Rattle.std.proofs.Common.{◌≡◌, length, IfSome}
use Rattle.scc_common.specs.Contents.{entries, bucket_count, settings_of, notes_of, waiting_of}
use Rattle.scc_table.specs.Places.{IsPlace}
use Rattle.scc_table.proofs.walks.Reach.{reached}
use Rattle.scc_owned.proofs.Owned.take_all.Given as goal

abbrev pub invariant-loop-at : goal.invariant-loop-at
invariant-loop-at g l = record {
  within : IfSome l.at (IsPlace l.self);
  first : reached l.self l.at ≡ 0;
  buckets : bucket_count l.self ≡ bucket_count l.fn.self;
  settings : settings_of l.self ≡ settings_of l.fn.self;
  noted : notes_of l.self ≡ notes_of l.fn.self;
  waiting : waiting_of l.self ≡ waiting_of l.fn.self;
}

abbrev pub decreases-loop-at : goal.decreases-loop-at
decreases-loop-at g l = length (entries l.self)
