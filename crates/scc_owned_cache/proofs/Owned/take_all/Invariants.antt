use Rattle.std.proofs.Common.{◌≡◌, length, IfSome}
use Rattle.scc_common.specs.Contents.{entries, bucket_count, settings_of, notes_of, waiting_of}
use Rattle.scc_table.specs.Places.{IsPlace}
use Rattle.scc_table.proofs.walks.Reach.{reached}
use Rattle.scc_owned_cache.proofs.Owned.take_all.Given as goal

abbrev pub invariant-loop-at : goal.invariant-loop-at
invariant-loop-at g l = record {
  within : IfSome l.at (IsPlace l.self.contents);
  first : reached l.self.contents l.at ≡ 0;
  buckets : bucket_count l.self.contents ≡ bucket_count l.fn.self.contents;
  settings : settings_of l.self.contents ≡ settings_of l.fn.self.contents;
  refused : notes_of l.self.contents ≡ notes_of l.fn.self.contents;
  maximum : l.self.maximum ≡ l.fn.self.maximum;
  waiting : waiting_of l.self.contents ≡ waiting_of l.fn.self.contents;
}

abbrev pub decreases-loop-at : goal.decreases-loop-at
decreases-loop-at g l = length (entries l.self.contents)
