use Rattle.std.proofs.Common.{◌≡◌, ◌-◌, length, take, IfSome}
use Rattle.std.specs.List.{FoldsTo}
use Rattle.scc_common.specs.Contents.{entries}
use Rattle.scc_common.specs.Routing.{stripe_of}
use Rattle.scc_stripes.specs.Parts.{part_count, parts_hasher, parts_of, parts_owner}
use Rattle.scc_table.specs.Places.{IsPlace}
use Rattle.scc_table.proofs.walks.Reach.{reached}
use Rattle.scc_shared.specs.Copying.{InsertsClones}
use Rattle.scc_shared.proofs.unlocked.Unlocked.insert_all.Given as goal

abbrev pub invariant-loop-at : goal.invariant-loop-at
invariant-loop-at g l = record {
  within : IfSome l.at (IsPlace l.from);
  hasher : parts_owner l.self.parts ≡ parts_owner l.fn.self.parts;
  count : part_count l.self.parts ≡ part_count l.fn.self.parts;
  made : FoldsTo (InsertsClones g.E.Stored.lookups g.E.Key.PartialEq.eq g.E.Key.Clone.is_clone g.E.Value.Clone.is_clone (stripe_of g.H.BuildHasher g.H.Hasher.Hasher g.E.Key.Hash.hash_input (parts_hasher l.fn.self.parts) (part_count l.fn.self.parts))) (parts_of l.fn.self.parts) (take (reached l.from l.at) (entries l.from)) (parts_of l.self.parts);
}

abbrev pub decreases-loop-at : goal.decreases-loop-at
decreases-loop-at g l = length (entries l.from) - reached l.from l.at
