use Rattle.std.proofs.Common.{drop, Bool, true}
use Rattle.std.specs.List.{flat_map}
use Rattle.scc_common.specs.Contents.{entries}
use Rattle.scc_array.specs.Shelf.{shelf_entries}
use Rattle.scc_common.specs.Walks.{CalledOn, CallableWhile, Walks}
use Rattle.scc_buckets.proofs.walk.versions.Buckets+SharedVersion+K+V+H.walk.Given as goal

abbrev pub invariant-loop-bucket : goal.invariant-loop-bucket
invariant-loop-bucket g l = record {
  callable : CallableWhile g.F.FnMut true l.f (flat_map shelf_entries (drop l.bucket l.array));
  rest : (b : Bool) (last : g.row.F.Denot) → Walks (CalledOn g.F.FnMut) l.f (flat_map shelf_entries (drop l.bucket l.array)) b last → Walks (CalledOn g.F.FnMut) l.fn.f (entries l.self) b last;
}
