use Rattle.std.proofs.Common.{drop, Bool, true}
use Rattle.scc_array.specs.Shelves.{shelf_of}
use Rattle.scc_array.specs.Shelf.{shelf_entries}
use Rattle.scc_common.specs.Walks.{CalledOn, CallableWhile, Walks}
use Rattle.scc_buckets.proofs.walk.pairs.walk_bucket.Given as goal

abbrev pub invariant-loop-place : goal.invariant-loop-place
invariant-loop-place g l = record {
  callable : CallableWhile g.F.FnMut true l.f (drop l.place (shelf_entries (shelf_of l.array l.bucket)));
  rest : (b : Bool) (last : g.row.F.Denot) → Walks (CalledOn g.F.FnMut) l.f (drop l.place (shelf_entries (shelf_of l.array l.bucket))) b last → Walks (CalledOn g.F.FnMut) l.fn.f (shelf_entries (shelf_of l.array l.bucket)) b last;
}
