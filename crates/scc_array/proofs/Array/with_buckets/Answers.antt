use Rattle.scc_array.proofs.Shelves.{shelves-empty}
use Rattle.std.specs.declared.alloc.Global.{Global}
use Rattle.scc_array.proofs.Array.with_buckets.Goals as goal

pub returns : goal.returns
returns g c = rw (c.in_ok-columns.ensures, c.new.ensures.items) (shelves-empty g.row.E.Denot Global c.args.count)
