use Rattle.std.proofs.Common.{arith}
use Rattle.scc_array.proofs.Bucket.{packed-there, number-small, filled-there, entry-there}
use Rattle.scc_array.proofs.columns.Columns.entry_at.Goals as goal

pub overflow_mul-bucket : goal.overflow_mul-bucket
overflow_mul-bucket g c = record { fits = let n = number-small c.self.inside.tags.items c.self.inside.slots c.self.invariant c.args.self.now c.self.view_is c.args.bucket c.requires.bucket in omega arith }

pub overflow_add-bucket : goal.overflow_add-bucket
overflow_add-bucket g c =
    let rows = c.self.inside.tags.items in let cells = c.self.inside.slots in
    let n = number-small rows cells c.self.invariant c.args.self.now c.self.view_is c.args.bucket c.requires.bucket in
    let m = (packed-there rows cells c.self.invariant c.args.self.now c.self.view_is c.args.bucket c.requires.bucket).most in
    record { fits = omega (arith, c.requires.slot) }

pub get-requires : goal.get-requires
get-requires g c = filled-there c.self.inside.tags.items c.self.inside.slots c.self.invariant c.args.self.now c.self.view_is c.args.bucket c.requires.bucket c.args.slot c.requires.slot

pub returns : goal.returns
returns g c = entry-there c.self.inside.tags.items c.self.inside.slots c.self.invariant c.args.self.now c.self.view_is c.args.bucket c.requires.bucket c.args.slot c.requires.slot c.get.result.now c.get.ensures
