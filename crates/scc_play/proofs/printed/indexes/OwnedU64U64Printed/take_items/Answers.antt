use Rattle.std.proofs.Common.{◌≡◌, rules, ◌++◌}
use Rattle.std.proofs.lemmas.List.Sorted.{IsPermutation-refl}
use Rattle.scc_common.specs.Contents.{entries}
use Rattle.scc_play.proofs.printed.indexes.OwnedU64U64Printed.take_items.Goals as goal

pub returns : goal.returns
returns g c =
    let taken : c.loop-version.items.items ≡ c.args.items.now.items ++ entries c.args.self.now = search rules in
    (entries c.args.self.now, taken, IsPermutation-refl (entries c.args.self.now))
