use Rattle.scc_table.proofs.removals.Shrinks.{removed-at}
use Rattle.scc_table.proofs.Table.remove_at.Goals as goal

pub returns : goal.returns
returns g c =
    let shrunk = c.shrink.ensures in
    removed-at c.args.self.now c.swap_take_at-entry.new.self c.shrink.new.self c.args.place c.swap_take_at-entry.result c.swap_take_at-entry.ensures shrunk.resizes shrunk.shrinks shrunk.due shrunk.spreads shrunk.unique
