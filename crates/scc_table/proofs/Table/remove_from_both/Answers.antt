use Rattle.scc_table.proofs.removals.Shrinks.{removed-at}
use Rattle.scc_table.proofs.Table.remove_from_both.Goals as goal

pub returns-in-Some : goal.returns-in-Some
returns-in-Some g c =
    let shrunk = c.shrink.ensures in
    let took = c.in-Some.ensures in (
      took.0,
      took.1,
      removed-at c.args.self.now c.take_from_both.new.self c.shrink.new.self took.0 c.in-Some.entry took.2 shrunk.resizes shrunk.shrinks shrunk.due shrunk.spreads shrunk.unique,
    )
