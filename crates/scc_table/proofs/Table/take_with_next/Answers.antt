use Rattle.std.proofs.Common.{rules}
use Rattle.scc_table.proofs.walks.TakeSteps.{step-next, step-start}
use Rattle.scc_table.proofs.Table.take_with_next.Goals as goal

pub place_on-next-requires-clause-start : goal.place_on-next-requires-clause-start
place_on-next-requires-clause-start g c =
    let took = c.take_in-entry.ensures in
    let target = c.target_of-target in
    step-start c.args.self.now c.take_in-entry.new.self c.args.place c.requires took.exact took.waiting took.owed target.result target.ensures.value target.ensures.within target.ensures.next

pub returns : goal.returns
returns g c =
    record {
      entry = (search rules);
      others = (search rules);
      noted = (search rules);
      waiting = (search rules);
      next = (
          let took = c.take_in-entry.ensures in
          let target = c.target_of-target in
          step-next c.args.self.now c.take_in-entry.new.self c.args.place c.requires took.exact took.waiting took.owed target.result target.ensures.value target.ensures.within target.ensures.next c.place_on-next.result c.place_on-next.ensures);
      listed = (search rules);
      lists = (search rules);
      exact = (search rules);
      unique = (search rules);
    }
