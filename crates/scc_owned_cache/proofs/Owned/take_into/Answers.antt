use Rattle.std.proofs.Common.{rules}
use Rattle.scc_owned_cache.proofs.Owned.take_into.Goals as goal

pub returns : goal.returns
returns g c =
    record {
      taken = (c.take_with_next-pair.result.0, c.take_with_next-pair.ensures.takes.pair, c.push_reserved.ensures.items);
      others = c.take_with_next-pair.ensures.takes.others;
      refused = c.take_with_next-pair.ensures.takes.refused;
      maximum = c.take_with_next-pair.ensures.takes.maximum;
      waiting = c.take_with_next-pair.ensures.takes.waiting;
      next = c.take_with_next-pair.ensures.takes.next;
      capacity = (search rules);
    }
