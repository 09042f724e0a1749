use Rattle.std.specs.Cmp.{nat_eq_equiv}
use Rattle.scc_owned.proofs.CallerLemmas.{inserted-removed}
use Rattle.scc_uses.proofs.chain.insert_read_remove.Goals as goal

pub returns-clause-pairs : goal.returns-clause-pairs
returns-clause-pairs c =
    let s = c.in_ok-insert_sync.ensures.step in
    inserted-removed nat_eq_equiv c.args.map.now c.insert_sync.new.self c.remove_sync.new.self (c.args.key, c.args.value) c.remove_sync.result s.0 s.1 c.insert_sync.ensures.unique c.remove_sync.ensures.step
