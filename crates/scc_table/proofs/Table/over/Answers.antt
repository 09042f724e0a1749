use Rattle.std.proofs.Common.{◌∙◌, List, map, sym, subst, arith}
use Rattle.std.specs.List.{IsDistinct}
use Rattle.scc_common.specs.Contents.{hash_in}
use Rattle.scc_table.proofs.arrays.OneArray.{entries-alone, fields-alone, lists-alone, spilled-alone}
use Rattle.scc_table.proofs.arrays.JoinedLists.{settings-together, refused-together, waiting-together}
use Rattle.scc_table.proofs.Table.over.Goals as goal

pub invariant_of-result : goal.invariant_of-result
invariant_of-result g c =
    let hk = hash_in g.H.Hashes.hash_of c.args.current in
    rw (c.none.ensures, c.new.ensures.items) (fields-alone g.E.Key.PartialEq.eq g.E.Keyed.key_of hk c.args.current 0 (omega (arith, c.allocator-alloc.ensures.few)) c.allocator-alloc.ensures.unique)

pub returns-clause-lists : goal.returns-clause-lists
returns-clause-lists g c = lists-alone _ c.args.current c.new.result.items c.none.result c.new.ensures.items

pub returns-clause-settings : goal.returns-clause-settings
returns-clause-settings g c = settings-together _ c.args.current c.new.result.items c.none.result

pub returns-clause-noted : goal.returns-clause-noted
returns-clause-noted g c = refused-together _ c.args.current c.new.result.items c.none.result

pub returns-clause-spilled : goal.returns-clause-spilled
returns-clause-spilled g c = rw c.none.ensures (spilled-alone _ c.args.current c.new.result.items)

pub returns-clause-waiting : goal.returns-clause-waiting
returns-clause-waiting g c = waiting-together _ c.args.current c.new.result.items c.none.result ∙ c.new.ensures.items

pub returns-clause-unique : goal.returns-clause-unique
returns-clause-unique g c =
    subst (λ (es : List g.row.E.Denot). IsDistinct g.E.Key.PartialEq.eq (map g.E.Keyed.key_of es)) (sym (entries-alone _ c.args.current c.new.result.items c.none.result c.new.ensures.items)) c.allocator-alloc.ensures.unique
