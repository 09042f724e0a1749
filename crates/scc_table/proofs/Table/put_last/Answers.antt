use Rattle.std.proofs.Common.{sym}
use Rattle.scc_common.specs.Contents.{hash_in}
use Rattle.scc_table.proofs.arrays.CurrentParts.{settings-seen}
use Rattle.scc_table.proofs.arrays.SameParts.{hash-same}
use Rattle.scc_table.proofs.insertions.AtEnds.{puts-list}
use Rattle.scc_table.proofs.insertions.CurrentArray.{new-own}
use Rattle.scc_table.proofs.insertions.FreeBucket.{free-bounded, free-fields, free-put}
use Rattle.scc_table.proofs.Table.put_last.Goals as goal

pub put_last-requires-clause-new : goal.put_last-requires-clause-new
put_last-requires-clause-new g c =
    let t = c.self.inside in
    let hash = λ (e : g.row.E.Denot). hash_in g.H.Hashes.hash_of t.current (g.E.Keyed.key_of e) in
    let settings = settings-seen hash t.current t.draining.waiting.items t.draining.array c.args.self.now c.self.view_is in
    new-own c.self.invariant c.self.view_is (hash-same g.H.Hashes.hash_of t.current c.args.self.now (sym settings)) c.requires.new

pub put_last-requires-clause-bounded : goal.put_last-requires-clause-bounded
put_last-requires-clause-bounded g c = free-bounded g.H.Hashes.hash_of c.self.invariant c.self.view_is _ c.requires.not_waiting c.requires.bounded

pub invariant_of-self : goal.invariant_of-self
invariant_of-self g c =
    let list = puts-list c.self.inside.current c.put_last.new.self c.args.bucket c.args.entry c.put_last.result.0 c.put_last.ensures.step in
    free-fields g.H.Hashes.hash_of c.self.invariant c.self.view_is _ c.requires.not_waiting c.requires.bounded list.1 (free-put g.H.Hashes.hash_of c.self.invariant c.self.view_is _ c.requires.not_waiting c.requires.bounded g.met.E.Key.Eq.laws c.requires.new.within c.requires.new.absent c.put_last.result c.put_last.ensures.step c.put_last.ensures.slot c.put_last.ensures.listed).unique

pub returns : goal.returns
returns g c = free-put g.H.Hashes.hash_of c.self.invariant c.self.view_is _ c.requires.not_waiting c.requires.bounded g.met.E.Key.Eq.laws c.requires.new.within c.requires.new.absent c.put_last.result c.put_last.ensures.step c.put_last.ensures.slot c.put_last.ensures.listed
