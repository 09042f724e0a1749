use Rattle.std.proofs.Common.{◌∙◌, sym, ap, arith}
use Rattle.std.specs.List.{find}
use Rattle.scc_common.specs.Contents.{entries, hash_in, pending_of}
use Rattle.scc_table.proofs.arrays.JoinedLists.{pending-together}
use Rattle.scc_table.proofs.places.Searches.{entries-not_waiting}
use Rattle.scc_table.proofs.Table.find_by_hint.Goals as goal

pub find_both-requires-clause-pending : goal.find_both-requires-clause-pending
find_both-requires-clause-pending g c =
    let t = c.self.inside in
    let cur = t.current in
    let ws = t.draining.waiting.items in
    let olds = t.draining.array in
    let inv = c.self.invariant in
    let hk = hash_in g.H.Hashes.hash_of cur in
    let hash = λ (e : g.row.E.Denot). hk (g.E.Keyed.key_of e) in
    let counted = ap pending_of (sym c.self.view_is) ∙ pending-together hash cur ws olds in
    omega (arith, counted, inv.counted, c.if-self-eq0.false)

pub returns-then-self-eq0 : goal.returns-then-self-eq0
returns-then-self-eq0 g c =
    let t = c.self.inside in
    let cur = t.current in
    let ws = t.draining.waiting.items in
    let olds = t.draining.array in
    let inv = c.self.invariant in
    let hk = hash_in g.H.Hashes.hash_of cur in
    let hash = λ (e : g.row.E.Denot). hk (g.E.Keyed.key_of e) in
    let passes = λ (e : g.row.E.Denot). g.E.Key.PartialEq.eq c.args.key.now (g.E.Keyed.key_of e) in
    c.find_by_hint.ensures ∙ ap (find passes) (sym (entries-not_waiting hash cur olds ws (inv.none c.if-self-eq0.true))) ∙ ap (λ d. find passes (entries d)) c.self.view_is
