use Rattle.std.proofs.Common.{◌∙◌, sym, ap, subst, arith}
use Rattle.std.specs.List.{position}
use Rattle.scc_common.specs.Contents.{entries, hash_in, pending_of}
use Rattle.scc_buckets.proofs.Standing.{along}
use Rattle.scc_table.specs.Places.{IsFoundAt}
use Rattle.scc_table.proofs.arrays.JoinedLists.{pending-together}
use Rattle.scc_table.proofs.arrays.CurrentParts.{settings-seen}
use Rattle.scc_table.proofs.arrays.OneBucket.{routed-seen}
use Rattle.scc_table.proofs.places.Searches.{entries-not_waiting, found-not_waiting}
use Rattle.scc_table.proofs.Table.search.Goals as goal

pub search-requires : goal.search-requires
search-requires g c =
    let t = c.self.inside in
    let cur = t.current in
    let ws = t.draining.waiting.items in
    let olds = t.draining.array in
    let now = c.args.self.now in
    let hk = hash_in g.H.Hashes.hash_of cur in
    let hash = λ (e : g.row.E.Denot). hk (g.E.Keyed.key_of e) in
    let set = settings-seen hash cur ws olds now c.self.view_is in
    c.requires ∙ ap (λ s. g.H.Hashes.hash_of s.hasher c.args.key.now) (sym set)

pub returns-then-self-eq0-clause-place : goal.returns-then-self-eq0-clause-place
returns-then-self-eq0-clause-place g c =
    let t = c.self.inside in
    let cur = t.current in
    let ws = t.draining.waiting.items in
    let olds = t.draining.array in
    let inv = c.self.invariant in
    let hk = hash_in g.H.Hashes.hash_of cur in
    let hash = λ (e : g.row.E.Denot). hk (g.E.Keyed.key_of e) in
    let passes = λ (e : g.row.E.Denot). g.E.Key.PartialEq.eq c.args.key.now (g.E.Keyed.key_of e) in
    let none = inv.none c.if-self-eq0.true in
    along c.search.result (λ n. ap (λ d. position passes (entries d)) (sym c.self.view_is) ∙ ap (position passes) (entries-not_waiting hash cur olds ws none) ∙ n)
    (λ q f. subst (λ d. IsFoundAt passes d q) c.self.view_is (found-not_waiting hash cur olds ws none passes q f)) c.search.ensures.place

pub search_both-place-requires-clause-pending : goal.search_both-place-requires-clause-pending
search_both-place-requires-clause-pending g c =
    let t = c.self.inside in
    let cur = t.current in
    let ws = t.draining.waiting.items in
    let olds = t.draining.array in
    let inv = c.self.invariant in
    let hk = hash_in g.H.Hashes.hash_of cur in
    let hash = λ (e : g.row.E.Denot). hk (g.E.Keyed.key_of e) in
    let counted = ap pending_of (sym c.self.view_is) ∙ pending-together hash cur ws olds in
    omega (arith, counted, inv.counted, c.if-self-eq0.false)

pub returns-then-self-eq0-clause-routed : goal.returns-then-self-eq0-clause-routed
returns-then-self-eq0-clause-routed g c = routed-seen g.H.Hashes.hash_of g.E.Keyed.key_of c.self.invariant c.self.view_is c.search.ensures.routed
