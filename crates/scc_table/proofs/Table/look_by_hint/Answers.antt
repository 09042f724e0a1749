use Rattle.std.proofs.Common.{◌∙◌, sym, ap, subst}
use Rattle.std.specs.List.{position}
use Rattle.scc_common.specs.Contents.{entries, hash_in}
use Rattle.scc_table.specs.Places.{IsFoundAt}
use Rattle.scc_table.proofs.arrays.CurrentParts.{settings-seen}
use Rattle.scc_table.proofs.places.Searches.{entries-not_waiting, found-not_waiting}
use Rattle.scc_table.proofs.Table.look_by_hint.Goals as goal

pub returns-in-Some-clause-hinted : goal.returns-in-Some-clause-hinted
returns-in-Some-clause-hinted g c =
    let t = c.self.inside in
    let cur = t.current in
    let ws = t.draining.waiting.items in
    let olds = t.draining.array in
    let hk = hash_in g.H.Hashes.hash_of cur in
    let hash = λ (e : g.row.E.Denot). hk (g.E.Keyed.key_of e) in
    let passes = λ (e : g.row.E.Denot). g.E.Key.PartialEq.eq c.args.key.now (g.E.Keyed.key_of e) in
    let none = c.self.invariant.none c.if-self-ne0.false in
    subst (λ d. IsFoundAt passes d c.in-Some.place) c.self.view_is (found-not_waiting hash cur olds ws none passes c.in-Some.place c.in-Some.ensures.place)

pub returns-then-hash-hint-clause-hinted : goal.returns-then-hash-hint-clause-hinted
returns-then-hash-hint-clause-hinted g c =
    let t = c.self.inside in
    let cur = t.current in
    let ws = t.draining.waiting.items in
    let olds = t.draining.array in
    let now = c.args.self.now in
    let hk = hash_in g.H.Hashes.hash_of cur in
    let hash = λ (e : g.row.E.Denot). hk (g.E.Keyed.key_of e) in
    let passes = λ (e : g.row.E.Denot). g.E.Key.PartialEq.eq c.args.key.now (g.E.Keyed.key_of e) in
    let none = c.self.invariant.none c.if-self-ne0.false in
    let here = sym c.if-hash-hint.true ∙ c.hash.ensures in
    let missed = c.in-None.ensures.place (here ∙ ap (λ s. g.H.Hashes.hash_of s.hasher c.args.key.now) (sym (settings-seen hash cur ws olds now c.self.view_is))) in
    (here, ap (λ d. position passes (entries d)) (sym c.self.view_is) ∙ ap (position passes) (entries-not_waiting hash cur olds ws none) ∙ missed)
