use Rattle.std.proofs.Common.{rules, ◌≡◌, [], ◌∷◌}
use Rattle.std.specs.List.{flat_map}
use Rattle.std.proofs.lemmas.List.{nil_from_length}
use Rattle.std.proofs.lemmas.List.Sorted.{IsPermutation-refl, IsPermutation-trans}
use Rattle.scc_play.proofs.Listing.{taken-more, taken-all}
use Rattle.scc_play.proofs.finished_text.sorted_items.Goals as goal

pub loop-parts-init : goal.loop-parts-init
loop-parts-init g c =
    let none : c.new-items.result.items ≡ [] = search rules in
    rw none (IsPermutation-refl (flat_map g.P.Printed.shown c.args.parts.items))

pub loop-parts-preserved : goal.loop-parts-preserved
loop-parts-preserved g c =
    let taken = c.in_ok-take_items.ensures in
    let first : c.loop-parts.parts.items ≡ c.remove-part.result ∷ c.remove-part.new.self.items = search rules in
    taken-more g.P.Printed.shown (flat_map g.P.Printed.shown c.args.parts.items) c.loop-parts.parts.items c.remove-part.result c.remove-part.new.self.items c.loop-parts.items.items c.take_items.new.items.items taken.0 first c.loop-parts.invariant taken.1 taken.2

pub returns-clause-same : goal.returns-clause-same
returns-clause-same g c =
    let none : c.loop-parts.parts.items ≡ [] = nil_from_length c.loop-parts.parts.items (search rules) in
    let all = taken-all g.P.Printed.shown (flat_map g.P.Printed.shown c.args.parts.items) c.loop-parts.parts.items c.loop-parts.items.items none c.loop-parts.invariant in
    IsPermutation-trans (flat_map g.P.Printed.shown c.args.parts.items) c.loop-parts.items.items c.sort_unstable.new.self.items all c.sort_unstable.ensures.permutation
