use Rattle.std.proofs.Common.{◌≡◌, ap, ◌∙◌, sym, subst, arith, [], get_or, Some}
use Rattle.std.specs.Int.{bit_at}
use Rattle.std.specs.List.{slice_get}
use Rattle.scc_array.proofs.Bucket.{packed-there, row-wide, row-within, row-read}
use Rattle.scc_array.proofs.Counting.{same_mask, lane-set, lane-is, lane-within, tag-entry, entry-tag}
use Rattle.scc_array.proofs.Gets.{get-here, get-within}
use Rattle.scc_array.proofs.columns.Columns.hits.Goals as goal
use Rattle.scc_array.specs.Windows.{window_of}

pub index-requires : goal.index-requires
index-requires g c = let l = row-within c.self.inside.tags.items c.self.inside.slots c.self.invariant c.args.self.now c.self.view_is c.args.bucket c.requires.bucket in omega (arith, c.self.inside.tags.ok.0)

pub returns-clause-all : goal.returns-clause-all
returns-clause-all g c = λ j h e.
    let rows = c.self.inside.tags.items in let cells = c.self.inside.slots in let ws = c.args.self.now in let b = c.args.bucket in
    let row : get_or rows b [] ≡ c.index.result.now = row-read rows b c.index.result.now (row-within rows cells c.self.invariant ws c.self.view_is b c.requires.bucket) c.index.ensures in
    let mask : same_mask c.args.tag (get_or rows b []) ≡ c.tag_mask.result = ap (same_mask c.args.tag) row ∙ sym c.tag_mask.ensures in
    let packed = packed-there rows cells c.self.invariant ws c.self.view_is b c.requires.bucket in
    let ts = (window_of ws b).tags in let n = packed.same in let m = packed.most in
    let there : slice_get ts j ≡ Some c.args.tag = get-here ts j 0 (omega arith) ∙ ap Some e in
    subst (λ m. bit_at m j ≡ 1) mask (lane-set c.args.tag (get_or rows b []) j (let w = row-wide rows cells c.self.invariant ws c.self.view_is b c.requires.bucket in omega arith) (entry-tag rows cells b _ _ packed j c.args.tag there (omega arith)))

pub returns-clause-only : goal.returns-clause-only
returns-clause-only g c = λ j e.
    let rows = c.self.inside.tags.items in let cells = c.self.inside.slots in let ws = c.args.self.now in let b = c.args.bucket in
    let row : get_or rows b [] ≡ c.index.result.now = row-read rows b c.index.result.now (row-within rows cells c.self.invariant ws c.self.view_is b c.requires.bucket) c.index.ensures in
    let mask : same_mask c.args.tag (get_or rows b []) ≡ c.tag_mask.result = ap (same_mask c.args.tag) row ∙ sym c.tag_mask.ensures in
    let packed = packed-there rows cells c.self.invariant ws c.self.view_is b c.requires.bucket in
    let one = subst (λ m. bit_at m j ≡ 1) (sym mask) e in
    let w = row-wide rows cells c.self.invariant ws c.self.view_is b c.requires.bucket in
    let in_row = lane-within c.args.tag (get_or rows b []) j one in
    let l = get-within (window_of ws b).tags j c.args.tag (tag-entry rows cells b _ _ packed j c.args.tag c.requires.tag (omega arith) (lane-is c.args.tag (get_or rows b []) j one)) in
    omega (arith, packed.same)
