use Rattle.std.proofs.Common.{◌≡◌, ap, sym, ◌∙◌, arith, [], get_or, length}
use native.Mathlib.Decide.{dec_lt}
use Rattle.scc_array.proofs.Bucket.{packed-there, row-within, row-read}
use Rattle.scc_array.proofs.Counting.{tag-free}
use Rattle.scc_array.specs.Windows.{window_of}
use Rattle.scc_array.proofs.columns.Columns.slots_before_overflow.Goals as goal

pub index-requires : goal.index-requires
index-requires g c = let l = row-within c.self.inside.tags.items c.self.inside.slots c.self.invariant c.args.self.now c.self.view_is c.args.bucket c.requires in omega (arith, c.self.inside.tags.ok.0)

pub returns-then-index-slot-ne0-clause-within : goal.returns-then-index-slot-ne0-clause-within
returns-then-index-slot-ne0-clause-within g c = λ below.
    let rows = c.self.inside.tags.items in let cells = c.self.inside.slots in let ws = c.args.self.now in let b = c.args.bucket in
    let row : get_or rows b [] ≡ c.index.result.now = row-read rows b c.index.result.now (row-within rows cells c.self.invariant ws c.self.view_is b c.requires) c.index.ensures in
    elim (dec_lt c.args.slot (length (window_of ws b).slots)) [
      | yes l ↦ l
      | no h ↦
          let free = tag-free rows cells b _ _ (packed-there rows cells c.self.invariant ws c.self.view_is b c.requires) c.args.slot (omega arith) below in
          absurd (c.if-index-slot-ne0.true (ap (λ r. get_or r c.args.slot 0) (sym row) ∙ free))
    ]
