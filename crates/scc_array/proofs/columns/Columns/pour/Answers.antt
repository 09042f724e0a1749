use Rattle.std.proofs.Common.{◌≡◌, ◌*◌, arith, set, get_or, [], length, sym, ap, ◌∙◌}
use Rattle.scc_array.proofs.Bucket.{packed-there, number-small, row-within, row-read}
use Rattle.scc_array.proofs.Parting.{packed-at, windows-parted, columns-parted}
use Rattle.scc_array.proofs.columns.Columns.pour.Goals as goal
use Rattle.scc_array.specs.Sifts.{all_raised, unflagged_of, AreAt}
use Rattle.scc_array.specs.Windows.{window_of}

pub overflow_mul-base : goal.overflow_mul-base
overflow_mul-base g c = record { fits = let n = number-small c.self.inside.tags.items c.self.inside.slots c.self.invariant c.args.self.now c.self.view_is c.args.bucket c.requires.bucket in omega arith }

pub index_mut-requires : goal.index_mut-requires
index_mut-requires g c =
    let rows = c.self.inside.tags.items in let cells = c.self.inside.slots in let ws = c.args.self.now in let b = c.args.bucket in
    let unflagged = c.self.invariant in let view = c.self.view_is in
    let within = row-within rows cells unflagged ws view b c.requires.bucket in
    omega (arith, c.self.inside.tags.ok.0)

pub pour-requires-clause-small : goal.pour-requires-clause-small
pour-requires-clause-small g c = let n = number-small c.self.inside.tags.items c.self.inside.slots c.self.invariant c.args.self.now c.self.view_is c.args.bucket c.requires.bucket in omega arith

pub pour-requires-clause-within : goal.pour-requires-clause-within
pour-requires-clause-within g c =
    let rows = c.self.inside.tags.items in let cells = c.self.inside.slots in let ws = c.args.self.now in let b = c.args.bucket in
    let unflagged = c.self.invariant in let view = c.self.view_is in
    let within = row-within rows cells unflagged ws view b c.requires.bucket in
    let n = unflagged.sized in omega arith

pub pour-requires-clause-entry_count : goal.pour-requires-clause-entry_count
pour-requires-clause-entry_count g c =
    let rows = c.self.inside.tags.items in let cells = c.self.inside.slots in let ws = c.args.self.now in let b = c.args.bucket in
    let unflagged = c.self.invariant in let view = c.self.view_is in
    let within = row-within rows cells unflagged ws view b c.requires.bucket in
    let row : get_or rows b [] ≡ c.index_mut.result.now = row-read rows b c.index_mut.result.now within c.index_mut.ensures.value in
    let w = window_of ws b in
    let at : AreAt cells c.index_mut.result.now (32 * b) w = packed-at rows cells b w c.index_mut.result.now (packed-there rows cells unflagged ws view b c.requires.bucket) row in
    (w, at, c.count-entry_count.ensures.count)

pub invariant_of-self : goal.invariant_of-self
invariant_of-self g c =
    let rows = c.self.inside.tags.items in let cells = c.self.inside.slots in let ws = c.args.self.now in let b = c.args.bucket in
    let unflagged = c.self.invariant in let view = c.self.view_is in
    let within = row-within rows cells unflagged ws view b c.requires.bucket in
    let row : get_or rows b [] ≡ c.index_mut.result.now = row-read rows b c.index_mut.result.now within c.index_mut.ensures.value in
    let w = window_of ws b in
    let at : AreAt cells c.index_mut.result.now (32 * b) w = packed-at rows cells b w c.index_mut.result.now (packed-there rows cells unflagged ws view b c.requires.bucket) row in
    let wide : length c.pour.new.row ≡ 32 = c.pour.ensures.wide ∙ ap length (sym row) ∙ unflagged.lanes b within in
    let parted = c.pour.ensures.stays w at c.count-entry_count.ensures.count in
    columns-parted rows cells unflagged b within c.pour.new.slots c.pour.new.row wide c.pour.ensures.count c.pour.ensures.others (unflagged_of all_raised w) parted

pub returns-clause-stays : goal.returns-clause-stays
returns-clause-stays g c =
    let rows = c.self.inside.tags.items in let cells = c.self.inside.slots in let ws = c.args.self.now in let b = c.args.bucket in
    let unflagged = c.self.invariant in let view = c.self.view_is in
    let within = row-within rows cells unflagged ws view b c.requires.bucket in
    let row : get_or rows b [] ≡ c.index_mut.result.now = row-read rows b c.index_mut.result.now within c.index_mut.ensures.value in
    let w = window_of ws b in
    let at : AreAt cells c.index_mut.result.now (32 * b) w = packed-at rows cells b w c.index_mut.result.now (packed-there rows cells unflagged ws view b c.requires.bucket) row in
    let wide : length c.pour.new.row ≡ 32 = c.pour.ensures.wide ∙ ap length (sym row) ∙ unflagged.lanes b within in
    let parted = c.pour.ensures.stays w at c.count-entry_count.ensures.count in
    windows-parted rows cells unflagged b within c.pour.new.slots c.pour.new.row wide c.pour.ensures.count c.pour.ensures.others (unflagged_of all_raised w) parted ∙ ap (λ v. set v b (unflagged_of all_raised w)) view

pub returns-clause-moved : goal.returns-clause-moved
returns-clause-moved g c =
    let rows = c.self.inside.tags.items in let cells = c.self.inside.slots in let ws = c.args.self.now in let b = c.args.bucket in
    let unflagged = c.self.invariant in let view = c.self.view_is in
    let within = row-within rows cells unflagged ws view b c.requires.bucket in
    let row : get_or rows b [] ≡ c.index_mut.result.now = row-read rows b c.index_mut.result.now within c.index_mut.ensures.value in
    let w = window_of ws b in
    let at : AreAt cells c.index_mut.result.now (32 * b) w = packed-at rows cells b w c.index_mut.result.now (packed-there rows cells unflagged ws view b c.requires.bucket) row in
    c.pour.ensures.moved w at c.count-entry_count.ensures.count
