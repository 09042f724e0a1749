use Rattle.std.proofs.Common.{◌≡◌, ◌*◌, arith, set, get_or, [], length, sym, ap, ◌∙◌}
use Rattle.scc_array.proofs.Bucket.{packed-there, number-small, row-within, row-read}
use Rattle.scc_array.proofs.Parting.{packed-at, windows-parted, columns-parted}
use Rattle.scc_array.proofs.columns.Columns.split.Goals as goal
use Rattle.scc_array.specs.Sifts.{unflagged_of, raised, AreAt}
use Rattle.scc_array.specs.Windows.{window_of}

pub overflow_mul-base : goal.overflow_mul-base
overflow_mul-base g c = record { fits = let n = number-small c.self.inside.tags.items c.self.inside.slots c.self.invariant c.args.self.now c.self.view_is c.args.bucket c.requires.bucket in omega arith }

pub index_mut-row-requires : goal.index_mut-row-requires
index_mut-row-requires g c =
    let rows = c.self.inside.tags.items in let cells = c.self.inside.slots in let ws = c.args.self.now in let b = c.args.bucket in
    let unflagged = c.self.invariant in let view = c.self.view_is in
    let within = row-within rows cells unflagged ws view b c.requires.bucket in
    omega (arith, c.self.inside.tags.ok.0)

pub sift-requires-clause-small : goal.sift-requires-clause-small
sift-requires-clause-small g c = let n = number-small c.self.inside.tags.items c.self.inside.slots c.self.invariant c.args.self.now c.self.view_is c.args.bucket c.requires.bucket in omega arith

pub sift-requires-clause-within : goal.sift-requires-clause-within
sift-requires-clause-within g c =
    let rows = c.self.inside.tags.items in let cells = c.self.inside.slots in let ws = c.args.self.now in let b = c.args.bucket in
    let unflagged = c.self.invariant in let view = c.self.view_is in
    let within = row-within rows cells unflagged ws view b c.requires.bucket in
    let n = unflagged.sized in omega arith

pub sift-requires-clause-entry_count : goal.sift-requires-clause-entry_count
sift-requires-clause-entry_count g c =
    let rows = c.self.inside.tags.items in let cells = c.self.inside.slots in let ws = c.args.self.now in let b = c.args.bucket in
    let unflagged = c.self.invariant in let view = c.self.view_is in
    let within = row-within rows cells unflagged ws view b c.requires.bucket in
    let row : get_or rows b [] ≡ c.index_mut-row.result.now = row-read rows b c.index_mut-row.result.now within c.index_mut-row.ensures.value in
    let w = window_of ws b in
    let at : AreAt cells c.index_mut-row.result.now (32 * b) w = packed-at rows cells b w c.index_mut-row.result.now (packed-there rows cells unflagged ws view b c.requires.bucket) row in
    (w, at, let r = c.requires.room in let f = c.count-first.ensures.count in omega arith)

pub invariant_of-self : goal.invariant_of-self
invariant_of-self g c =
    let rows = c.self.inside.tags.items in let cells = c.self.inside.slots in let ws = c.args.self.now in let b = c.args.bucket in
    let unflagged = c.self.invariant in let view = c.self.view_is in
    let within = row-within rows cells unflagged ws view b c.requires.bucket in
    let row : get_or rows b [] ≡ c.index_mut-row.result.now = row-read rows b c.index_mut-row.result.now within c.index_mut-row.ensures.value in
    let w = window_of ws b in
    let at : AreAt cells c.index_mut-row.result.now (32 * b) w = packed-at rows cells b w c.index_mut-row.result.now (packed-there rows cells unflagged ws view b c.requires.bucket) row in
    let wide : length c.sift.new.row ≡ 32 = c.sift.ensures.wide ∙ ap length (sym row) ∙ unflagged.lanes b within in
    let parted = c.sift.ensures.stays w at in
    columns-parted rows cells unflagged b within c.sift.new.slots c.sift.new.row wide c.sift.ensures.count c.sift.ensures.others (unflagged_of (raised c.args.flags.now) w) parted

pub returns-clause-stays : goal.returns-clause-stays
returns-clause-stays g c =
    let rows = c.self.inside.tags.items in let cells = c.self.inside.slots in let ws = c.args.self.now in let b = c.args.bucket in
    let unflagged = c.self.invariant in let view = c.self.view_is in
    let within = row-within rows cells unflagged ws view b c.requires.bucket in
    let row : get_or rows b [] ≡ c.index_mut-row.result.now = row-read rows b c.index_mut-row.result.now within c.index_mut-row.ensures.value in
    let w = window_of ws b in
    let at : AreAt cells c.index_mut-row.result.now (32 * b) w = packed-at rows cells b w c.index_mut-row.result.now (packed-there rows cells unflagged ws view b c.requires.bucket) row in
    let wide : length c.sift.new.row ≡ 32 = c.sift.ensures.wide ∙ ap length (sym row) ∙ unflagged.lanes b within in
    let parted = c.sift.ensures.stays w at in
    windows-parted rows cells unflagged b within c.sift.new.slots c.sift.new.row wide c.sift.ensures.count c.sift.ensures.others (unflagged_of (raised c.args.flags.now) w) parted ∙ ap (λ v. set v b (unflagged_of (raised c.args.flags.now) w)) view

pub returns-clause-moved : goal.returns-clause-moved
returns-clause-moved g c =
    let rows = c.self.inside.tags.items in let cells = c.self.inside.slots in let ws = c.args.self.now in let b = c.args.bucket in
    let unflagged = c.self.invariant in let view = c.self.view_is in
    let within = row-within rows cells unflagged ws view b c.requires.bucket in
    let row : get_or rows b [] ≡ c.index_mut-row.result.now = row-read rows b c.index_mut-row.result.now within c.index_mut-row.ensures.value in
    let w = window_of ws b in
    let at : AreAt cells c.index_mut-row.result.now (32 * b) w = packed-at rows cells b w c.index_mut-row.result.now (packed-there rows cells unflagged ws view b c.requires.bucket) row in
    c.sift.ensures.moved w at
