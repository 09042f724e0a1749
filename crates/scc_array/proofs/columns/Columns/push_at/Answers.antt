use Rattle.std.proofs.Common.{◌≡◌, arith, set, length, ap, ◌∙◌}
use Rattle.scc_array.proofs.Bucket.{packed-there, number-small, row-within, row-read, slot-within}
use Rattle.scc_array.proofs.Counting.{slot-free}
use Rattle.scc_array.proofs.Pushing.{windows-pushed, columns-pushed}
use Rattle.scc_array.proofs.columns.Columns.push_at.Goals as goal
use Rattle.scc_array.specs.Windows.{window_of, pushed}

pub index_mut-row-requires : goal.index_mut-row-requires
index_mut-row-requires g c = let l = row-within c.self.inside.tags.items c.self.inside.slots c.self.invariant c.args.self.now c.self.view_is c.args.bucket c.requires.bucket in omega (arith, c.self.inside.tags.ok.0)

pub overflow_mul-bucket : goal.overflow_mul-bucket
overflow_mul-bucket g c = record { fits = let n = number-small c.self.inside.tags.items c.self.inside.slots c.self.invariant c.args.self.now c.self.view_is c.args.bucket c.requires.bucket in omega arith }

pub overflow_add-bucket : goal.overflow_add-bucket
overflow_add-bucket g c =
    let n = number-small c.self.inside.tags.items c.self.inside.slots c.self.invariant c.args.self.now c.self.view_is c.args.bucket c.requires.bucket in
    record { fits = omega (arith, c.requires.room) }

pub put-requires : goal.put-requires
put-requires g c =
    let rows = c.self.inside.tags.items in let cells = c.self.inside.slots in let ws = c.args.self.now in let b = c.args.bucket in
    let packed = packed-there rows cells c.self.invariant ws c.self.view_is b c.requires.bucket in
    let k : c.args.slot ≡ length (window_of ws b).slots = c.requires.slot in (
      slot-within rows cells c.self.invariant ws c.self.view_is b c.requires.bucket c.args.slot (omega (arith, c.requires.room)),
      slot-free rows cells b _ _ packed c.args.slot (omega (arith, k)) c.requires.room,
    )

pub invariant_of-self : goal.invariant_of-self
invariant_of-self g c =
    let rows = c.self.inside.tags.items in let cells = c.self.inside.slots in let ws = c.args.self.now in let b = c.args.bucket in
    let within = row-within rows cells c.self.invariant ws c.self.view_is b c.requires.bucket in
    let packed = packed-there rows cells c.self.invariant ws c.self.view_is b c.requires.bucket in
    let row = row-read rows b c.index_mut-row.result.now within c.index_mut-row.ensures.value in
    let k : c.args.slot ≡ length (window_of ws b).slots = c.requires.slot in
    let all = columns-pushed rows cells c.self.invariant b within _ _ packed (omega (arith, c.requires.room, k)) c.args.entry c.args.tag c.requires.tag in
    rw (c.put.ensures, k, ← row) all

pub returns : goal.returns
returns g c =
    let rows = c.self.inside.tags.items in let cells = c.self.inside.slots in let ws = c.args.self.now in let b = c.args.bucket in
    let within = row-within rows cells c.self.invariant ws c.self.view_is b c.requires.bucket in
    let packed = packed-there rows cells c.self.invariant ws c.self.view_is b c.requires.bucket in
    let row = row-read rows b c.index_mut-row.result.now within c.index_mut-row.ensures.value in
    let k : c.args.slot ≡ length (window_of ws b).slots = c.requires.slot in
    let all = windows-pushed rows cells c.self.invariant b within _ _ packed (omega (arith, c.requires.room, k)) c.args.entry c.args.tag c.requires.tag in
    rw (c.put.ensures, k, ← row) (all ∙ ap (λ v. set v b (pushed (window_of ws b) c.args.entry c.args.tag)) c.self.view_is)
