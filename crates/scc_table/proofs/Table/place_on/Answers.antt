use Rattle.std.proofs.Common.{◌∙◌, ◌+◌, ◌^◌, ◌<◌, sym, rules, arith}
use Rattle.scc_buckets.proofs.Standing.{along}
use Rattle.scc_table.proofs.arrays.OneBucket.{count-own}
use Rattle.scc_table.proofs.places.Starts.{start-index, start-next, start-past, start-source, start-stands, start-waits}
use Rattle.scc_table.proofs.Table.place_on.Goals as goal

pub returns-then-slot-list_len : goal.returns-then-slot-list_len
returns-then-slot-list_len g c = start-stands c.self.invariant c.self.view_is c.bucket_count-count.ensures.count c.requires.start c.if-bucket-count.true c.list_len.ensures.len c.if-slot-list_len.true

pub place_past-requires : goal.place_past-requires
place_past-requires g c =
    let count = count-own c.self.invariant c.self.view_is in
    omega (arith, count, c.bucket_count-count.ensures.count, c.if-bucket-count.true)

pub returns-then-bucket-count : goal.returns-then-bucket-count
returns-then-bucket-count g c =
    let past = start-past c.self.invariant c.self.view_is c.bucket_count-count.ensures.count c.requires.start c.if-bucket-count.true c.list_len.ensures.len (omega (arith, c.if-slot-list_len.false)) in
    along c.place_past.result (λ e. sym past ∙ e) (λ p h. record { within = h.within; index = h.index ∙ past }) c.place_past.ensures.place

pub old_place-requires-clause-waits : goal.old_place-requires-clause-waits
old_place-requires-clause-waits g c = start-waits c.self.invariant c.self.view_is c.bucket_count-count.ensures.count c.requires.start (omega (arith, c.if-bucket-count.false)) c.requires.target

pub old_place-requires-clause-source : goal.old_place-requires-clause-source
old_place-requires-clause-source g c = start-source c.self.invariant c.self.view_is c.bucket_count-count.ensures.count c.requires.start (omega (arith, c.if-bucket-count.false)) c.requires.target

pub returns-in-Some : goal.returns-in-Some
returns-in-Some g c =
    let index = start-index c.self.invariant c.self.view_is c.bucket_count-count.ensures.count c.requires.start (omega (arith, c.if-bucket-count.false)) c.requires.target in
    record { within = c.in-Some.ensures.within; index = c.in-Some.ensures.index ∙ index }

pub overflow_add-target : goal.overflow_add-target
overflow_add-target g c =
    let count = count-own c.self.invariant c.self.view_is in
    let l : c.args.target + 1 < 2 ^ 64 = omega (arith, count, c.requires.target, c.bucket_count-count.ensures.most, c.bucket_count-count.ensures.count) in search rules

pub place_past-requires-2 : goal.place_past-requires-2
place_past-requires-2 g c = omega (arith, c.requires.target)

pub returns : goal.returns
returns g c =
    let next = start-next c.self.invariant c.self.view_is c.bucket_count-count.ensures.count c.requires.start (omega (arith, c.if-bucket-count.false)) c.requires.target c.in_default.ensures in
    along c.place_past-2.result (λ e. sym next ∙ e) (λ p h. record { within = h.within; index = h.index ∙ next }) c.place_past-2.ensures.place
