use Rattle.std.proofs.Common.{◌≡◌, ◌∙◌, ◌+◌, sym, ap, subst, arith}
use Rattle.scc_common.specs.Contents.{pending_of}
use Rattle.scc_table.specs.Relocations.{RelocatesUpTo, TriesSecond}
use Rattle.scc_table.proofs.relocations.FirstWaiting.{SettlesFirst, settles-all, settles-most, settles-none, settles-one, settles-second, settles-start}
use Rattle.scc_table.proofs.arrays.Views.{pending-seen}
use Rattle.scc_table.proofs.Table.relocate_some.Goals as goal

pub loop-done-init : goal.loop-done-init
loop-done-init g c = settles-start c.args.self.now

pub relocate_next-requires : goal.relocate_next-requires
relocate_next-requires g c =
    let t = c.self.inside in
    let n = pending-seen _ t.current t.draining.waiting.items t.draining.array c.loop-done.self c.self.view_is ∙ sym c.self.invariant.counted in
    omega arith

pub loop-done-preserved : goal.loop-done-preserved
loop-done-preserved g c =
    let r = c.in-Ok.ensures.ok in
    settles-one c.args.self.now c.loop-done.self c.relocate_next.new.self c.loop-done.done r.0 c.loop-done.invariant r.1 r.2 c.relocate_next.ensures.bounded

pub returns-then-self-eq0 : goal.returns-then-self-eq0
returns-then-self-eq0 g c =
    let t = c.self.inside in
    let none = pending-seen _ t.current t.draining.waiting.items t.draining.array c.loop-done.self c.self.view_is ∙ sym c.self.invariant.counted ∙ c.if-self-eq0.true in
    settles-all c.args.self.now c.loop-done.self c.loop-done.done c.args.most c.loop-done.invariant (omega arith) none

pub relocate_second-requires : goal.relocate_second-requires
relocate_second-requires g c =
    let t = c.self.inside in
    let n = pending-seen _ t.current t.draining.waiting.items t.draining.array c.loop-done.self c.self.view_is ∙ sym c.self.invariant.counted in
    let same = ap pending_of c.in-Err.ensures.err in
    omega arith

pub returns-then-done-most : goal.returns-then-done-most
returns-then-done-most g c =
    let a = c.args.self.now in
    let d = c.loop-done.self in
    let e = c.relocate_second.new.self in
    let r = c.in-Err.ensures.refused in
    let none : c.loop-done.done ≡ 0 = omega (arith, c.requires) in
    let two : 2 ≡ c.args.most = omega (arith, c.requires) in
    let tried = subst (λ z. TriesSecond z e) c.in-Err.ensures.err c.relocate_second.ensures in
    subst (λ m. RelocatesUpTo m a e) two (settles-second a d e r.0 (subst (SettlesFirst a d) none c.loop-done.invariant) r.1 r.2 tried)

pub returns-else-done-most : goal.returns-else-done-most
returns-else-done-most g c =
    let a = c.args.self.now in
    let d = c.loop-done.self in
    let r = c.in-Err.ensures.refused in
    let last : c.loop-done.done + 1 ≡ c.args.most = omega arith in
    subst (λ z. RelocatesUpTo c.args.most a z) (sym c.in-Err.ensures.err) (subst (λ m. RelocatesUpTo m a d) last (settles-none a d c.loop-done.done r.0 c.loop-done.invariant r.1 r.2))

pub returns : goal.returns
returns g c =
    let all : c.loop-done.done ≡ c.args.most = omega arith in
    subst (λ m. RelocatesUpTo m c.args.self.now c.loop-done.self) all (settles-most c.args.self.now c.loop-done.self c.loop-done.done c.loop-done.invariant)
