use Rattle.std.proofs.Common.{◌≡◌, ◌∙◌, drop, refl, sym, subst, ap, arith, rules}
use Rattle.scc_common.specs.Contents.{pending_of, waiting_of}
use Rattle.scc_table.proofs.relocations.OneByOne.{finish-start, finish-step}
use Rattle.scc_table.specs.TwoArrays.{pending_targets}
use Rattle.scc_table.proofs.arrays.JoinedLists.{waiting-together, pending-together}
use Rattle.scc_table.proofs.relocations.FirstWaiting.{drop-next}
use Rattle.scc_table.proofs.relocations.Targets.{targets-first}
use Rattle.scc_table.proofs.Table.finish.Goals as goal

pub loop-init : goal.loop-init
loop-init g c =
    let t = c.self.inside in
    let flags : waiting_of c.args.self.now ≡ t.draining.waiting.items = ap waiting_of (sym c.self.view_is) ∙ waiting-together _ t.current t.draining.waiting.items t.draining.array in
    let counted = ap pending_of (sym c.self.view_is) ∙ pending-together _ t.current t.draining.waiting.items t.draining.array ∙ sym c.self.invariant.counted in
    (finish-start c.args.self.now (λ z. flags ∙ c.self.invariant.none (sym counted ∙ z)), refl)

pub relocate_next-requires : goal.relocate_next-requires
relocate_next-requires g c =
    let t = c.self.inside in
    let counted = ap pending_of (sym c.self.view_is) ∙ pending-together _ t.current t.draining.waiting.items t.draining.array ∙ sym c.self.invariant.counted in
    omega (arith, c.loop.invariant.0.left, counted)

pub loop-preserved : goal.loop-preserved
loop-preserved g c =
    let moved = c.in_ok-relocate_next.ensures.ok in (
      finish-step c.args.self.now c.loop.self c.relocate_next.new.self c.loop.counter moved.0 c.loop.invariant.0 moved.2 c.relocate_next.ensures.bounded,
      targets-first moved.0 c.loop.self c.relocate_next.new.self moved.1 moved.2 ∙ ap (drop 1) c.loop.invariant.1 ∙ sym (drop-next c.loop.counter (pending_targets c.args.self.now)),
    )

pub returns : goal.returns
returns g c =
    let t = c.self.inside in
    let a = c.args.self.now in
    let counted = ap pending_of (sym c.self.view_is) ∙ pending-together _ t.current t.draining.waiting.items t.draining.array ∙ sym c.self.invariant.counted in
    record {
      lists = (search rules);
      settings = (search rules);
      noted = (search rules);
      fewer = (search rules);
      less = (search rules);
      ok = (c.loop.invariant.0.none (omega (arith, c.loop.invariant.0.left, counted)));
      refused = (search rules);
      moved = (c.loop.counter, c.loop.invariant.1);
      bounded = (search rules);
    }

pub returns-in_err-relocate_next : goal.returns-in_err-relocate_next
returns-in_err-relocate_next g c =
    record {
      lists = (search rules);
      settings = (search rules);
      noted = (search rules);
      fewer = (search rules);
      less = (search rules);
      ok = (search rules);
      refused = (search rules);
      moved = (c.loop.counter, subst (λ z. pending_targets z ≡ drop c.loop.counter (pending_targets c.args.self.now)) (sym c.in_err-relocate_next.ensures.err) c.loop.invariant.1);
      bounded = (search rules);
    }
