use Rattle.std.proofs.Common.{◌%◌, arith, refl, inl, inr}
use Rattle.scc_array.proofs.Windows.{same_or_not}
use Rattle.scc_draining.proofs.Numbers.{joined-shrunk, only-doubled, only-grown, only-shrunk, source-within}
use Rattle.scc_draining.proofs.relocate.sources.Goals as goal

pub returns-then-count-old-clause-only : goal.returns-then-count-old-clause-only
returns-then-count-old-clause-only c =
    λ t h at. let e = only-doubled c.args.old c.args.count t h c.args.target c.if-count-old.true at in (omega arith, omega arith)

pub returns-then-old-count-clause-only : goal.returns-then-old-count-clause-only
returns-then-old-count-clause-only c =
    λ t h at. let e = only-grown c.args.old c.args.count t h c.args.target c.requires.some c.if-old-count.true c.requires.target c.requires.multiples at in (omega arith, omega arith)

pub returns-clause-only : goal.returns-clause-only
returns-clause-only c =
    λ t h at. only-shrunk c.args.old c.args.count t h c.args.target (let n = c.if-old-count.false in omega arith) c.requires.target c.requires.multiples at

pub returns-then-old-count-clause-within : goal.returns-then-old-count-clause-within
returns-then-old-count-clause-within c = let l = source-within c.args.old c.args.count c.args.target c.requires.some c.if-old-count.true c.requires.target c.requires.multiples in omega arith

pub returns-clause-joined : goal.returns-clause-joined
returns-clause-joined c =
    λ less t h low high. joined-shrunk c.args.old c.args.count t h c.args.target less c.requires.target c.requires.multiples low high

pub returns-then-count-old-clause-doubled : goal.returns-then-count-old-clause-doubled
returns-then-count-old-clause-doubled c =
    λ twice.
    let m = c.args.target % 2 in
    (refl, elim (same_or_not (c.args.target % 2) 0) [ inl z ↦ inl (omega arith) | inr z ↦ inr (omega arith) ])

pub returns-then-old-count-clause-doubled : goal.returns-then-old-count-clause-doubled
returns-then-old-count-clause-doubled c = λ twice. absurd (c.if-count-old.false twice)

pub returns-clause-doubled : goal.returns-clause-doubled
returns-clause-doubled c = λ twice. absurd (c.if-count-old.false twice)
