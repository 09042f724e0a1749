-- The first byte of the kind cuts the text. If there is no such byte, the text is one part.
use Rattle.std.proofs.Common.{◌+◌, arith, rules}
use Rattle.scc_script.proofs.Parts.{parts_none, parts_cut, take-rest}
use Rattle.scc_script.proofs.fields.cut_at.Goals as goal

pub returns-then-b-byte-clause-parts : goal.returns-then-b-byte-clause-parts
returns-then-b-byte-clause-parts c =
    rw (take-rest c.args.text.now (c.loop-place.place + 1))
    (parts_cut c.args.byte c.args.text.now c.loop-place.place (omega arith) (search rules) c.loop-place.invariant)

pub returns-clause-parts : goal.returns-clause-parts
returns-clause-parts c = parts_none c.args.byte c.args.text.now (λ k l. c.loop-place.invariant k (omega arith))
