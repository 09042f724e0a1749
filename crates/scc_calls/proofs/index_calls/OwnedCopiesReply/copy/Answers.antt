use Rattle.std.proofs.Common.{refl, arith}
use Rattle.std.proofs.lemmas.Bool.Decides.{nat_tests}
use Rattle.scc_common.specs.Contents.{entries}
use Rattle.scc_common.specs.Pairs.{find}
use Rattle.scc_table.proofs.places.Entries.{place-found}
use Rattle.scc_calls.specs.declared.replies.Reply.TheVariants.{Exists, Value}
use Rattle.scc_calls.proofs.Copying.{copied}
use Rattle.scc_calls.proofs.Runs.{when_err}
use Rattle.scc_calls.proofs.index_calls.OwnedCopiesReply.copy.Goals as goal

pub returns-in_ok-key-in-Some-clause-ok : goal.returns-in_ok-key-in-Some-clause-ok
returns-in_ok-key-in-Some-clause-ok g c =
    let at = rw (c.in-Insert.is, c.in-Some.is) at c.requires.known in
    let there = (place-found g.K.PartialEq.eq c.args.self.now c.in-Insert.k c.in-Some.field-0 at).2 in
    rw (c.in-Insert.is, there) (c.requires.clones (Exists c.in-Insert.k c.in-Insert.v) (Exists c.in_ok-key-in-Some.key c.in_ok-key-in-Some.value) c.in_ok-key-in-Some.ensures.ok)

pub returns-in_err-key-in-Some-clause-refused : goal.returns-in_err-key-in-Some-clause-refused
returns-in_err-key-in-Some-clause-refused g c =
    let at = rw (c.in-Insert.is, c.in-Some.is) at c.requires.known in
    let there = (place-found g.K.PartialEq.eq c.args.self.now c.in-Insert.k c.in-Some.field-0 at).2 in
    when_err c.from_residual.result (rw c.in-Insert.is refl, rw (c.in-Insert.is, there) c.in_err-key-in-Some.ensures.refused)

pub returns-in_ok-cloned_value-in-Read-clause-ok : goal.returns-in_ok-cloned_value-in-Read-clause-ok
returns-in_ok-cloned_value-in-Read-clause-ok g c = rw c.in-Read.is (copied c.requires.clones Value _ (λ p. p.1) refl (λ x y h. h) (find g.K.PartialEq.eq (entries c.args.self.now) c.in-Read.k) c.in_ok-cloned_value-in-Read.field-0 c.in_ok-cloned_value-in-Read.ensures.ok)

pub returns-in-Len-clause-ok : goal.returns-in-Len-clause-ok
returns-in-Len-clause-ok g c = rw c.in-Len.is (let e = c.len.ensures.len in grind (arith, nat_tests, e))
