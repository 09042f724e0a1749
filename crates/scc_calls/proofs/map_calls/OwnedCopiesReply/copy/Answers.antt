use Rattle.std.proofs.Common.{Some, refl, arith}
use Rattle.std.proofs.lemmas.Bool.Decides.{nat_tests}
use Rattle.scc_common.specs.Contents.{entries}
use Rattle.scc_common.specs.Pairs.{find}
use Rattle.scc_owned.proofs.Found.{found-here}
use Rattle.scc_table.proofs.places.Entries.{place-found}
use Rattle.scc_calls.specs.declared.replies.Reply.TheVariants.{Exists, Old, Key, Pair, Value}
use Rattle.scc_calls.proofs.Copying.{copied, copied_whole}
use Rattle.scc_calls.proofs.Runs.{when_err}
use Rattle.scc_calls.proofs.map_calls.OwnedCopiesReply.copy.Goals as goal

pub returns-in_ok-cloned_key-in-Replace-clause-ok : goal.returns-in_ok-cloned_key-in-Replace-clause-ok
returns-in_ok-cloned_key-in-Replace-clause-ok g c = rw c.in-Replace.is (copied c.requires.clones Key _ (λ p. p.0) refl (λ x y h. h) (find g.K.PartialEq.eq (entries c.args.self.now) c.in-Replace.k) c.in_ok-cloned_key-in-Replace.field-0 c.in_ok-cloned_key-in-Replace.ensures.ok)

pub returns-in_ok-cloned_value-in-Read-clause-ok : goal.returns-in_ok-cloned_value-in-Read-clause-ok
returns-in_ok-cloned_value-in-Read-clause-ok g c = rw c.in-Read.is (copied c.requires.clones Value _ (λ p. p.1) refl (λ x y h. h) (find g.K.PartialEq.eq (entries c.args.self.now) c.in-Read.k) c.in_ok-cloned_value-in-Read.field-0 c.in_ok-cloned_value-in-Read.ensures.ok)

pub returns-in_ok-cloned_pair-in-Remove-clause-ok : goal.returns-in_ok-cloned_pair-in-Remove-clause-ok
returns-in_ok-cloned_pair-in-Remove-clause-ok g c = rw c.in-Remove.is (copied_whole c.requires.clones Pair _ refl (λ x y h. h) (find g.K.PartialEq.eq (entries c.args.self.now) c.in-Remove.k) c.in_ok-cloned_pair-in-Remove.field-0 c.in_ok-cloned_pair-in-Remove.ensures.ok)

pub returns-in-Len-clause-ok : goal.returns-in-Len-clause-ok
returns-in-Len-clause-ok g c = rw c.in-Len.is (let e = c.len.ensures.len in grind (arith, nat_tests, e))

pub returns-in_ok-key-in-Some-clause-ok : goal.returns-in_ok-key-in-Some-clause-ok
returns-in_ok-key-in-Some-clause-ok g c =
    let at = rw (c.in-Insert.is, c.in-Some.is) at c.requires.known in
    let there = (place-found g.K.PartialEq.eq c.args.self.now c.in-Insert.k c.in-Some.field-0 at).2 in
    rw (c.in-Insert.is, there) (c.requires.clones (Exists c.in-Insert.k c.in-Insert.v) (Exists c.in_ok-key-in-Some.key c.in_ok-key-in-Some.value) c.in_ok-key-in-Some.ensures.ok)

pub returns-in_err-key-in-Some-clause-refused : goal.returns-in_err-key-in-Some-clause-refused
returns-in_err-key-in-Some-clause-refused g c =
    let at = rw (c.in-Insert.is, c.in-Some.is) at c.requires.known in
    let there = (place-found g.K.PartialEq.eq c.args.self.now c.in-Insert.k c.in-Some.field-0 at).2 in
    when_err c.from_residual.result (rw c.in-Insert.is refl, rw (c.in-Insert.is, there) c.in_err-key-in-Some.ensures.refused)

pub returns-in-Ok-clause-ok : goal.returns-in-Ok-clause-ok
returns-in-Ok-clause-ok g c =
    let at = rw (c.in-Upsert.is, c.in-Some-found.is) at c.requires.known in
    let there = found-here g.K.PartialEq.eq c.args.self.now c.in-Upsert.field-0 c.in-Some-found.place at _ c.pair_at.ensures in
    rw (c.in-Upsert.is, there) (c.requires.clones (Old (Some c.pair_at.result.1.now)) (Old (Some c.in-Ok.value)) c.in-Ok.ensures.cases)

pub returns-in-Err-clause-refused : goal.returns-in-Err-clause-refused
returns-in-Err-clause-refused g c =
    let at = rw (c.in-Upsert.is, c.in-Some-found.is) at c.requires.known in
    let there = found-here g.K.PartialEq.eq c.args.self.now c.in-Upsert.field-0 c.in-Some-found.place at _ c.pair_at.ensures in
    (rw c.in-Upsert.is refl, rw (c.in-Upsert.is, there) c.in-Err.ensures.cases)
