use Rattle.std.proofs.Common.{Some, refl, arith}
use Rattle.std.proofs.lemmas.Result.{on_err_weaker}
use Rattle.std.proofs.lemmas.Bool.Decides.{nat_tests}
use Rattle.scc_calls.specs.declared.replies.Reply.TheVariants.{Exists, Key}
use Rattle.scc_calls.proofs.SetCalls.{is-there, key-there}
use Rattle.scc_calls.proofs.set_calls.OwnedCopiesReply.copy.Goals as goal

pub returns-in-Ok-clause-ok : goal.returns-in-Ok-clause-ok
returns-in-Ok-clause-ok g c =
    let at = rw (c.in-Insert.is, c.in-Some.is) at c.requires.known in
    let there = is-there g.K.PartialEq.eq c.args.self.now c.in-Insert.k c.in-Some.field-0 at in
    rw (c.in-Insert.is, there) (c.requires.clones (Exists c.in-Insert.k tt) (Exists c.in-Ok.key tt) (c.in-Ok.ensures.cases, refl))

pub returns-in-Err-clause-refused : goal.returns-in-Err-clause-refused
returns-in-Err-clause-refused g c =
    let at = rw (c.in-Insert.is, c.in-Some.is) at c.requires.known in
    let there = is-there g.K.PartialEq.eq c.args.self.now c.in-Insert.k c.in-Some.field-0 at in
    (rw c.in-Insert.is refl, rw (c.in-Insert.is, there) (λ h. c.in-Err.ensures.cases h.0))

pub returns-in-Ok-clone-clause-ok : goal.returns-in-Ok-clone-clause-ok
returns-in-Ok-clone-clause-ok g c =
    let at = rw (c.in-Replace.is, c.in-Some-found.is) at c.requires.known in
    let there = key-there g.K.PartialEq.eq c.args.self.now c.in-Replace.field-0 c.in-Some-found.place _ at c.key_at.ensures in
    rw (c.in-Replace.is, there) (c.requires.clones (Key (Some c.key_at.result.now)) (Key (Some c.in-Ok-clone.key)) c.in-Ok-clone.ensures.cases)

pub returns-in-Err-clone-clause-refused : goal.returns-in-Err-clone-clause-refused
returns-in-Err-clone-clause-refused g c =
    let at = rw (c.in-Replace.is, c.in-Some-found.is) at c.requires.known in
    let there = key-there g.K.PartialEq.eq c.args.self.now c.in-Replace.field-0 c.in-Some-found.place _ at c.key_at.ensures in
    (rw c.in-Replace.is refl, rw (c.in-Replace.is, there) c.in-Err-clone.ensures.cases)

pub returns-in-Len-clause-ok : goal.returns-in-Len-clause-ok
returns-in-Len-clause-ok g c = rw c.in-Len.is (let e = c.len.ensures.len in grind (arith, nat_tests, e))

pub returns-in-Remove-clause-ok : goal.returns-in-Remove-clause-ok
returns-in-Remove-clause-ok g c = rw c.in-Remove.is c.copy_key.ensures.ok

pub returns-in-Remove-clause-refused : goal.returns-in-Remove-clause-refused
returns-in-Remove-clause-refused g c = rw c.in-Remove.is (on_err_weaker c.copy_key.result (λ h. (refl, h)) c.copy_key.ensures.refused)

pub returns-in-Read-clause-ok : goal.returns-in-Read-clause-ok
returns-in-Read-clause-ok g c = rw c.in-Read.is c.copy_key-in-Read.ensures.ok

pub returns-in-Read-clause-refused : goal.returns-in-Read-clause-refused
returns-in-Read-clause-refused g c = rw c.in-Read.is (on_err_weaker c.copy_key-in-Read.result (λ h. (refl, h)) c.copy_key-in-Read.ensures.refused)
