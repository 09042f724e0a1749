use Rattle.std.proofs.Common.{◌∙◌, sym}
use Rattle.scc_table.proofs.arrays.SameParts.{any-err}
use Rattle.scc_owned_cache.proofs.Found.{missing-found, there-found}
use Rattle.scc_owned_cache.proofs.Owned.cloned_key.Goals as goal

pub returns-in_ok-clone-in-Some-clause-ok : goal.returns-in_ok-clone-in-Some-clause-ok
returns-in_ok-clone-in-Some-clause-ok g c =
    let f = c.in-Some.ensures in
    let here = there-found _ _ _ _ _ f.pair f.there ∙ sym f.here ∙ c.pair_at.ensures.pair in
    rw here c.in_ok-clone-in-Some.ensures.cases

pub returns-in-None-clause-ok : goal.returns-in-None-clause-ok
returns-in-None-clause-ok g c = rw (missing-found _ _ _ _ c.in-None.ensures.absent) tt

pub returns-in_err-clone-in-Some-clause-err : goal.returns-in_err-clone-in-Some-clause-err
returns-in_err-clone-in-Some-clause-err g c =
    let f = c.in-Some.ensures in
    any-err c.from_residual.result (_, there-found _ _ _ _ _ f.pair f.there ∙ sym f.here ∙ c.pair_at.ensures.pair, c.in_err-clone-in-Some.ensures.cases)
