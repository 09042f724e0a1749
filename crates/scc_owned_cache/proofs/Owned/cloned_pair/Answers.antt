use Rattle.std.proofs.Common.{◌∙◌, sym}
use Rattle.scc_table.proofs.arrays.SameParts.{any-err}
use Rattle.scc_owned_cache.proofs.Found.{missing-found, there-found}
use Rattle.scc_owned_cache.proofs.Owned.cloned_pair.Goals as goal

pub returns-in_err-key-in-Some-clause-err : goal.returns-in_err-key-in-Some-clause-err
returns-in_err-key-in-Some-clause-err g c =
    let f = c.in-Some.ensures in
    any-err c.from_residual.result ((c.pair_at.result.0.now, c.pair_at.result.1.now), there-found _ _ _ _ _ f.pair f.there ∙ sym f.here ∙ c.pair_at.ensures.pair, λ h. c.in_err-key-in-Some.ensures.cases h.0)

pub returns-in_err-value-in-Some-clause-err : goal.returns-in_err-value-in-Some-clause-err
returns-in_err-value-in-Some-clause-err g c =
    let f = c.in-Some.ensures in
    any-err c.from_residual-in_err-value-in-Some.result ((c.pair_at.result.0.now, c.pair_at.result.1.now), there-found _ _ _ _ _ f.pair f.there ∙ sym f.here ∙ c.pair_at.ensures.pair, λ h. c.in_err-value-in-Some.ensures.cases h.1)

pub returns-in_ok-value-in-Some-clause-ok : goal.returns-in_ok-value-in-Some-clause-ok
returns-in_ok-value-in-Some-clause-ok g c =
    let f = c.in-Some.ensures in
    let here = there-found _ _ _ _ _ f.pair f.there ∙ sym f.here ∙ c.pair_at.ensures.pair in
    rw here (c.in_ok-key-in-Some.ensures.cases, c.in_ok-value-in-Some.ensures.cases)

pub returns-in-None-clause-ok : goal.returns-in-None-clause-ok
returns-in-None-clause-ok g c = rw (missing-found _ _ _ _ c.in-None.ensures.absent) tt
