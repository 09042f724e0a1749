-- A walk over a set that takes every key.
use Rattle.std.proofs.Common.{◌≡◌, Bool, true, false, List, ◌∷◌, Result, refl, ap}
use Rattle.std.specs.Result.{is_err}
use Rattle.scc_common.specs.declared.errors.WalkError.{WalkError}
use Rattle.scc_common.specs.declared.verdict.Verdict.{Verdict}
use Rattle.scc_common.specs.declared.verdict.Verdict.TheVariants.{Keep, Take, KeepStop, TakeStop}
use Rattle.scc_owned_set.specs.SetWalks.{Takes}
use Rattle.scc_owned_set.specs.SetWalks as walks

module _ {F K : Type 0} (T : F → K → Verdict → F → Type 0) (says : (f : F) (k : K) (v : Verdict) (f' : F) → T f k v f' → v ≡ Take) where
  taken : {f last : F} {ks stay more : List K} {r : Result Bool WalkError} → is_err r ≡ false → Takes T f ks stay more r last → more ≡ ks
  taken ok walks.ended = refl
  taken ok walks.refused = absurd (let h : true ≡ false = ok in cc)
  taken ok (walks.kept {f = f} {f' = f'} {q = q} t rest) = absurd (let h : Keep ≡ Take = says f q Keep f' t in cc)
  taken ok (walks.took {q = q} t rest) = ap (λ l. q ∷ l) (taken ok rest)
  taken ok (walks.kept_last {f = f} {f' = f'} {q = q} t) = absurd (let h : KeepStop ≡ Take = says f q KeepStop f' t in cc)
  taken ok (walks.took_last {f = f} {f' = f'} {q = q} t) = absurd (let h : TakeStop ≡ Take = says f q TakeStop f' t in cc)

  -- if the walk went through, the taken keys are all keys
  pub all-taken : (f : F) (ks stay more : List K) (r : Result Bool WalkError) (last : F) → is_err r ≡ false → Takes T f ks stay more r last → more ≡ ks
  all-taken f ks stay more r last ok t = taken ok t
