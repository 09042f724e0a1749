-- Facts about a part, from the settings of a new table.
use Rattle.std.proofs.Common.{◌≡◌, ℕ, ◌+◌, ◌*◌, ◌<◌, Ok, Err, refl, sym, ap, subst, arith}
use Rattle.std.specs.Prelude.{Result, IfOk}
use Rattle.scc_common.specs.Contents.{Contents, bucket_count, settings_of}
use Rattle.scc_common.specs.Sizes.{IsArraySize}
use Rattle.scc_calls.specs.Made.{IsMadeFor}
use Rattle.scc_calls.specs.States.{run_setting}

pub made-for : {E H X : Type 0} (h : H) (t n x : ℕ) (r : Result (Contents E H) X)
    → IfOk r (λ m. n ≡ 0 → bucket_count m ≡ 0) → IfOk r (λ m. 0 < n → IsArraySize n (32 * bucket_count m))
    → IfOk r (λ m. settings_of m ≡ record { hasher = h; skipped = t; asked = 32 * bucket_count m; reserved = 0 })
    → IfOk r (λ c. IsMadeFor (λ _ _ m. m ≡ 0) (record { hasher = h; skipped = t; slots = n; maximum = x }) (run_setting c))
made-for h t n x (Ok m) zero size s =
    let a = ap (λ u. u.asked) s in
    let z = ap (λ u. u.reserved) s in
    let e : (settings_of m).asked + (settings_of m).reserved ≡ 32 * bucket_count m = omega (arith, a, z) in
    record {
      hasher = ap (λ u. u.hasher) s;
      skipped = ap (λ u. u.skipped) s;
      none = λ none. let b = zero none in omega (arith, b, e);
      size = λ some. subst (λ k. IsArraySize n k) (sym e) (size some);
      maximum = refl;
    }
made-for h t n x (Err y) zero size s = tt
