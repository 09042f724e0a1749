-- A script's key is its own hash, and its stripes are made for one request.
use Rattle.std.proofs.Common.{◌≡◌, ℕ, List, None, Some, Result, Ok, Err, sym, ap, subst}
use Rattle.std.proofs.Math.Logic.{∥∥₁_map}
use Rattle.std.specs.Result.{IfOk}
use Rattle.scc_calls.specs.declared.fixed.Request.{Request}
use Rattle.scc_recorded.specs.Setups.{request_of}
use Rattle.scc_script.proofs.OwnHash.{own-hash}
use Rattle.scc_script.specs.declared.line.WorkerCall.{WorkerCall}
use Rattle.scc_script.specs.declared.same.Same.{Same}
use Rattle.scc_play.specs.Ended.{IfPlayed}
use Rattle.scc_play.specs.Kinds.{finished_hash, own_hash, route_by, script_request}
use Rattle.scc_play.specs.Played.{IsPlayed, Machine}
use Rattle.scc_play.specs.declared.ends.End.{End}
use Rattle.scc_play.specs.declared.ends.End.TheVariants.{Played, Unfinished, Differs}

own : finished_hash ≡ own_hash
own = λ i k. own-hash k i

some-is : {X : Type 0} (x y : X) → Some x ≡ Some y → x ≡ y
some-is x y e = ap (λ o. elim o [ None ↦ x | Some z ↦ z ]) e

module _ {C S W A R X : Type 0} (machine : (ℕ → ℕ) → Machine C Same S W A R ℕ X) (workers stripes : ℕ) (calls : List (WorkerCall A)) where
  pub by-own-hash : (h : Same) (text : List ℕ) → ∥ ((r : Request Same) × (Some (request_of 0 256 h stripes) ≡ Some r) × IsPlayed (machine finished_hash) (route_by finished_hash) r workers stripes calls text) ∥₁
      → ∥ IsPlayed (machine own_hash) (route_by own_hash) (script_request stripes) workers stripes calls text ∥₁
  by-own-hash h text p = ∥∥₁_map p (λ a.
      let P : (ℕ → ℕ) → Type 0 = λ hash. IsPlayed (machine hash) (route_by hash) (script_request stripes) workers stripes calls text in
      let Q : Request Same → Type 0 = λ r. IsPlayed (machine finished_hash) (route_by finished_hash) r workers stripes calls text in
      let is : request_of 0 256 h stripes ≡ a.0 = some-is (request_of 0 256 h stripes) a.0 a.1 in
      subst P own (subst Q (sym is) a.2))

-- if P implies Q, and P holds of the text of a run that was played, Q holds of the text
pub if-played : {E : Type 0} {P Q : List ℕ → Type 0} (r : Result End E) → IfOk r (λ e. IfPlayed e P) → ((text : List ℕ) → P text → Q text) → IfOk r (λ e. IfPlayed e Q)
if-played (Ok (Played text)) p f = f _ p
if-played (Ok (Unfinished cause)) p f = tt
if-played (Ok Differs) p f = tt
if-played (Err e) p f = tt
