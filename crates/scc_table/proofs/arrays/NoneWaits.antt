-- Contents without a waiting bucket, and what follows from either result of a call.
use Rattle.std.proofs.Common.{◌≡◌, ℕ, Bool, false, List, [], Result, Ok, Err, ap, sym, ◌∙◌}
use Rattle.std.specs.Prelude.{IfOk, IfErr}
use Rattle.std.specs.List.{count_by}
use Rattle.scc_common.specs.Contents.{Contents, pending_of, waiting_of}
use Rattle.scc_table.specs.TwoArrays.{waits_at}
use Rattle.scc_table.proofs.relocations.OneByOne.{pending-is}
use Rattle.scc_draining.proofs.Flags.{none-up}

-- if the number of waiting buckets is 0, no bucket waits
pub not_waiting-all : {E S : Type 0} (c : Contents E S) → pending_of c ≡ 0 → (i : ℕ) → waits_at (waiting_of c) i ≡ false
not_waiting-all c none i = none-up (waiting_of c) (sym (pending-is c) ∙ none) i

-- if there are no flags, the number of waiting buckets is 0
pub none-flagged : {E S : Type 0} (c : Contents E S) → waiting_of c ≡ [] → pending_of c ≡ 0
none-flagged c none = pending-is c ∙ ap (λ (ws : List Bool). count_by (λ w. w) ws) none

pub either-answer : {X Y R : Type 0} {P : X → Type 0} {Q : Y → Type 0} (r : Result X Y) → IfOk r P → IfErr r Q → ((x : X) → P x → R) → ((y : Y) → Q y → R) → R
either-answer (Ok x) p q f h = f x p
either-answer (Err y) p q f h = h y q
