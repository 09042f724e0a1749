-- What the preparation of a call and the call itself do to a container, in one word each.
use Rattle.std.specs.Prelude.{◌≡◌, ◌≢◌, ◌⊎◌, ℕ, ◌≤◌, Bool, true, Option, Result, IfOk, IsSome}
use Rattle.std.specs.Result.{OnErr}
use Rattle.scc_calls.specs.Resized.{MovesResized, Stays}
use Rattle.scc_calls.specs.Copies.{MayNotClone}
use Rattle.scc_calls.specs.declared.copied.Copied.{Copied}

-- a clone of the reply that the call gives may be refused, in this state or after one resize
abbrev pub MayNotReply : {S C R : Type 0} → (S → ℕ) → (S → ℕ → S → Type 0) → (S → C → R) → (R → Type 0) → S → C → Type 0
MayNotReply {S} size resizes answer is_infallible s call = (t : S) × Stays size resizes s t × MayNotClone is_infallible (answer t call)

module _ {T G S K C R X : Type 0} (run_setting : T → G) (state_of : T → S) (size : S → ℕ) (key_of : C → Option K) (gives : G → S → C → R) (resizes : G → S → ℕ → S → Type 0) (may_refuse : G → S → C → Type 0) (may_add : C → Type 0) (is_prepared : T → C → R → Type 0) (is_infallible : R → Type 0) where
  -- what `ready` of the call, with this result, does to the container c, which becomes d
  pub record PreparesCallByRule (is_marked : T → Bool) (c : T) (call : C) (result : Result (R × R) X) (d : T) : Type 0 where
    -- the setting stays
    pub setting : run_setting d ≡ run_setting c
    -- the state stays, or one resize was made
    pub stays : Stays size (resizes (run_setting c)) (state_of c) (state_of d)
    -- the number of buckets doesn't fall
    pub grows : size (state_of c) ≤ size (state_of d)
    -- the number of buckets changes only if the call may add a key
    pub adds : size (state_of d) ≢ size (state_of c) → may_add call
    -- the call is prepared to give each of the two copies
    pub ready : IfOk result (λ r. is_prepared d call r.0 × is_prepared d call r.1)
    -- it fails only if memory for the call may be refused, or if the call has a key and a clone of its reply may be
    -- refused
    pub refused : OnErr result (may_refuse (run_setting c) (state_of c) call ⊎ (IsSome (key_of call) × MayNotClone is_infallible (gives (run_setting d) (state_of d) call)))
    -- if it fails, it leaves no mark but one that was there before
    pub unmarked : OnErr result (is_marked d ≡ true → is_marked c ≡ true)
    -- if memory for the call may be refused in the state of d, it may be refused in the state of c
    pub still : may_refuse (run_setting c) (state_of d) call → may_refuse (run_setting c) (state_of c) call

  -- what the call, with this result, does to the container c, which becomes d. `moves` relates states by the call and
  -- its reply; `eq` says which replies are equal
  pub record CallsByRule (moves : G → S → C → R → S → Type 0) (eq : R → R → Bool) (c : T) (call : C) (result : Result R X) (d : T) : Type 0 where
    -- the setting stays
    pub setting : run_setting d ≡ run_setting c
    -- if it succeeds, this very call was made with this very reply, and with at most one resize
    pub ok : IfOk result (λ r. MovesResized size (moves (run_setting c)) (resizes (run_setting c)) (state_of c) call r (state_of d))
    -- if it fails, the state stays, or one resize was made
    pub err : OnErr result (Stays size (resizes (run_setting c)) (state_of c) (state_of d))
    -- it fails only if memory for the call may be refused, or if the call has a key and a clone of its reply may be
    -- refused
    pub refused : OnErr result (may_refuse (run_setting c) (state_of c) call ⊎ (IsSome (key_of call) × MayNotClone is_infallible (gives (run_setting c) (state_of c) call)))
    -- if the call was prepared with a copy, its reply equals the copy
    pub answer : (copy : R) → is_prepared c call copy → IfOk result (λ r. eq r copy ≡ true)
    -- if the call was prepared, it makes no growth
    pub made : (copy : R) → is_prepared c call copy → size (state_of d) ≤ size (state_of c)
    -- if the call may add a key, the number of buckets doesn't fall
    pub kept : may_add call → size (state_of c) ≤ size (state_of d)

module _ {T G S K C R X : Type 0} (run_setting : T → G) (state_of : T → S) (size : S → ℕ) (key_of : C → Option K) (gives : G → S → C → R) (resizes : G → S → ℕ → S → Type 0) (may_refuse : G → S → C → Type 0) (is_infallible : R → Type 0) where
  -- what `call_copied` of the call, with this result, does to the container c, which becomes d. `moves` relates states
  -- by the call and its reply; `eq` says which replies are equal
  pub record CallsCopiedByRule (moves : G → S → C → R → S → Type 0) (eq : R → R → Bool) (c : T) (call : C) (result : Result (Copied R) X) (d : T) : Type 0 where
    -- the setting stays
    pub setting : run_setting d ≡ run_setting c
    -- if it succeeds, this very call was made with this very reply, and with at most one resize
    pub ok : IfOk result (λ r. MovesResized size (moves (run_setting c)) (resizes (run_setting c)) (state_of c) call r.reply (state_of d))
    -- if it succeeds, the reply equals both copies
    pub copies : IfOk result (λ r. (eq r.reply r.noted ≡ true) × (eq r.reply r.kept ≡ true))
    -- if it fails, the state stays, or one resize was made
    pub err : OnErr result (Stays size (resizes (run_setting c)) (state_of c) (state_of d))
    -- it fails only if memory for the call may be refused, or if the call has a key and a clone of its reply may be
    -- refused
    pub refused : OnErr result (may_refuse (run_setting c) (state_of c) call ⊎ (IsSome (key_of call) × MayNotReply size (resizes (run_setting c)) (gives (run_setting c)) is_infallible (state_of c) call))
