-- What a recorded call makes of a stripe and of the log of its caller, in one word.
use Rattle.std.specs.Prelude.{◌≡◌, ◌+◌, ◌<◌, ◌⊎◌, [], ◌∷◌, ◌++◌, Err, Result, IfOk, IsSome, max}
use Rattle.std.specs.Result.{OnErr}
use Rattle.std.specs.Vec.{vec_len, vec_capacity}
use Rattle.std.specs.declared.clone.Clone as clone
use Rattle.std.specs.declared.cmp.PartialEq as eq
use Rattle.std.specs.declared.hash.Hash as hash
use Rattle.std.specs.declared.hash.Hasher as hasher
use Rattle.std.specs.declared.hash.BuildHasher as builder
use Rattle.scc_calls.specs.Resized.{MovesResized, Stays}
use Rattle.scc_calls.specs.Calling.{MayNotReply}
use Rattle.scc_calls.specs.Copies.{AreCopies}
use Rattle.scc_calls.specs.declared.calling.Calls as calls
use Rattle.scc_history.specs.Stamps.{recorded, resized, receipt}
use Rattle.scc_history.specs.declared.log.Log.{Log}
use Rattle.scc_history.specs.declared.CallError.{CallError}
use Rattle.scc_history.specs.declared.CallError.TheVariants.{Room, Container}
use Rattle.scc_history.specs.declared.Stripe.{Stripe}

module _ {C K H A R T : Type 0} {m : calls.Ghosts C K H A R T} {h : hash.Ghosts K} {g : eq.Ghosts K} {b : builder.Ghosts H T} {w : hasher.Ghosts T} {call_clones : clone.Ghosts A} {call_equality : eq.Ghosts A} {reply_clones : clone.Ghosts R} {reply_equality : eq.Ghosts R} where
  -- what `call` with this result makes of the stripe old and the log before: the stripe new and the log after
  pub record RecordsByRule (old : Stripe C K H A R T m h g b w call_clones call_equality reply_clones reply_equality) (before : Log C K H A R T m h g b w call_clones call_equality reply_clones reply_equality) (call : A) (result : Result R CallError) (new : Stripe C K H A R T m h g b w call_clones call_equality reply_clones reply_equality) (after : Log C K H A R T m h g b w call_clones call_equality reply_clones reply_equality) : Type 0 where
    -- the setting, the number of buckets at opening and both numbers stay
    pub same : (m.setting new.container ≡ m.setting old.container) × (new.opened ≡ old.opened) × (new.number ≡ old.number) × (after.number ≡ before.number)
    -- if it succeeds, the last stamp and the clock are one more than the greater of both was
    pub stamp : IfOk result (λ r. (new.last ≡ max before.clock old.last + 1) × (after.clock ≡ new.last))
    -- if it succeeds, the history got the record of a clone of the call and of a reply that equals the result
    pub history : IfOk result (λ r. (copy : A) × (given : R) × AreCopies call_clones.is_clone reply_equality.eq call r copy given × (new.history.items ≡ old.history.items ++ recorded (m.size (m.state old.container)) (m.size (m.state new.container)) new.last before.number copy given))
    -- if it succeeds, the log got one receipt of a clone of the call and of a reply that equals the result, with the
    -- number of the stripe
    pub receipt : IfOk result (λ r. (copy : A) × (given : R) × AreCopies call_clones.is_clone reply_equality.eq call r copy given × (after.receipts.items ≡ before.receipts.items ++ receipt old.number new.last copy given ∷ []))
    -- if it succeeds, the container made this very call, with this very reply and at most one resize
    pub step : IfOk result (λ r. MovesResized m.size (m.moves (m.setting old.container)) (m.resizes (m.setting old.container)) (m.state old.container) call r (m.state new.container))
    -- if it fails, the last stamp, the clock and the receipts stay
    pub err : OnErr result ((new.last ≡ old.last) × (after.clock ≡ before.clock) × (after.receipts.items ≡ before.receipts.items))
    -- if it fails, the history got at most a resize
    pub resize : OnErr result (new.history.items ≡ old.history.items ++ resized (m.size (m.state old.container)) (m.size (m.state new.container)) (max before.clock old.last + 1))
    -- if it fails, the container made at most this resize
    pub stays : OnErr result (Stays m.size (m.resizes (m.setting old.container)) (m.state old.container) (m.state new.container))
    -- the container refuses a call only if memory for the call may be refused, or if the call has a key and a clone of
    -- its reply may be refused
    pub refused : result ≡ Err Container → m.may_refuse (m.setting old.container) (m.state old.container) call ⊎ (IsSome (m.key_of call) × MayNotReply m.size (m.resizes (m.setting old.container)) (m.answer (m.setting old.container)) reply_clones.is_infallible (m.state old.container) call)
    -- if it fails with `Room`, container and history stay
    pub room : result ≡ Err Room → (new.container ≡ old.container) × (new.history.items ≡ old.history.items)
    -- if it fails with `Room`, there was no room for the record or the receipt, no stamp was left, or a clone of the
    -- call may be refused
    pub full : result ≡ Err Room → (vec_capacity old.history < vec_len old.history + 2) ⊎ (vec_capacity before.receipts < vec_len before.receipts + 1) ⊎ (max before.clock old.last ≡ 18446744073709551615) ⊎ (call_clones.is_infallible call → ⊥)
