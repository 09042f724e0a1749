-- What a pass gets of one call.
use Rattle.std.specs.Prelude.{◌≡◌, ℕ, ◌<◌, Some}
use Rattle.std.specs.declared.clone.Clone as clone
use Rattle.std.specs.declared.cmp.PartialEq as eq
use Rattle.std.specs.declared.hash.Hash as hash
use Rattle.std.specs.declared.hash.Hasher as hasher
use Rattle.std.specs.declared.hash.BuildHasher as builder
use Rattle.scc_calls.specs.declared.calling.Calls as calls
use Rattle.scc_common.specs.Routing.{stripe_of}
use Rattle.scc_history.specs.Added.{AddsReceipt}
use Rattle.scc_recorded.specs.declared.passes.Pass.{Pass}

module _ {C L K H A R T : Type 0} {m : calls.Ghosts C K H A R T} {h : hash.Ghosts K} {g : eq.Ghosts K} {b : builder.Ghosts H T} {w : hasher.Ghosts T} {call_clones : clone.Ghosts A} {call_equality : eq.Ghosts A} {reply_clones : clone.Ghosts R} {reply_equality : eq.Ghosts R} where
  -- the pass has the same clock and the same receipts
  abbrev pub SamePass : Pass C L K H A R T m h g b w call_clones call_equality reply_clones reply_equality → Pass C L K H A R T m h g b w call_clones call_equality reply_clones reply_equality → Type 0
  SamePass old new = (new.log.clock ≡ old.log.clock) × (new.log.receipts.items ≡ old.log.receipts.items)

  -- the clock of the pass rose, and the pass has one receipt more, of the stripe of the call's key among `stripes`
  -- stripes that route by `hasher`. The receipt has the new clock as its stamp, and copies of the call and of the reply
  abbrev pub GetsReceipt : H → ℕ → Pass C L K H A R T m h g b w call_clones call_equality reply_clones reply_equality → A → R → Pass C L K H A R T m h g b w call_clones call_equality reply_clones reply_equality → Type 0
  GetsReceipt hasher stripes old call reply new =
      (old.log.clock < new.log.clock)
      × ((k : K) → m.key_of call ≡ Some k → AddsReceipt call_clones.is_clone reply_equality.eq (stripe_of b w h.hash_input hasher stripes k) new.log.clock call reply old.log.receipts.items new.log.receipts.items)
