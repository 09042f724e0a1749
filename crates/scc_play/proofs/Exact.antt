-- If calls and replies that are equal are the same, a script that was played by equal calls was played by these very calls.
use Rattle.std.proofs.Common.{ℕ, Bool, List}
use Rattle.std.proofs.Math.Logic.{∥∥₁_map}
use Rattle.scc_calls.proofs.Exact.{merged-as, replays-as}
use Rattle.scc_calls.specs.Copies.{AreSame, Means}
use Rattle.scc_calls.specs.Means.{means_same}
use Rattle.scc_calls.specs.declared.fixed.Request.{Request}
use Rattle.scc_calls.specs.declared.fixed.Setting.{Setting}
use Rattle.scc_script.specs.declared.line.WorkerCall.{WorkerCall}
use Rattle.scc_play.specs.Played.{IsPlayed, Machine}

module _ {C H S W A R K X : Type 0} (machine : Machine C H S W A R K X) (moves : Setting H → S → A → R → S → Type 0) (whole_moves : Setting H → ℕ → ℕ → W → A → R → W → Type 0) where
  -- the machine with another meaning of the calls
  abbrev pub meaning : Machine C H S W A R K X
  meaning = record {
    limits = machine.limits;
    empty = machine.empty;
    key_of = machine.key_of;
    moves = moves;
    resizes = machine.resizes;
    whole = machine.whole;
    whole_moves = whole_moves;
    whole_resizes = machine.whole_resizes;
    counted = machine.counted;
    count = machine.count;
    state = machine.state;
    shown = machine.shown;
    order = machine.order;
    reply = machine.reply;
    content = machine.content;
  }

  pub exactly : {same_call : A → A → Bool} {same_reply : R → R → Bool} (route : ℕ → K → ℕ) (request : Request H) (workers stripes : ℕ) (calls : List (WorkerCall A)) (text : List ℕ) → IsPlayed machine route request workers stripes calls text
      → ((g : Setting H) (s : S) (call : A) (reply : R) (t : S) → machine.moves g s call reply t → Means same_call same_reply (moves g) s call reply t)
      → (AreSame same_call → AreSame same_reply → (g : Setting H) (n i : ℕ) (w : W) (call : A) (reply : R) (v : W) → machine.whole_moves g n i w call reply v → whole_moves g n i w call reply v)
      → AreSame same_call → AreSame same_reply → IsPlayed meaning route request workers stripes calls text
  exactly {same_call} {same_reply} route request workers stripes calls text p one all exact_calls exact_replies = record {
    setting = p.setting;
    histories = p.histories;
    ends = p.ends;
    places = p.places;
    replies = p.replies;
    items = p.items;
    made = p.made;
    stripe_count = p.stripe_count;
    replays = replays-as (machine.resizes p.setting) (λ s call reply t m. means_same same_call same_reply (moves p.setting) exact_calls exact_replies s t call reply (one p.setting s call reply t m)) _ _ _ p.replays;
    routed = p.routed;
    merges = λ order m. ∥∥₁_map (p.merges order m) (λ r. merged-as (machine.whole_resizes p.setting stripes) (all exact_calls exact_replies p.setting stripes) _ _ _ r);
    known = p.known;
    order = p.order;
    stamps = p.stamps;
    worker_count = p.worker_count;
    answered = p.answered;
    same = p.same;
    rising = p.rising;
    whole = p.whole;
  }
