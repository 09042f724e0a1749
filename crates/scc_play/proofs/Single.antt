-- For each kind, the text of one worker on one stripe is the text of a run of the script's calls.
use Rattle.std.proofs.Common.{◌≡◌, ℕ, ◌*◌, ◌/◌, ◌%◌, ◌^◌, ◌<◌, ◌≤◌, max, List, [], refl, sym, ap, subst, arith}
use Rattle.std.specs.Prelude.{nat_eq}
use Rattle.std.specs.Int.{IsPowerOfTwo}
use Rattle.std.specs.List.{AllByRecursion, flat_map}
use Rattle.std.proofs.Math.Logic.{∥∥₁_map}
use Rattle.scc_calls.specs.CacheCalls.{CacheMoves, CacheResizes, number_by}
use Rattle.scc_calls.specs.declared.calls_as_values.CacheCall.{CacheCall}
use Rattle.scc_calls.specs.declared.calls_as_values.IndexCall.{IndexCall}
use Rattle.scc_calls.specs.declared.calls_as_values.MapCall.{MapCall}
use Rattle.scc_calls.specs.declared.calls_as_values.SetCall.{SetCall}
use Rattle.scc_calls.specs.declared.fixed.Setting.{Setting}
use Rattle.scc_calls.specs.Made.{IsMadeFor}
use Rattle.scc_common.specs.Routing.{bucket_number}
use Rattle.scc_common.specs.Sizes.{IsArraySize}
use Rattle.scc_recorded.specs.Setups.{share_among}
use Rattle.scc_play.specs.Finished.{IsOutput, MapOutput, SetOutput, IndexOutput, CacheOutput, script_setting, key_number, pair_cmp}
use Rattle.scc_play.specs.Output.{reply_line, content_line}
use Rattle.scc_play.proofs.Drained.{all-entries}
use Rattle.scc_script.specs.declared.line.WorkerCall.{WorkerCall}
use Rattle.scc_script.specs.declared.same.Same.{Same}
use Rattle.scc_play.specs.Endings.{all_calls}
use Rattle.scc_play.specs.Kinds.{MapPlayed, SetPlayed, IndexPlayed, CachePlayed, map_machine, set_machine, index_machine, cache_machine, own_hash, route_by, script_request}
use Rattle.scc_play.proofs.Alone.{one-output}

module _ {A : Type 0} (calls : List (WorkerCall A)) where
  -- if there is one worker, all calls are by this worker
  owned : (workers : ℕ) → AllByRecursion (λ c. c.worker < workers) calls → workers ≡ 1 → AllByRecursion (λ c. c.worker < 1) calls
  owned workers own w = subst (λ n. AllByRecursion (λ c. c.worker < n) calls) w own

  -- if there are one worker and one stripe, a fact about the numbers of workers and stripes holds of 1 and 1
  at-one : (P : ℕ → ℕ → Type 0) (workers stripes : ℕ) → P workers stripes → workers ≡ 1 → stripes ≡ 1 → P 1 1
  at-one P workers stripes p w s = subst (P 1) s (subst (λ n. P n stripes) w p)

pub map-alone : (workers stripes : ℕ) (calls : List (WorkerCall (MapCall ℕ ℕ))) → AllByRecursion (λ c. c.worker < workers) calls → (text : List ℕ) → MapPlayed workers stripes calls text → workers ≡ 1 → stripes ≡ 1 → ∥ MapOutput (all_calls calls) text ∥₁
map-alone workers stripes calls own text played w s =
    ∥∥₁_map (at-one calls (λ m n. MapPlayed m n calls text) workers stripes played w s) (λ p.
    (p.setting, one-output (map_machine own_hash) (λ t. t.0) (λ e. refl) (route_by own_hash) (script_request 1) calls text (owned calls workers own w) p))

pub set-alone : (workers stripes : ℕ) (calls : List (WorkerCall (SetCall ℕ))) → AllByRecursion (λ c. c.worker < workers) calls → (text : List ℕ) → SetPlayed workers stripes calls text → workers ≡ 1 → stripes ≡ 1 → ∥ SetOutput (all_calls calls) text ∥₁
set-alone workers stripes calls own text played w s =
    ∥∥₁_map (at-one calls (λ m n. SetPlayed m n calls text) workers stripes played w s) (λ p.
    (p.setting, one-output (set_machine own_hash) (λ t. t.0) (λ e. refl) (route_by own_hash) (script_request 1) calls text (owned calls workers own w) p))

pub index-alone : (workers stripes : ℕ) (calls : List (WorkerCall (IndexCall ℕ ℕ))) → AllByRecursion (λ c. c.worker < workers) calls → (text : List ℕ) → IndexPlayed workers stripes calls text → workers ≡ 1 → stripes ≡ 1 → ∥ IndexOutput (all_calls calls) text ∥₁
index-alone workers stripes calls own text played w s =
    ∥∥₁_map (at-one calls (λ m n. IndexPlayed m n calls text) workers stripes played w s) (λ p.
    (p.setting, one-output (index_machine own_hash) (λ t. t.0) (λ e. refl) (route_by own_hash) (script_request 1) calls text (owned calls workers own w) p))

-- the number of a key's list depends only on the low 64 bits of the key
own-number : (n k : ℕ) → bucket_number 0 n (own_hash k) ≡ key_number n k
own-number n k =
    let low : ((k % 2 ^ 64) * 2 ^ 0) % 2 ^ 64 ≡ (k * 2 ^ 0) % 2 ^ 64 = omega arith in
    ap (λ h. h * n / 2 ^ 64) low

-- if m is 0, the maximum for 256 slots is 256
the-maximum : (m n : ℕ) → m ≡ 0 → IsArraySize (max (share_among 256 1) m) n → n ≡ 256
the-maximum m n z a =
    let b : IsArraySize 256 n = subst (λ k. IsArraySize (max (share_among 256 1) k) n) z a in
    let p : IsPowerOfTwo 256 = (8, refl) in
    let low : 256 ≤ n = b.enough in
    let high : n ≤ 256 = b.fewest 256 p (omega arith) (omega arith) in
    omega (arith, low, high)

-- a part that is made for the request of a script's cache has the setting of the script
setting-is : (g : Setting Same) → IsMadeFor (cache_machine own_hash).limits (script_request 1) g → g ≡ script_setting
setting-is g made =
    let hasher = made.hasher in
    let skipped : g.skipped ≡ 0 = made.skipped in
    let minimum : g.minimum ≡ 0 = made.none refl in
    let maximum : g.maximum ≡ 256 = the-maximum g.minimum g.maximum minimum made.maximum in
    λ i. record { hasher = hasher i; skipped = skipped i; minimum = minimum i; maximum = maximum i }

pub cache-alone : (workers stripes : ℕ) (calls : List (WorkerCall (CacheCall ℕ ℕ))) → AllByRecursion (λ c. c.worker < workers) calls → (text : List ℕ) → CachePlayed workers stripes calls text → workers ≡ 1 → stripes ≡ 1 → ∥ CacheOutput (all_calls calls) text ∥₁
cache-alone workers stripes calls own text played w s =
    ∥∥₁_map (at-one calls (λ m n. CachePlayed m n calls text) workers stripes played w s) (λ p.
    let Text : (ℕ → ℕ → ℕ) → Setting Same → Type 0 = λ number g. IsOutput (CacheMoves nat_eq number) (CacheResizes g number) [] (flat_map (λ l. l)) pair_cmp reply_line content_line (all_calls calls) text in
    let run : Text (number_by (λ h k. own_hash k) p.setting) p.setting = one-output (cache_machine own_hash) (flat_map (λ l. l)) (λ e. sym (all-entries e.contents)) (route_by own_hash) (script_request 1) calls text (owned calls workers own w) p in
    let fixed = subst (λ g. Text (number_by (λ h k. own_hash k) g) g) (setting-is p.setting p.made) run in
    let numbers : number_by (λ h k. own_hash k) script_setting ≡ key_number = λ i n k. own-number n k i in
    subst (λ number. Text number script_setting) numbers fixed)
