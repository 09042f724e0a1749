-- Values whose fields are equal, except for fields that are facts, are equal.
use Rattle.std.proofs.Common.{◌≡◌, ◌<◌, ◌≤◌, ◌∙◌, ℕ, List, [], ◌∷◌, Some, Result, Ok, Err, length, map, refl, sym, ap, vec_len}
use Rattle.std.specs.List.{sum, sum_by}
use Rattle.std.specs.Vec.{with_items}
use Rattle.std.specs.declared.vec.Vec.{Vec}
use Rattle.std.proofs.lemmas.List.{with_items_is}
use Rattle.std.proofs.lemmas.List.Sums.{sum-map}
use Rattle.std.specs.Result.{IfErr, IfOk}
use Rattle.std.proofs.Props.{props}
use Rattle.std.specs.declared.clone.Clone as clone
use Rattle.std.specs.declared.cmp.PartialEq as eq
use Rattle.std.specs.declared.hash.Hash as hash
use Rattle.std.specs.declared.hash.Hasher as hasher
use Rattle.std.specs.declared.hash.BuildHasher as builder
use Rattle.std.specs.declared.sync.ledger.Ledger as ledgers
use Rattle.scc_calls.specs.declared.calling.Calls as calls
use Rattle.scc_calls.specs.Made.{IsMadeFor}
use Rattle.scc_calls.specs.declared.fixed.Request.{Request}
use Rattle.scc_history.specs.Stamps.{calls_in}
use Rattle.scc_recorded.specs.declared.closing.Closed.{Closed}
use Rattle.scc_recorded.specs.declared.counted.Count.{Count}
use Rattle.scc_recorded.specs.declared.counted.CountedStripe.{CountedStripe}
use Rattle.scc_recorded.specs.declared.passes.Pass.{Pass}
use Rattle.scc_recorded.specs.declared.setups.Site as sites
use mathlib.Core.HLevel.{is_prop→PathP}

module _ {C L K H A R T : Type 0} {m : calls.Ghosts C K H A R T} {h : hash.Ghosts K} {g : eq.Ghosts K} {b : builder.Ghosts H T} {w : hasher.Ghosts T} {call_clones : clone.Ghosts A} {call_equality : eq.Ghosts A} {reply_clones : clone.Ghosts R} {reply_equality : eq.Ghosts R} where
  pub pass-same : (x y : Pass C L K H A R T m h g b w call_clones call_equality reply_clones reply_equality) → y.log ≡ x.log → y.ledger ≡ x.ledger → y ≡ x
  pass-same x y l s = λ i. record {
    log = l i;
    ledger = s i;
    part = is_prop→PathP (λ j. (s j).parts ≡ 1) (λ j. hlevel props) y.part x.part i;
    counted = is_prop→PathP (λ j. (s j).amount ≡ length (l j).receipts.items) (λ j. hlevel props) y.counted x.counted i;
  }

module _ {C M K H A R T : Type 0} {m : calls.Ghosts C K H A R T} {h : hash.Ghosts K} {g : eq.Ghosts K} {b : builder.Ghosts H T} {w : hasher.Ghosts T} {call_clones : clone.Ghosts A} {call_equality : eq.Ghosts A} {reply_clones : clone.Ghosts R} {reply_equality : eq.Ghosts R} {site : sites.Ghosts M H} where
  pub guarded-same : (x y : CountedStripe C M K H A R T m h g b w call_clones call_equality reply_clones reply_equality site) → y.stripe ≡ x.stripe → y.ledger ≡ x.ledger → y ≡ x
  guarded-same x y l s = λ i. record {
    stripe = l i;
    ledger = s i;
    placed = is_prop→PathP (λ j. ∥ ((r : Request H) × (site.chosen ≡ Some r) × IsMadeFor m.limits r (m.setting (l j).container)) ∥₁) (λ j. squash₁) y.placed x.placed i;
    part = is_prop→PathP (λ j. (s j).parts ≡ 1) (λ j. hlevel props) y.part x.part i;
    counted = is_prop→PathP (λ j. (s j).amount ≡ calls_in (l j).history.items) (λ j. hlevel props) y.counted x.counted i;
  }

module _ {L M : Type 0} where
  pub count-same : (x y : Count L M) → y.receipts ≡ x.receipts → y.records ≡ x.records → y ≡ x
  count-same x y l s = λ i. record {
    receipts = l i;
    records = s i;
    equal = is_prop→PathP (λ j. (l j).total ≡ (s j).total) (λ j. hlevel props) y.equal x.equal i;
  }

module _ {C L M K H A R T : Type 0} {m : calls.Ghosts C K H A R T} {h : hash.Ghosts K} {g : eq.Ghosts K} {b : builder.Ghosts H T} {w : hasher.Ghosts T} {call_clones : clone.Ghosts A} {call_equality : eq.Ghosts A} {reply_clones : clone.Ghosts R} {reply_equality : eq.Ghosts R} {crew : ledgers.Ghosts L} {site : sites.Ghosts M H} {rows : ledgers.Ghosts M} where
  pub closed-same : (x y : Closed C L M K H A R T m h g b w call_clones call_equality reply_clones reply_equality crew site rows) → y.stripes ≡ x.stripes → y.hasher ≡ x.hasher → y.passes ≡ x.passes → y.count ≡ x.count → y.alloc ≡ x.alloc → y.handed ≡ x.handed → y.stripe_count ≡ x.stripe_count → y ≡ x
  closed-same x y s k p n a d v = λ i. record {
    stripes = s i;
    hasher = k i;
    passes = p i;
    count = n i;
    alloc = a i;
    handed = d i;
    stripe_count = v i;
    placed = is_prop→PathP (λ j. ∥ ((r : Request H) × (site.chosen ≡ Some r) × (r.hasher ≡ k j)) ∥₁) (λ j. squash₁) y.placed x.placed i;
    some = is_prop→PathP (λ j. 0 < vec_len (s j)) (λ j. hlevel props) y.some x.some i;
    all = is_prop→PathP (λ j. vec_len (s j) ≡ site.all) (λ j. hlevel props) y.all x.all i;
    handed_all = is_prop→PathP (λ j. (d j).count ≡ p j) (λ j. hlevel props) y.handed_all x.handed_all i;
    stripe_count_all = is_prop→PathP (λ j. (v j).count ≡ vec_len (s j)) (λ j. hlevel props) y.stripe_count_all x.stripe_count_all i;
  }

maps : {X Y Z : Type 0} (f : Y → Z) (made : X → Y) (xs : List X) → map f (map made xs) ≡ map (λ x. f (made x)) xs
maps f made [] = refl
maps f made (x ∷ xs) = ap (λ l. f (made x) ∷ l) (maps f made xs)

-- a sum over a mapped list is a sum over the list
pub sum-of-map : {X Y : Type 0} (f : Y → ℕ) (made : X → Y) (xs : List X) → sum_by f (map made xs) ≡ sum_by (λ x. f (made x)) xs
sum-of-map f made xs = sym (sum-map f (map made xs)) ∙ ap sum (maps f made xs) ∙ sum-map (λ x. f (made x)) xs

-- a list whose items are replaced by equal items is unchanged
pub same-items : {X Z : Type 0} (v : Vec X Z) (ws : List X) → ws ≡ v.items → with_items v ws ≡ v
same-items v ws e =
    let l : length ws ≡ v.len = ap length e ∙ sym v.ok.0 in
    let items = with_items_is v ws l ∙ e in
    λ i. record {
      ptr = v.ptr;
      len = v.len;
      cap = v.cap;
      alloc = v.alloc;
      items = items i;
      ok = is_prop→PathP (λ j. (v.len ≡ length (items j)) × (v.len ≤ v.cap)) (λ j. hlevel props) (with_items v ws).ok v.ok i;
      small = v.small;
    }

-- a consequence of a fact about an error holds of the error too
pub if-err : {X E : Type 0} {P Q : E → Type 0} (r : Result X E) → IfErr r P → ((e : E) → P e → Q e) → IfErr r Q
if-err (Ok x) p f = tt
if-err (Err e) p f = f e p

-- a consequence of a fact about a returned value holds of the value too
pub if-ok : {X E : Type 0} {P Q : X → Type 0} (r : Result X E) → IfOk r P → ((x : X) → P x → Q x) → IfOk r Q
if-ok (Ok x) p f = f x p
if-ok (Err e) p f = tt
