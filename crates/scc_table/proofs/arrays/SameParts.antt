-- Contents that have the same lists, or the same settings.
use Rattle.std.proofs.Common.{◌≡◌, ℕ, ◌≤◌, Bool, List, [], length, map, get_or, Result, Ok, Err, sym, ap, ◌∙◌, subst}
use Rattle.std.specs.Prelude.{OnErr, IfOk}
use Rattle.std.specs.List.{flat_map, slice_get, count_by, IsDistinct}
use Rattle.scc_buckets.specs.Bounded.{IsListed}
use Rattle.scc_common.specs.Contents.{Contents, entries, bucket_count, list_of, lists_of, settings_of, overflow_of, waiting_of, pending_of, IsUniqueBy, hash_in}
use Rattle.scc_buckets.specs.Pour.{IsRegrouped, destined_for}
use Rattle.scc_common.specs.Sizes.{IsLawful}
use Rattle.scc_common.specs.Steps.{IsUnchanged}

module _ {E S : Type 0} (c d : Contents E S) (same : lists_of d ≡ lists_of c) where
  pub entries-same : entries d ≡ entries c
  unfolding entries lists_of
  entries-same = ap (flat_map (λ l. l)) same

  pub count-same : bucket_count d ≡ bucket_count c
  unfolding bucket_count lists_of
  count-same = ap length same

  pub list-same : (i : ℕ) → list_of d i ≡ list_of c i
  unfolding list_of lists_of
  list-same i = ap (λ ls. get_or ls i []) same

  pub unchanged-same : settings_of d ≡ settings_of c → IsUnchanged c d
  unchanged-same settings = record { exact = entries-same; buckets = count-same; settings = settings }

  pub unique-same : {K : Type 0} (eq : K → K → Bool) (key : E → K) → IsUniqueBy eq key c → IsUniqueBy eq key d
  unique-same eq key unique = subst (λ (es : List E). IsDistinct eq (map key es)) (sym entries-same) unique

  pub listed-same : (hash : E → ℕ) → settings_of d ≡ settings_of c → overflow_of d ≡ overflow_of c → IsListed hash c → IsListed hash d
  listed-same hash settings spilled h = record {
    lawful = subst IsLawful (sym count-same) h.lawful;
    bounded = spilled ∙ h.bounded;
    short = λ i. subst (λ (l : List E). length l ≤ 32) (sym (list-same i)) (h.short i);
    routed = λ i j e at.
        let there = h.routed i j e (ap (λ l. slice_get l j) (sym (list-same i)) ∙ at) in
        rw (settings, count-same) there;
  }

-- if two contents have equal hashers or equal settings, a key has the same hash in both
module _ {E S K : Type 0} (hash : S → K → ℕ) (c d : Contents E S) where
  pub hash-like : (settings_of d).hasher ≡ (settings_of c).hasher → hash_in hash d ≡ hash_in hash c
  hash-like same = ap (λ s. let h : K → ℕ = λ k. hash s k in h) same

  pub hash-same : settings_of d ≡ settings_of c → hash_in hash d ≡ hash_in hash c
  hash-same same = ap (λ s. let h : K → ℕ = λ k. hash s.hasher k in h) same

module _ {E S : Type 0} (b d : Contents E S) where
  pub pending-same : waiting_of d ≡ waiting_of b → pending_of d ≡ pending_of b
  unfolding pending_of waiting_of
  pending-same same = ap (count_by (λ w. w)) same

-- if b is a regrouping of a, and d has the lists and settings of b, d is a regrouping of a
pub regrouped-same : {E S : Type 0} (hash : E → ℕ) (n : ℕ) (a b d : Contents E S) → lists_of d ≡ lists_of b → settings_of d ≡ settings_of b → IsRegrouped hash n a b → IsRegrouped hash n a d
regrouped-same hash n a b d lists settings h = record {
  count = count-same b d lists ∙ h.count;
  each = λ i l. list-same b d lists i ∙ h.each i l;
  settings = settings ∙ h.settings;
}

-- if d is a regrouping of b, and b has the lists and settings of a, d is a regrouping of a
pub regrouped-from : {E S : Type 0} (build hash : E → ℕ) (n : ℕ) (a b d : Contents E S) → build ≡ hash → lists_of b ≡ lists_of a → settings_of b ≡ settings_of a → IsRegrouped build n b d → IsRegrouped hash n a d
regrouped-from build hash n a b d same lists settings h = record {
  count = h.count;
  each = λ i l. h.each i l ∙ ap (λ f. destined_for f (settings_of b).skipped n i (entries b)) same ∙ ap (λ s. destined_for hash s.skipped n i (entries b)) settings ∙ ap (destined_for hash (settings_of a).skipped n i) (entries-same a b lists);
  settings = h.settings ∙ settings;
}

pub by-answer : {X Y : Type 0} {P : X → Type 0} {Q R : Type 0} (r : Result X Y) → IfOk r P → OnErr r Q → ((x : X) → P x → R) → (Q → R) → R
by-answer (Ok x) p q f h = f x p
by-answer (Err y) p q f h = h q

-- what holds anyway holds in case of `Err`
pub any-err : {X Y P : Type 0} (r : Result X Y) → P → OnErr r P
any-err (Ok x) p = tt
any-err (Err y) p = p
