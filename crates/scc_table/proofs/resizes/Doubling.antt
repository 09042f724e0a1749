-- The entries of one bucket after the number of buckets doubles.
use Rattle.std.proofs.Common.{◌≡◌, ◌==◌, ℕ, ◌*◌, ◌/◌, Bool, true, List, [], ◌∷◌, length, refl, sym, ap, ◌∙◌, arith, eqb-true, eq-eqb}
use Rattle.std.specs.List.{filter}
use Rattle.scc_common.specs.Contents.{Contents, entries, bucket_count, list_of, settings_of, IsRouted}
use Rattle.scc_buckets.specs.Pour.{destined_for}
use Rattle.scc_common.specs.Routing.{bucket_number}
use Rattle.scc_buckets.proofs.PairSplits.{by_answer}
use Rattle.scc_table.proofs.places.OneList.{listed-is}
use Rattle.scc_draining.proofs.Numbers.{number-div}

-- if each entry that passes p passes q, a filter by q before a filter by p changes nothing
pub filter-both : {E : Type 0} (p q : E → Bool) → ((e : E) → p e ≡ true → q e ≡ true) → (es : List E) → filter p (filter q es) ≡ filter p es
filter-both p q h [] = refl
filter-both p q h (e ∷ es) =
    let rest = filter-both p q h es in
    by_answer (p e)
    (λ a. let b = h e a in rw b (rw a (ap (λ z. e ∷ z) rest)))
    (λ a. by_answer (q e) (λ b. rw b (rw a rest)) (λ b. rw b (rw a rest)))

-- after the number of buckets doubles, the bucket of the hash h has only entries of its former bucket i
pub destined-listed : {E S : Type 0} (hash : E → ℕ) (c : Contents E S) (h i : ℕ) → IsRouted hash c → i ≡ bucket_number (settings_of c).skipped (bucket_count c) h
    → destined_for hash (settings_of c).skipped (2 * bucket_count c) (bucket_number (settings_of c).skipped (2 * bucket_count c) h) (list_of c i) ≡ destined_for hash (settings_of c).skipped (2 * bucket_count c) (bucket_number (settings_of c).skipped (2 * bucket_count c) h) (entries c)
destined-listed {E} hash c h i routed at =
    let s = (settings_of c).skipped in
    let n = bucket_count c in
    let t = bucket_number s (2 * n) h in
    let p : E → Bool = λ e. bucket_number s (2 * n) (hash e) == t in
    let q : E → Bool = λ e. bucket_number s n (hash e) == i in
    let shrink_sparse_within = λ (e : E) (a : p e ≡ true).
    eq-eqb (bucket_number s n (hash e)) i (sym (number-div s n 2 (hash e) (omega arith)) ∙ ap (λ z. z / 2) (eqb-true _ _ a) ∙ number-div s n 2 h (omega arith) ∙ sym at) in
    ap (filter p) (sym (listed-is hash c i routed)) ∙ filter-both p q shrink_sparse_within (entries c)

pub destined-few : {E S : Type 0} (hash : E → ℕ) (c : Contents E S) (h i : ℕ) → IsRouted hash c → i ≡ bucket_number (settings_of c).skipped (bucket_count c) h
    → length (destined_for hash (settings_of c).skipped (2 * bucket_count c) (bucket_number (settings_of c).skipped (2 * bucket_count c) h) (list_of c i)) ≡ length (destined_for hash (settings_of c).skipped (2 * bucket_count c) (bucket_number (settings_of c).skipped (2 * bucket_count c) h) (entries c))
destined-few hash c h i routed at = ap length (destined-listed hash c h i routed at)
