use Rattle.std.proofs.Common.{◌≡◌, ℕ, Bool, Err, IsOk, None, sym, ap, rules, subst, ◌∙◌}
use Rattle.scc_common.specs.Contents.{Contents, bucket_count, entries, key_hash}
use Rattle.scc_owned_set.specs.Keys.{find}
use Rattle.scc_owned_set.specs.SetSteps.{Inserts, Replaces}
use Rattle.scc_common.specs.declared.errors.KeyError.{KeyError}
use Rattle.scc_common.specs.declared.errors.KeyError.TheVariants.{Exists, Memory}
use Rattle.scc_owned_set.proofs.Sets.{hash-same}
use Rattle.scc_owned_set.proofs.Owned.replace_sync.Goals as goal

-- if the key is missing, a refused insertion is a refused replacement: both are refused for memory alone
module _ {K S : Type 0} (eq : K → K → Bool) where
  refused : (hash : K → ℕ) (m n : Contents K S) (k : K) (r : KeyError K) → find eq (entries m) k ≡ None → Inserts eq hash m k (Err r) n → Replaces eq hash m k (Err r) n
  refused hash m n k (Exists q) none h = absurd (let there = rw none at h.1 in cc)
  refused hash m n k (Memory q) none h = h

  -- the lemma `refused` for an insertion of q into b, if q is equal to k and b is equal to m
  refused-then : (hash : Contents K S → K → ℕ) (b m n : Contents K S) (q k : K) (r : KeyError K) → b ≡ m → q ≡ k → find eq (entries m) k ≡ None → Inserts eq (hash b) b q (Err r) n → Replaces eq (hash m) m k (Err r) n
  refused-then hash b m n q k r same key none h =
      refused (hash m) m n k r none (subst (λ y. Inserts eq (hash m) m y (Err r) n) key (subst (λ x. Inserts eq (hash x) x q (Err r) n) same h))

pub returns-in-Ok-clause-step : goal.returns-in-Ok-clause-step
returns-in-Ok-clause-step g c =
    let swapped = c.in-Ok.ensures.swapped in
    (swapped.0, swapped.1)

pub returns-in-Ok-clause-finds : goal.returns-in-Ok-clause-finds
returns-in-Ok-clause-finds g c =
    let swapped = c.in-Ok.ensures.swapped in
    swapped.2

pub returns-in-Ok-clause-array : goal.returns-in-Ok-clause-array
returns-in-Ok-clause-array g c =
    let swapped = c.in-Ok.ensures.swapped in
    record {
      kept = (search rules);
      once = (λ _. swapped.1.buckets);
      growth = (search rules);
      due = (search rules);
      first = (search rules);
      noted = (search rules);
      relocates = (search rules);
      two = (search rules);
      waiting = (search rules);
    }

pub returns-in-Ok-insert_missing-clause-array : goal.returns-in-Ok-insert_missing-clause-array
returns-in-Ok-insert_missing-clause-array g c =
    let missing = c.in-Err.ensures.missing in
    record {
      kept = (λ n r. c.insert_missing.ensures.array.kept (rw (missing.2, missing.0) n) (rw (missing.2, missing.0) r) ∙ ap bucket_count missing.2);
      once = (λ r. c.insert_missing.ensures.array.once (rw (missing.2, missing.0) r) ∙ ap bucket_count missing.2);
      growth = (search rules);
      due = (λ n. let d = c.insert_missing.ensures.array.due (rw (missing.2, missing.0) n) in rw (missing.2, missing.0) at d);
      first = (search rules);
      noted = (search rules);
      relocates = (search rules);
      two = (search rules);
      waiting = (search rules);
    }

pub returns-in-Err-insert_missing-clause-step : goal.returns-in-Err-insert_missing-clause-step
returns-in-Err-insert_missing-clause-step g c =
    let missing = c.in-Err.ensures.missing in
    let step = rw c.in-Err-insert_missing.is at c.insert_missing.ensures.step in
    refused-then g.K.PartialEq.eq (key_hash g.H.BuildHasher g.H.Hasher.Hasher g.K.Hash.hash_input) c.swap_key.new.self c.args.self.now c.insert_missing.new.self c.in-Err.key c.args.k c.in-Err-insert_missing.e missing.2 missing.0 missing.1 step

pub returns-in-Err-insert_missing-clause-succeeds : goal.returns-in-Err-insert_missing-clause-succeeds
returns-in-Err-insert_missing-clause-succeeds g c =
    let missing = c.in-Err.ensures.missing in
    let step = rw c.in-Err-insert_missing.is at c.insert_missing.ensures.step in
    (λ r. let h : IsOk c.insert_missing.result = c.insert_missing.ensures.succeeds (rw (missing.2, missing.0) r) in rw c.in-Err-insert_missing.is at h)

pub returns-in-Err-insert_missing-clause-array : goal.returns-in-Err-insert_missing-clause-array
returns-in-Err-insert_missing-clause-array g c =
    let missing = c.in-Err.ensures.missing in
    let step = rw c.in-Err-insert_missing.is at c.insert_missing.ensures.step in
    record {
      kept = (λ n r. c.insert_missing.ensures.array.kept (rw (missing.2, missing.0) n) (rw (missing.2, missing.0) r) ∙ ap bucket_count missing.2);
      once = (λ r. c.insert_missing.ensures.array.once (rw (missing.2, missing.0) r) ∙ ap bucket_count missing.2);
      growth = (search rules);
      due = (λ n. let due = c.insert_missing.ensures.array.due (rw (missing.2, missing.0) n) in rw (missing.2, missing.0) at due);
      first = (search rules);
      noted = (search rules);
      relocates = (search rules);
      two = (search rules);
      waiting = (search rules);
    }

pub swap_key-requires : goal.swap_key-requires
swap_key-requires g c = rw (← c.self.view_is) (c.hash_of-hash.ensures ∙ ap (λ h. h c.args.k) (sym (hash-same g.H.BuildHasher g.H.Hasher.Hasher g.K.Hash.hash_input c.self.inside.map)))

pub insert_missing-requires-clause-hashed : goal.insert_missing-requires-clause-hashed
insert_missing-requires-clause-hashed g c =
    let missing = c.in-Err.ensures.missing in
    rw (missing.2, missing.0, ← c.self.view_is) (c.hash_of-hash.ensures ∙ ap (λ h. h c.args.k) (sym (hash-same g.H.BuildHasher g.H.Hasher.Hasher g.K.Hash.hash_input c.self.inside.map)))

pub insert_missing-requires-clause-absent : goal.insert_missing-requires-clause-absent
insert_missing-requires-clause-absent g c =
    let missing = c.in-Err.ensures.missing in
    rw (missing.2, missing.0) missing.1
