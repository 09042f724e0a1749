-- The receipts and the replies of calls, one call after another.
use Rattle.std.proofs.Common.{◌≡◌, ◌≢◌, ℕ, ◌+◌, ◌<◌, ◌≤◌, List, [], ◌∷◌, ◌++◌, length, map, min, drop, Option, Some, get_or, refl, sym, subst, ap, ◌∙◌, arith}
use Rattle.std.proofs.lemmas.List.{drop_more, drop_all}
use Rattle.std.specs.List.{sum_by}
use Rattle.scc_recorded.proofs.Same.{sum-of-map}
use Rattle.scc_history.specs.declared.log.Receipt.{Receipt}
use Rattle.scc_play.specs.Answered.{AreAnswered, IsAnswered, IsJoint}
use Rattle.scc_recorded.specs.Adds.{number_or_zero}

module _ {A R K : Type 0} (key_of : A → Option K) (counted : R → Option ℕ) (count : ℕ → R) (stripes : ℕ) where
  -- if call i is answered, and the calls after it are answered, the calls from i on are answered
  pub one-more : (calls : List A) (i : ℕ) (call : A) (left here rest : List (Receipt A R)) (reply : R) (more : List R) → i < length calls → get_or calls i call ≡ call
      → left ≡ here ++ rest → IsAnswered key_of counted count stripes call here reply → AreAnswered key_of counted count stripes (drop (i + 1) calls) rest more → AreAnswered key_of counted count stripes (drop i calls) left (reply ∷ more)
  one-more calls i call left here rest reply more within at split answered others =
      let here-first : drop i calls ≡ call ∷ drop (i + 1) calls = drop_more calls i call within ∙ ap (λ c. c ∷ drop (i + 1) calls) at in
      subst (λ l. AreAnswered key_of counted count stripes l left (reply ∷ more)) (sym here-first) (here, rest, reply, more, split, refl, answered, others)

  -- if no call is left, no receipt is left, and there are no more replies
  pub none-left : (calls : List A) (i : ℕ) (left : List (Receipt A R)) → length calls ≤ i → left ≡ [] → AreAnswered key_of counted count stripes (drop i calls) left []
  none-left calls i left end none = subst (λ l. AreAnswered key_of counted count stripes l left []) (sym (drop_all i calls end)) (none, refl)

module _ {A R K : Type 0} (key_of : A → Option K) (counted : R → Option ℕ) (count : ℕ → R) where
  -- if several stripes reply to a call that counts, the joint reply is the sum of their counts
  pub several-count : (records : List (Receipt A R)) (first : Receipt A R) (n total : ℕ) → length records ≢ 1 → 0 < length records → counted (get_or records 0 first).reply ≡ Some n
      → total ≡ min 18446744073709551615 (sum_by (λ r. number_or_zero (counted r.reply)) records) → IsJoint key_of counted count (map (λ r. r.reply) records) (count total)
  several-count [] first n total one some c t = absurd (omega (arith, some))
  several-count (r ∷ []) first n total one some c t = absurd (one refl)
  several-count (r ∷ s ∷ more) first n total one some c t = rw c (ap count (t ∙ ap (λ k. min 18446744073709551615 k) (sym (sum-of-map (λ x. number_or_zero (counted x)) (λ x. x.reply) (r ∷ s ∷ more)))))
