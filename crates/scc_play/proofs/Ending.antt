-- How a run that answered its script ends.
use Rattle.std.proofs.Common.{◌≡◌, ◌≢◌, ℕ, List, Option, None, Some, Result, Ok, Err, ◌⊎◌, inl, inr, sym, subst}
use Rattle.std.specs.Prelude.{IfSome}
use Rattle.std.specs.Result.{IfOk}
use Rattle.std.specs.Io.KnownBytes.{Appends}
use Rattle.std.proofs.lemmas.Bool.{cases_eq}
use Rattle.scc_script.specs.Grammar.{script_of}
use Rattle.scc_play.specs.Ended.{IfPlayed, MatchEnd}
use Rattle.scc_play.specs.Endings.{WritesAnswer, AnswersBy, Ends, finish_text}
use Rattle.scc_play.specs.declared.ends.Cause.TheVariants.{Disagrees}
use Rattle.scc_play.specs.declared.ends.End.{End}
use Rattle.scc_play.specs.declared.ends.End.TheVariants.{Played, Unfinished, Differs}

-- the text answers the script that was read, and if no stream failed, the whole text was written
pub ends_read : (known old new : Option (List ℕ)) (items text : List ℕ) (status result : ℕ) → IfSome known (λ xs. items ≡ xs) → WritesAnswer (script_of items) status text → (result ≡ status) ⊎ (result ≡ 4) → (result ≢ 4 → Appends old new text)
    → IfSome known (λ script. Ends old new (script_of script) result)
ends_read None old new items text status result e a s w = tt
ends_read (Some xs) old new items text status result e a s w = by_status s (cases_eq result 4)
  where
    by_status : (result ≡ status) ⊎ (result ≡ 4) → (result ≡ 4) ⊎ (result ≡ 4 → ⊥) → Ends old new (script_of xs) result
    by_status s (inl f) = inr (inr f)
    by_status (inl r) (inr n) = inl (text, subst (λ i. WritesAnswer (script_of i) result text) e (subst (λ k. WritesAnswer (script_of items) k text) (sym r) a), w n)
    by_status (inr f) (inr n) = absurd (n f)

-- the end of a run as the answer of its script
by-end : (end : End) {alone among : List ℕ → Type 0} (workers stripes : ℕ) → IfPlayed end among → ((text : List ℕ) → among text → workers ≡ 1 → stripes ≡ 1 → ∥ alone text ∥₁) → (status : ℕ) (text : List ℕ)
    → MatchEnd end (λ t. (status ≡ 0) × (text ≡ t)) (λ cause. (status ≡ 5) × (text ≡ finish_text cause)) ((status ≡ 5) × (text ≡ finish_text Disagrees)) → AnswersBy alone among workers stripes status text
by-end (Played shown) {alone} {among} workers stripes p one status text m = inl (m.0, subst among (sym m.1) p, one text (subst among (sym m.1) p))
by-end (Unfinished cause) workers stripes p one status text m = inr (cause, m.0, m.1)
by-end Differs workers stripes p one status text m = inr (Disagrees, m.0, m.1)

-- the lemma `by-end` for a result that may be an error
pub by-ends : {T E : Type 0} (end : End) {alone among : List ℕ → Type 0} (workers stripes : ℕ) (status : T → ℕ) (text : T → List ℕ) (result : Result T E) → IfPlayed end among
    → ((t : List ℕ) → among t → workers ≡ 1 → stripes ≡ 1 → ∥ alone t ∥₁)
    → IfOk result (λ a. MatchEnd end (λ t. (status a ≡ 0) × (text a ≡ t)) (λ cause. (status a ≡ 5) × (text a ≡ finish_text cause)) ((status a ≡ 5) × (text a ≡ finish_text Disagrees)))
    → IfOk result (λ a. AnswersBy alone among workers stripes (status a) (text a))
by-ends end workers stripes status text (Ok a) p one m = by-end end workers stripes p one (status a) (text a) m
by-ends end workers stripes status text (Err e) p one m = tt
