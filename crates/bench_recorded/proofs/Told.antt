-- One receipt more, of the next pair.
use Rattle.std.proofs.Common.{◌≡◌, ℕ, ◌+◌, ◌<◌, List, [], ◌∷◌, ◌++◌, map, take, get_or, length, sym, ap, ◌∙◌, append_assoc}
use Rattle.std.proofs.lemmas.List.{map-append, take_more}

pub one-more : {R A P : Type 0} (f : R → A) (h : P → A) (old mid new : List R) (r : R) (ps : List P) (k : ℕ) (d : P) → map f mid ≡ map f old ++ map h (take k ps) → new ≡ mid ++ r ∷ [] → k < length ps → f r ≡ h (get_or ps k d) → map f new ≡ map f old ++ map h (take (k + 1) ps)
one-more f h old mid new r ps k d so_far is less same =
    ap (map f) is ∙ map-append f mid (r ∷ []) ∙ ap (λ l. l ++ f r ∷ []) so_far ∙ append_assoc (map f old) (map h (take k ps)) (f r ∷ [])
    ∙ ap (λ a. map f old ++ (map h (take k ps) ++ a ∷ [])) same
    ∙ ap (λ l. map f old ++ l) (sym (ap (map h) (take_more ps k d less) ∙ map-append h (take k ps) (get_or ps k d ∷ [])))
