-- Lines with a field too many.
use Rattle.std.proofs.Common.{◌≡◌, ℕ, ◌<◌, List, [], ◌∷◌, length, arith, refl, None}
use Rattle.scc_script.specs.Grammar.{Names, parts, call_of_arguments, header_of_fields}
use Rattle.scc_script.proofs.Parts.{parts_some}

none_from_more : {C : Type 0} (names : Names C) (name key value : List ℕ) (more : List (List ℕ)) → 0 < length more → call_of_arguments names name (key ∷ value ∷ more) ≡ None
none_from_more names name key value [] h = absurd (omega arith)
none_from_more names name key value (extra ∷ more) h = refl

-- a call with a third argument means nothing
pub no_third_argument : {C : Type 0} (names : Names C) (name key value rest : List ℕ) → call_of_arguments names name (key ∷ value ∷ parts 32 rest) ≡ None
no_third_argument names name key value rest = none_from_more names name key value (parts 32 rest) (parts_some 32 rest)

none_from_fields : (kind workers stripes : List ℕ) (more : List (List ℕ)) → 0 < length more → header_of_fields (kind ∷ workers ∷ stripes ∷ more) ≡ None
none_from_fields kind workers stripes [] h = absurd (omega arith)
none_from_fields kind workers stripes (extra ∷ more) h = refl

-- a line with a fourth field is no header
pub no_fourth_field : (kind workers stripes rest : List ℕ) → header_of_fields (kind ∷ workers ∷ stripes ∷ parts 32 rest) ≡ None
no_fourth_field kind workers stripes rest = none_from_fields kind workers stripes (parts 32 rest) (parts_some 32 rest)
