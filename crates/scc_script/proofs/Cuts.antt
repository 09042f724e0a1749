-- The first line of a text.
use Rattle.std.proofs.Common.{◌≡◌, ℕ, ◌-◌, ◌<◌, List, [], ◌∷◌, map, length, take, drop, arith, refl, sym, ◌∙◌, ap}
use Rattle.std.proofs.lemmas.Grind.{common_steps}
use Rattle.std.specs.Str.Lines.{strip_carriage_return}
use Rattle.scc_script.specs.Grammar.{parts, without_end, lines_of}
use Rattle.scc_script.proofs.Parts.{parts_some}

without_end-cons : (part : List ℕ) (more : List (List ℕ)) → 0 < length more → without_end (part ∷ more) ≡ part ∷ without_end more
without_end-cons part [] h = absurd (omega arith)
without_end-cons [] (next ∷ more) h = refl
without_end-cons (b ∷ bs) (next ∷ more) h = refl

without_end-one : (part : List ℕ) → 0 < length part → without_end (part ∷ []) ≡ part ∷ []
without_end-one [] h = absurd (omega arith)
without_end-one (b ∷ bs) h = refl

-- if a line feed ends the first line, the lines are the first line and the lines of the rest
pub lines_cut : (text line rest : List ℕ) → parts 10 text ≡ line ∷ parts 10 rest → lines_of text ≡ strip_carriage_return line ∷ lines_of rest
unfolding lines_of
lines_cut text line rest e =
    ap (λ ps. map strip_carriage_return (without_end ps)) e
    ∙ ap (map strip_carriage_return) (without_end-cons line (parts 10 rest) (parts_some 10 rest))

-- if the end of the text ends the first line, the first line is the only line
pub lines_last : (text rest : List ℕ) → 0 < length text → parts 10 text ≡ text ∷ [] → rest ≡ [] → lines_of text ≡ strip_carriage_return text ∷ lines_of rest
unfolding lines_of
lines_last text rest h e n =
    ap (λ ps. map strip_carriage_return (without_end ps)) e
    ∙ ap (map strip_carriage_return) (without_end-one text h)
    ∙ ap (λ r. strip_carriage_return text ∷ lines_of r) (sym n)

-- no byte is left after the end of a text
pub nothing_left : (s : List ℕ) → take (length s - length s) (drop (length s) s) ≡ []
nothing_left s = grind (arith, common_steps)

-- a text without a byte has no line
pub lines_none : (text : List ℕ) → length text ≡ 0 → lines_of text ≡ []
unfolding lines_of
lines_none [] h = refl
lines_none (b ∷ bs) h = absurd (omega arith)
