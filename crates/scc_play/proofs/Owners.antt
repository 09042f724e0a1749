-- Each call of a script is by one of its workers.
use Rattle.std.proofs.Common.{◌≡◌, ℕ, ◌+◌, ◌<◌, Bool, true, false, List, [], ◌∷◌, Option, None, Some, Result, Ok, Err, refl, nat_lt}
use Rattle.std.proofs.lemmas.Bool.{ltb-true}
use Rattle.std.specs.Prelude.{cond, IfSome}
use Rattle.std.specs.List.{AllByRecursion}
use Rattle.scc_script.specs.Grammar.{Names, call_by, call_of_fields, call_of_line, call_of_name, calls_of_lines, first_then, header_of_line, if_there, lines_of, meaning_by, meaning_of_kind, meaning_of_lines, number_of, parts, script_of, script_of_lines, map_calls, set_calls, index_calls, cache_calls, map_names, set_names, index_names, cache_names}
use Rattle.scc_script.specs.declared.line.Header.{Header}
use Rattle.scc_script.specs.declared.line.Kind.{Kind}
use Rattle.scc_script.specs.declared.line.Kind.TheVariants.{Map, Set, Index, Cache}
use Rattle.scc_script.specs.declared.line.WorkerCall.{WorkerCall}
use Rattle.scc_play.specs.Endings.{HasOwners}

module _ {C : Type 0} (names : Names C) (workers : ℕ) where
  abbrev Own : Option (WorkerCall C) → Type 0
  Own o = IfSome o (λ c. c.worker < workers)

  abbrev AllOwn : Result (List (WorkerCall C)) ℕ → Type 0
  AllOwn (Ok calls) = AllByRecursion (λ c. c.worker < workers) calls
  AllOwn (Err number) = Unit {0}

  named : (worker : ℕ) (b : Bool) → (b ≡ true → worker < workers) → (o : Option C) → Own (cond b (if_there o (λ c. Some (record { worker = worker; call = c }))) None)
  named worker false less o = tt
  named worker true less None = tt
  named worker true less (Some c) = less refl

  numbered : (o : Option ℕ) (call : List (List ℕ)) → Own (if_there o (λ w. call_by names workers w call))
  numbered None call = tt
  numbered (Some w) call = named w (nat_lt w workers) (λ e. ltb-true w workers e) (call_of_name names call)

  fielded : (fields : List (List ℕ)) → Own (call_of_fields names workers fields)
  fielded [] = tt
  fielded (worker ∷ call) = numbered (number_of worker) call

  joined : (o : Option (WorkerCall C)) (number : ℕ) (rest : Result (List (WorkerCall C)) ℕ) → Own o → AllOwn rest → AllOwn (first_then o number rest)
  joined None number rest o r = tt
  joined (Some c) number (Ok more) o r = (o, r)
  joined (Some c) number (Err n) o r = tt

  lined : (number : ℕ) (lines : List (List ℕ)) → AllOwn (calls_of_lines names workers number lines)
  lined number [] = tt
  lined number ([] ∷ lines) = lined (number + 1) lines
  lined number ((b ∷ bs) ∷ lines) = joined (call_of_line names workers (b ∷ bs)) number (calls_of_lines names workers (number + 1) lines) (fielded (parts 32 (b ∷ bs))) (lined (number + 1) lines)

by-map : (w s : ℕ) (r : Result (List (WorkerCall _)) ℕ) → AllOwn map_names w r → HasOwners (meaning_by (map_calls w s) r)
by-map w s (Ok calls) a = a
by-map w s (Err n) a = tt

by-set : (w s : ℕ) (r : Result (List (WorkerCall _)) ℕ) → AllOwn set_names w r → HasOwners (meaning_by (set_calls w s) r)
by-set w s (Ok calls) a = a
by-set w s (Err n) a = tt

by-index : (w s : ℕ) (r : Result (List (WorkerCall _)) ℕ) → AllOwn index_names w r → HasOwners (meaning_by (index_calls w s) r)
by-index w s (Ok calls) a = a
by-index w s (Err n) a = tt

by-cache : (w s : ℕ) (r : Result (List (WorkerCall _)) ℕ) → AllOwn cache_names w r → HasOwners (meaning_by (cache_calls w s) r)
by-cache w s (Ok calls) a = a
by-cache w s (Err n) a = tt

by-kind : (kind : Kind) (w s : ℕ) (lines : List (List ℕ)) → HasOwners (meaning_of_kind kind w s lines)
by-kind Map w s lines = by-map w s (calls_of_lines map_names w 2 lines) (lined map_names w 2 lines)
by-kind Set w s lines = by-set w s (calls_of_lines set_names w 2 lines) (lined set_names w 2 lines)
by-kind Index w s lines = by-index w s (calls_of_lines index_names w 2 lines) (lined index_names w 2 lines)
by-kind Cache w s lines = by-cache w s (calls_of_lines cache_names w 2 lines) (lined cache_names w 2 lines)

by-header : (header : Option Header) (lines : List (List ℕ)) → HasOwners (meaning_of_lines header lines)
by-header None lines = tt
by-header (Some h) lines = by-kind h.kind h.workers h.stripes lines

by-lines : (lines : List (List ℕ)) → HasOwners (script_of_lines lines)
by-lines [] = tt
by-lines (header ∷ lines) = by-header (header_of_line header) lines

pub script-owners : (text : List ℕ) → HasOwners (script_of text)
script-owners text = by-lines (lines_of text)
