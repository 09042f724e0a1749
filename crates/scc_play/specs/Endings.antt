-- The answer to a script, and how its program ends.
use Rattle.std.specs.Prelude.{◌≡◌, ◌⊎◌, ◌<◌, ℕ, List, ◌++◌, map, Option, codes}
use Rattle.std.specs.List.{AllByRecursion}
use Rattle.std.specs.Fmt.{decimal}
use Rattle.std.specs.Io.KnownBytes.{Appends}
use Rattle.scc_play.specs.Finished.{MapOutput, SetOutput, IndexOutput, CacheOutput}
use Rattle.scc_script.specs.Grammar.{Meaning, map_calls, set_calls, index_calls, cache_calls, bad_line}
use Rattle.scc_script.specs.declared.line.WorkerCall.{WorkerCall}
use Rattle.scc_play.specs.Kinds.{MapPlayed, SetPlayed, IndexPlayed, CachePlayed}
use Rattle.scc_play.specs.declared.ends.Cause.{Cause}
use Rattle.scc_play.specs.declared.ends.Cause.TheVariants.{Missing, Misrouted, Disagrees}

-- the text of a script whose first bad line has this number
abbrev pub bad_line_text : ℕ → List ℕ
bad_line_text number = codes "line " ++ (decimal number ++ codes ": bad call\n")

-- the text of a run that was not finished
abbrev pub finish_text : Cause → List ℕ
finish_text Missing = codes "finish 7\n"
finish_text Misrouted = codes "finish 8\n"
finish_text Disagrees = codes "finish 9\n"

-- the calls of all workers, in their order
abbrev pub all_calls : {A : Type 0} → List (WorkerCall A) → List A
all_calls calls = map (λ c. c.call) calls

-- the answer is the output of what the workers did, which for one worker on one stripe is the output of a run of the
-- script's calls; or the text for the cause why the run was not finished
abbrev pub AnswersBy : (List ℕ → Type 0) → (List ℕ → Type 0) → ℕ → ℕ → ℕ → List ℕ → Type 0
AnswersBy alone among workers stripes status text =
    ((status ≡ 0) × among text × (workers ≡ 1 → stripes ≡ 1 → ∥ alone text ∥₁))
    ⊎ ((cause : Cause) × (status ≡ 5) × (text ≡ finish_text cause))

-- each call is made by one of the workers
abbrev pub HasOwners : Meaning → Type 0
HasOwners (map_calls workers stripes calls) = AllByRecursion (λ c. c.worker < workers) calls
HasOwners (set_calls workers stripes calls) = AllByRecursion (λ c. c.worker < workers) calls
HasOwners (index_calls workers stripes calls) = AllByRecursion (λ c. c.worker < workers) calls
HasOwners (cache_calls workers stripes calls) = AllByRecursion (λ c. c.worker < workers) calls
HasOwners (bad_line number) = Unit {0}

-- the status and the text that answer a script
abbrev pub WritesAnswer : Meaning → ℕ → List ℕ → Type 0
WritesAnswer (map_calls workers stripes calls) status text = AnswersBy (MapOutput (all_calls calls)) (MapPlayed workers stripes calls) workers stripes status text
WritesAnswer (set_calls workers stripes calls) status text = AnswersBy (SetOutput (all_calls calls)) (SetPlayed workers stripes calls) workers stripes status text
WritesAnswer (index_calls workers stripes calls) status text = AnswersBy (IndexOutput (all_calls calls)) (IndexPlayed workers stripes calls) workers stripes status text
WritesAnswer (cache_calls workers stripes calls) status text = AnswersBy (CacheOutput (all_calls calls)) (CachePlayed workers stripes calls) workers stripes status text
WritesAnswer (bad_line number) status text = (status ≡ 2) × (text ≡ bad_line_text number)

-- the answer's text was written behind what was written before; or the text for refused memory was; or a stream failed
abbrev pub Ends : Option (List ℕ) → Option (List ℕ) → Meaning → ℕ → Type 0
Ends old new meaning status =
    ((text : List ℕ) × WritesAnswer meaning status text × Appends old new text)
    ⊎ (((status ≡ 3) × Appends old new (codes "out of memory\n")) ⊎ (status ≡ 4))
