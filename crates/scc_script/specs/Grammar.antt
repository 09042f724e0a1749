-- The grammar of a script: what a line means, and what the whole text means. A text is a list of bytes. Line feeds
-- separate its lines, and spaces separate the fields of a line.
use Rattle.std.specs.Prelude.{ℕ, ◌+◌, ◌^◌, ◌==◌, ◌&&◌, ◌||◌, ◌≡◌, ◌≤◌, ◌<◌, ◌⊎◌, Bool, true, false, cond, List, [], ◌∷◌, ◌++◌, map, Option, Some, None, Result, Ok, Err, codes, length, nat_lt}
use Rattle.std.specs.List.{slice_split, list_all}
use Rattle.std.specs.Char.{is_ascii_digit}
use Rattle.std.specs.Str.{bytes_eq}
use Rattle.std.specs.Str.Lines.{strip_carriage_return}
use Rattle.std.specs.Str.Parse.{digits_value}
use Rattle.scc_calls.specs.declared.calls_as_values.MapCall.{MapCall}
use Rattle.scc_calls.specs.declared.calls_as_values.MapCall.TheVariants as map_call
use Rattle.scc_calls.specs.declared.calls_as_values.SetCall.{SetCall}
use Rattle.scc_calls.specs.declared.calls_as_values.SetCall.TheVariants as set_call
use Rattle.scc_calls.specs.declared.calls_as_values.IndexCall.{IndexCall}
use Rattle.scc_calls.specs.declared.calls_as_values.IndexCall.TheVariants as index_call
use Rattle.scc_calls.specs.declared.calls_as_values.CacheCall.{CacheCall}
use Rattle.scc_calls.specs.declared.calls_as_values.CacheCall.TheVariants as cache_call
use Rattle.scc_script.specs.declared.line.Header.{Header}
use Rattle.scc_script.specs.declared.line.Kind.{Kind}
use Rattle.scc_script.specs.declared.line.Kind.TheVariants.{Map, Set, Index, Cache}
use Rattle.scc_script.specs.declared.line.WorkerCall.{WorkerCall}

-- the names of a kind's calls: of calls without an argument, with a key, and with a key and a value
pub record Names (C : Type 0) : Type 0 where
  pub bare : List ℕ → Option C
  pub keyed : List ℕ → ℕ → Option C
  pub paired : List ℕ → ℕ → ℕ → Option C

-- the parts of a text between the bytes `byte`
abbrev pub parts : ℕ → List ℕ → List (List ℕ)
parts byte text = slice_split (λ b. b == byte) text

-- Numbers

-- one or more digits, with a value that 64 bits hold
abbrev pub is_number : List ℕ → Bool
is_number field = nat_lt 0 (length field) && (list_all is_ascii_digit field && nat_lt (digits_value 10 field) (2 ^ 64))

-- the number that a field is written for, if it is a number
abbrev pub number_of : List ℕ → Option ℕ
number_of field = cond (is_number field) (Some (digits_value 10 field)) None

-- what follows from a value, if there is a value
abbrev pub if_there : {A C : Type 0} → Option A → (A → Option C) → Option C
if_there None f = None
if_there (Some x) f = f x

-- Calls: their names in each kind, by the number of their arguments

-- the calls without an argument, which all kinds have
abbrev pub either : {C : Type 0} → C → C → List ℕ → Option C
either len clear name =
    cond (bytes_eq name (codes "len")) (Some len)
    (cond (bytes_eq name (codes "clear")) (Some clear)
    None)

-- the map call of this name with a key
abbrev pub map_keyed : List ℕ → ℕ → Option (MapCall ℕ ℕ)
map_keyed name key =
    cond (bytes_eq name (codes "read")) (Some (map_call.Read key))
    (cond (bytes_eq name (codes "contains")) (Some (map_call.Contains key))
    (cond (bytes_eq name (codes "remove")) (Some (map_call.Remove key))
    (cond (bytes_eq name (codes "replace")) (Some (map_call.Replace key))
    None)))

-- the map call of this name with a key and a value
abbrev pub map_paired : List ℕ → ℕ → ℕ → Option (MapCall ℕ ℕ)
map_paired name key value =
    cond (bytes_eq name (codes "insert")) (Some (map_call.Insert key value))
    (cond (bytes_eq name (codes "upsert")) (Some (map_call.Upsert key value))
    None)

-- the names of a map's calls
abbrev pub map_names : Names (MapCall ℕ ℕ)
map_names = record { bare = either map_call.Len map_call.Clear; keyed = map_keyed; paired = map_paired }

-- the set call of this name with a key
abbrev pub set_keyed : List ℕ → ℕ → Option (SetCall ℕ)
set_keyed name key =
    cond (bytes_eq name (codes "insert")) (Some (set_call.Insert key))
    (cond (bytes_eq name (codes "replace")) (Some (set_call.Replace key))
    (cond (bytes_eq name (codes "remove")) (Some (set_call.Remove key))
    (cond (bytes_eq name (codes "read")) (Some (set_call.Read key))
    (cond (bytes_eq name (codes "contains")) (Some (set_call.Contains key))
    None))))

-- the names of a set's calls
abbrev pub set_names : Names (SetCall ℕ)
set_names = record { bare = either set_call.Len set_call.Clear; keyed = set_keyed; paired = λ name key value. None }

-- the index call of this name with a key
abbrev pub index_keyed : List ℕ → ℕ → Option (IndexCall ℕ ℕ)
index_keyed name key =
    cond (bytes_eq name (codes "read")) (Some (index_call.Read key))
    (cond (bytes_eq name (codes "contains")) (Some (index_call.Contains key))
    (cond (bytes_eq name (codes "remove")) (Some (index_call.Remove key))
    None))

-- the index call of this name with a key and a value
abbrev pub index_paired : List ℕ → ℕ → ℕ → Option (IndexCall ℕ ℕ)
index_paired name key value =
    cond (bytes_eq name (codes "insert")) (Some (index_call.Insert key value))
    (cond (bytes_eq name (codes "update")) (Some (index_call.Update key value))
    None)

-- the names of an index's calls
abbrev pub index_names : Names (IndexCall ℕ ℕ)
index_names = record { bare = either index_call.Len index_call.Clear; keyed = index_keyed; paired = index_paired }

-- the cache call of this name with a key
abbrev pub cache_keyed : List ℕ → ℕ → Option (CacheCall ℕ ℕ)
cache_keyed name key =
    cond (bytes_eq name (codes "get")) (Some (cache_call.Get key))
    (cond (bytes_eq name (codes "read")) (Some (cache_call.Read key))
    (cond (bytes_eq name (codes "contains")) (Some (cache_call.Contains key))
    (cond (bytes_eq name (codes "remove")) (Some (cache_call.Remove key))
    (cond (bytes_eq name (codes "replace")) (Some (cache_call.Replace key))
    None))))

-- the cache call of this name with a key and a value
abbrev pub cache_paired : List ℕ → ℕ → ℕ → Option (CacheCall ℕ ℕ)
cache_paired name key value =
    cond (bytes_eq name (codes "put")) (Some (cache_call.Put key value))
    (cond (bytes_eq name (codes "write")) (Some (cache_call.Write key value))
    None)

-- the names of a cache's calls
abbrev pub cache_names : Names (CacheCall ℕ ℕ)
cache_names = record { bare = either cache_call.Len cache_call.Clear; keyed = cache_keyed; paired = cache_paired }

-- Lines

module _ {C : Type 0} (names : Names C) where
  -- a call of this name, by the fields behind the name: no argument, a key, or a key and a value
  abbrev pub call_of_arguments : List ℕ → List (List ℕ) → Option C
  call_of_arguments name [] = names.bare name
  call_of_arguments name (key ∷ []) = if_there (number_of key) (λ k. names.keyed name k)
  call_of_arguments name (key ∷ value ∷ []) = if_there (number_of key) (λ k. if_there (number_of value) (λ v. names.paired name k v))
  call_of_arguments name (key ∷ value ∷ extra ∷ more) = None

  -- a call, by the fields of its name and its arguments
  abbrev pub call_of_name : List (List ℕ) → Option C
  call_of_name [] = None
  call_of_name (name ∷ arguments) = call_of_arguments name arguments

  -- a call of this worker, if the worker is below `workers`
  abbrev pub call_by : ℕ → ℕ → List (List ℕ) → Option (WorkerCall C)
  call_by workers worker call = cond (nat_lt worker workers) (if_there (call_of_name call) (λ c. Some (record { worker = worker; call = c }))) None

  -- a call's line: a worker below `workers`, a name and arguments
  abbrev pub call_of_fields : ℕ → List (List ℕ) → Option (WorkerCall C)
  call_of_fields workers [] = None
  call_of_fields workers (worker ∷ call) = if_there (number_of worker) (λ w. call_by workers w call)

  -- the call that a line means, if it is in the grammar
  abbrev pub call_of_line : ℕ → List ℕ → Option (WorkerCall C)
  call_of_line workers line = call_of_fields workers (parts 32 line)

-- the kind of this name
abbrev pub kind_of_name : List ℕ → Option Kind
kind_of_name name =
    cond (bytes_eq name (codes "map")) (Some Map)
    (cond (bytes_eq name (codes "set")) (Some Set)
    (cond (bytes_eq name (codes "index")) (Some Index)
    (cond (bytes_eq name (codes "cache")) (Some Cache)
    None)))

-- a number of workers that is allowed: 1 to 16
abbrev pub is_worker_count : ℕ → Bool
is_worker_count workers = nat_lt 0 workers && nat_lt workers 17

-- a number of stripes that is allowed: 1, 2, 4, 8 or 16, and at most 4 for a cache
abbrev pub is_stripe_count : Kind → ℕ → Bool
is_stripe_count Cache stripes = (stripes == 1) || ((stripes == 2) || (stripes == 4))
is_stripe_count kind stripes = (stripes == 1) || ((stripes == 2) || ((stripes == 4) || ((stripes == 8) || (stripes == 16))))

-- a number of workers that is allowed, as a fact
abbrev pub IsWorkerCount : ℕ → Type 0
IsWorkerCount workers = (0 < workers) × (workers ≤ 16)

-- a number of stripes that is allowed for a kind other than the cache, as a fact
abbrev pub IsStripeCount : ℕ → Type 0
IsStripeCount stripes = (stripes ≡ 1) ⊎ (stripes ≡ 2) ⊎ (stripes ≡ 4) ⊎ (stripes ≡ 8) ⊎ (stripes ≡ 16)

-- a number of stripes that is allowed for a cache, as a fact
abbrev pub IsCacheStripeCount : ℕ → Type 0
IsCacheStripeCount stripes = (stripes ≡ 1) ⊎ (stripes ≡ 2) ⊎ (stripes ≡ 4)

-- a number of stripes that is allowed for this kind, as a fact
abbrev pub IsStripeCountOf : Kind → ℕ → Type 0
IsStripeCountOf Cache stripes = IsCacheStripeCount stripes
IsStripeCountOf kind stripes = IsStripeCount stripes

-- the header of this kind and these numbers, if the numbers are allowed
abbrev pub header_of_numbers : Kind → ℕ → ℕ → Option Header
header_of_numbers kind workers stripes = cond (is_worker_count workers && is_stripe_count kind stripes) (Some (record { kind = kind; workers = workers; stripes = stripes })) None

-- the first line: a kind, the number of workers and the number of stripes
abbrev pub header_of_fields : List (List ℕ) → Option Header
header_of_fields [] = None
header_of_fields (kind ∷ []) = None
header_of_fields (kind ∷ workers ∷ []) = None
header_of_fields (kind ∷ workers ∷ stripes ∷ []) = if_there (kind_of_name kind) (λ k. if_there (number_of workers) (λ w. if_there (number_of stripes) (λ s. header_of_numbers k w s)))
header_of_fields (kind ∷ workers ∷ stripes ∷ extra ∷ more) = None

-- the header that a line means, if it is a header
abbrev pub header_of_line : List ℕ → Option Header
header_of_line line = header_of_fields (parts 32 line)

-- The whole text

-- the parts of a text, without an empty part behind its last line feed
abbrev pub without_end : List (List ℕ) → List (List ℕ)
without_end [] = []
without_end ([] ∷ []) = []
without_end ((b ∷ bs) ∷ []) = (b ∷ bs) ∷ []
without_end (part ∷ next ∷ more) = part ∷ without_end (next ∷ more)

-- the lines of a text: each ends with a line feed or with the text, and one carriage return before that end is not
-- part of the line
unfoldable pub lines_of : List ℕ → List (List ℕ)
lines_of text = map strip_carriage_return (without_end (parts 10 text))

module _ {C : Type 0} where
  -- the calls `done`, and then the calls that follow, or the bad line that follows
  abbrev pub after_calls : List C → Result (List C) ℕ → Result (List C) ℕ
  after_calls done (Ok more) = Ok (done ++ more)
  after_calls done (Err number) = Err number

  -- the line of this number, read as a call, and then what follows the line
  abbrev pub first_then : Option C → ℕ → Result (List C) ℕ → Result (List C) ℕ
  first_then None number rest = Err number
  first_then (Some call) number rest = after_calls (call ∷ []) rest

module _ {C : Type 0} (names : Names C) (workers : ℕ) where
  -- the lines from this number on, as calls of `workers` workers in their order, or the number of the first bad line.
  -- An empty line is no call and not bad
  abbrev pub calls_of_lines : ℕ → List (List ℕ) → Result (List (WorkerCall C)) ℕ
  calls_of_lines number [] = Ok []
  calls_of_lines number ([] ∷ lines) = calls_of_lines (number + 1) lines
  calls_of_lines number ((b ∷ bs) ∷ lines) = first_then (call_of_line names workers (b ∷ bs)) number (calls_of_lines (number + 1) lines)

-- what a script means: a kind with its numbers of workers and of stripes and its calls in order, or the number of its first bad line
pub data Meaning : Type 0 where
  map_calls : ℕ → ℕ → List (WorkerCall (MapCall ℕ ℕ)) → Meaning
  set_calls : ℕ → ℕ → List (WorkerCall (SetCall ℕ)) → Meaning
  index_calls : ℕ → ℕ → List (WorkerCall (IndexCall ℕ ℕ)) → Meaning
  cache_calls : ℕ → ℕ → List (WorkerCall (CacheCall ℕ ℕ)) → Meaning
  bad_line : ℕ → Meaning

-- the calls of a kind, or a bad line
abbrev pub meaning_by : {C : Type 0} → (List C → Meaning) → Result (List C) ℕ → Meaning
meaning_by kind (Ok calls) = kind calls
meaning_by kind (Err number) = bad_line number

-- what the lines behind the header mean
abbrev pub meaning_of_kind : Kind → ℕ → ℕ → List (List ℕ) → Meaning
meaning_of_kind Map workers stripes lines = meaning_by (map_calls workers stripes) (calls_of_lines map_names workers 2 lines)
meaning_of_kind Set workers stripes lines = meaning_by (set_calls workers stripes) (calls_of_lines set_names workers 2 lines)
meaning_of_kind Index workers stripes lines = meaning_by (index_calls workers stripes) (calls_of_lines index_names workers 2 lines)
meaning_of_kind Cache workers stripes lines = meaning_by (cache_calls workers stripes) (calls_of_lines cache_names workers 2 lines)

-- what the lines after the first line mean, if the first line is a header
abbrev pub meaning_of_lines : Option Header → List (List ℕ) → Meaning
meaning_of_lines None lines = bad_line 1
meaning_of_lines (Some h) lines = meaning_of_kind h.kind h.workers h.stripes lines

-- a header, and then calls; a text without a line has a bad first line
abbrev pub script_of_lines : List (List ℕ) → Meaning
script_of_lines [] = bad_line 1
script_of_lines (header ∷ lines) = meaning_of_lines (header_of_line header) lines

-- what a script of these bytes means
abbrev pub script_of : List ℕ → Meaning
script_of text = script_of_lines (lines_of text)
