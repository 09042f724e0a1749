-- A cache that is made from items.
use Rattle.std.specs.Prelude.{◌≡◌, ℕ, ◌*◌, ◌<◌, Bool, false, List, [], length, max, Option, Result}
use Rattle.std.specs.List.{FoldsTo}
use Rattle.std.specs.Result.{OnOk}
use Rattle.scc_common.specs.Contents.{Contents, entries, bucket_count, settings_of, notes_of, waiting_of}
use Rattle.scc_common.specs.Sizes.{IsArraySize}
use Rattle.scc_common.specs.declared.errors.InsertError.{InsertError}
use Rattle.scc_owned_cache.specs.Caches.{Cached}
use Rattle.scc_owned_cache.specs.CacheSteps.{Puts}
use Rattle.scc_owned_cache.specs.Relocations.{RelocatesTwoWithin}

module _ {K V S : Type 0} (eq : K → K → Bool) (hash : Contents (K × V) S → K → ℕ) where
  -- a put of the pair with the result r, and which buckets it relocates
  pub record PutsBy (c : Cached (K × V) S) (p : K × V) (r : Result (Option (K × V)) (InsertError K V)) (d : Cached (K × V) S) : Type 0 where
    -- what becomes of the lists, of the array and of the note
    pub step : Puts (hash c.contents) eq c p r d
    -- it relocates the key's bucket and the first ones that wait, two in all
    pub relocates : OnOk r (RelocatesTwoWithin (hash c.contents p.0) c.contents d.contents)

  -- a put of the pair, with any result
  abbrev pub PutsOne : Cached (K × V) S → K × V → Cached (K × V) S → Type 0
  PutsOne c p d = (r : Result (Option (K × V)) (InsertError K V)) × PutsBy c p r d

  -- the pairs were put in their order
  abbrev pub PutsAll : Cached (K × V) S → List (K × V) → Cached (K × V) S → Type 0
  PutsAll c ps d = FoldsTo PutsOne c ps d

  -- d is made from an empty cache, with an array and a maximum for `length ps` pairs, where nothing is noted and
  -- nothing waits, by puts of the pairs in their order
  pub record IsCollected (ps : List (K × V)) (d : Cached (K × V) S) : Type 0 where
    pub made : Cached (K × V) S
    pub empty : entries made.contents ≡ []
    pub none : length ps ≡ 0 → bucket_count made.contents ≡ 0
    pub size : 0 < length ps → IsArraySize (length ps) (32 * bucket_count made.contents)
    pub maximum : IsArraySize (max (length ps) (32 * bucket_count made.contents)) made.maximum
    pub asked : (settings_of made.contents).asked ≡ 32 * bucket_count made.contents
    pub reserved : (settings_of made.contents).reserved ≡ 0
    pub skipped : (settings_of made.contents).skipped ≡ 0
    pub noted : notes_of made.contents ≡ (false, false)
    pub waiting : waiting_of made.contents ≡ []
    pub settings : settings_of d.contents ≡ settings_of made.contents
    pub most : d.maximum ≡ made.maximum
    pub run : PutsAll made ps d
