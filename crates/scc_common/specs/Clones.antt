-- Contents whose entries are clones of others.
use Rattle.std.specs.Prelude.{◌≡◌, ◌*◌, List, ◌++◌}
use Rattle.std.specs.List.{AllZip}
use Rattle.std.specs.List.Sorted.{IsPermutation}
use Rattle.scc_common.specs.Contents.{Contents, entries, bucket_count, notes_of, settings_of}

module _ {E S : Type 0} where
  -- clones of the sources, by C, are added to the entries of c, and nothing else changes
  pub record AddsClones (C : E → E → Type 0) (sources : List E) (c d : Contents E S) : Type 0 where
    pub copies : List E
    pub cloned : AllZip C sources copies
    pub same : IsPermutation (copies ++ entries c) (entries d)
    pub buckets : bucket_count d ≡ bucket_count c
    pub settings : settings_of d ≡ settings_of c
    pub noted : notes_of d ≡ notes_of c

  -- d has a clone of each entry of c, by C, in some order, and a clone of its hasher, by B; d has the number of buckets
  -- and the skipped bits of c, all its slots are asked for, and none are reserved
  pub record HasClones (C : E → E → Type 0) (B : S → S → Type 0) (c d : Contents E S) : Type 0 where
    pub copies : List E
    pub cloned : AllZip C (entries c) copies
    pub same : IsPermutation copies (entries d)
    pub buckets : bucket_count d ≡ bucket_count c
    pub hasher : B (settings_of c).hasher (settings_of d).hasher
    pub skipped : (settings_of d).skipped ≡ (settings_of c).skipped
    pub asked : (settings_of d).asked ≡ 32 * bucket_count c
    pub reserved : (settings_of d).reserved ≡ 0
