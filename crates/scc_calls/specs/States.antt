-- The state of a map, a set or an index: its entries, and the number of its buckets.
use Rattle.std.specs.Prelude.{◌≡◌, ℕ, ◌+◌, ◌*◌, ◌<◌, ◌≤◌, List}
use Rattle.std.specs.List.Sorted.{IsPermutation}
use Rattle.scc_common.specs.Contents.{Contents, Settings, entries, bucket_count, settings_of}
use Rattle.scc_common.specs.Sizes.{IsBucketCount}
use Rattle.scc_calls.specs.declared.fixed.Setting.{Setting}

-- the entries in the container's order, and the number of buckets
abbrev pub State : Type 0 → Type 0
State E = List E × ℕ

-- what no call changes
abbrev pub run_setting_by : {H : Type 0} → Settings H → Setting H
run_setting_by s = record { hasher = s.hasher; skipped = s.skipped; minimum = s.asked + s.reserved; maximum = 0 }

module _ {E H : Type 0} where
  -- the state of a container: its entries and its number of buckets
  abbrev pub state_of : Contents E H → State E
  state_of c = (entries c, bucket_count c)

  -- the setting of a container: what a run must know of its settings
  abbrev pub run_setting : Contents E H → Setting H
  run_setting c = run_setting_by (settings_of c)

  -- a resize to `number` buckets: the same entries in some order; `number` is lawful and, if it is lower than before,
  -- not below the minimum
  pub record ResizesTo (g : Setting H) (s : State E) (number : ℕ) (t : State E) : Type 0 where
    pub same : IsPermutation s.0 t.0
    pub buckets : t.1 ≡ number
    pub lawful : IsBucketCount number
    pub minimum : number < s.1 → g.minimum ≤ 32 * number
