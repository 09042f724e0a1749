-- The current array is exchanged for a new one: the fields before and after one of its buckets is relocated.
use Rattle.std.proofs.Common.{◌≡◌, ◌≢◌, ℕ, ◌+◌, ◌-◌, ◌^◌, ◌<◌, ◌≤◌, inl, inr, Bool, true, false, List, [], length, map, set, replicate, sym, ap, ◌∙◌, subst, arith}
use Rattle.std.specs.Cmp.{IsEquivalence}
use Rattle.std.specs.List.{flat_map, IsDistinct}
use Rattle.std.specs.List.Sorted.{IsPermutation}
use Rattle.std.proofs.lemmas.List.{length-replicate}
use Rattle.std.proofs.lemmas.List.Concat.{length-flat_map}
use Rattle.scc_array.specs.Shelves.{shelf_of}
use Rattle.scc_array.specs.Shelf.{Shelf, shelf_entries, empty_shelf}
use Rattle.scc_common.specs.Contents.{Contents, Settings, entries, bucket_count, lists_of, settings_of, overflow_of, pending_of}
use Rattle.scc_buckets.specs.Pour.{IsRegrouped}
use Rattle.scc_common.specs.Sizes.{IsBucketCount}
use Rattle.scc_buckets.specs.Tables.{IsBuckets}
use Rattle.scc_buckets.proofs.Arrays.{shelf-at}
use Rattle.scc_draining.specs.Moves.{TakesOver}
use Rattle.scc_draining.specs.Drainings.{Draining}
use Rattle.scc_table.specs.TwoArrays.{together, waits_at, IsTable, IsRelocated}
use Rattle.scc_table.proofs.arrays.OneArray.{entries-alone}
use Rattle.scc_draining.proofs.Arriving.{count-were, entries-were, list-were}
use Rattle.scc_draining.proofs.Counted.{destined-le}
use Rattle.scc_table.proofs.resizes.Growth.{but-one}
use Rattle.scc_table.proofs.relocations.Fields.{fields-after, others, relocated-after, Settles}
use Rattle.scc_table.proofs.arrays.SameParts.{entries-same, regrouped-same}
use Rattle.scc_table.proofs.resizes.Installation.{bare-lists, flags-up, permuted-all, started-fields, started-lists}
use Rattle.scc_table.proofs.arrays.Views.{count-seen, not_waiting-flags, settings-seen}

-- the current array, with the contents c and no waiting bucket, is exchanged for n empty buckets, with the contents d
pub record IsExchanged {E K S : Type 0} (eq : K → K → Bool) (key : E → K) (hash : K → ℕ) (c d : Contents E S) (rest : Draining E) (a : Contents E S) (n : ℕ) (olds : List (Shelf E)) (left over : ℕ) : Type 0 where
  -- equality of keys is an equivalence
  pub laws : IsEquivalence eq
  -- the invariant holds before the exchange
  pub inv : IsTable eq key hash c rest
  -- a is the contents of both arrays before the exchange
  pub view : together (λ e. hash (key e)) c rest.waiting rest.array ≡ a
  -- no bucket waits before the exchange
  pub not_waiting : pending_of a ≡ 0
  -- an array may have n buckets
  pub will : IsBucketCount n
  -- there is an array before the exchange
  pub some : 0 < bucket_count a
  -- the number of buckets changes
  pub other : n ≢ bucket_count a
  -- the buckets of the new array are empty
  pub lists : lists_of d ≡ map shelf_entries (replicate n empty_shelf)
  -- the settings stay
  pub settings : settings_of d ≡ settings_of c
  -- the overflow lists of the new array are empty
  pub nothing : overflow_of d ≡ 0
  -- the lists of c are those of the old array olds
  pub were : lists_of c ≡ map shelf_entries olds
  -- the old array holds `left` entries, `over` of them in overflow lists
  pub table : IsBuckets (λ e. hash (key e)) (settings_of c).skipped olds left over

-- if the facts hold by the hash of the settings before, `IsExchanged` holds by the hash of the settings afterwards
pub exchanged : {E K S : Type 0} {eq : K → K → Bool} (laws : IsEquivalence eq) {key : E → K} (hash_for : Settings S → K → ℕ) {c d : Contents E S} {rest : Draining E} {a : Contents E S} {n : ℕ} {fresh olds : List (Shelf E)} {left over : ℕ} → IsTable eq key (hash_for (settings_of c)) c rest
    → together (λ e. hash_for (settings_of c) (key e)) c rest.waiting rest.array ≡ a → pending_of a ≡ 0 → fresh ≡ replicate n empty_shelf → IsBucketCount n → 0 < bucket_count a → n ≢ bucket_count a → lists_of d ≡ map shelf_entries fresh → settings_of d ≡ settings_of c → overflow_of d ≡ 0 → lists_of c ≡ map shelf_entries olds
    → IsBuckets (λ e. hash_for (settings_of c) (key e)) (settings_of c).skipped olds left over → IsExchanged eq key (hash_for (settings_of d)) c d rest a n olds left over
exchanged {E} {K} {S} {eq} laws {key} hash_for {c} {d} {rest} {a} {n} {fresh} {olds} {left} {over} inv view not_waiting empty will some other lists settings nothing were table = record {
  laws = laws;
  inv = subst (λ (s : Settings S). IsTable eq key (hash_for s) c rest) (sym settings) inv;
  view = subst (λ (s : Settings S). together (λ e. hash_for s (key e)) c rest.waiting rest.array ≡ a) (sym settings) view;
  not_waiting = not_waiting;
  will = will;
  some = some;
  other = other;
  lists = lists ∙ ap (λ (z : List (Shelf E)). map shelf_entries z) empty;
  settings = settings;
  nothing = nothing;
  were = were;
  table = subst (λ (s : Settings S). IsBuckets (λ e. hash_for s (key e)) (settings_of c).skipped olds left over) (sym settings) table;
}

module _ {E K S : Type 0} {eq : K → K → Bool} {key : E → K} {hash : K → ℕ} {c d : Contents E S} {rest : Draining E} {a : Contents E S} {n : ℕ} {olds : List (Shelf E)} {left over : ℕ} (x : IsExchanged eq key hash c d rest a n olds left over) where
  abbrev inner : E → ℕ
  inner e = hash (key e)

  none : rest.waiting ≡ []
  none = not_waiting-flags a x.inv x.view x.not_waiting

  pub begun-count : bucket_count d ≡ n
  begun-count = count-were d (replicate n empty_shelf) x.lists ∙ length-replicate n (empty_shelf {E = E})

  long : bucket_count a ≡ length olds
  long = count-seen inner c rest.waiting rest.array a x.view x.inv.arrays.flags ∙ count-were c olds x.were

  table-now : IsBuckets inner (settings_of d).skipped olds left over
  table-now = subst (λ s. IsBuckets inner s.skipped olds left over) (sym x.settings) x.table

  was : IsBucketCount (length olds)
  was = elim x.table.sized [ inl z ↦ absurd (omega (arith, x.some, long)) | inr z ↦ z ]

  differ : n ≢ length olds
  differ = λ z. x.other (z ∙ sym long)

  all : entries (together inner c rest.waiting rest.array) ≡ flat_map shelf_entries olds
  all = entries-alone inner c rest.waiting rest.array none ∙ entries-were c olds x.were

  all-seen : entries a ≡ flat_map shelf_entries olds
  all-seen = ap entries (sym x.view) ∙ all

  pub begun-unique : IsDistinct eq (map key (flat_map shelf_entries olds))
  begun-unique = subst (λ es. IsDistinct eq (map key es)) all x.inv.unique

  -- the invariant `IsTable` holds after the exchange, and all n buckets wait
  pub begun : IsTable eq key hash d (record { array = olds; waiting = replicate n true; pending = n; next = 0; left = left; left_overflow = over })
  begun = started-fields eq x.laws key hash d n olds begun-count x.lists left over table-now was x.will differ x.nothing begun-unique

  -- each list has the entries of a that belong to its bucket
  pub begun-lists : IsRegrouped inner n a (together inner d (replicate n true) olds)
  begun-lists = started-lists inner d n olds begun-count x.lists left over table-now was x.will differ a all-seen (x.settings ∙ sym (settings-seen inner c rest.waiting rest.array a x.view))

  pub begun-same : IsPermutation (entries a) (entries (together inner d (replicate n true) olds))
  begun-same = subst (λ es. IsPermutation es (entries (together inner d (replicate n true) olds))) (sym all-seen) (permuted-all inner d n olds begun-count x.lists (omega (arith, x.will.least)))

  -- the new array has no entries
  pub begun-bare : (bs : List (Shelf E)) → lists_of d ≡ map shelf_entries bs → (i : ℕ) → i < length bs → shelf_entries (shelf_of bs i) ≡ []
  begun-bare bs same i l = sym (list-were d bs same i (shelf_of bs i) l (shelf-at bs i l)) ∙ bare-lists inner d n olds begun-count x.lists i

  module _ {k : ℕ} (l : k < n) where
    pub begun-up : waits_at (replicate n true) k ≡ true
    begun-up = flags-up inner d n olds begun-count x.lists k l

    -- bucket k is relocated
    module _ {moved : ℕ} {e : Contents E S} {vs : List Bool} {news : List (Shelf E)} (takes : TakesOver inner k moved d olds e news) (down : vs ≡ set (replicate n true) k false) where
      settles : Settles (replicate n true) k vs
      settles = others down (omega (arith, but-one n k x.will.least l, x.will.least))

      there : IsRelocated k (together inner d (replicate n true) olds) (together inner e vs news)
      there = relocated-after inner k moved d e (replicate n true) vs olds news begun.arrays begun-up takes settles

      pub taken-less : moved ≤ left
      taken-less =
          let le = destined-le inner (settings_of d).skipped (bucket_count d) k (flat_map shelf_entries olds) in
          let m = length-flat_map shelf_entries olds in
          omega (arith, takes.moved, begun.left_is)

      pub taken-fields : overflow_of e + over < 2 ^ 62 → IsTable eq key hash e (record { array = news; waiting = vs; pending = n - 1; next = 0; left = left - moved; left_overflow = over })
      taken-fields few = fields-after eq key hash k moved d e _ vs news begun begun-up takes down (omega (arith, but-one n k x.will.least l, x.will.least)) few

      pub taken-lists : IsRegrouped inner n a (together inner e vs news)
      taken-lists = regrouped-same inner n a (together inner d (replicate n true) olds) (together inner e vs news) there.lists there.settings begun-lists

      pub taken-same : IsPermutation (entries a) (entries (together inner e vs news))
      taken-same = subst (λ es. IsPermutation (entries a) es) (sym (entries-same (together inner d (replicate n true) olds) (together inner e vs news) there.lists)) begun-same
