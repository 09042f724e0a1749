-- A removal by key, as a change of the pairs of a map.
use Rattle.std.proofs.Common.{Bool, Option, None, Some, refl, sym, subst, ◌∙◌, rules}
use Rattle.std.specs.Cmp.{IsEquivalence}
use Rattle.std.specs.Prelude.{IsSome, OnSome}
use Rattle.scc_common.specs.Contents.{Contents, entries, IsUniqueBy}
use Rattle.scc_common.specs.Pairs.{FindsInstead, IsUnique}
use Rattle.scc_buckets.proofs.Lookups.{find-position, find-position_none, finds-removed}
use Rattle.scc_buckets.proofs.PairSplits.{without-at}
use Rattle.scc_owned.specs.MapSteps.{Removes}
use Rattle.scc_table.specs.Arrays.{ShrinksByRule}
use Rattle.scc_table.specs.Places.{index_of}
use Rattle.scc_table.specs.Removals.{RemovesFirst}

module _ {K V S : Type 0} {eq : K → K → Bool} (laws : IsEquivalence eq) (k : K) (c d : Contents (K × V) S) (unique : IsUniqueBy eq (λ (e : K × V). e.0) c) where
  abbrev Step : Option (K × V) → Type 0
  Step r = RemovesFirst eq (λ (e : K × V). e.0) (λ (e : K × V). eq k e.0) c d r

  pub removed-step : (r : Option (K × V)) → Step r → Removes eq c k r d
  removed-step None (missed, stays) = subst (λ (z : Contents (K × V) S). Removes eq c k None z) (sym stays) (find-position_none (eq k) (entries c) missed, record { exact = refl; buckets = refl; settings = refl })
  removed-step (Some x) (q, found, out) =
      let es = entries c in
      let f = find-position (eq k) es (index_of c q) found.found in
      let h = out.others in
      (f.2 ∙ sym f.1 ∙ out.entry, record { same = rw (without-at laws k es (index_of c q) unique f) h.same; size = h.size; settings = h.settings })

  pub removed-finds : (r : Option (K × V)) → Step r → OnSome r (FindsInstead eq (entries c) k None (entries d))
  removed-finds None h = tt
  removed-finds (Some x) (q, found, out) = finds-removed laws (entries c) (entries d) k (index_of c q) out.others.same unique (find-position (eq k) (entries c) (index_of c q) found.found)

  pub removed-unique : (r : Option (K × V)) → Step r → IsUnique eq d
  removed-unique None (missed, stays) = subst (λ (z : Contents (K × V) S). IsUnique eq z) (sym stays) unique
  removed-unique (Some x) (q, found, out) = out.unique

  pub removed-array : (r : Option (K × V)) → Step r → ShrinksByRule (IsSome r) c d
  removed-array None (missed, stays) = subst (λ (z : Contents (K × V) S). ShrinksByRule (IsSome {T = K × V} None) c z) (sym stays)
      record {
        smaller = (search rules);
        due = (search rules);
        noted = (search rules);
        relocates = (search rules);
        waiting = (search rules);
      }
  removed-array (Some x) (q, found, out) =
      record {
        smaller = out.smaller;
        due = λ _. out.due;
        noted = (search rules);
        relocates = λ _. record { all = out.all; fewer = out.fewer; less = out.less; waiting = out.waiting };
        waiting = (search rules);
      }
