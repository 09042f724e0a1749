use Rattle.std.specs.List.{IsDistinct}
use Rattle.std.proofs.Common.{◌≡◌, ◌∙◌, ◌+◌, ◌*◌, ℕ, List, map, inl, sym, ap, subst, arith, rules}
use Rattle.scc_common.specs.Contents.{bucket_count, entries, hash_in, minimum_of, overflow_of, notes_of}
use Rattle.scc_common.specs.Sizes.{IsBucketCount, IsArraySize}
use Rattle.scc_buckets.specs.Tables.{overflow_in}
use Rattle.scc_draining.specs.Drainings.{draining_of}
use Rattle.scc_table.specs.TwoArrays.{IsTable, together}
use Rattle.scc_table.proofs.arrays.OneArray.{count-alone, entries-alone, nothing-owed, spilled-bare, spilled-together}
use Rattle.scc_draining.proofs.Arriving.{IsDistinct-nil}
use Rattle.scc_table.proofs.resizes.FirstArray.{fields-first, first-grows, first-rests, first-flags, same-rests}
use Rattle.scc_table.proofs.arrays.JoinedLists.{refused-together, settings-together, waiting-together}
use Rattle.scc_table.proofs.arrays.SameParts.{any-err, hash-same}
use Rattle.scc_table.proofs.relocations.ShortLists.{first-resized}
use Rattle.scc_table.proofs.arrays.Views.{count-seen, refused-seen, settings-seen}
use Rattle.scc_table.proofs.Table.install_first.Goals as goal

pub install_first-requires : goal.install_first-requires
install_first-requires g c =
    let t = c.self.inside in
    sym (count-seen _ t.current t.draining.waiting.items t.draining.array c.args.self.now c.self.view_is c.self.invariant.arrays.flags) ∙ c.requires

pub invariant_of-self-2 : goal.invariant_of-self-2
invariant_of-self-2 g c =
    let t = c.self.inside in
    let new = c.install_first.new.self in
    let none = first-flags c.self.invariant c.self.view_is c.requires in
    let same = hash-same g.H.Hashes.hash_of t.current new c.install_first.ensures.settings in
    subst (λ (h : g.row.E-Key.Denot → ℕ). IsTable g.E.Key.PartialEq.eq g.E.Keyed.key_of h new (draining_of t.draining)) (sym same)
    (fields-first g.E.Key.PartialEq.eq g.E.Keyed.key_of (hash_in g.H.Hashes.hash_of t.current) t.current new (draining_of t.draining) c.self.invariant none c.install_first.ensures.settings c.install_first.ensures.still c.in_ok-install_first.ensures.resized.bounded)

pub returns : goal.returns
returns g c =
    let t = c.self.inside in
    let cur = t.current in
    let ws = t.draining.waiting.items in
    let olds = t.draining.array in
    let a = c.args.self.now in
    let new = c.install_first.new.self in
    let inv = c.self.invariant in
    let hk = hash_in g.H.Hashes.hash_of cur in
    let hash = λ (e : g.row.E.Denot). hk (g.E.Keyed.key_of e) in
    let view = c.self.view_is in
    let none = first-flags inv view c.requires in
    let later = λ (e : g.row.E.Denot). hash_in g.H.Hashes.hash_of new (g.E.Keyed.key_of e) in
    let d = together later new ws olds in
    let still = entries-alone later new ws olds none ∙ c.install_first.ensures.still in
    let bare = ap entries (sym view) ∙ entries-alone hash cur ws olds none ∙ c.install_first.ensures.entries in
    let kept = settings-seen hash cur ws olds a view in
    let settings = settings-together later new ws olds ∙ c.install_first.ensures.settings ∙ sym kept in
    let buckets = count-alone later new ws olds none in
    let array = subst IsBucketCount (sym buckets) c.in_ok-install_first.ensures.array in
    let minimum = ap (λ s. s.asked + s.reserved) (sym kept) in
    let size = subst (λ m. IsArraySize m (32 * bucket_count d)) minimum (subst (λ n. IsArraySize (minimum_of cur) (32 * n)) (sym buckets) c.in_ok-install_first.ensures.size) in
    record {
      rests = (first-rests a d c.requires bare still settings array);
      growth = (first-grows a d c.requires size);
      noted = (refused-together later new ws olds ∙ c.install_first.ensures.noted ∙ sym (refused-seen hash cur ws olds a view));
      first = (record { made = λ z. size });
      array = (omega (arith, array.least));
      bare = still;
      waiting = (waiting-together later new ws olds ∙ none);
      refused = (search rules);
      resized = (
          let low : overflow_of new ≡ 0 = c.in_ok-install_first.ensures.resized.bounded in
          let nothing = spilled-bare olds (nothing-owed hash cur ws olds none inv.arrays) in
          let zero : overflow_of new + overflow_in olds ≡ 0 = omega (arith, low, nothing) in
          first-resized _ a d bare still settings array (spilled-together later new ws olds ∙ zero));
      same = (search rules);
      unique = (subst (λ (es : List g.row.E.Denot). IsDistinct g.E.Key.PartialEq.eq (map g.E.Keyed.key_of es)) (sym still) (IsDistinct-nil g.E.Key.PartialEq.eq));
    }

pub invariant_of-self : goal.invariant_of-self
invariant_of-self g c =
    rw c.in_err-install_first.ensures.same c.self.invariant

pub returns-in_err-install_first : goal.returns-in_err-install_first
returns-in_err-install_first g c =
    let t = c.self.inside in
    let new = c.install_first.new.self in
    let later = λ (e : g.row.E.Denot). hash_in g.H.Hashes.hash_of new (g.E.Keyed.key_of e) in
    let none = first-flags c.self.invariant c.self.view_is c.requires in
    let still = entries-alone later new t.draining.waiting.items t.draining.array none ∙ c.install_first.ensures.still in
    let same : together later new t.draining.waiting.items t.draining.array ≡ c.args.self.now = rw c.in_err-install_first.ensures.same c.self.view_is in
    let rests = same-rests c.args.self.now _ same in
    record {
      rests = inl rests.0;
      growth = rests.1;
      noted = ap notes_of same;
      first = (search rules);
      array = (search rules);
      bare = still;
      waiting = waiting-together later new t.draining.waiting.items t.draining.array ∙ none;
      refused = any-err c.from_residual.result rests.0;
      resized = (search rules);
      same = any-err c.from_residual.result same;
      unique = subst (λ (es : List g.row.E.Denot). IsDistinct g.E.Key.PartialEq.eq (map g.E.Keyed.key_of es)) (sym still) (IsDistinct-nil g.E.Key.PartialEq.eq);
    }
