use Rattle.std.proofs.Common.{◌≡◌, ◌∙◌, ◌+◌, ℕ, length, replicate, true, inr, sym, ap, subst, arith}
use Rattle.std.proofs.lemmas.List.{length-replicate}
use Rattle.std.specs.List.{count_by}
use Rattle.scc_array.specs.Shelf.{empty_shelf}
use Rattle.scc_common.specs.Contents.{Settings, hash_in, overflow_of}
use Rattle.scc_buckets.specs.Pour.{IsRegrouped}
use Rattle.scc_common.specs.Sizes.{IsBucketCount, IsLawful}
use Rattle.scc_buckets.specs.Tables.{overflow_in}
use Rattle.scc_buckets.proofs.Fresh.{empty-replicate}
use Rattle.scc_buckets.proofs.MakingLemmas.{flat-empty, table-empty}
use Rattle.scc_table.specs.TwoArrays.{together}
use Rattle.scc_table.proofs.arrays.OneArray.{nothing-owed, spilled-together}
use Rattle.scc_draining.proofs.Arriving.{IsDistinct-nil}
use Rattle.scc_table.proofs.arrays.JoinedLists.{waiting-together, pending-together, refused-together}
use Rattle.scc_table.proofs.arrays.SameParts.{hash-same}
use Rattle.scc_table.proofs.resizes.Installation.{count-up}
use Rattle.scc_table.proofs.arrays.Views.{not_waiting-flags, settings-seen, refused-seen, spilled-seen}
use Rattle.scc_table.proofs.resizes.Exchange.{begun, begun-lists, begun-same, exchanged}
use Rattle.scc_table.proofs.Table.install.Goals as goal

pub install-old-requires-clause-table : goal.install-old-requires-clause-table
install-old-requires-clause-table g c =
    let n = c.args.count in
    let lawful : IsLawful (length (replicate n (empty_shelf {E = g.row.E.Denot}))) = inr (subst IsBucketCount (sym (length-replicate n (empty_shelf {E = g.row.E.Denot}))) c.requires.array) in
    rw c.requires.empty (table-empty _ _ (replicate n empty_shelf) (empty-replicate g.row.E.Denot n) lawful)

pub install-old-requires-clause-unique : goal.install-old-requires-clause-unique
install-old-requires-clause-unique g c =
    let n = c.args.count in
    let none = flat-empty (replicate n (empty_shelf {E = g.row.E.Denot})) (empty-replicate g.row.E.Denot n) in
    rw (c.requires.empty, none) (IsDistinct-nil g.E.Key.PartialEq.eq)

pub begin-requires : goal.begin-requires
begin-requires g c =
    let t = c.self.inside in
    let none = not_waiting-flags c.args.self.now c.self.invariant c.self.view_is c.requires.not_waiting in
    nothing-owed _ t.current t.draining.waiting.items t.draining.array none c.self.invariant.arrays

pub invariant_of-self : goal.invariant_of-self
invariant_of-self g c =
    let r = c.requires in
    let e = c.install-old.ensures in
    let x = exchanged g.met.E.Key.Eq.laws (λ (s : Settings g.row.H.Denot) (k : g.row.E-Key.Denot). g.H.Hashes.hash_of s.hasher k) c.self.invariant c.self.view_is r.not_waiting r.empty r.array r.some r.other e.lists e.settings e.spilled e.were e.table in
    rw (c.begin.ensures, r.flags) (begun x)

pub returns : goal.returns
returns g c =
    let r = c.requires in
    let e = c.install-old.ensures in
    let x = exchanged g.met.E.Key.Eq.laws (λ (s : Settings g.row.H.Denot) (k : g.row.E-Key.Denot). g.H.Hashes.hash_of s.hasher k) c.self.invariant c.self.view_is r.not_waiting r.empty r.array r.some r.other e.lists e.settings e.spilled e.were e.table in
    let t = c.self.inside in
    let cur = t.current in
    let a = c.args.self.now in
    let d = c.install-old.new.self in
    let olds = c.install-old.result.0 in
    let key = g.E.Keyed.key_of in
    record {
      lists = (
          let outer = hash-same g.H.Hashes.hash_of d a (settings-seen _ _ _ _ a c.self.view_is ∙ sym e.settings) in
          rw (c.begin.ensures, r.flags)
          (subst (λ (h : g.row.E-Key.Denot → ℕ). IsRegrouped (λ z. h (key z)) c.args.count a (together (λ z. hash_in g.H.Hashes.hash_of d (key z)) d (replicate c.args.count true) olds)) (sym outer) (begun-lists x)));
      same = (rw (c.begin.ensures, r.flags) (begun-same x));
      waiting = (rw c.begin.ensures (waiting-together _ d c.args.flags.items olds ∙ r.flags));
      pending = (rw c.begin.ensures (pending-together _ d c.args.flags.items olds ∙ ap (count_by (λ w. w)) r.flags ∙ count-up c.args.count));
      noted = (rw c.begin.ensures (refused-together _ d c.args.flags.items olds ∙ e.noted ∙ sym (refused-seen _ cur t.draining.waiting.items t.draining.array a c.self.view_is)));
      bounded = (
          let was = spilled-seen (λ (e : g.row.E.Denot). hash_in g.H.Hashes.hash_of cur (g.E.Keyed.key_of e)) cur t.draining.waiting.items t.draining.array a c.self.view_is in
          let nothing : overflow_of d ≡ 0 = e.spilled in
          let over : overflow_in olds ≡ overflow_of cur = sym e.table.spilled ∙ e.overflowing in
          λ none.
          let zero : overflow_of d + overflow_in olds ≡ 0 = omega (arith, was, nothing, over, none) in
          rw c.begin.ensures (spilled-together (λ e. hash_in g.H.Hashes.hash_of d (g.E.Keyed.key_of e)) d c.args.flags.items olds ∙ zero));
    }
