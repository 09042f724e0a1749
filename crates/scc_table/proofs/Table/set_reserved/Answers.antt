use Rattle.std.proofs.Common.{◌∙◌, ℕ, sym, ap, subst}
use Rattle.scc_common.specs.Contents.{Settings, hash_in, lists_of, owed_of}
use Rattle.scc_draining.specs.Drainings.{draining_of}
use Rattle.scc_table.specs.TwoArrays.{IsTable, together}
use Rattle.scc_table.proofs.arrays.JoinedLists.{settings-together, refused-together, waiting-together}
use Rattle.scc_table.proofs.arrays.Notes.{fields-kept, lists-kept, owed-kept}
use Rattle.scc_table.proofs.arrays.SameParts.{hash-like, entries-same, count-same}
use Rattle.scc_table.proofs.arrays.Views.{settings-seen, refused-seen, waiting-seen}
use Rattle.scc_table.proofs.Table.set_reserved.Goals as goal

pub set_reserved-requires : goal.set_reserved-requires
set_reserved-requires g c =
    let t = c.self.inside in
    rw (ap (λ s. s.asked) (sym (settings-seen _ t.current t.draining.waiting.items t.draining.array c.args.self.now c.self.view_is))) c.requires

pub invariant_of-self : goal.invariant_of-self
invariant_of-self g c =
    let t = c.self.inside in
    let d = c.set_reserved.new.self in
    let hk = hash_in g.H.Hashes.hash_of t.current in
    let e = c.set_reserved.ensures in
    let same = hash-like g.H.Hashes.hash_of t.current d (ap (λ s. s.hasher) e.settings) in
    let skips = ap (λ s. s.skipped) e.settings in
    subst (λ (h : g.row.E-Key.Denot → ℕ). IsTable g.E.Key.PartialEq.eq g.E.Keyed.key_of h d (draining_of t.draining)) (sym same)
    (fields-kept g.E.Key.PartialEq.eq g.E.Keyed.key_of hk t.current d (draining_of t.draining) e.lists skips e.spilled c.self.invariant)

pub returns : goal.returns
returns g c =
    let t = c.self.inside in
    let d = c.set_reserved.new.self in
    let hk = hash_in g.H.Hashes.hash_of t.current in
    let e = c.set_reserved.ensures in
    let same = hash-like g.H.Hashes.hash_of t.current d (ap (λ s. s.hasher) e.settings) in
    let skips = ap (λ s. s.skipped) e.settings in
    let there = ap (λ (h : g.row.E-Key.Denot → ℕ). lists_of (together (λ e. h (g.E.Keyed.key_of e)) d t.draining.waiting.items t.draining.array)) same ∙ lists-kept (λ e. hk (g.E.Keyed.key_of e)) t.current d t.draining.waiting.items t.draining.array e.lists skips ∙ ap lists_of c.self.view_is in
    record {
      entries = (entries-same c.args.self.now _ there);
      buckets = (count-same c.args.self.now _ there);
      settings = (
          let kept = settings-seen _ t.current t.draining.waiting.items t.draining.array c.args.self.now c.self.view_is in
          settings-together _ c.set_reserved.new.self t.draining.waiting.items t.draining.array ∙ c.set_reserved.ensures.settings ∙ ap (λ (s : Settings g.row.H.Denot). let r : Settings g.row.H.Denot = record s { reserved = c.args.reserved } in r) (sym kept));
      noted = (refused-together _ c.set_reserved.new.self t.draining.waiting.items t.draining.array ∙ c.set_reserved.ensures.noted ∙ sym (refused-seen _ t.current t.draining.waiting.items t.draining.array c.args.self.now c.self.view_is));
      lists = there;
      waiting = (waiting-together _ c.set_reserved.new.self t.draining.waiting.items t.draining.array ∙ sym (waiting-seen _ t.current t.draining.waiting.items t.draining.array c.args.self.now c.self.view_is));
      owed = (ap (λ (h : g.row.E-Key.Denot → ℕ). owed_of (together (λ e. h (g.E.Keyed.key_of e)) d t.draining.waiting.items t.draining.array)) same ∙ owed-kept (λ e. hk (g.E.Keyed.key_of e)) t.current d t.draining.waiting.items t.draining.array e.lists skips ∙ ap owed_of c.self.view_is);
    }
