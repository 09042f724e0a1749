use Rattle.std.proofs.Common.{◌∙◌, ℕ, sym, ap, subst}
use Rattle.scc_common.specs.Contents.{hash_in, lists_of, owed_of, overflow_of}
use Rattle.scc_draining.specs.Drainings.{draining_of}
use Rattle.scc_table.specs.TwoArrays.{IsTable, together}
use Rattle.scc_table.proofs.arrays.JoinedLists.{settings-together, refused-together, waiting-together}
use Rattle.scc_table.proofs.arrays.Notes.{fields-kept, lists-kept, owed-kept, spilled-kept}
use Rattle.scc_table.proofs.arrays.SameParts.{hash-same}
use Rattle.scc_table.proofs.arrays.Views.{settings-seen, waiting-seen}
use Rattle.scc_table.proofs.Table.note.Goals as goal

pub invariant_of-self : goal.invariant_of-self
invariant_of-self g c =
    let t = c.self.inside in
    let d = c.note.new.self in
    let hk = hash_in g.H.Hashes.hash_of t.current in
    let same = hash-same g.H.Hashes.hash_of t.current d c.note.ensures.settings in
    subst (λ (h : g.row.E-Key.Denot → ℕ). IsTable g.E.Key.PartialEq.eq g.E.Keyed.key_of h d (draining_of t.draining)) (sym same)
    (fields-kept g.E.Key.PartialEq.eq g.E.Keyed.key_of hk t.current d (draining_of t.draining) c.note.ensures.lists (ap (λ s. s.skipped) c.note.ensures.settings) c.note.ensures.spilled c.self.invariant)

pub returns : goal.returns
returns g c =
    let t = c.self.inside in
    let d = c.note.new.self in
    let hk = hash_in g.H.Hashes.hash_of t.current in
    let same = hash-same g.H.Hashes.hash_of t.current d c.note.ensures.settings in
    record {
      lists = (ap (λ (h : g.row.E-Key.Denot → ℕ). lists_of (together (λ e. h (g.E.Keyed.key_of e)) d t.draining.waiting.items t.draining.array)) same ∙ lists-kept (λ e. hk (g.E.Keyed.key_of e)) t.current d t.draining.waiting.items t.draining.array c.note.ensures.lists (ap (λ s. s.skipped) c.note.ensures.settings) ∙ ap lists_of c.self.view_is);
      settings = (settings-together _ c.note.new.self t.draining.waiting.items t.draining.array ∙ c.note.ensures.settings ∙ sym (settings-seen _ t.current t.draining.waiting.items t.draining.array c.args.self.now c.self.view_is));
      noted = (refused-together _ c.note.new.self c.self.inside.draining.waiting.items c.self.inside.draining.array ∙ c.note.ensures.noted);
      spilled = (ap (λ (h : g.row.E-Key.Denot → ℕ). overflow_of (together (λ e. h (g.E.Keyed.key_of e)) d t.draining.waiting.items t.draining.array)) same ∙ spilled-kept (λ e. hk (g.E.Keyed.key_of e)) t.current d t.draining.waiting.items t.draining.array c.note.ensures.lists (ap (λ s. s.skipped) c.note.ensures.settings) c.note.ensures.spilled ∙ ap overflow_of c.self.view_is);
      waiting = (waiting-together _ c.note.new.self t.draining.waiting.items t.draining.array ∙ sym (waiting-seen _ t.current t.draining.waiting.items t.draining.array c.args.self.now c.self.view_is));
      owed = (ap (λ (h : g.row.E-Key.Denot → ℕ). owed_of (together (λ e. h (g.E.Keyed.key_of e)) d t.draining.waiting.items t.draining.array)) same ∙ owed-kept (λ e. hk (g.E.Keyed.key_of e)) t.current d t.draining.waiting.items t.draining.array c.note.ensures.lists (ap (λ s. s.skipped) c.note.ensures.settings) ∙ ap owed_of c.self.view_is);
      unique = (
          let kept = fields-kept g.E.Key.PartialEq.eq g.E.Keyed.key_of hk t.current d (draining_of t.draining) c.note.ensures.lists (ap (λ s. s.skipped) c.note.ensures.settings) c.note.ensures.spilled c.self.invariant in
          (subst (λ (h : g.row.E-Key.Denot → ℕ). IsTable g.E.Key.PartialEq.eq g.E.Keyed.key_of h d (draining_of t.draining)) (sym same) kept).unique);
    }
