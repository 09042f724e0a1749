use Rattle.std.proofs.Common.{◌∙◌, inl, sym, ap, arith, rules}
use Rattle.std.proofs.lemmas.Result.{IfErr-weaker, IfOk-weaker}
use Rattle.scc_buckets.proofs.Resizes.{rests-inserted}
use Rattle.scc_table.specs.Places.{spot_of}
use Rattle.scc_table.specs.TwoArrays.{waits_at}
use Rattle.scc_table.proofs.arrays.SameParts.{count-same, entries-same, pending-same, unchanged-same, hash-same}
use Rattle.scc_table.proofs.insertions.CurrentArray.{new-same}
use Rattle.scc_table.proofs.Table.insert_made_noted.Goals as goal

pub insert_made_and_relocate-requires : goal.insert_made_and_relocate-requires
insert_made_and_relocate-requires g c = new-same c.args.self.now c.note.new.self c.note.ensures.lists c.note.ensures.settings (hash-same g.H.Hashes.hash_of c.args.self.now c.note.new.self c.note.ensures.settings) c.requires

pub returns : goal.returns
returns g c =
    let a = c.args.self.now in
    let d = c.note.new.self in
    record {
      ok = (
          let f = c.insert_made_and_relocate.new.self in
          IfOk-weaker c.insert_made_and_relocate.result _ _ (λ p h. rests-inserted a d f (g.E.Made.made_of c.args.parts) (spot_of f p) (inl (unchanged-same a d c.note.ensures.lists c.note.ensures.settings)) h) c.insert_made_and_relocate.ensures.ok);
      err = (IfErr-weaker c.insert_made_and_relocate.result _ _ (λ e h. (h.0, record { exact = h.1.exact ∙ entries-same a d c.note.ensures.lists; buckets = h.1.buckets ∙ count-same a d c.note.ensures.lists; settings = h.1.settings ∙ c.note.ensures.settings })) c.insert_made_and_relocate.ensures.err);
      buckets = (c.insert_made_and_relocate.ensures.buckets ∙ count-same c.args.self.now c.note.new.self c.note.ensures.lists);
      denied = (c.insert_made_and_relocate.ensures.refused ∙ c.note.ensures.noted);
      fewer = (λ k up. ap (λ w. waits_at w k) (sym c.note.ensures.waiting) ∙ c.insert_made_and_relocate.ensures.fewer k up);
      less = (let n = pending-same c.args.self.now c.note.new.self c.note.ensures.waiting in omega (arith, c.insert_made_and_relocate.ensures.less));
      not_waiting = (search rules);
      unique = (search rules);
    }
