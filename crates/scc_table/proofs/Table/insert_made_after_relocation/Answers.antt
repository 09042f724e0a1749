use Rattle.std.proofs.Common.{◌∙◌, rules}
use Rattle.std.proofs.lemmas.Result.{IfErr-weaker, IfOk-weaker, on_ok_weaker}
use Rattle.scc_table.specs.TwoArrays.{pending_targets}
use Rattle.scc_table.proofs.insertions.Places.{moved-relocated, relocated-fewer, relocated-inserted, relocated-left, relocated-short}
use Rattle.scc_table.proofs.arrays.SameParts.{count-same, entries-same, hash-same}
use Rattle.scc_table.proofs.insertions.CurrentArray.{new-same}
use Rattle.scc_table.proofs.Table.insert_made_after_relocation.Goals as goal

pub insert_made_then_relocate-requires-clause-new : goal.insert_made_then_relocate-requires-clause-new
insert_made_then_relocate-requires-clause-new g c = new-same c.args.self.now c.relocate.new.self c.in-Ok.ensures.ok.lists c.in-Ok.ensures.ok.settings (hash-same g.H.Hashes.hash_of c.args.self.now c.relocate.new.self c.in-Ok.ensures.ok.settings) c.requires.new

pub returns-in-Ok : goal.returns-in-Ok
returns-in-Ok g c =
    let a = c.args.self.now in
    let b = c.relocate.new.self in
    let r = c.in-Ok.ensures.ok in
    record {
      ok = (IfOk-weaker c.insert_made_then_relocate.result _ _ (λ p h. relocated-inserted c.args.bucket c.args.self.now c.relocate.new.self c.in-Ok.ensures.ok (g.E.Made.made_of c.args.parts) c.insert_made_then_relocate.new.self p h) c.insert_made_then_relocate.ensures.ok);
      err = (IfErr-weaker c.insert_made_then_relocate.result _ _ (λ e h. (h.0, record { exact = h.1.exact ∙ entries-same a b r.lists; buckets = h.1.buckets ∙ count-same a b r.lists; settings = h.1.settings ∙ r.settings })) c.insert_made_then_relocate.ensures.err);
      full = (search rules);
      buckets = (c.insert_made_then_relocate.ensures.buckets ∙ count-same c.args.self.now c.relocate.new.self c.in-Ok.ensures.ok.lists);
      refused = (search rules);
      fewer = (λ k up. relocated-fewer c.args.bucket c.args.self.now c.relocate.new.self c.in-Ok.ensures.ok k (c.insert_made_then_relocate.ensures.fewer k up));
      less = (search rules);
      most = (search rules);
      not_waiting = (search rules);
      moved = (on_ok_weaker c.insert_made_then_relocate.result (λ h. moved-relocated c.args.bucket a b c.in-Ok.ensures.ok c.insert_made_then_relocate.new.self h) c.insert_made_then_relocate.ensures.moved);
      exact = (on_ok_weaker c.insert_made_then_relocate.result (λ h short. relocated-left c.args.bucket a b r (pending_targets c.insert_made_then_relocate.new.self) (h (relocated-short c.args.bucket a b r short))) c.insert_made_then_relocate.ensures.exact);
      unique = (search rules);
    }
