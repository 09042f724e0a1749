use Rattle.std.proofs.Common.{◌∙◌, ◌≤◌, ℕ, length, sym, ap, subst, arith, rules}
use Rattle.std.proofs.lemmas.Result.{IfErr-weaker, IfOk-weaker, on_err_weaker, on_ok_weaker}
use Rattle.scc_common.specs.Contents.{HasRoomBy, bucket_count, hash_in, list_of, settings_of}
use Rattle.scc_common.specs.Routing.{bucket_number}
use Rattle.scc_table.specs.TwoArrays.{pending_targets}
use Rattle.scc_table.proofs.insertions.Places.{long-none, moved-relocated, relocated-fewer, relocated-inserted, relocated-left, relocated-short, room-same}
use Rattle.scc_table.proofs.arrays.SameParts.{count-same, entries-same, hash-same}
use Rattle.scc_table.proofs.insertions.CurrentArray.{new-same}
use Rattle.scc_table.proofs.Table.insert_after_relocation.Goals as goal

pub insert_then_relocate-requires-clause-new : goal.insert_then_relocate-requires-clause-new
insert_then_relocate-requires-clause-new g c = new-same c.args.self.now c.relocate.new.self c.in-Ok.ensures.ok.lists c.in-Ok.ensures.ok.settings (hash-same g.H.Hashes.hash_of c.args.self.now c.relocate.new.self c.in-Ok.ensures.ok.settings) c.requires.new

pub returns-in-Ok : goal.returns-in-Ok
returns-in-Ok g c =
    let a = c.args.self.now in
    let b = c.relocate.new.self in
    let r = c.in-Ok.ensures.ok in
    record {
      ok = (IfOk-weaker c.insert_then_relocate.result _ _ (λ p h. relocated-inserted c.args.bucket c.args.self.now c.relocate.new.self c.in-Ok.ensures.ok c.args.entry c.insert_then_relocate.new.self p h) c.insert_then_relocate.ensures.ok);
      err = (IfErr-weaker c.insert_then_relocate.result _ _ (λ e h. (h.0, record { exact = h.1.exact ∙ entries-same a b r.lists; buckets = h.1.buckets ∙ count-same a b r.lists; settings = h.1.settings ∙ r.settings })) c.insert_then_relocate.ensures.err);
      full = (
          let same = hash-same g.H.Hashes.hash_of a b r.settings in
          let k = g.E.Keyed.key_of c.args.entry in
          let ha = hash_in g.H.Hashes.hash_of a in
          on_err_weaker c.insert_then_relocate.result
          (λ no room. no (subst (λ (h : g.row.E-Key.Denot → ℕ). HasRoomBy h g.E.Keyed.key_of b k) (sym same) (room-same g.E.Keyed.key_of ha a b r.lists r.settings k room)))
          c.insert_then_relocate.ensures.full);
      buckets = (c.insert_then_relocate.ensures.buckets ∙ count-same c.args.self.now c.relocate.new.self c.in-Ok.ensures.ok.lists);
      refused = (search rules);
      fewer = (λ k up. relocated-fewer c.args.bucket c.args.self.now c.relocate.new.self c.in-Ok.ensures.ok k (c.insert_then_relocate.ensures.fewer k up));
      less = (search rules);
      most = (search rules);
      not_waiting = (search rules);
      moved = (on_ok_weaker c.insert_then_relocate.result (λ h. moved-relocated c.args.bucket a b c.in-Ok.ensures.ok c.insert_then_relocate.new.self h) c.insert_then_relocate.ensures.moved);
      exact = (on_ok_weaker c.insert_then_relocate.result (λ h short. relocated-left c.args.bucket a b r (pending_targets c.insert_then_relocate.new.self) (h (relocated-short c.args.bucket a b r short))) c.insert_then_relocate.ensures.exact);
      unique = (search rules);
    }

pub returns-in-Err : goal.returns-in-Err
returns-in-Err g c =
    record {
      ok = (search rules);
      err = (search rules);
      full = (
          let a = c.args.self.now in
          let ha = hash_in g.H.Hashes.hash_of a in
          let k = g.E.Keyed.key_of c.args.entry in
          let at = c.requires.new.routed ∙ ap (bucket_number (settings_of a).skipped (bucket_count a)) c.requires.new.hashed in
          let long : 32 ≤ length (list_of a c.args.bucket) = omega (arith, c.in-Err.ensures.refused) in
          long-none g.E.Keyed.key_of ha a c.relocate.ensures.routed k c.args.bucket c.requires.new.within at long);
      buckets = (search rules);
      refused = (search rules);
      fewer = (search rules);
      less = (search rules);
      most = (search rules);
      not_waiting = (search rules);
      moved = (search rules);
      exact = (search rules);
      unique = (search rules);
    }
