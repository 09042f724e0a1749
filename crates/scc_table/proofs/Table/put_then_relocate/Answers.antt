use Rattle.std.proofs.Common.{◌≡◌, ◌∙◌, true, false, drop, length, sym, ap, arith}
use Rattle.std.proofs.lemmas.List.{length-drop}
use Rattle.scc_common.specs.Contents.{waiting_of}
use Rattle.scc_buckets.proofs.PairSplits.{by_answer}
use Rattle.scc_table.specs.TwoArrays.{pending_targets, waits_at}
use Rattle.scc_table.proofs.relocations.ShortLists.{listed-later, puts-later, short-listed}
use Rattle.scc_table.proofs.relocations.Targets.{targets-length, targets-same}
use Rattle.scc_table.proofs.arrays.SameParts.{list-same, unique-same}
use Rattle.scc_table.proofs.Table.put_then_relocate.Goals as goal

pub put_last-put-requires-clause-not_waiting : goal.put_last-put-requires-clause-not_waiting
put_last-put-requires-clause-not_waiting g c = λ up. absurd (let z : true ≡ false = sym up ∙ c.requires.not_waiting in cc)

pub returns : goal.returns
returns g c =
    let m = c.put_last-put.new.self in
    let d = c.relocate_some.new.self in
    let r = c.relocate_some.ensures in
    let lm = c.put_last-put.ensures.listed c.requires.listed in
    record {
      slot = (c.put_last-put.ensures.slot ∙ ap length (sym (list-same m d r.lists c.args.bucket)));
      step = (puts-later m d r.lists r.settings r.noted c.args.self.now c.args.bucket c.args.entry c.put_last-put.result.0 (r.bounded lm.bounded (short-listed _ m lm)) c.put_last-put.ensures.step);
      listed = (listed-later (λ s (e : g.row.E.Denot). g.H.Hashes.hash_of s.hasher (g.E.Keyed.key_of e)) m d r.lists r.settings (r.bounded lm.bounded (short-listed _ m lm)) lm);
      not_waiting = (
          let i = c.args.bucket in
          let waiting = c.put_last-put.ensures.waiting in
          by_answer (waits_at (waiting_of d) i) (λ q. absurd (let z : true ≡ false = sym (c.relocate_some.ensures.fewer i q) ∙ ap (λ w. waits_at w i) waiting ∙ c.requires.not_waiting in cc)) (λ q. q));
      exact = (c.relocate_some.ensures.exact (short-listed _ m lm) ∙ ap (drop c.args.most) (targets-same c.args.self.now m c.put_last-put.ensures.waiting));
      count = (
          let a = c.args.self.now in
          let exact = c.relocate_some.ensures.exact (short-listed _ m lm) ∙ ap (drop c.args.most) (targets-same a m c.put_last-put.ensures.waiting) in
          λ enough. omega (arith, ap length exact, length-drop c.args.most (pending_targets a), targets-length a, targets-length d));
      unique = (unique-same m d r.lists g.E.Key.PartialEq.eq g.E.Keyed.key_of c.put_last-put.ensures.unique);
    }
