use Rattle.std.proofs.Common.{◌≡◌, ◌∙◌, true, false, sym, rules}
use Rattle.std.proofs.lemmas.Result.{on_ok_weaker}
use Rattle.scc_common.specs.Contents.{waiting_of}
use Rattle.scc_buckets.proofs.PairSplits.{by_answer}
use Rattle.scc_table.specs.TwoArrays.{pending_targets, waits_at}
use Rattle.scc_table.proofs.insertions.Places.{moved-not_waiting, not_waiting-left}
use Rattle.scc_table.proofs.Table.insert_and_relocate.Goals as goal

pub returns : goal.returns
returns g c =
    let a = c.args.self.now in
    let down : waits_at (waiting_of a) c.args.bucket ≡ false = by_answer (waits_at (waiting_of a) c.args.bucket) (λ q. absurd (let z : true ≡ false = sym (c.is_waiting.ensures.1 q) ∙ c.if-is_waiting.false in cc)) (λ q. q) in
    record {
      ok = (search rules);
      err = (search rules);
      full = (search rules);
      buckets = (search rules);
      refused = (search rules);
      fewer = (search rules);
      less = (search rules);
      most = (search rules);
      not_waiting = (search rules);
      moved = (on_ok_weaker c.insert_then_relocate.result (λ h. moved-not_waiting c.args.bucket a c.insert_then_relocate.new.self down h) c.insert_then_relocate.ensures.moved);
      exact = (on_ok_weaker c.insert_then_relocate.result (λ h short. not_waiting-left c.args.bucket a (pending_targets c.insert_then_relocate.new.self) down (h short)) c.insert_then_relocate.ensures.exact);
      unique = (search rules);
    }
