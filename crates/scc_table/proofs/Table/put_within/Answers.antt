use Rattle.std.proofs.Common.{◌≡◌, ◌∙◌, true, false, sym, rules}
use Rattle.scc_common.specs.Contents.{waiting_of}
use Rattle.scc_buckets.proofs.PairSplits.{by_answer}
use Rattle.scc_table.specs.TwoArrays.{pending_targets, waits_at}
use Rattle.scc_table.proofs.insertions.Places.{not_waiting-left}
use Rattle.scc_table.proofs.Table.put_within.Goals as goal

pub put_then_relocate-requires-clause-not_waiting : goal.put_then_relocate-requires-clause-not_waiting
put_then_relocate-requires-clause-not_waiting g c =
    let a = c.args.self.now in
    by_answer (waits_at (waiting_of a) c.args.bucket) (λ q. absurd (let z : true ≡ false = sym (c.is_waiting.ensures.1 q) ∙ c.if-is_waiting.false in cc)) (λ q. q)

pub returns : goal.returns
returns g c =
    record {
      step = (search rules);
      slot = (search rules);
      listed = (search rules);
      not_waiting = (search rules);
      exact = (
          let a = c.args.self.now in
          let down : waits_at (waiting_of a) c.args.bucket ≡ false = by_answer (waits_at (waiting_of a) c.args.bucket) (λ q. absurd (let z : true ≡ false = sym (c.is_waiting.ensures.1 q) ∙ c.if-is_waiting.false in cc)) (λ q. q) in
          not_waiting-left c.args.bucket a (pending_targets c.put_then_relocate.new.self) down c.put_then_relocate.ensures.exact);
      count = (search rules);
      unique = (search rules);
    }
