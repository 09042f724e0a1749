use Rattle.std.proofs.Common.{◌++◌, [], ◌∷◌, subst, arith, rules}
use Rattle.scc_buckets.specs.Bounded.{HasList}
use Rattle.scc_buckets.proofs.Bounds.{has-list-of, has-list-then}
use Rattle.scc_buckets.proofs.Latest.{stands-last}
use Rattle.scc_buckets.proofs.Buckets.touch.Goals as goal

pub push_last-requires-clause-new : goal.push_last-requires-clause-new
push_last-requires-clause-new g c = record { within = search rules; routed = search rules; hashed = search rules; absent = c.take_in-entry.ensures.gone }

pub push_last-requires-clause-short : goal.push_last-requires-clause-short
push_last-requires-clause-short g c = c.take_in-entry.ensures.short c.requires.bounded

pub returns-clause-list : goal.returns-clause-list
returns-clause-list g c =
    let taken = c.take_in-entry.ensures.lists c.requires.bounded in
    let here = has-list-of c.args.self.now c.take_in-entry.new.self c.args.bucket _ taken c.requires.within in (
      c.take_in-entry.result,
      c.take_in-entry.ensures.listed,
      subst (λ es. HasList c.args.self.now c.args.bucket (es ++ c.take_in-entry.result ∷ []) c.push_last.new.self) here (has-list-then c.args.self.now c.take_in-entry.new.self c.args.bucket _ taken c.push_last.new.self _ c.push_last.ensures.list),
    )

pub returns-then-list_len-slot-eq1-clause-list : goal.returns-then-list_len-slot-eq1-clause-list
returns-then-list_len-slot-eq1-clause-list g c = stands-last c.args.self.now c.args.bucket c.args.slot c.requires.within c.requires.bounded (omega (arith, c.requires.slot, c.list_len.ensures.len, c.if-list_len-slot-eq1.true))
