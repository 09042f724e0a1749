use Rattle.std.proofs.Common.{◌≡◌, ℕ, nat_eq, take}
use Rattle.std.specs.List.{IsDistinct}
use Rattle.std.specs.Set.{is_member}
use Rattle.scc_common.specs.Contents.{entries}
use Rattle.scc_uses.proofs.distinct.distinct.Given as goal

abbrev pub invariant-loop-word : goal.invariant-loop-word
invariant-loop-word l = record {
  seen : (q : ℕ) → is_member nat_eq (entries l.seen) q ≡ is_member nat_eq (take l.word-index l.words) q;
  listed : (q : ℕ) → is_member nat_eq l.list.items q ≡ is_member nat_eq (take l.word-index l.words) q;
  once : IsDistinct nat_eq l.list.items;
}
