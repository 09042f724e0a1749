use Rattle.std.proofs.Common.{◌≡◌, ◌+◌, ◌∙◌, [], length, rules, sym, ap}
use Rattle.scc_common.specs.Contents.{entries, bucket_count, minimum_of}
use Rattle.std.proofs.lemmas.List.Sorted.{length_permutation}
use Rattle.scc_buckets.proofs.Standing.{length-zero}
use Rattle.scc_buckets.proofs.Resizes.{smaller-by, shrinks-after}
use Rattle.scc_table.proofs.walks.Takes.{holds-after}
use Rattle.scc_table.proofs.relocations.AfterWrites.{shrunk-after}
use Rattle.scc_owned.proofs.Owned.clear_sync.Goals as goal

pub returns : goal.returns
returns g c =
    let held = c.take_all.ensures.step in
    let resizes = rw c.self.view_is at c.shrink.ensures.resizes in
    let keeps = ap (λ s. s.asked + s.reserved) held.settings in
    let none : length (entries c.shrink.new.self) ≡ 0 = length_permutation (entries c.take_all.new.self) (entries c.shrink.new.self) resizes.same ∙ ap length held.exact in
    record {
      empty = length-zero (entries c.shrink.new.self) (sym none);
      holds = holds-after c.args.self.now c.take_all.new.self c.shrink.new.self [] held resizes;
      array = record {
        smaller = smaller-by c.take_all.new.self c.shrink.new.self (minimum_of c.args.self.now) (bucket_count c.args.self.now) (rw c.self.view_is at c.shrink.ensures.shrinks) keeps held.buckets;
        due = λ _. shrinks-after c.args.self.now c.take_all.new.self c.shrink.new.self held.buckets c.take_all.ensures.noted (rw c.self.view_is at c.shrink.ensures.due);
        noted = (search rules);
        relocates = λ _. shrunk-after c.args.self.now c.take_all.new.self c.shrink.new.self held.buckets keeps c.take_all.ensures.waiting resizes (rw c.self.view_is at c.shrink.ensures.spreads);
        waiting = (search rules);
      };
      unique = (search rules);
    }
