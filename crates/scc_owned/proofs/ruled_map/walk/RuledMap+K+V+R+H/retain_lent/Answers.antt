use Rattle.std.proofs.Common.{◌+◌, ap, rules}
use Rattle.scc_common.specs.Contents.{bucket_count, minimum_of}
use Rattle.scc_buckets.proofs.Resizes.{smaller-by, shrinks-after}
use Rattle.scc_table.proofs.walks.Takes.{holds-after}
use Rattle.scc_table.proofs.relocations.AfterWrites.{shrunk-after}
use Rattle.scc_owned.proofs.ruled_map.walk.RuledMap+K+V+R+H.retain_lent.Goals as goal

pub returns : goal.returns
returns g c =
    let x = c.retain_all.ensures.step in
    let resizes = rw c.self.view_is at c.shrink.ensures.resizes in
    let keeps = ap (λ s. s.asked + s.reserved) x.4.settings in
    record {
      step = (x.0, x.1, x.2, x.3, holds-after c.args.self.now c.retain_all.new.self c.shrink.new.self x.0 x.4 resizes);
      array = record {
        smaller = smaller-by c.retain_all.new.self c.shrink.new.self (minimum_of c.args.self.now) (bucket_count c.args.self.now) (rw c.self.view_is at c.shrink.ensures.shrinks) keeps x.4.buckets;
        due = λ _. shrinks-after c.args.self.now c.retain_all.new.self c.shrink.new.self x.4.buckets c.retain_all.ensures.noted (rw c.self.view_is at c.shrink.ensures.due);
        noted = (search rules);
        relocates = λ _. shrunk-after c.args.self.now c.retain_all.new.self c.shrink.new.self x.4.buckets keeps c.retain_all.ensures.waiting resizes (rw c.self.view_is at c.shrink.ensures.spreads);
        waiting = (search rules);
      };
      was_unique = (search rules);
      unique = (search rules);
    }
