use Rattle.std.proofs.Common.{◌+◌, ◌++◌, ◌<◌, ◌≤◌, length, ap, arith, rules}
use Rattle.scc_common.specs.Contents.{entries, bucket_count, minimum_of}
use Rattle.scc_buckets.proofs.Resizes.{smaller-by, shrinks-after}
use Rattle.scc_table.proofs.walks.Takes.{appended-none, appended-some, holds-after}
use Rattle.scc_table.proofs.relocations.AfterWrites.{shrunk-after, kept-after}
use Rattle.scc_owned.proofs.RuledWalks.{taken-count}
use Rattle.scc_owned.proofs.ruled_map.walk.RuledMap+K+V+R+H.iter_mut_lent.Goals as goal

pub returns-then-len-before : goal.returns-then-len-before
returns-then-len-before g c =
    let x = c.take_walk-result.ensures.step in
    let count = taken-count x.0 x.1 x.2 x.3 (entries c.args.self.now) (entries c.take_walk-result.new.self) x.8 x.4 x.10.exact in
    let resizes = rw c.self.view_is at c.shrink.ensures.resizes in
    let keeps = ap (λ s. s.asked + s.reserved) x.10.settings in
    let fewer : length (entries c.take_walk-result.new.self) < length (entries c.args.self.now) = search rules in
    record {
      step = (x.0, x.1, x.2, x.3, x.4, x.5, x.6, x.7, x.8, x.9, holds-after c.args.self.now c.take_walk-result.new.self c.shrink.new.self (x.2 ++ x.1) x.10 resizes);
      still = (λ same. absurd (omega (arith, appended-none (g.L.Sink.pairs c.args.taken.now) (g.L.Sink.pairs c.take_walk-result.new.taken) x.3 x.9 same, fewer, count)));
      noted = (λ same. absurd (omega (arith, appended-none (g.L.Sink.pairs c.args.taken.now) (g.L.Sink.pairs c.take_walk-result.new.taken) x.3 x.9 same, fewer, count)));
      rests = (λ same. absurd (omega (arith, appended-none (g.L.Sink.pairs c.args.taken.now) (g.L.Sink.pairs c.take_walk-result.new.taken) x.3 x.9 same, fewer, count)));
      smaller = smaller-by c.take_walk-result.new.self c.shrink.new.self (minimum_of c.args.self.now) (bucket_count c.args.self.now) (rw c.self.view_is at c.shrink.ensures.shrinks) keeps x.10.buckets;
      full = (search rules);
      room = (search rules);
      due = (λ taken. shrinks-after c.args.self.now c.take_walk-result.new.self c.shrink.new.self x.10.buckets c.take_walk-result.ensures.noted (rw c.self.view_is at c.shrink.ensures.due));
      relocates = shrunk-after c.args.self.now c.take_walk-result.new.self c.shrink.new.self x.10.buckets keeps c.take_walk-result.ensures.waiting resizes (rw c.self.view_is at c.shrink.ensures.spreads);
      was_unique = (search rules);
      unique = (search rules);
    }

pub returns-else-len-before : goal.returns-else-len-before
returns-else-len-before g c =
    let x = c.take_walk-result.ensures.step in
    let count = taken-count x.0 x.1 x.2 x.3 (entries c.args.self.now) (entries c.take_walk-result.new.self) x.8 x.4 x.10.exact in
    let kept : length (entries c.args.self.now) ≤ length (entries c.take_walk-result.new.self) = search rules in
    record {
      step = (x.0, x.1, x.2, x.3, x.4, x.5, x.6, x.7, x.8, x.9, search rules);
      still = (λ _. x.10.buckets);
      noted = (λ _. c.take_walk-result.ensures.noted);
      rests = (λ _. c.take_walk-result.ensures.waiting);
      smaller = (λ other. absurd (other x.10.buckets));
      full = (search rules);
      room = (search rules);
      due = (λ taken. absurd (taken (appended-some (g.L.Sink.pairs c.args.taken.now) (g.L.Sink.pairs c.take_walk-result.new.taken) x.3 x.9 (omega (arith, kept, count)))));
      relocates = kept-after c.args.self.now c.take_walk-result.new.self x.10.buckets c.take_walk-result.ensures.waiting;
      was_unique = (search rules);
      unique = (search rules);
    }
