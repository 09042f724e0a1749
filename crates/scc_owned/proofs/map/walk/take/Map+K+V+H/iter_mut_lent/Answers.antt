use Rattle.std.proofs.Common.{◌+◌, ◌<◌, ◌≤◌, length, ap, arith, rules}
use Rattle.std.proofs.lemmas.List.Sorted.{IsPermutation-refl}
use Rattle.scc_common.specs.Contents.{entries, bucket_count, minimum_of}
use Rattle.scc_buckets.proofs.Resizes.{smaller-by, shrinks-after}
use Rattle.scc_table.proofs.walks.Takes.{appended-none, appended-some, holds-after, takes-count}
use Rattle.scc_table.proofs.relocations.AfterWrites.{shrunk-after, kept-after}
use Rattle.scc_owned.proofs.map.walk.take.Map+K+V+H.iter_mut_lent.Goals as goal

pub take_walk-result-requires : goal.take_walk-result-requires
take_walk-result-requires g c = c.requires (entries c.args.self.now) (IsPermutation-refl _)

pub returns-then-len-before : goal.returns-then-len-before
returns-then-len-before g c =
    let x = c.take_walk-result.ensures.step in
    let resizes = rw c.self.view_is at c.shrink.ensures.resizes in
    let keeps = ap (λ s. s.asked + s.reserved) x.4.settings in
    let fewer : length (entries c.take_walk-result.new.self) < length (entries c.args.self.now) = search rules in
    record {
      step = (entries c.args.self.now, x.0, x.1, IsPermutation-refl _, x.2, x.3, holds-after c.args.self.now c.take_walk-result.new.self c.shrink.new.self x.0 x.4 resizes);
      still = (λ same. absurd (omega (arith, appended-none (g.L.Sink.pairs c.args.taken.now) (g.L.Sink.pairs c.take_walk-result.new.taken) x.1 x.3 same, fewer, takes-count x.2, ap length x.4.exact)));
      noted = (λ same. absurd (omega (arith, appended-none (g.L.Sink.pairs c.args.taken.now) (g.L.Sink.pairs c.take_walk-result.new.taken) x.1 x.3 same, fewer, takes-count x.2, ap length x.4.exact)));
      rests = (λ same. absurd (omega (arith, appended-none (g.L.Sink.pairs c.args.taken.now) (g.L.Sink.pairs c.take_walk-result.new.taken) x.1 x.3 same, fewer, takes-count x.2, ap length x.4.exact)));
      smaller = smaller-by c.take_walk-result.new.self c.shrink.new.self (minimum_of c.args.self.now) (bucket_count c.args.self.now) (rw c.self.view_is at c.shrink.ensures.shrinks) keeps x.4.buckets;
      full = (search rules);
      room = (search rules);
      due = (λ taken. shrinks-after c.args.self.now c.take_walk-result.new.self c.shrink.new.self x.4.buckets c.take_walk-result.ensures.noted (rw c.self.view_is at c.shrink.ensures.due));
      relocates = shrunk-after c.args.self.now c.take_walk-result.new.self c.shrink.new.self x.4.buckets keeps c.take_walk-result.ensures.waiting resizes (rw c.self.view_is at c.shrink.ensures.spreads);
      was_unique = (search rules);
      unique = (search rules);
    }

pub returns-else-len-before : goal.returns-else-len-before
returns-else-len-before g c =
    let x = c.take_walk-result.ensures.step in
    let kept : length (entries c.args.self.now) ≤ length (entries c.take_walk-result.new.self) = search rules in
    record {
      step = (search rules);
      still = (λ _. x.4.buckets);
      noted = (λ _. c.take_walk-result.ensures.noted);
      rests = (λ _. c.take_walk-result.ensures.waiting);
      smaller = (λ other. absurd (other x.4.buckets));
      full = (search rules);
      room = (search rules);
      due = (λ taken. absurd (taken (appended-some (g.L.Sink.pairs c.args.taken.now) (g.L.Sink.pairs c.take_walk-result.new.taken) x.1 x.3 (omega (arith, kept, takes-count x.2, ap length x.4.exact)))));
      relocates = kept-after c.args.self.now c.take_walk-result.new.self x.4.buckets c.take_walk-result.ensures.waiting;
      was_unique = (search rules);
      unique = (search rules);
    }
