use Rattle.std.proofs.Common.{refl, rules}
use Rattle.scc_common.specs.Contents.{entries}
use Rattle.scc_buckets.proofs.Lookups.{finds-added}
use Rattle.scc_owned.proofs.CallerLemmas.{finds-rearranged}
use Rattle.scc_owned_set.proofs.insert_in_map.Goals as goal

pub returns-in-Ok : goal.returns-in-Ok
returns-in-Ok g c =
    let e = c.in-Ok.ensures in
    let grown = e.growth in
    record {
      step = (c.requires.absent, e.ok.holds);
      succeeds = λ room. refl;
      finds = finds-added g.met.K.Eq.laws (entries c.args.map.now) (entries c.insert_new.new.self) (c.args.k, tt) e.ok.holds.same e.unique;
      same = tt;
      unique = e.unique;
      array = record {
        growth = grown.grows.growth;
        kept = λ _. grown.grows.kept;
        once = grown.once;
        due = λ _. grown.grows.due;
        first = λ _. grown.first;
        noted = rw c.requires.absent (λ there. absurd (search rules));
        relocates = λ _. e.relocates;
        two = λ _. e.two;
        waiting = rw c.requires.absent (λ there. absurd (search rules));
      };
    }

pub returns-in-Err : goal.returns-in-Err
returns-in-Err g c =
    let e = c.in-Err.ensures in
    let rests = e.rests in
    record {
      step = (e.refused, c.requires.absent, rests.rests, e.full);
      succeeds = λ room. absurd (e.full room);
      finds = tt;
      same = finds-rearranged g.met.K.Eq.laws c.args.map.now c.insert_new.new.self rests.rests e.unique;
      unique = e.unique;
      array = record {
        growth = rests.grows.growth;
        kept = λ _. rests.grows.kept;
        once = rests.once;
        due = λ _. rests.grows.due;
        first = λ _. tt;
        noted = rw c.requires.absent (λ there. absurd (search rules));
        relocates = λ _. e.relocates;
        two = λ _. tt;
        waiting = rw c.requires.absent (λ there. absurd (search rules));
      };
    }
