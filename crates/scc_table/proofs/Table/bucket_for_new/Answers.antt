use Rattle.std.proofs.Common.{◌≡◌, ◌<◌, arith, rules}
use Rattle.scc_common.specs.Contents.{HasRoomAt, bucket_count, hash_in, pending_of}
use Rattle.scc_table.proofs.places.OneList.{room-listed}
use Rattle.scc_table.proofs.relocations.ShortLists.{listed-none}
use Rattle.scc_table.proofs.resizes.Below.{grows-waiting}
use Rattle.scc_table.proofs.Table.bucket_for_new.Goals as goal

pub returns-then-list_len-lt32-clause-finds : goal.returns-then-list_len-lt32-clause-finds
returns-then-list_len-lt32-clause-finds g c =
    let a = c.args.self.now in
    let i = c.bucket_at-bucket.result in
    let hk = hash_in g.H.Hashes.hash_of a in
    let held = room-listed hk g.E.Keyed.key_of a c.args.hash c.bucket_at-bucket.ensures.value c.bucket_at-bucket.ensures.routed c.list_len.ensures.len in
    record {
      rests = (search rules);
      growth = (search rules);
      within = (search rules);
      routed = (search rules);
      still = (search rules);
      lowered = (search rules);
      denied = (λ due _. absurd (due.full (due.array, omega arith)));
      first = (search rules);
      bare = (search rules);
      not_waiting = (search rules);
      stays = (search rules);
      waiting = (search rules);
      all = (search rules);
      lists = (search rules);
      once = (search rules);
      none = (search rules);
      refused = (search rules);
      same = (search rules);
      noted = (search rules);
      marked = (search rules);
      unique = (search rules);
    }

pub returns-clause-finds : goal.returns-clause-finds
returns-clause-finds g c =
    let a = c.args.self.now in
    let i = c.bucket_at-bucket.result in
    let hk = hash_in g.H.Hashes.hash_of a in
    let held = room-listed hk g.E.Keyed.key_of a c.args.hash c.bucket_at-bucket.ensures.value c.bucket_at-bucket.ensures.routed c.list_len.ensures.len in
    record {
      rests = (search rules);
      growth = (search rules);
      within = c.bucket_at-2.ensures.within c.grow.ensures.grows.array;
      routed = (search rules);
      still = (λ room. absurd (let r = room.1 in omega arith));
      lowered = (search rules);
      denied = (λ due below. c.grow.ensures.grows.denied due.half below);
      first = (search rules);
      bare = (search rules);
      not_waiting = (search rules);
      stays = (search rules);
      waiting = (search rules);
      all = (search rules);
      lists = (search rules);
      once = (search rules);
      none = (search rules);
      refused = (search rules);
      same = (search rules);
      noted = (
          let full : HasRoomAt hk g.E.Keyed.key_of a c.args.hash → ⊥ = λ room. absurd (let r = room.1 in omega arith) in
          let some : 0 < bucket_count a = let z = c.if-bucket_count-eq0.false in let m = c.bucket_count.ensures.count in omega arith in
          let none : pending_of a ≡ 0 = let z = c.if-pending-gt0.false in omega arith in
          λ none_due. c.grow.ensures.grows.noted (λ p. none_due record { array = some; not_waiting = none; full = full; half = p.0; below = omega (arith, p.1, c.requires.most) } p.1));
      marked = (search rules);
      unique = (search rules);
    }

pub returns-then-bucket_count-eq0-clause-listed : goal.returns-then-bucket_count-eq0-clause-listed
returns-then-bucket_count-eq0-clause-listed g c =
    let r = c.in_ok-install_first.ensures.resized in
    λ _. listed-none _ c.install_first.new.self r.array r.bounded c.install_first.ensures.bare

pub returns-then-pending-gt0-clause-grows : goal.returns-then-pending-gt0-clause-grows
returns-then-pending-gt0-clause-grows g c =
    let some : 0 < bucket_count c.args.self.now = let z = c.if-bucket_count-eq0.false in let m = c.bucket_count.ensures.count in omega arith in
    let waits : 0 < pending_of c.args.self.now = let z = c.if-pending-gt0.true in omega arith in
    λ _. grows-waiting _ c.args.most _ c.args.self.now some waits
