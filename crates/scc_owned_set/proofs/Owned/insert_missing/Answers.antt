use Rattle.std.proofs.Common.{ap, sym, ◌∙◌}
use Rattle.scc_buckets.proofs.Mapped.{Grows-mapped, FirstArrayWhenDue-mapped}
use Rattle.scc_table.proofs.relocations.Mapped.{Relocates-mapped}
use Rattle.scc_owned_set.proofs.Room.{ready-hashed}
use Rattle.scc_owned_set.proofs.Sets.{hash-same, waiting-keys, two-hashed, found-is, noted-keys, on-refusal, same-keys, shows, on-answer, ok-answer, Inserts-hashed, roomy-hashed, grows-hashed, finds-keys, none-found, unique-keys}
use Rattle.scc_owned_set.proofs.Owned.insert_missing.Goals as goal

pub returns-clause-step : goal.returns-clause-step
returns-clause-step g c =
    (rw (← c.self.view_is, c.key_answer.ensures) (Inserts-hashed g.K.PartialEq.eq g.H.BuildHasher g.H.Hasher.Hasher g.K.Hash.hash_input c.self.inside.map c.args.k c.insert_in_map.result c.insert_in_map.new.map c.insert_in_map.ensures.step))

pub returns-clause-succeeds : goal.returns-clause-succeeds
returns-clause-succeeds g c =
    (rw (← c.self.view_is, c.key_answer.ensures) (λ r. ok-answer _ (c.insert_in_map.ensures.succeeds (roomy-hashed g.K.PartialEq.eq g.H.BuildHasher g.H.Hasher.Hasher g.K.Hash.hash_input c.self.inside.map c.args.k r))))

pub returns-clause-finds : goal.returns-clause-finds
returns-clause-finds g c =
    (rw (← c.self.view_is, c.key_answer.ensures) (on-answer c.insert_in_map.result (finds-keys _ _ _ _ _) c.insert_in_map.ensures.finds))

pub returns-clause-same : goal.returns-clause-same
returns-clause-same g c =
    (rw (← c.self.view_is, c.key_answer.ensures) (on-refusal c.insert_in_map.result (same-keys _ c.self.inside.map c.insert_in_map.new.map) c.insert_in_map.ensures.same))

pub returns-clause-unique : goal.returns-clause-unique
returns-clause-unique g c =
    (unique-keys _ _ c.insert_in_map.ensures.unique)

pub returns-clause-array : goal.returns-clause-array
returns-clause-array g c =
    record {
      kept = (rw (← c.self.view_is) (λ n r. (shows c.insert_in_map.new.map).buckets ∙ c.insert_in_map.ensures.array.kept (none-found g.K.PartialEq.eq c.self.inside.map c.args.k n) (roomy-hashed g.K.PartialEq.eq g.H.BuildHasher g.H.Hasher.Hasher g.K.Hash.hash_input c.self.inside.map c.args.k r) ∙ sym (shows c.self.inside.map).buckets));
      once = (
          rw (← c.self.view_is)
          (λ r. (shows c.insert_in_map.new.map).buckets ∙ c.insert_in_map.ensures.array.once (ready-hashed g.H.BuildHasher g.H.Hasher.Hasher g.K.Hash.hash_input c.self.inside.map c.args.k r) ∙ sym (shows c.self.inside.map).buckets));
      growth = (rw (← c.self.view_is) (Grows-mapped _ _ _ c.insert_in_map.ensures.array.growth));
      due = (rw (← c.self.view_is) (λ n. grows-hashed g.K.PartialEq.eq g.H.BuildHasher g.H.Hasher.Hasher g.K.Hash.hash_input c.self.inside.map c.args.k c.insert_in_map.new.map (c.insert_in_map.ensures.array.due (none-found g.K.PartialEq.eq c.self.inside.map c.args.k n))));
      first = (rw (← c.self.view_is, c.key_answer.ensures) (λ n. on-answer c.insert_in_map.result (FirstArrayWhenDue-mapped _ _ _) (c.insert_in_map.ensures.array.first (none-found g.K.PartialEq.eq c.self.inside.map c.args.k n))));
      noted = (rw (← c.self.view_is) (λ there. noted-keys _ _ (c.insert_in_map.ensures.array.noted (found-is g.K.PartialEq.eq c.self.inside.map c.args.k there))));
      relocates = (rw (← c.self.view_is) (λ n. Relocates-mapped _ _ _ (c.insert_in_map.ensures.array.relocates (none-found g.K.PartialEq.eq c.self.inside.map c.args.k n))));
      two = (
          rw (← c.self.view_is, c.key_answer.ensures)
          (λ n. on-answer c.insert_in_map.result (two-hashed g.K.PartialEq.eq g.H.BuildHasher g.H.Hasher.Hasher g.K.Hash.hash_input c.self.inside.map c.args.k c.insert_in_map.new.map) (c.insert_in_map.ensures.array.two (none-found g.K.PartialEq.eq c.self.inside.map c.args.k n))));
      waiting = (rw (← c.self.view_is) (λ there. waiting-keys _ _ (c.insert_in_map.ensures.array.waiting (found-is g.K.PartialEq.eq c.self.inside.map c.args.k there))));
    }

pub insert_in_map-requires-clause-hashed : goal.insert_in_map-requires-clause-hashed
insert_in_map-requires-clause-hashed g c = (rw (← c.self.view_is) at c.requires.hashed) ∙ ap (λ h. h c.args.k) (hash-same g.H.BuildHasher g.H.Hasher.Hasher g.K.Hash.hash_input c.self.inside.map)

pub insert_in_map-requires-clause-absent : goal.insert_in_map-requires-clause-absent
insert_in_map-requires-clause-absent g c = none-found g.K.PartialEq.eq c.self.inside.map c.args.k (rw (← c.self.view_is) at c.requires.absent)
