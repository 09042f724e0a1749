use Rattle.std.proofs.Common.{◌≤◌, ℕ, length, None, Some, Err, inl, inr, refl, ap, subst, arith, rules}
use Rattle.std.specs.Option.{option_map}
use Rattle.scc_common.specs.Contents.{key_hash, lists_of}
use Rattle.scc_common.specs.declared.errors.InsertError.{InsertError}
use Rattle.scc_owned_cache.specs.CacheSteps.{list_number, pair_of, Puts}
use Rattle.scc_owned_cache.specs.Entries.{occupied_pair}
use Rattle.scc_owned_cache.proofs.Entries.{moved-written}
use Rattle.scc_calls.specs.CacheCalls.{cache_setting, CacheMoves, CacheResizes}
use Rattle.scc_calls.specs.Resized.{MovesResized}
use Rattle.scc_calls.specs.declared.calls_as_values.CacheCall.TheVariants.{Put, Get, Write, Replace, Remove, Read, Contains, Clear, Len}
use Rattle.scc_calls.specs.Stems.{ClonesValue}
use Rattle.scc_calls.specs.declared.replies.Reply.{Reply}
use Rattle.scc_calls.specs.declared.replies.Reply.TheVariants.{Evicted, Exists, Old, Key, Pair, Value, Has, Cleared, Count}
use Rattle.scc_calls.proofs.CacheCalls.{put-changes, exists-changes, memory-refused, remove-changes, clear-changes, contains-changes, len-changes, get-changes, get-moves, replace-changes, replace-moves, write-changes, write-moves}
use Rattle.scc_calls.proofs.CacheReplies.{answers-given, answers-made, answers-own, changes-answer, clear-less, moves-same, put-more, put-once, read-moves, refresh-same, remove-less}
use Rattle.scc_calls.proofs.Copying.{copied, copied-part}
use Rattle.scc_calls.proofs.cache_calls.OwnedCalls.call.Goals as goal

pub returns-in-Ok : goal.returns-in-Ok
returns-in-Ok g c =
    let s = c.args.self.now in
    let hash : g.row.K.Denot → ℕ = key_hash g.H.BuildHasher g.H.Hasher.Hasher g.K.Hash.hash_input c.args.self.now.contents in
    let eq = g.K.PartialEq.eq in
    let raw : MovesResized length (CacheMoves eq (list_number hash s.contents)) (CacheResizes (cache_setting s) (list_number hash s.contents)) (lists_of s.contents) (Put c.in-Put.k c.in-Put.v) (Evicted c.in-Ok.evicted) (lists_of c.put_sync.new.self.contents) = put-changes hash eq s c.put_sync.new.self c.in-Put.k c.in-Put.v c.in-Ok.evicted c.in-Ok.ensures.puts.step c.in-Ok.ensures.puts.state.within in
    record {
      setting = (search rules);
      ok = (answers-own g.V.Clone.is_clone hash eq s c.put_sync.new.self c.args.call (Put c.in-Put.k c.in-Put.v) c.in-Put.is (Evicted c.in-Ok.evicted) (Evicted c.in-Ok.evicted) refl raw);
      err = (search rules);
      refused = (search rules);
      answer = (
          λ copy ready. let less : length (lists_of c.put_sync.new.self.contents) ≤ length (lists_of s.contents) = put-once hash eq s c.put_sync.new.self c.in-Put.k c.in-Put.v c.in-Ok.evicted c.in-Ok.ensures.puts.step c.in-Ok.ensures.puts.once (rw c.in-Put.is at ready.0) in
          answers-made c.requires.clones hash eq s c.put_sync.new.self c.args.call (Put c.in-Put.k c.in-Put.v) c.in-Put.is (Evicted c.in-Ok.evicted) raw copy less ready.1);
      made = (
          λ copy ready. let less : length (lists_of c.put_sync.new.self.contents) ≤ length (lists_of s.contents) = put-once hash eq s c.put_sync.new.self c.in-Put.k c.in-Put.v c.in-Ok.evicted c.in-Ok.ensures.puts.step c.in-Ok.ensures.puts.once (rw c.in-Put.is at ready.0) in
          less);
      kept = (λ _. put-more hash eq s c.put_sync.new.self c.in-Put.k c.in-Put.v c.in-Ok.evicted c.in-Ok.ensures.puts.step);
    }

pub returns-in-Err-Exists : goal.returns-in-Err-Exists
returns-in-Err-Exists g c =
    let s = c.args.self.now in
    let hash : g.row.K.Denot → ℕ = key_hash g.H.BuildHasher g.H.Hasher.Hasher g.K.Hash.hash_input c.args.self.now.contents in
    let eq = g.K.PartialEq.eq in
    let step = subst (λ (e : InsertError g.row.K.Denot g.row.V.Denot). Puts hash eq s (c.in-Put.k, c.in-Put.v) (Err e) c.put_sync.new.self) c.in-Err-Exists.field-0-is c.in-Err-Exists.ensures.puts.step in
    let raw : MovesResized length (CacheMoves eq (list_number hash s.contents)) (CacheResizes (cache_setting s) (list_number hash s.contents)) (lists_of s.contents) (Put c.in-Put.k c.in-Put.v) (Exists c.in-Err-Exists.k c.in-Err-Exists.v) (lists_of c.put_sync.new.self.contents) = exists-changes hash eq s c.put_sync.new.self c.in-Put.k c.in-Put.v (c.in-Err-Exists.k, c.in-Err-Exists.v) step in
    record {
      setting = (search rules);
      ok = (answers-own g.V.Clone.is_clone hash eq s c.put_sync.new.self c.args.call (Put c.in-Put.k c.in-Put.v) c.in-Put.is (Exists c.in-Err-Exists.k c.in-Err-Exists.v) (Exists c.in-Err-Exists.k c.in-Err-Exists.v) refl raw);
      err = (search rules);
      refused = (search rules);
      answer = (
          λ copy ready. let less : length (lists_of c.put_sync.new.self.contents) ≤ length (lists_of s.contents) = (let same = ap (λ x. length (lists_of x.contents)) step.2 in omega arith) in
          answers-made c.requires.clones hash eq s c.put_sync.new.self c.args.call (Put c.in-Put.k c.in-Put.v) c.in-Put.is (Exists c.in-Err-Exists.k c.in-Err-Exists.v) raw copy less ready.1);
      made = (search rules);
      kept = (search rules);
    }

pub returns-in-Put : goal.returns-in-Put
returns-in-Put g c =
    record {
      setting = (search rules);
      ok = (search rules);
      err = (search rules);
      refused = (
          let s = c.args.self.now in
          let hash : g.row.K.Denot → ℕ = key_hash g.H.BuildHasher g.H.Hasher.Hasher g.K.Hash.hash_input c.args.self.now.contents in
          let eq = g.K.PartialEq.eq in
          let step = subst (λ (e : InsertError g.row.K.Denot g.row.V.Denot). Puts hash eq s (c.in-Put.k, c.in-Put.v) (Err e) c.put_sync.new.self) c.in-Err-Memory.field-0-is c.in-Err-Memory.ensures.puts.step in
          inl (rw c.in-Put.is (memory-refused hash eq s c.put_sync.new.self c.in-Put.k c.in-Put.v c.in-Err-Memory.field-0-0 step)));
      answer = (search rules);
      made = (search rules);
      kept = (search rules);
    }

pub returns-in-Some : goal.returns-in-Some
returns-in-Some g c =
    let s = c.args.self.now in
    let hash : g.row.K.Denot → ℕ = key_hash g.H.BuildHasher g.H.Hasher.Hasher g.K.Hash.hash_input c.args.self.now.contents in
    let eq = g.K.PartialEq.eq in
    let raw : MovesResized length (CacheMoves eq (list_number hash s.contents)) (CacheResizes (cache_setting s) (list_number hash s.contents)) (lists_of s.contents) (Get c.in-Get.k) (Value (Some (occupied_pair c.in-Some._entry).1)) (lists_of c.in-Some._entry.guard.now.contents) = get-changes hash eq s c.in-Some._entry.guard.now c.in-Get.k (occupied_pair c.in-Some._entry) (occupied_pair c.in-Some._entry).1 refl c.in-Some.ensures.entry.changes in
    let less : length (lists_of c.in-Some._entry.guard.now.contents) ≤ length (lists_of s.contents) = (let n = refresh-same hash eq s c.in-Some._entry.guard.now c.in-Get.k (occupied_pair c.in-Some._entry) (occupied_pair c.in-Some._entry) c.in-Some.ensures.entry.changes in omega arith) in
    let same = answers-made c.requires.clones hash eq s c.in-Some._entry.guard.now (Get c.in-Get.k) (Get c.in-Get.k) refl (Value (Some (occupied_pair c.in-Some._entry).1)) raw (Value c.in-Ok-cloned_value.value) less (copied c.requires.clones Value _ (λ p. p.1) refl (λ x y h. h) (pair_of hash eq s.contents c.in-Get.k) c.in-Ok-cloned_value.value c.in-Ok-cloned_value.ensures.ok) in
    record {
      setting = (search rules);
      ok = (
          let m : CacheMoves eq (list_number hash s.contents) (lists_of s.contents) (Get c.in-Get.k) (Value (Some (occupied_pair c.in-Some._entry).1)) (lists_of c.in-Some._entry.guard.now.contents) = get-moves hash eq s c.in-Some._entry.guard.now c.in-Get.k (occupied_pair c.in-Some._entry) (occupied_pair c.in-Some._entry).1 refl c.in-Some.ensures.entry.changes in
          let n = refresh-same hash eq s c.in-Some._entry.guard.now c.in-Get.k (occupied_pair c.in-Some._entry) (occupied_pair c.in-Some._entry) c.in-Some.ensures.entry.changes in
          let here : ClonesValue {K = g.row.K.Denot} g.V.Clone.is_clone (Value (Some (occupied_pair c.in-Some._entry).1)) (Value c.in-Ok-cloned_value.value) =
          subst (λ (r : Reply g.row.K.Denot g.row.V.Denot). ClonesValue {K = g.row.K.Denot} g.V.Clone.is_clone r (Value c.in-Ok-cloned_value.value)) (changes-answer eq (list_number hash s.contents) (CacheResizes (cache_setting s) (list_number hash s.contents)) (lists_of s.contents) (lists_of c.in-Some._entry.guard.now.contents) (Get c.in-Get.k) (Value (Some (occupied_pair c.in-Some._entry).1)) less raw)
          (copied-part g.V.Clone.is_clone (λ p. p.1) (pair_of hash eq s.contents c.in-Get.k) c.in-Ok-cloned_value.value c.in-Ok-cloned_value.ensures.ok) in
          inl (search (rules, n), (Value (Some (occupied_pair c.in-Some._entry).1), rw c.in-Get.is here, rw c.in-Get.is (moves-same eq (list_number hash s.contents) (lists_of s.contents) (lists_of c.in-Some._entry.guard.now.contents) _ (Get c.in-Get.k) (Value (Some (occupied_pair c.in-Some._entry).1)) m (search rules)))));
      err = (search rules);
      refused = (search rules);
      answer = (λ copy ready. answers-given c.requires.clones hash eq s c.in-Some._entry.guard.now c.args.call (Get c.in-Get.k) c.in-Get.is (Value (Some (occupied_pair c.in-Some._entry).1)) raw c.equals.ensures (Value c.in-Ok-cloned_value.value) copy same less ready.1);
      made = (λ copy ready. search (rules, less));
      kept = (search rules);
    }

pub returns-in-Ok-cloned_value : goal.returns-in-Ok-cloned_value
returns-in-Ok-cloned_value g c =
    let s = c.args.self.now in
    let hash : g.row.K.Denot → ℕ = key_hash g.H.BuildHasher g.H.Hasher.Hasher g.K.Hash.hash_input c.args.self.now.contents in
    let eq = g.K.PartialEq.eq in
    record {
      setting = (search rules);
      ok = (
          let m : CacheMoves eq (list_number hash s.contents) (lists_of s.contents) (Get c.in-Get.k) (Value None) (lists_of s.contents) = (c.in-None.ensures.missing, refl) in
          inl (search rules, (Value None, rw c.in-Get.is tt, rw c.in-Get.is (search (rules, m)))));
      err = (search rules);
      refused = (search rules);
      answer = (
          λ copy ready. let raw : MovesResized length (CacheMoves eq (list_number hash s.contents)) (CacheResizes (cache_setting s) (list_number hash s.contents)) (lists_of s.contents) (Get c.in-Get.k) (Value None) (lists_of s.contents) = inl (refl, (c.in-None.ensures.missing, refl)) in
          let less : length (lists_of s.contents) ≤ length (lists_of s.contents) = omega arith in
          answers-made c.requires.clones hash eq s s c.args.call (Get c.in-Get.k) c.in-Get.is (Value None) raw copy less ready.1);
      made = (search rules);
      kept = (search rules);
    }

pub returns-in-Get : goal.returns-in-Get
returns-in-Get g c =
    record {
      setting = (search rules);
      ok = (search rules);
      err = (search rules);
      refused = (inr (rw c.in-Get.is refl, rw (c.in-Get.is, c.in-Err.ensures.err.1) (λ h. c.in-Err.ensures.err.2 h)));
      answer = (search rules);
      made = (search rules);
      kept = (search rules);
    }

pub returns-in-Occupied : goal.returns-in-Occupied
returns-in-Occupied g c =
    let s = c.args.self.now in
    let hash : g.row.K.Denot → ℕ = key_hash g.H.BuildHasher g.H.Hasher.Hasher g.K.Hash.hash_input c.args.self.now.contents in
    let eq = g.K.PartialEq.eq in
    let less : length (lists_of c.put.new.self.guard.now.contents) ≤ length (lists_of s.contents) = (let n = refresh-same hash eq s c.put.new.self.guard.now c.in-Write.k (occupied_pair c.in-Occupied.entry) ((occupied_pair c.in-Occupied.entry).0, c.in-Write.v) (moved-written eq s c.in-Write.k (occupied_pair c.in-Occupied.entry) c.in-Occupied.entry c.put.new.self c.in-Write.v c.in-Occupied.ensures.entry c.put.ensures.written) in omega arith) in
    record {
      setting = (search rules);
      ok = (
          let m : CacheMoves eq (list_number hash s.contents) (lists_of s.contents) (Write c.in-Write.k c.in-Write.v) (Old (Some c.put.result)) (lists_of c.put.new.self.guard.now.contents) = write-moves hash eq s c.put.new.self.guard.now c.in-Write.k (occupied_pair c.in-Occupied.entry) c.put.result c.in-Write.v c.put.ensures.old (moved-written eq s c.in-Write.k (occupied_pair c.in-Occupied.entry) c.in-Occupied.entry c.put.new.self c.in-Write.v c.in-Occupied.ensures.entry c.put.ensures.written) in
          let n = refresh-same hash eq s c.put.new.self.guard.now c.in-Write.k (occupied_pair c.in-Occupied.entry) ((occupied_pair c.in-Occupied.entry).0, c.in-Write.v) (moved-written eq s c.in-Write.k (occupied_pair c.in-Occupied.entry) c.in-Occupied.entry c.put.new.self c.in-Write.v c.in-Occupied.ensures.entry c.put.ensures.written) in
          inl (search (rules, n), (Old (Some c.put.result), rw c.in-Write.is refl, rw c.in-Write.is (moves-same eq (list_number hash s.contents) (lists_of s.contents) (lists_of c.put.new.self.guard.now.contents) _ (Write c.in-Write.k c.in-Write.v) (Old (Some c.put.result)) m (search rules)))));
      err = (search rules);
      refused = (search rules);
      answer = (
          λ copy ready. let raw : MovesResized length (CacheMoves eq (list_number hash s.contents)) (CacheResizes (cache_setting s) (list_number hash s.contents)) (lists_of s.contents) (Write c.in-Write.k c.in-Write.v) (Old (Some c.put.result)) (lists_of c.put.new.self.guard.now.contents) = write-changes hash eq s c.put.new.self.guard.now c.in-Write.k (occupied_pair c.in-Occupied.entry) c.put.result c.in-Write.v c.put.ensures.old (moved-written eq s c.in-Write.k (occupied_pair c.in-Occupied.entry) c.in-Occupied.entry c.put.new.self c.in-Write.v c.in-Occupied.ensures.entry c.put.ensures.written) in
          answers-made c.requires.clones hash eq s c.put.new.self.guard.now c.args.call (Write c.in-Write.k c.in-Write.v) c.in-Write.is (Old (Some c.put.result)) raw copy less ready.1);
      made = (λ copy ready. search (rules, less));
      kept = (search rules);
    }

pub returns-in-Write : goal.returns-in-Write
returns-in-Write g c =
    record {
      setting = (search rules);
      ok = (inl (search rules, (Old None, rw c.in-Write.is refl, rw c.in-Write.is (search rules))));
      err = (search rules);
      refused = (search rules);
      answer = (
          λ copy ready. let s = c.args.self.now in
          let hash : g.row.K.Denot → ℕ = key_hash g.H.BuildHasher g.H.Hasher.Hasher g.K.Hash.hash_input c.args.self.now.contents in
          let eq = g.K.PartialEq.eq in
          let raw : MovesResized length (CacheMoves eq (list_number hash s.contents)) (CacheResizes (cache_setting s) (list_number hash s.contents)) (lists_of s.contents) (Write c.in-Write.k c.in-Write.v) (Old None) (lists_of s.contents) = inl (refl, (c.in-Vacant.ensures.entry.absent, refl)) in
          let less : length (lists_of s.contents) ≤ length (lists_of s.contents) = omega arith in
          answers-made c.requires.clones hash eq s s c.args.call (Write c.in-Write.k c.in-Write.v) c.in-Write.is (Old None) raw copy less ready.1);
      made = (search rules);
      kept = (search rules);
    }

pub returns-in-Replaced : goal.returns-in-Replaced
returns-in-Replaced g c =
    let s = c.args.self.now in
    let hash : g.row.K.Denot → ℕ = key_hash g.H.BuildHasher g.H.Hasher.Hasher g.K.Hash.hash_input c.args.self.now.contents in
    let eq = g.K.PartialEq.eq in
    let less : length (lists_of c.in-Replaced._entry.guard.now.contents) ≤ length (lists_of s.contents) = (let n = refresh-same hash eq s c.in-Replaced._entry.guard.now c.in-Replace.k (c.in-Replaced.old, c.in-Replaced.ensures.step.value) (occupied_pair c.in-Replaced._entry) c.in-Replaced.ensures.step.moved.changes in omega arith) in
    record {
      setting = (search rules);
      ok = (
          let m : CacheMoves eq (list_number hash s.contents) (lists_of s.contents) (Replace c.in-Replace.k) (Key (Some c.in-Replaced.old)) (lists_of c.in-Replaced._entry.guard.now.contents) = replace-moves hash eq s c.in-Replaced._entry.guard.now c.in-Replace.k c.in-Replaced.old c.in-Replaced.ensures.step.value (occupied_pair c.in-Replaced._entry) c.in-Replaced.ensures.step.pair c.in-Replaced.ensures.step.moved.changes in
          let n = refresh-same hash eq s c.in-Replaced._entry.guard.now c.in-Replace.k (c.in-Replaced.old, c.in-Replaced.ensures.step.value) (occupied_pair c.in-Replaced._entry) c.in-Replaced.ensures.step.moved.changes in
          inl (search (rules, n), (Key (Some c.in-Replaced.old), rw c.in-Replace.is refl, rw c.in-Replace.is (moves-same eq (list_number hash s.contents) (lists_of s.contents) (lists_of c.in-Replaced._entry.guard.now.contents) _ (Replace c.in-Replace.k) (Key (Some c.in-Replaced.old)) m (search rules)))));
      err = (search rules);
      refused = (search rules);
      answer = (
          λ copy ready. let raw : MovesResized length (CacheMoves eq (list_number hash s.contents)) (CacheResizes (cache_setting s) (list_number hash s.contents)) (lists_of s.contents) (Replace c.in-Replace.k) (Key (Some c.in-Replaced.old)) (lists_of c.in-Replaced._entry.guard.now.contents) = replace-changes hash eq s c.in-Replaced._entry.guard.now c.in-Replace.k c.in-Replaced.old c.in-Replaced.ensures.step.value (occupied_pair c.in-Replaced._entry) c.in-Replaced.ensures.step.pair c.in-Replaced.ensures.step.moved.changes in
          answers-made c.requires.clones hash eq s c.in-Replaced._entry.guard.now c.args.call (Replace c.in-Replace.k) c.in-Replace.is (Key (Some c.in-Replaced.old)) raw copy less ready.1);
      made = (λ copy ready. search (rules, less));
      kept = (search rules);
    }

pub returns-in-Replace : goal.returns-in-Replace
returns-in-Replace g c =
    record {
      setting = (search rules);
      ok = (inl (search rules, (Key None, rw c.in-Replace.is refl, rw c.in-Replace.is (search rules))));
      err = (search rules);
      refused = (search rules);
      answer = (
          λ copy ready. let s = c.args.self.now in
          let hash : g.row.K.Denot → ℕ = key_hash g.H.BuildHasher g.H.Hasher.Hasher g.K.Hash.hash_input c.args.self.now.contents in
          let eq = g.K.PartialEq.eq in
          let raw : MovesResized length (CacheMoves eq (list_number hash s.contents)) (CacheResizes (cache_setting s) (list_number hash s.contents)) (lists_of s.contents) (Replace c.in-Replace.k) (Key None) (lists_of s.contents) = inl (refl, (c.in-NotReplaced.ensures.step.absent, refl)) in
          let less : length (lists_of s.contents) ≤ length (lists_of s.contents) = omega arith in
          answers-made c.requires.clones hash eq s s c.args.call (Replace c.in-Replace.k) c.in-Replace.is (Key None) raw copy less ready.1);
      made = (search rules);
      kept = (search rules);
    }

pub returns-in-Remove : goal.returns-in-Remove
returns-in-Remove g c =
    let s = c.args.self.now in
    let hash : g.row.K.Denot → ℕ = key_hash g.H.BuildHasher g.H.Hasher.Hasher g.K.Hash.hash_input c.args.self.now.contents in
    let eq = g.K.PartialEq.eq in
    let raw : MovesResized length (CacheMoves eq (list_number hash s.contents)) (CacheResizes (cache_setting s) (list_number hash s.contents)) (lists_of s.contents) (Remove c.in-Remove.k) (Pair c.remove_sync.result) (lists_of c.remove_sync.new.self.contents) = remove-changes hash eq s c.remove_sync.new.self c.in-Remove.k c.remove_sync.result c.remove_sync.ensures.removes.step c.remove_sync.ensures.removes.state.lists.short c.remove_sync.ensures.removes.state.within in
    let less : length (lists_of c.remove_sync.new.self.contents) ≤ length (lists_of s.contents) = remove-less hash eq s c.remove_sync.new.self c.in-Remove.k c.remove_sync.result c.remove_sync.ensures.removes.step in
    record {
      setting = (search rules);
      ok = (answers-own g.V.Clone.is_clone hash eq s c.remove_sync.new.self c.args.call (Remove c.in-Remove.k) c.in-Remove.is (Pair c.remove_sync.result) (Pair c.remove_sync.result) refl raw);
      err = (search rules);
      refused = (search rules);
      answer = (λ copy ready. answers-made c.requires.clones hash eq s c.remove_sync.new.self c.args.call (Remove c.in-Remove.k) c.in-Remove.is (Pair c.remove_sync.result) raw copy less ready.1);
      made = (λ copy ready. less);
      kept = (search rules);
    }

pub returns-in-Ok-cloned_value-2 : goal.returns-in-Ok-cloned_value-2
returns-in-Ok-cloned_value-2 g c =
    let s = c.args.self.now in
    let hash : g.row.K.Denot → ℕ = key_hash g.H.BuildHasher g.H.Hasher.Hasher g.K.Hash.hash_input c.args.self.now.contents in
    let eq = g.K.PartialEq.eq in
    let raw : MovesResized length (CacheMoves eq (list_number hash s.contents)) (CacheResizes (cache_setting s) (list_number hash s.contents)) (lists_of s.contents) (Read c.in-Read.k) (Value (option_map (λ p. p.1) (pair_of hash eq s.contents c.in-Read.k))) (lists_of s.contents) = inl (refl, read-moves eq (list_number hash s.contents) (lists_of s.contents) c.in-Read.k) in
    let less : length (lists_of s.contents) ≤ length (lists_of s.contents) = omega arith in
    let same = answers-made c.requires.clones hash eq s s (Read c.in-Read.k) (Read c.in-Read.k) refl (Value (option_map (λ p. p.1) (pair_of hash eq s.contents c.in-Read.k))) raw (Value c.in-Ok-cloned_value-2.value) less (copied c.requires.clones Value _ (λ p. p.1) refl (λ x y h. h) (pair_of hash eq s.contents c.in-Read.k) c.in-Ok-cloned_value-2.value c.in-Ok-cloned_value-2.ensures.ok) in
    record {
      setting = (search rules);
      ok = (answers-own g.V.Clone.is_clone hash eq s s c.args.call (Read c.in-Read.k) c.in-Read.is (Value (option_map (λ p. p.1) (pair_of hash eq s.contents c.in-Read.k))) (Value c.in-Ok-cloned_value-2.value) (copied-part g.V.Clone.is_clone (λ p. p.1) (pair_of hash eq s.contents c.in-Read.k) c.in-Ok-cloned_value-2.value c.in-Ok-cloned_value-2.ensures.ok) raw);
      err = (search rules);
      refused = (search rules);
      answer = (λ copy ready. answers-given c.requires.clones hash eq s s c.args.call (Read c.in-Read.k) c.in-Read.is (Value (option_map (λ p. p.1) (pair_of hash eq s.contents c.in-Read.k))) raw c.equals.ensures (Value c.in-Ok-cloned_value-2.value) copy same less ready.1);
      made = (search rules);
      kept = (search rules);
    }

pub returns-in-Read : goal.returns-in-Read
returns-in-Read g c =
    record {
      setting = (search rules);
      ok = (search rules);
      err = (search rules);
      refused = (inr (rw c.in-Read.is refl, rw (c.in-Read.is, c.in-Err-cloned_value.ensures.err.1) (λ h. c.in-Err-cloned_value.ensures.err.2 h)));
      answer = (search rules);
      made = (search rules);
      kept = (search rules);
    }

pub returns-in-Contains : goal.returns-in-Contains
returns-in-Contains g c =
    let s = c.args.self.now in
    let hash : g.row.K.Denot → ℕ = key_hash g.H.BuildHasher g.H.Hasher.Hasher g.K.Hash.hash_input c.args.self.now.contents in
    let eq = g.K.PartialEq.eq in
    let raw : MovesResized length (CacheMoves eq (list_number hash s.contents)) (CacheResizes (cache_setting s) (list_number hash s.contents)) (lists_of s.contents) (Contains c.in-Contains.k) (Has c.contains_sync.result) (lists_of s.contents) = contains-changes hash eq s c.in-Contains.k c.contains_sync.result c.contains_sync.ensures.yes c.contains_sync.ensures.no in
    record {
      setting = (search rules);
      ok = (answers-own g.V.Clone.is_clone hash eq s s c.args.call (Contains c.in-Contains.k) c.in-Contains.is (Has c.contains_sync.result) (Has c.contains_sync.result) refl raw);
      err = (search rules);
      refused = (search rules);
      answer = (
          λ copy ready. let less : length (lists_of s.contents) ≤ length (lists_of s.contents) = omega arith in
          answers-made c.requires.clones hash eq s s c.args.call (Contains c.in-Contains.k) c.in-Contains.is (Has c.contains_sync.result) raw copy less ready.1);
      made = (search rules);
      kept = (search rules);
    }

pub returns-in-Clear : goal.returns-in-Clear
returns-in-Clear g c =
    let s = c.args.self.now in
    let hash : g.row.K.Denot → ℕ = key_hash g.H.BuildHasher g.H.Hasher.Hasher g.K.Hash.hash_input c.args.self.now.contents in
    let eq = g.K.PartialEq.eq in
    record {
      setting = (search rules);
      ok = (
          let raw : MovesResized length (CacheMoves eq (list_number hash s.contents)) (CacheResizes (cache_setting s) (list_number hash s.contents)) (lists_of s.contents) (Clear) (Cleared) (lists_of c.clear_sync.new.self.contents) = clear-changes hash eq s c.clear_sync.new.self c.clear_sync.ensures.step c.clear_sync.ensures.state.lists.short c.clear_sync.ensures.state.within in
          answers-own g.V.Clone.is_clone hash eq s c.clear_sync.new.self c.args.call (Clear) c.in-Clear.is (Cleared) (Cleared) refl raw);
      err = (search rules);
      refused = (search rules);
      answer = (search rules);
      made = (
          λ copy ready. let less : length (lists_of c.clear_sync.new.self.contents) ≤ length (lists_of s.contents) = clear-less hash eq s c.clear_sync.new.self c.clear_sync.ensures.step in
          less);
      kept = (search rules);
    }

pub returns : goal.returns
returns g c =
    let s = c.args.self.now in
    let hash : g.row.K.Denot → ℕ = key_hash g.H.BuildHasher g.H.Hasher.Hasher g.K.Hash.hash_input c.args.self.now.contents in
    let eq = g.K.PartialEq.eq in
    let raw : MovesResized length (CacheMoves eq (list_number hash s.contents)) (CacheResizes (cache_setting s) (list_number hash s.contents)) (lists_of s.contents) (Len) (Count c.len.result) (lists_of s.contents) = len-changes hash eq s c.len.result c.len.ensures.len in
    record {
      setting = (search rules);
      ok = (answers-own g.V.Clone.is_clone hash eq s s c.args.call (Len) c.in-Len.is (Count c.len.result) (Count c.len.result) refl raw);
      err = (search rules);
      refused = (search rules);
      answer = (
          λ copy ready. let less : length (lists_of s.contents) ≤ length (lists_of s.contents) = omega arith in
          answers-made c.requires.clones hash eq s s c.args.call (Len) c.in-Len.is (Count c.len.result) raw copy less ready.1);
      made = (search rules);
      kept = (search rules);
    }
