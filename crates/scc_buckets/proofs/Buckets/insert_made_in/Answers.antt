use Rattle.std.proofs.Common.{◌≡◌, ◌+◌, ◌-◌, ◌^◌, ◌<◌, ◌≤◌, ◌∙◌, sym, ap, rules, arith, length, refl, set, length-set}
use Rattle.scc_common.specs.Routing.{bucket_number, tag_of}
use Rattle.scc_array.specs.Shelf.{Shelf, with_entry}
use Rattle.scc_common.specs.Contents.{entries, hash_in}
use Rattle.scc_buckets.proofs.Inserts.{inserted-at, inserted-table, inserted-holds, overflow-after, overflow-full, refused-unchanged, refused-entries, refused-table, unique-inserted, table-bound, bucket-bound, read-again}
use native.Mathlib.Decide.{dec_lt}
use Rattle.scc_buckets.proofs.OneList.{put-in-list, same-in-lists}
use Rattle.scc_buckets.proofs.Views.{entries-view, count-view, settings-view, refused-view, spilled-view}
use Rattle.scc_array.specs.Shelves.{shelf_of}
use Rattle.scc_buckets.proofs.Arrays.{shelf-at, put-is, put-own}
use Rattle.scc_buckets.proofs.Buckets.insert_made_in.Goals as goal
use Rattle.scc_buckets.proofs.Buckets.insert_made_in.Goals.{else-is_full-via-then-is_full+else-overflow_room-eq0, else-is_full-via-else-is_full}

pub is_full-requires : goal.is_full-requires
is_full-requires g c =
    let l = rw (count-view c.self.inside.buckets _ c.args.self.now c.self.view_is) at c.requires.within in
    search rules

pub insert_made-requires-clause-bucket : goal.insert_made-requires-clause-bucket
insert_made-requires-clause-bucket g c =
    let t = c.self.inside in
    let bs = t.buckets in
    let i = c.args.bucket in
    let count = count-view bs _ c.args.self.now c.self.view_is in
    let l : i < length bs = rw count at c.requires.within in
    search rules

pub insert_made-requires-clause-few : goal.insert_made-requires-clause-few
insert_made-requires-clause-few g c =
    let t = c.self.inside in
    let bs = t.buckets in
    let i = c.args.bucket in
    let count = count-view bs _ c.args.self.now c.self.view_is in
    let l : i < length bs = rw count at c.requires.within in
    bucket-bound (λ e. g.H.Hashes.hash_of c.self.inside.router.hasher (g.E.Keyed.key_of e)) t.router.skipped t.length t.overflowing i bs (shelf_of c.self.inside.buckets c.args.bucket) c.self.invariant.table l (shelf-at c.self.inside.buckets c.args.bucket l)

pub overflow_add-self : goal.overflow_add-self
overflow_add-self g c =
    record { fits = let m = table-bound (λ e. g.H.Hashes.hash_of c.self.inside.router.hasher (g.E.Keyed.key_of e)) c.self.inside.router.skipped c.self.inside.length c.self.inside.overflowing c.self.inside.buckets c.self.invariant.table in omega arith }

pub invariant_of-self : goal.invariant_of-self
invariant_of-self g c =
    let t = c.self.inside in
    let bs = t.buckets in
    let i = c.args.bucket in
    let count = count-view bs _ c.args.self.now c.self.view_is in
    let l : i < length bs = rw count at c.requires.within in
    let b = (shelf_of c.self.inside.buckets c.args.bucket) in
    let hashed = rw (settings-view bs _ c.args.self.now c.self.view_is, hash_in) at c.requires.hashed in
    let routed : i ≡ bucket_number t.router.skipped (length bs) (g.H.Hashes.hash_of t.router.hasher (g.E.Keyed.key_of (g.E.Made.made_of c.args.parts))) =
    let at = rw (settings-view bs _ c.args.self.now c.self.view_is, count) at c.requires.routed in at ∙ ap (bucket_number t.router.skipped (length bs)) hashed in
    let stored = (put-is c.self.inside.buckets c.args.bucket l c.insert_made.new.self _ c.in-Ok.ensures.ok.1) ∙ ap (λ x. let r : Shelf g.row.E.Denot = record (with_entry b (g.E.Made.made_of c.args.parts) x) { room = (shelf_of c.insert_made.new.self c.args.bucket).room } in r) (c.tag.ensures ∙ ap tag_of hashed) in
    let low : c.in-Ok.slot < 32 → c.one_if.result ≡ 0 = search rules in
    let high : 32 ≤ c.in-Ok.slot → c.one_if.result ≡ 1 = search rules in
    let few : t.overflowing + c.one_if.result < 2 ^ 62 = elim (dec_lt c.in-Ok.slot 32) [
      | yes q ↦ let z = low q in let f = c.self.invariant.table.few in omega arith
      | no q ↦
          let z : c.one_if.result ≡ 1 = high (omega arith) in
          elim c.else-is_full.branch [
            | else-is_full-via-else-is_full w ↦
                let same : (shelf_of c.self.inside.buckets c.args.bucket) ≡ b = read-again bs i (shelf_of c.self.inside.buckets c.args.bucket) b l (shelf-at c.self.inside.buckets c.args.bucket l) (shelf-at c.self.inside.buckets c.args.bucket l) in
                let full : 32 ≤ length (shelf_of c.self.inside.buckets c.args.bucket).slots = rw same (overflow-full (λ e. g.H.Hashes.hash_of c.self.inside.router.hasher (g.E.Keyed.key_of e)) t.router.skipped t.length t.overflowing i bs c.self.invariant.table _ c.args.self.now c.self.view_is b l (shelf-at c.self.inside.buckets c.args.bucket l) (shelf_of c.insert_made.new.self c.args.bucket) (g.E.Made.made_of c.args.parts) c.in-Ok.slot stored c.in-Ok.ensures.ok.0 (omega arith)) in
                absurd (search rules)
            | else-is_full-via-then-is_full+else-overflow_room-eq0 w ↦ let less : t.overflowing < 2 ^ 62 - 1 = search rules in omega arith
          ]
    ] in
    rw (put-own c.self.inside.buckets c.args.bucket l c.insert_made.new.self _ c.in-Ok.ensures.ok.1) record {
      table = inserted-table (λ e. g.H.Hashes.hash_of c.self.inside.router.hasher (g.E.Keyed.key_of e)) t.router.skipped t.length t.overflowing i bs c.self.invariant.table _ c.args.self.now c.self.view_is b l (shelf-at c.self.inside.buckets c.args.bucket l) (shelf_of c.insert_made.new.self c.args.bucket) (g.E.Made.made_of c.args.parts) c.in-Ok.slot stored c.in-Ok.ensures.ok.0 (t.overflowing + c.one_if.result) routed (overflow-after (λ e. g.H.Hashes.hash_of c.self.inside.router.hasher (g.E.Keyed.key_of e)) t.router.skipped t.length t.overflowing i bs c.self.invariant.table _ c.args.self.now c.self.view_is b l (shelf-at c.self.inside.buckets c.args.bucket l) (shelf_of c.insert_made.new.self c.args.bucket) (g.E.Made.made_of c.args.parts) c.in-Ok.slot stored c.in-Ok.ensures.ok.0 c.one_if.result low high) few;
      small_minimum = c.self.invariant.small_minimum;
      unique = let u = unique-inserted g.met.E.Key.Eq.laws g.E.Keyed.key_of (g.E.Made.made_of c.args.parts) (entries c.args.self.now) _ (rw (entries-view bs _ c.args.self.now c.self.view_is) c.self.invariant.unique) c.requires.absent (inserted-holds (λ e. g.H.Hashes.hash_of c.self.inside.router.hasher (g.E.Keyed.key_of e)) t.router.skipped t.length t.overflowing i bs c.self.invariant.table _ c.args.self.now c.self.view_is b l (shelf-at c.self.inside.buckets c.args.bucket l) (shelf_of c.insert_made.new.self c.args.bucket) (g.E.Made.made_of c.args.parts) c.in-Ok.slot stored c.in-Ok.ensures.ok.0).same in rw (entries-view (set bs i (shelf_of c.insert_made.new.self c.args.bucket)) _ _ refl) at u;
    }

pub invariant_of-self-in-Err : goal.invariant_of-self-in-Err
invariant_of-self-in-Err g c =
    let t = c.self.inside in
    let bs = t.buckets in
    let i = c.args.bucket in
    let count = count-view bs _ c.args.self.now c.self.view_is in
    let l : i < length bs = rw count at c.requires.within in
    let b = (shelf_of c.self.inside.buckets c.args.bucket) in
    let hashed = rw (settings-view bs _ c.args.self.now c.self.view_is, hash_in) at c.requires.hashed in
    let routed : i ≡ bucket_number t.router.skipped (length bs) (g.H.Hashes.hash_of t.router.hasher (g.E.Keyed.key_of (g.E.Made.made_of c.args.parts))) =
    let at = rw (settings-view bs _ c.args.self.now c.self.view_is, count) at c.requires.routed in at ∙ ap (bucket_number t.router.skipped (length bs)) hashed in
    rw (put-own c.self.inside.buckets c.args.bucket l c.insert_made.new.self _ c.in-Err.ensures.err.1) record {
      table = refused-table (λ e. g.H.Hashes.hash_of c.self.inside.router.hasher (g.E.Keyed.key_of e)) t.router.skipped t.length t.overflowing i bs c.self.invariant.table _ c.args.self.now c.self.view_is b l (shelf-at c.self.inside.buckets c.args.bucket l) (shelf_of c.insert_made.new.self c.args.bucket) (put-is c.self.inside.buckets c.args.bucket l c.insert_made.new.self _ c.in-Err.ensures.err.1);
      small_minimum = c.self.invariant.small_minimum;
      unique = rw (refused-entries (λ e. g.H.Hashes.hash_of c.self.inside.router.hasher (g.E.Keyed.key_of e)) t.router.skipped t.length t.overflowing i bs c.self.invariant.table _ c.args.self.now c.self.view_is b l (shelf-at c.self.inside.buckets c.args.bucket l) (shelf_of c.insert_made.new.self c.args.bucket) (put-is c.self.inside.buckets c.args.bucket l c.insert_made.new.self _ c.in-Err.ensures.err.1)) c.self.invariant.unique;
    }

pub returns-then-overflow_room-eq0 : goal.returns-then-overflow_room-eq0
returns-then-overflow_room-eq0 g c =
    record {
      ok = (search rules);
      exact = (search rules);
      err = (search rules);
      stays = (search rules);
      buckets = (search rules);
      refused = (search rules);
      few = (rw (spilled-view c.self.inside.buckets _ c.args.self.now c.self.view_is, ← c.self.invariant.table.spilled) c.self.invariant.table.few);
      unique = (rw (entries-view c.self.inside.buckets _ c.args.self.now c.self.view_is) c.self.invariant.unique);
    }

pub returns-in-Ok : goal.returns-in-Ok
returns-in-Ok g c =
    let t = c.self.inside in
    let bs = t.buckets in
    let i = c.args.bucket in
    let count = count-view bs _ c.args.self.now c.self.view_is in
    let l : i < length bs = rw count at c.requires.within in
    let b = (shelf_of c.self.inside.buckets c.args.bucket) in
    let hashed = rw (settings-view bs _ c.args.self.now c.self.view_is, hash_in) at c.requires.hashed in
    let routed : i ≡ bucket_number t.router.skipped (length bs) (g.H.Hashes.hash_of t.router.hasher (g.E.Keyed.key_of (g.E.Made.made_of c.args.parts))) =
    let at = rw (settings-view bs _ c.args.self.now c.self.view_is, count) at c.requires.routed in at ∙ ap (bucket_number t.router.skipped (length bs)) hashed in
    let stored = (put-is c.self.inside.buckets c.args.bucket l c.insert_made.new.self _ c.in-Ok.ensures.ok.1) ∙ ap (λ x. let r : Shelf g.row.E.Denot = record (with_entry b (g.E.Made.made_of c.args.parts) x) { room = (shelf_of c.insert_made.new.self c.args.bucket).room } in r) (c.tag.ensures ∙ ap tag_of hashed) in
    record {
      ok = (rw (put-own c.self.inside.buckets c.args.bucket l c.insert_made.new.self _ c.in-Ok.ensures.ok.1) (inserted-at (λ e. g.H.Hashes.hash_of c.self.inside.router.hasher (g.E.Keyed.key_of e)) t.router.skipped t.length t.overflowing i bs c.self.invariant.table _ c.args.self.now c.self.view_is b l (shelf-at c.self.inside.buckets c.args.bucket l) (shelf_of c.insert_made.new.self c.args.bucket) (g.E.Made.made_of c.args.parts) c.in-Ok.slot stored c.in-Ok.ensures.ok.0));
      exact = (rw (put-own c.self.inside.buckets c.args.bucket l c.insert_made.new.self _ c.in-Ok.ensures.ok.1) (put-in-list bs _ c.args.self.now c.self.view_is i b l (shelf-at c.self.inside.buckets c.args.bucket l) (shelf_of c.insert_made.new.self c.args.bucket) (g.E.Made.made_of c.args.parts) _ c.in-Ok.slot (c.self.invariant.table.own i b l (shelf-at c.self.inside.buckets c.args.bucket l)).within (put-is c.self.inside.buckets c.args.bucket l c.insert_made.new.self _ c.in-Ok.ensures.ok.1) c.in-Ok.ensures.ok.0));
      err = (search rules);
      stays = (search rules);
      buckets = (count-view c.insert_made.new.self _ _ refl ∙ ap length c.in-Ok.ensures.ok.1 ∙ length-set bs c.args.bucket _ ∙ sym (count-view bs _ c.args.self.now c.self.view_is));
      refused = (refused-view _ _ _ refl ∙ sym (refused-view c.self.inside.buckets _ c.args.self.now c.self.view_is));
      few = (let t = (invariant_of-self g c).table in rw (spilled-view c.insert_made.new.self _ _ refl, ← t.spilled) t.few);
      unique = (rw (put-own c.self.inside.buckets c.args.bucket l c.insert_made.new.self _ c.in-Ok.ensures.ok.1) (unique-inserted g.met.E.Key.Eq.laws g.E.Keyed.key_of (g.E.Made.made_of c.args.parts) (entries c.args.self.now) _ (rw (entries-view bs _ c.args.self.now c.self.view_is) c.self.invariant.unique) c.requires.absent (inserted-holds (λ e. g.H.Hashes.hash_of c.self.inside.router.hasher (g.E.Keyed.key_of e)) t.router.skipped t.length t.overflowing i bs c.self.invariant.table _ c.args.self.now c.self.view_is b l (shelf-at c.self.inside.buckets c.args.bucket l) (shelf_of c.insert_made.new.self c.args.bucket) (g.E.Made.made_of c.args.parts) c.in-Ok.slot stored c.in-Ok.ensures.ok.0).same));
    }

pub returns-in-Err : goal.returns-in-Err
returns-in-Err g c =
    let t = c.self.inside in
    let bs = t.buckets in
    let i = c.args.bucket in
    let count = count-view bs _ c.args.self.now c.self.view_is in
    let l : i < length bs = rw count at c.requires.within in
    let b = (shelf_of c.self.inside.buckets c.args.bucket) in
    record {
      ok = (search rules);
      exact = (search rules);
      err = (rw (put-own c.self.inside.buckets c.args.bucket l c.insert_made.new.self _ c.in-Err.ensures.err.1) ((c.in-Err.ensures.err.0, refused-unchanged (λ e. g.H.Hashes.hash_of c.self.inside.router.hasher (g.E.Keyed.key_of e)) t.router.skipped t.length t.overflowing i bs c.self.invariant.table _ c.args.self.now c.self.view_is b l (shelf-at c.self.inside.buckets c.args.bucket l) (shelf_of c.insert_made.new.self c.args.bucket) (put-is c.self.inside.buckets c.args.bucket l c.insert_made.new.self _ c.in-Err.ensures.err.1))));
      stays = (rw (put-own c.self.inside.buckets c.args.bucket l c.insert_made.new.self _ c.in-Err.ensures.err.1) (same-in-lists bs _ c.args.self.now c.self.view_is c.args.bucket (shelf_of bs c.args.bucket) l (shelf-at bs c.args.bucket l) (shelf_of c.insert_made.new.self c.args.bucket) (put-is c.self.inside.buckets c.args.bucket l c.insert_made.new.self _ c.in-Err.ensures.err.1)));
      buckets = (count-view c.insert_made.new.self _ _ refl ∙ ap length c.in-Err.ensures.err.1 ∙ length-set bs c.args.bucket _ ∙ sym (count-view bs _ c.args.self.now c.self.view_is));
      refused = (refused-view _ _ _ refl ∙ sym (refused-view c.self.inside.buckets _ c.args.self.now c.self.view_is));
      few = (let t = (invariant_of-self-in-Err g c).table in rw (spilled-view c.insert_made.new.self _ _ refl, ← t.spilled) t.few);
      unique = (rw (put-own c.self.inside.buckets c.args.bucket l c.insert_made.new.self _ c.in-Err.ensures.err.1) (rw ((refused-unchanged (λ e. g.H.Hashes.hash_of c.self.inside.router.hasher (g.E.Keyed.key_of e)) t.router.skipped t.length t.overflowing i bs c.self.invariant.table _ c.args.self.now c.self.view_is b l (shelf-at c.self.inside.buckets c.args.bucket l) (shelf_of c.insert_made.new.self c.args.bucket) (put-is c.self.inside.buckets c.args.bucket l c.insert_made.new.self _ c.in-Err.ensures.err.1)).exact, entries-view bs _ c.args.self.now c.self.view_is) c.self.invariant.unique));
    }
