use Rattle.std.proofs.Common.{◌≡◌, ◌∙◌, ◌+◌, ◌^◌, ◌<◌, ◌≤◌, ℕ, List, [], length, map, set, sym, ap, subst, arith, Result}
use Rattle.std.specs.List.{flat_map}
use Rattle.std.specs.Result.{OnOk, OnErr}
use Rattle.std.specs.declared.alloc.AllocError.{AllocError}
use Rattle.scc_array.specs.Shelves.{shelf_of}
use Rattle.scc_array.specs.Shelf.{Shelf, empty_shelf, shelf_entries}
use Rattle.scc_buckets.proofs.Arrays.{shelf-at}
use Rattle.scc_buckets.specs.Pour.{destined_for}
use Rattle.scc_common.specs.Contents.{bucket_count, hash_in, lists_of, overflow_of, settings_of}
use Rattle.scc_draining.specs.Filling.{Fills}
use Rattle.scc_draining.specs.Moves.{Drains, IsDrainable}
use Rattle.scc_draining.proofs.Arriving.{count-were, lists-set, same-contents, same-lists}
use Rattle.scc_draining.proofs.Filled.{array-filled, coming-by, drainable-by, spilled-filled, spilled-none, target-empty, target-filled, target-within}
use Rattle.scc_draining.proofs.relocate.Relocation.move_in.Goals as goal

pub fill_by-filled-requires-clause-takes : goal.fill_by-filled-requires-clause-takes
fill_by-filled-requires-clause-takes g c = λ bs n m array r a b is_r is_into is_olds.
    let cur = c.args.current.now in let task = c.args.self.now in let i = task.target in
    let hash = λ (e : g.row.E.Denot). g.H.Hashes.hash_of r.now.hasher (g.E.Keyed.key_of e) in
    let within = target-within g.E.Key.PartialEq.eq g.H.Hashes.hash_of g.E.Keyed.key_of cur array i c.requires.target c.requires.bare in
    let bare = target-empty g.E.Key.PartialEq.eq g.H.Hashes.hash_of g.E.Keyed.key_of cur array i c.requires.target c.requires.bare in
    let drainable = drainable-by g.H.Hashes.hash_of g.E.Keyed.key_of cur r.now is_r c.requires.count i c.args.old.now c.requires.drainable in
    let coming = coming-by g.H.Hashes.hash_of g.E.Keyed.key_of cur r.now is_r c.requires.count i c.args.old.now c.args.coming c.requires.coming in (
      subst (λ (z : List (Shelf g.row.E.Denot)). IsDrainable hash r.now.skipped task.count i task.first task.last task.whole z) (sym is_olds) drainable,
      (
        subst (λ (z : List (Shelf g.row.E.Denot)). i < length z) (sym is_into) within,
        (
          subst (λ (z : List (Shelf g.row.E.Denot)). shelf_of z i ≡ record empty_shelf { room = (shelf_of z i).room }) (sym is_into) bare,
          subst (λ (z : List (Shelf g.row.E.Denot)). length (destined_for hash r.now.skipped task.count i (flat_map shelf_entries z)) ≤ c.args.coming) (sym is_olds) coming,
        ),
      ),
    )

pub fill_by-filled-requires-clause-keeps : goal.fill_by-filled-requires-clause-keeps
fill_by-filled-requires-clause-keeps g c = λ bs filled news n m r array called.
    let cur = c.args.current.now in let task = c.args.self.now in let i = task.target in
    let hash = λ (e : g.row.E.Denot). g.H.Hashes.hash_of called.router.now.hasher (g.E.Keyed.key_of e) in
    let met : Fills hash called.router.now.skipped task.count i c.args.coming c.overflow_room-left.result called.first.now called.second.now r called.first_left.now called.second_left.now = called.called in
    let fills : Fills hash called.router.now.skipped task.count i c.args.coming c.overflow_room-left.result bs c.args.old.now r filled news = rw (called.is_into, called.is_olds, called.is_filled, called.is_news) at met in
    let few : m + c.overflow_room-left.result < 2 ^ 62 = omega (arith, c.overflow_room-left.ensures, c.overflow_len.ensures.value, array.overflowing) in
    array-filled g.E.Key.PartialEq.eq g.H.Hashes.hash_of g.E.Keyed.key_of cur array i c.requires.target c.requires.bare c.requires.count c.requires.coming called.router.now called.shows fills few c.requires.unique

pub returns-in-Ok : goal.returns-in-Ok
returns-in-Ok g c =
    let cur = c.args.current.now in let task = c.args.self.now in let i = task.target in
    let e = c.fill_by-filled.ensures in let bs = e.before in let ns = e.after in
    let d = c.fill_by-filled.new.self in let news = c.fill_by-filled.new.old in
    let r : Result (Unit {0}) AllocError = c.fill_by-filled.result.0 in
    let hash = λ (y : g.row.E.Denot). g.H.Hashes.hash_of e.called.router.now.hasher (g.E.Keyed.key_of y) in
    let met : Fills hash e.called.router.now.skipped task.count i c.args.coming c.overflow_room-left.result e.called.first.now e.called.second.now r e.called.first_left.now e.called.second_left.now = e.called.called in
    let fills : Fills hash e.called.router.now.skipped task.count i c.args.coming c.overflow_room-left.result bs c.args.old.now r ns news = rw (e.called.is_into, e.called.is_olds, e.called.is_filled, e.called.is_news) at met in
    let x = target-filled g.E.Key.PartialEq.eq g.H.Hashes.hash_of g.E.Keyed.key_of cur e.array i c.requires.target c.requires.bare c.requires.count c.requires.coming e.called.router.now e.called.shows fills in
    let lists = e.lists ∙ ap (map shelf_entries) x.fills.others ∙ lists-set g.E.Key.PartialEq.eq g.E.Keyed.key_of cur bs e.array.were i (shelf_of ns i) in
    let now : overflow_of d ≡ e.over + length (shelf_of ns i).overflow = e.spilled in
    let over = e.array.overflowing in
    let khash = λ (y : g.row.E.Denot). hash_in g.H.Hashes.hash_of cur (g.E.Keyed.key_of y) in
    let here : Drains khash (settings_of cur).skipped (length bs) i c.args.old.now empty_shelf news (shelf_of ns i) =
    subst (λ (z : Result (Unit {0}) AllocError). OnOk z (Drains khash (settings_of cur).skipped (length bs) i c.args.old.now empty_shelf news (shelf_of ns i))) c.in-Ok.is x.fills.ok in
    let drains : Drains khash (settings_of cur).skipped (bucket_count cur) i c.args.old.now empty_shelf news (shelf_of ns i) =
    subst (λ (k : ℕ). Drains khash (settings_of cur).skipped k i c.args.old.now empty_shelf news (shelf_of ns i)) (sym (count-were cur bs e.array.were)) here in
    let es_are = drains.moved.entries_are in
    record {
      ok = record {
        lists = lists ∙ ap (set (lists_of cur) i) es_are;
        moved = e.moved ∙ ap length es_are;
        settings = e.settings;
        refused = e.noted;
        count = drains.count;
        kept = drains.kept;
        own = drains.own;
        overflow = drains.overflow;
      };
      few = let less = spilled-filled x in omega (arith, now, over, less, c.overflow_room-left.ensures, c.overflow_len.ensures.value);
      short = λ h. let none = spilled-none x h in omega (arith, now, over, none);
      err = tt;
      stays = tt;
      refused = tt;
      routed = e.array.routed;
    }

pub returns-in-Err : goal.returns-in-Err
returns-in-Err g c =
    let cur = c.args.current.now in let task = c.args.self.now in let i = task.target in
    let e = c.fill_by-filled.ensures in let bs = e.before in let ns = e.after in
    let d = c.fill_by-filled.new.self in let news = c.fill_by-filled.new.old in
    let r : Result (Unit {0}) AllocError = c.fill_by-filled.result.0 in
    let hash = λ (y : g.row.E.Denot). g.H.Hashes.hash_of e.called.router.now.hasher (g.E.Keyed.key_of y) in
    let met : Fills hash e.called.router.now.skipped task.count i c.args.coming c.overflow_room-left.result e.called.first.now e.called.second.now r e.called.first_left.now e.called.second_left.now = e.called.called in
    let fills : Fills hash e.called.router.now.skipped task.count i c.args.coming c.overflow_room-left.result bs c.args.old.now r ns news = rw (e.called.is_into, e.called.is_olds, e.called.is_filled, e.called.is_news) at met in
    let x = target-filled g.E.Key.PartialEq.eq g.H.Hashes.hash_of g.E.Keyed.key_of cur e.array i c.requires.target c.requires.bare c.requires.count c.requires.coming e.called.router.now e.called.shows fills in
    let lists = e.lists ∙ ap (map shelf_entries) x.fills.others ∙ lists-set g.E.Key.PartialEq.eq g.E.Keyed.key_of cur bs e.array.were i (shelf_of ns i) in
    let now : overflow_of d ≡ e.over + length (shelf_of ns i).overflow = e.spilled in
    let over = e.array.overflowing in
    let empty : shelf_of ns i ≡ record empty_shelf { room = (shelf_of ns i).room } =
    subst (λ (z : Result (Unit {0}) AllocError). OnErr z (shelf_of ns i ≡ record empty_shelf { room = (shelf_of ns i).room })) c.in-Err.is x.fills.stays in
    let none : shelf_entries (shelf_of ns i) ≡ [] = ap shelf_entries empty in
    let no_overflow : length (shelf_of ns i).overflow ≡ 0 = ap (λ (z : Shelf g.row.E.Denot). length z.overflow) empty in
    record {
      ok = tt;
      few = tt;
      short = tt;
      err = same-contents cur d (lists ∙ same-lists g.E.Key.PartialEq.eq g.E.Keyed.key_of cur bs e.array.were i (shelf_of ns i) (shelf_of bs i) x.within (shelf-at bs i x.within) x.bare none) e.settings e.noted (omega (arith, now, over, no_overflow)) e.waiting e.owed;
      stays = subst (λ (z : Result (Unit {0}) AllocError). OnErr z (news ≡ c.args.old.now)) c.in-Err.is x.fills.err;
      refused = subst (λ (z : Result (Unit {0}) AllocError). OnErr z (32 < c.args.coming)) c.in-Err.is x.fills.refused;
      routed = e.array.routed;
    }
