use Rattle.std.proofs.Common.{◌≡◌, ◌<◌, ◌∙◌, Some, ap, sym, arith, length}
use Rattle.scc_array.specs.Shelves.{shelf_of}
use Rattle.scc_array.specs.Shelf.{Shelf, shelf_entries, with_entry}
use Rattle.scc_common.specs.Routing.{bucket_number, tag_of}
use Rattle.scc_draining.proofs.Buckets.{still-within, later-is, later-own}
use Rattle.scc_draining.proofs.Pulling.{pull-below, pull-room, pull-move, pull-skip}
use Rattle.scc_draining.proofs.relocate.Relocation.pull_each.Goals as goal
use Rattle.scc_draining.proofs.relocate.Relocation.pull_each.Goals.{then-bucket-self, else-bucket-self}

pub insert_in_room-requires-clause-room : goal.insert_in_room-requires-clause-room
insert_in_room-requires-clause-room g c =
    let hash = λ (e : g.row.E.Denot). g.H.Hashes.hash_of c.args.router.now.hasher (g.E.Keyed.key_of e) in
    let s = shelf_of c.loop-seen.old c.args.source in
    let l : c.loop-seen.seen < length (shelf_entries (shelf_of c.args.old.now c.args.source)) = omega (arith, c.bucket_len-entry_count.ensures) in
    let hashed = c.hash-hash.ensures ∙ ap (λ k. g.H.Hashes.hash_of c.args.router.now.hasher k) c.key.ensures in
    let to = sym c.if-bucket-self.true ∙ c.bucket.ensures.value ∙ ap (bucket_number c.args.router.now.skipped c.args.self.now.count) hashed in
    pull-room hash c.args.router.now.skipped c.args.self.now.count c.args.self.now.target c.args.source c.args.old.now (shelf_of c.args.into.now c.args.self.now.target) c.loop-seen.old (shelf_of c.loop-seen.into c.args.self.now.target) c.loop-seen.seen c.loop-seen.slot c.loop-seen.invariant.0 l
    c.entry_at.result.now c.entry_at.ensures to c.requires.room

pub overflow_add-slot : goal.overflow_add-slot
overflow_add-slot g c =
    let hash = λ (e : g.row.E.Denot). g.H.Hashes.hash_of c.args.router.now.hasher (g.E.Keyed.key_of e) in
    let below = pull-below hash c.args.router.now.skipped c.args.self.now.count c.args.self.now.target c.args.source c.args.old.now (shelf_of c.args.into.now c.args.self.now.target) c.loop-seen.old (shelf_of c.loop-seen.into c.args.self.now.target) c.loop-seen.seen c.loop-seen.slot c.loop-seen.invariant.0 in
    omega (arith, c.bucket_len-entry_count.type_inv)

pub loop-seen-preserved : goal.loop-seen-preserved
loop-seen-preserved g c =
    let hash = λ (e : g.row.E.Denot). g.H.Hashes.hash_of c.args.router.now.hasher (g.E.Keyed.key_of e) in
    let l : c.loop-seen.seen < length (shelf_entries (shelf_of c.args.old.now c.args.source)) = omega (arith, c.bucket_len-entry_count.ensures) in
    let hashed = c.hash-hash.ensures ∙ ap (λ k. g.H.Hashes.hash_of c.args.router.now.hasher k) c.key.ensures in
    elim c.if-bucket-self.branch [
      | then-bucket-self w ↦
          let e = w.remove_at-entry.result in
          let same : c.entry_at.result.now ≡ e = let z : Some c.entry_at.result.now ≡ Some e = sym c.entry_at.ensures ∙ w.remove_at-entry.ensures.entry in cc in
          let at = hashed ∙ ap hash same in
          let to = sym w.if-bucket-self.true ∙ c.bucket.ensures.value ∙ ap (bucket_number c.args.router.now.skipped c.args.self.now.count) at in
          let r = (shelf_of w.insert_in_room.new.self c.args.self.now.target).room in
          let within = still-within c.args.into.now c.loop-seen.into c.args.self.now.target c.requires.target c.loop-seen.invariant.1 in
          let here = later-is c.args.into.now c.loop-seen.into c.args.self.now.target c.requires.target c.loop-seen.invariant.1 w.insert_in_room.new.self _ w.insert_in_room.ensures.value in
          let put = here ∙ ap (λ x. let s : Shelf g.row.E.Denot = record (with_entry (shelf_of c.loop-seen.into c.args.self.now.target) e x) { room = r } in s) (w.tag.ensures ∙ ap tag_of at) in
          rw (w.into-is, w.old-is, w.slot-is) (
            pull-move hash c.args.router.now.skipped c.args.self.now.count c.args.self.now.target c.args.source c.args.old.now (shelf_of c.args.into.now c.args.self.now.target) c.loop-seen.old (shelf_of c.loop-seen.into c.args.self.now.target) c.loop-seen.seen c.loop-seen.slot c.loop-seen.invariant.0 l
                e w.remove_at-entry.ensures.entry to c.requires.source w.remove_at-entry.new.self (shelf_of w.insert_in_room.new.self c.args.self.now.target) w.remove_at-entry.ensures.others put w.insert_in_room.ensures.room,
            later-own c.args.into.now c.loop-seen.into c.args.self.now.target c.requires.target c.loop-seen.invariant.1 w.insert_in_room.new.self _ w.insert_in_room.ensures.value,
          )
      | else-bucket-self w ↦
          let ne = λ (z : c.args.self.now.target ≡ bucket_number c.args.router.now.skipped c.args.self.now.count (hash c.entry_at.result.now)). w.if-bucket-self.false (c.bucket.ensures.value ∙ ap (bucket_number c.args.router.now.skipped c.args.self.now.count) hashed ∙ sym z) in
          rw (w.into-is, w.old-is, w.slot-is) (
            pull-skip hash c.args.router.now.skipped c.args.self.now.count c.args.self.now.target c.args.source c.args.old.now (shelf_of c.args.into.now c.args.self.now.target) c.loop-seen.old (shelf_of c.loop-seen.into c.args.self.now.target) c.loop-seen.seen c.loop-seen.slot c.loop-seen.invariant.0 l
                c.entry_at.result.now c.entry_at.ensures ne,
            c.loop-seen.invariant.1,
          )
    ]
