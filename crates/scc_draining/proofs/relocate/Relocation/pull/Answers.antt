use Rattle.std.proofs.Common.{◌≡◌, ◌==◌, ℕ, ◌<◌, ap, ◌∙◌, arith, true, false, Some, [], length}
use Rattle.std.specs.List.{slice_get}
use Rattle.std.proofs.lemmas.List.{get_or-replicate}
use Rattle.std.proofs.lemmas.Option.{slice_get-get_or}
use Rattle.scc_array.proofs.Gets.{get-within}
use Rattle.scc_array.specs.Sifts.{all_raised, raised}
use Rattle.scc_array.specs.Shelves.{shelf_of}
use Rattle.scc_buckets.proofs.Arrays.{put-is}
use Rattle.scc_common.specs.Routing.{bucket_number}
use Rattle.scc_draining.proofs.Joined.{joined-flag}
use Rattle.scc_draining.proofs.Parted.{no-elements, parted-pulls}
use Rattle.scc_draining.proofs.relocate.Relocation.pull.Goals as goal

pub returns-then-slot_count-le32-clause-pulls : goal.returns-then-slot_count-le32-clause-pulls
returns-then-slot_count-le32-clause-pulls g c =
    let hash = λ (e : g.row.E.Denot). g.H.Hashes.hash_of c.args.router.now.hasher (g.E.Keyed.key_of e) in
    let s = shelf_of c.args.old.now c.args.source in
    let bare : s.overflow ≡ [] = no-elements s.overflow (omega (arith, c.overflow_len.ensures, c.if-overflow_len-eq0.true)) in
    let l1 : c.slot_count.result ≡ length (shelf_of c.args.into.now c.args.self.now.target).slots = c.slot_count.ensures.count in
    let l2 : c.slot_count-then-overflow_len-eq0.result ≡ length s.slots = c.slot_count-then-overflow_len-eq0.ensures.count in
    parted-pulls hash c.args.router.now.skipped c.args.self.now.count c.args.self.now.target c.args.source c.args.old.now (shelf_of c.args.into.now c.args.self.now.target) (raised c.flags_of.new.flags) c.requires.pullable.source bare c.requires.pullable.own c.requires.pullable.packed
    (omega (arith, c.if-slot_count-le32.true)) c.flags_of.ensures c.split.new.self c.split.ensures.stays (shelf_of c.split.new.into c.args.self.now.target) (put-is c.args.into.now c.args.self.now.target c.requires.pullable.target c.split.new.into _ c.split.ensures.moved)

pub returns-then-self-clause-pulls : goal.returns-then-self-clause-pulls
returns-then-self-clause-pulls g c =
    let hash = λ (e : g.row.E.Denot). g.H.Hashes.hash_of c.args.router.now.hasher (g.E.Keyed.key_of e) in
    let s = shelf_of c.args.old.now c.args.source in
    let bare : s.overflow ≡ [] = no-elements s.overflow (omega (arith, c.overflow_len.ensures, c.if-overflow_len-eq0.true)) in
    let l1 : c.slot_count.result ≡ length (shelf_of c.args.into.now c.args.self.now.target).slots = c.slot_count.ensures.count in
    let l2 : c.slot_count-then-overflow_len-eq0.result ≡ length s.slots = c.slot_count-then-overflow_len-eq0.ensures.count in
    let all = c.requires.joined c.if-self.true in
    let flags : (k : ℕ) (e : g.row.E.Denot) → slice_get s.slots k ≡ Some e → slice_get all_raised k ≡ Some (bucket_number c.args.router.now.skipped c.args.self.now.count (hash e) == c.args.self.now.target) = λ k e got.
    let few : k < 32 = let w = get-within s.slots k e got in let m = c.requires.pullable.own.within in omega arith in
    slice_get-get_or all_raised k false few ∙ ap Some (get_or-replicate 32 k true false few ∙ joined-flag hash c.args.router.now.skipped c.args.self.now.count c.args.self.now.target s k e all got) in
    parted-pulls hash c.args.router.now.skipped c.args.self.now.count c.args.self.now.target c.args.source c.args.old.now (shelf_of c.args.into.now c.args.self.now.target) all_raised c.requires.pullable.source bare c.requires.pullable.own c.requires.pullable.packed
    (omega (arith, c.if-slot_count-le32.true)) flags c.pour.new.self c.pour.ensures.stays (shelf_of c.pour.new.into c.args.self.now.target) (put-is c.args.into.now c.args.self.now.target c.requires.pullable.target c.pour.new.into _ c.pour.ensures.moved)
