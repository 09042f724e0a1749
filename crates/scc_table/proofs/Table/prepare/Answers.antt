use Rattle.std.proofs.Common.{◌≡◌, ◌≢◌, ◌∙◌, ◌<◌, ◌≤◌, ℕ, Bool, true, inl, inr, length, replicate, sym, ap, subst, arith}
use Rattle.std.specs.List.{count_by}
use Rattle.scc_common.specs.Contents.{HasRoomAt, bucket_count, hash_in, list_of, pending_of, settings_of}
use Rattle.scc_common.specs.Routing.{bucket_number}
use Rattle.scc_buckets.specs.Bounded.{HasListsOf}
use Rattle.scc_buckets.proofs.Resizes.{rests-resizes}
use Rattle.scc_table.specs.Bounded.{IsDoublingDue}
use Rattle.scc_table.proofs.places.OneList.{room-listed}
use Rattle.scc_table.proofs.relocations.OneByOne.{pending-is}
use Rattle.scc_table.proofs.relocations.ShortLists.{listed-later}
use Rattle.scc_table.proofs.resizes.Below.{grows-marked}
use Rattle.scc_table.proofs.resizes.Installation.{count-up}
use Rattle.scc_table.proofs.resizes.Marks.{due-left, marks-left, marks-up, not-full, not-not_waiting}
use Rattle.scc_table.proofs.insertions.Room.{room-marked, room-of}
use Rattle.scc_table.proofs.arrays.SameParts.{count-same, hash-same}
use Rattle.scc_table.proofs.Table.prepare.Goals as goal

pub returns-then-pending-gt0-clause-ok : goal.returns-then-pending-gt0-clause-ok
returns-then-pending-gt0-clause-ok g c =
    λ great.
    let a = c.args.self.now in
    let b = c.bucket_for_new.new.self in
    let m = c.bucket_for_new.ensures.finds in
    let hk = hash_in g.H.Hashes.hash_of a in
    room-of hk g.E.Keyed.key_of a b c.args.hash m.rests m.growth m.still m.all m.not_waiting m.stays m.waiting (omega (arith, c.in_ok-bucket.ensures.finds.within), inr (inl (let q = c.if-pending-gt0.true in omega arith)))

pub returns-then-list_len-lt32-clause-ok : goal.returns-then-list_len-lt32-clause-ok
returns-then-list_len-lt32-clause-ok g c =
    λ great.
    let a = c.args.self.now in
    let b = c.bucket_for_new.new.self in
    let m = c.bucket_for_new.ensures.finds in
    let hk = hash_in g.H.Hashes.hash_of a in
    let hb = hash_in g.H.Hashes.hash_of b in
    let i = c.in_ok-bucket.bucket in
    let held = room-listed hb g.E.Keyed.key_of b c.args.hash c.in_ok-bucket.ensures.finds.routed c.list_len.ensures.routed c.list_len.ensures.len in
    let some : 0 < bucket_count b = omega (arith, c.in_ok-bucket.ensures.finds.within) in
    let room : HasRoomAt hb g.E.Keyed.key_of b c.args.hash = (some, omega arith) in
    let like = hash-same g.H.Hashes.hash_of a b (rests-resizes a b m.rests).settings in
    room-of hk g.E.Keyed.key_of a b c.args.hash m.rests m.growth m.still m.all m.not_waiting m.stays m.waiting (some, inl (subst (λ (h : g.row.E-Key.Denot → ℕ). HasRoomAt h g.E.Keyed.key_of b c.args.hash) like room))

pub returns-then-len-count-clause-ok : goal.returns-then-len-count-clause-ok
returns-then-len-count-clause-ok g c =
    λ great.
    let a = c.args.self.now in
    let b = c.bucket_for_new.new.self in
    let m = c.bucket_for_new.ensures.finds in
    let hk = hash_in g.H.Hashes.hash_of a in
    room-of hk g.E.Keyed.key_of a b c.args.hash m.rests m.growth m.still m.all m.not_waiting m.stays m.waiting (omega (arith, c.in_ok-bucket.ensures.finds.within), inr (inr (inl (omega arith))))

pub returns-then-count-most-clause-ok : goal.returns-then-count-most-clause-ok
returns-then-count-most-clause-ok g c =
    λ great.
    let a = c.args.self.now in
    let b = c.bucket_for_new.new.self in
    let m = c.bucket_for_new.ensures.finds in
    let hk = hash_in g.H.Hashes.hash_of a in
    room-of hk g.E.Keyed.key_of a b c.args.hash m.rests m.growth m.still m.all m.not_waiting m.stays m.waiting (omega (arith, c.in_ok-bucket.ensures.finds.within), inr (inr (inr (inl (omega arith)))))

pub returns-clause-ok : goal.returns-clause-ok
returns-clause-ok g c =
    λ great.
    let a = c.args.self.now in
    let b = c.bucket_for_new.new.self in
    let d = c.mark.new.self in
    let m = c.bucket_for_new.ensures.finds in
    let hk = hash_in g.H.Hashes.hash_of a in
    let n = count-same b d c.mark.ensures.lists in
    let some : 0 < bucket_count d = omega (arith, c.in_ok-bucket.ensures.finds.within, n) in
    room-marked a b d c.mark.ensures.lists c.mark.ensures.settings hk g.E.Keyed.key_of c.args.hash c.mark.ensures.waiting
    m.rests m.growth m.still m.all m.not_waiting m.stays m.waiting
    (some, inr (inr (inr (inr (ap (λ (x : Bool × Bool). x.1) c.mark.ensures.noted)))))

pub returns-then-pending-gt0-clause-marks : goal.returns-then-pending-gt0-clause-marks
returns-then-pending-gt0-clause-marks g c =
    λ great.
    let a = c.args.self.now in
    let b = c.bucket_for_new.new.self in
    let m = c.bucket_for_new.ensures.finds in
    let hk = hash_in g.H.Hashes.hash_of a in
    let waits : 0 < pending_of b = let q = c.if-pending-gt0.true in omega arith in
    marks-left _ g.E.Keyed.key_of hk _ great a b c.args.hash _ m (not-not_waiting _ g.E.Keyed.key_of hk _ great a b c.args.hash _ m waits)

pub returns-then-list_len-lt32-clause-marks : goal.returns-then-list_len-lt32-clause-marks
returns-then-list_len-lt32-clause-marks g c =
    λ great.
    let a = c.args.self.now in
    let b = c.bucket_for_new.new.self in
    let m = c.bucket_for_new.ensures.finds in
    let hk = hash_in g.H.Hashes.hash_of a in
    let hb = hash_in g.H.Hashes.hash_of b in
    let i = c.in_ok-bucket.bucket in
    let held = room-listed hb g.E.Keyed.key_of b c.args.hash c.in_ok-bucket.ensures.finds.routed c.list_len.ensures.routed c.list_len.ensures.len in
    let some : 0 < bucket_count b = omega (arith, c.in_ok-bucket.ensures.finds.within) in
    let room : HasRoomAt hb g.E.Keyed.key_of b c.args.hash = (some, omega arith) in
    let settings = (rests-resizes a b m.rests).settings in
    let like = hash-same g.H.Hashes.hash_of a b settings in
    let had : HasRoomAt hk g.E.Keyed.key_of b c.args.hash = subst (λ (h : g.row.E-Key.Denot → ℕ). HasRoomAt h g.E.Keyed.key_of b c.args.hash) like room in
    marks-left _ g.E.Keyed.key_of hk _ great a b c.args.hash _ m (not-full _ g.E.Keyed.key_of hk _ great a b c.args.hash _ m settings had)

pub returns-clause-marks : goal.returns-clause-marks
returns-clause-marks g c =
    λ great.
    let a = c.args.self.now in
    let b = c.bucket_for_new.new.self in
    let d = c.mark.new.self in
    let m = c.bucket_for_new.ensures.finds in
    let hk = hash_in g.H.Hashes.hash_of a in
    let hb = hash_in g.H.Hashes.hash_of b in
    let i = c.in_ok-bucket.bucket in
    let held = room-listed hb g.E.Keyed.key_of b c.args.hash c.in_ok-bucket.ensures.finds.routed c.list_len.ensures.routed c.list_len.ensures.len in
    let some : 0 < bucket_count b = omega (arith, c.in_ok-bucket.ensures.finds.within) in
    let settings = (rests-resizes a b m.rests).settings in
    let like = hash-same g.H.Hashes.hash_of a b settings in
    let full : HasRoomAt hk g.E.Keyed.key_of b c.args.hash → ⊥ = λ room.
    let r : HasRoomAt hb g.E.Keyed.key_of b c.args.hash = subst (λ (h : g.row.E-Key.Denot → ℕ). HasRoomAt h g.E.Keyed.key_of b c.args.hash) (sym like) room in
    absurd (let z = r.1 in omega arith) in
    let not_waiting : pending_of b ≡ 0 = let z = c.if-pending-gt0.false in omega arith in
    let due = due-left _ g.E.Keyed.key_of hk _ great a b c.args.hash _ m settings not_waiting some full (omega arith) (omega arith) in
    marks-up _ g.E.Keyed.key_of hk _ great a b c.args.hash _ m d c.mark.ensures.lists c.mark.ensures.noted due

pub returns-then-pending-gt0-clause-ready : goal.returns-then-pending-gt0-clause-ready
returns-then-pending-gt0-clause-ready g c =
    let b = c.bucket_for_new.new.self in
    let some : 0 < bucket_count b = omega (arith, c.in_ok-bucket.ensures.finds.within) in
    (some, inr (inl (λ due. let z = due.not_waiting in absurd (omega (arith, c.if-pending-gt0.true)))))

pub returns-then-list_len-lt32-clause-ready : goal.returns-then-list_len-lt32-clause-ready
returns-then-list_len-lt32-clause-ready g c =
    let b = c.bucket_for_new.new.self in
    let some : 0 < bucket_count b = omega (arith, c.in_ok-bucket.ensures.finds.within) in
    (some, inl (subst (λ n. length (list_of b n) < 32) c.in_ok-bucket.ensures.finds.routed (omega (arith, c.list_len.ensures.len))))

pub returns-then-len-count-clause-ready : goal.returns-then-len-count-clause-ready
returns-then-len-count-clause-ready g c =
    let b = c.bucket_for_new.new.self in
    let some : 0 < bucket_count b = omega (arith, c.in_ok-bucket.ensures.finds.within) in
    (some, inr (inl (λ due. let z = due.half in absurd (omega arith))))

pub returns-then-count-most-clause-ready : goal.returns-then-count-most-clause-ready
returns-then-count-most-clause-ready g c =
    let b = c.bucket_for_new.new.self in
    let some : 0 < bucket_count b = omega (arith, c.in_ok-bucket.ensures.finds.within) in
    (some, inr (inl (λ due. let z = due.below in absurd (omega arith))))

pub returns-clause-ready : goal.returns-clause-ready
returns-clause-ready g c =
    let n = count-same c.bucket_for_new.new.self c.mark.new.self c.mark.ensures.lists in
    (omega (arith, c.in_ok-bucket.ensures.finds.within, n), inr (inr (ap (λ (x : Bool × Bool). x.1) c.mark.ensures.noted)))

pub returns-clause-grows : goal.returns-clause-grows
returns-clause-grows g c =
    let a = c.args.self.now in
    let b = c.bucket_for_new.new.self in
    let d = c.mark.new.self in
    let m = c.bucket_for_new.ensures.finds in
    let some : 0 < bucket_count b = omega (arith, c.in_ok-bucket.ensures.finds.within) in
    let all : 0 < bucket_count a → bucket_count b ≢ bucket_count a → pending_of b ≡ bucket_count b =
    λ had other. pending-is b ∙ ap (count_by (λ w. w)) (m.all had other) ∙ count-up (bucket_count b) in
    let due : IsDoublingDue c.args.most b = record { not_waiting = omega (arith, c.if-pending-gt0.false); half = omega arith; below = omega arith } in
    let long : 32 ≤ length (list_of b (bucket_number (settings_of b).skipped (bucket_count b) c.args.hash)) =
    subst (λ n. 32 ≤ length (list_of b n)) c.in_ok-bucket.ensures.finds.routed (omega (arith, c.list_len.ensures.len)) in
    let lists : HasListsOf b d = record { lists = c.mark.ensures.lists; settings = c.mark.ensures.settings; spilled = c.mark.ensures.spilled } in
    λ listed. grows-marked _ c.args.most _ a b d some m.bare all due
    (λ same. subst (λ z. 32 ≤ length (list_of z (bucket_number (settings_of z).skipped (bucket_count z) c.args.hash))) same long)
    lists (ap (λ (x : Bool × Bool). x.0) c.mark.ensures.noted) (c.in_ok-bucket.ensures.grows listed)

pub returns-clause-listed : goal.returns-clause-listed
returns-clause-listed g c = λ listed.
    let now = c.bucket_for_new.ensures.listed listed in
    listed-later (λ s (e : g.row.E.Denot). g.H.Hashes.hash_of s.hasher (g.E.Keyed.key_of e)) c.bucket_for_new.new.self c.mark.new.self c.mark.ensures.lists c.mark.ensures.settings (c.mark.ensures.spilled ∙ now.bounded) now

pub returns-clause-first : goal.returns-clause-first
returns-clause-first g c = λ none. c.mark.ensures.waiting ∙ c.bucket_for_new.ensures.finds.not_waiting none

pub returns-clause-waiting : goal.returns-clause-waiting
returns-clause-waiting g c =
    let n = count-same c.bucket_for_new.new.self c.mark.new.self c.mark.ensures.lists in
    λ some same. c.mark.ensures.waiting ∙ c.bucket_for_new.ensures.finds.waiting some (sym n ∙ same)

pub returns-clause-all : goal.returns-clause-all
returns-clause-all g c =
    let n = count-same c.bucket_for_new.new.self c.mark.new.self c.mark.ensures.lists in
    λ some other. c.mark.ensures.waiting ∙ c.bucket_for_new.ensures.finds.all some (λ e. other (n ∙ e)) ∙ ap (λ m. replicate m true) (sym n)
