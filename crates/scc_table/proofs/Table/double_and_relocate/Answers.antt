use Rattle.std.proofs.Common.{◌≡◌, ◌∙◌, ℕ, ◌*◌, ◌<◌, inl, inr, true, false, length, take, sym, ap, subst, arith, rules}
use Rattle.std.specs.List.{range_with_len, slice_get}
use Rattle.std.specs.List.Sorted.{IsPermutation}
use Rattle.scc_array.proofs.Gets.{get-some}
use Rattle.scc_common.specs.Contents.{bucket_count, entries, hash_in, list_of, lists_of, settings_of, waiting_of, Settings}
use Rattle.scc_buckets.specs.Pour.{destined_for, IsRegrouped}
use Rattle.scc_common.specs.Routing.{bucket_number}
use Rattle.scc_buckets.proofs.PairSplits.{by_answer}
use Rattle.scc_buckets.proofs.Powers.{double-array}
use Rattle.scc_buckets.proofs.Resizes.{regrouped-resizes}
use Rattle.scc_table.specs.Relocates.{left_after, AreMovedBeside, AreShortBut}
use Rattle.scc_table.specs.TwoArrays.{pending_targets, waits_at}
use Rattle.scc_table.proofs.resizes.Growth.{but-down, but-left, but-moved, but-pending, but-short, stands-after, stands-routed}
use Rattle.scc_table.proofs.arrays.SameParts.{count-same, entries-same, list-same, pending-same, regrouped-same, unchanged-same, unique-same}
use Rattle.scc_table.proofs.arrays.NoneWaits.{not_waiting-all}
use Rattle.scc_table.proofs.arrays.Views.{count-seen, lists-seen, settings-seen, not_waiting-flags}
use Rattle.scc_table.proofs.Table.double_and_relocate.Goals as goal

pub count_destined-slot-requires-clause-within : goal.count_destined-slot-requires-clause-within
count_destined-slot-requires-clause-within g c =
    let t = c.self.inside in
    let count = count-seen _ t.current t.draining.waiting.items t.draining.array c.args.self.now c.self.view_is c.self.invariant.arrays.flags in
    omega (arith, count, c.requires.within)

pub count_destined-slot-requires-clause-first : goal.count_destined-slot-requires-clause-first
count_destined-slot-requires-clause-first g c =
    let t = c.self.inside in
    let a = c.args.self.now in
    let lists = lists-seen _ t.current t.draining.waiting.items t.draining.array a c.self.view_is (not_waiting-flags a c.self.invariant c.self.view_is c.requires.pending) in
    let own = ap length (list-same t.current a lists c.args.place.bucket) in
    omega (arith, own, c.requires.slot)

pub install_relocating-requires-clause-array : goal.install_relocating-requires-clause-array
install_relocating-requires-clause-array g c =
    let n = c.bucket_count-count.result in
    let array = double-array n c.bucket_count-count.ensures.lawful (omega (arith, c.requires.within, c.bucket_count-count.ensures.count)) (omega (arith, c.requires.below, c.bucket_count-count.ensures.count)) in
    array

pub install_relocating-requires-clause-other : goal.install_relocating-requires-clause-other
install_relocating-requires-clause-other g c =
    λ z. absurd (omega (arith, c.requires.within, c.bucket_count-count.ensures.count))

pub install_relocating-requires-clause-within : goal.install_relocating-requires-clause-within
install_relocating-requires-clause-within g c =
    let n = c.bucket_count-count.result in
    let array = double-array n c.bucket_count-count.ensures.lawful (omega (arith, c.requires.within, c.bucket_count-count.ensures.count)) (omega (arith, c.requires.below, c.bucket_count-count.ensures.count)) in
    c.bucket-bucket.ensures.within (omega (arith, array.least))

pub returns-in-Ok : goal.returns-in-Ok
returns-in-Ok g c =
    let a = c.args.self.now in
    let n = c.bucket_count-count.result in
    let array = double-array n c.bucket_count-count.ensures.lawful (omega (arith, c.requires.within, c.bucket_count-count.ensures.count)) (omega (arith, c.requires.below, c.bucket_count-count.ensures.count)) in
    let b = c.install_relocating.new.self in
    let m = c.note.new.self in
    let d = c.relocate_some.new.self in
    let k = c.bucket-bucket.result in
    let hash = λ (e : g.row.E.Denot). hash_in g.H.Hashes.hash_of a (g.E.Keyed.key_of e) in
    let done = c.in-Ok.ensures in
    let rel = c.relocate_some.ensures in
    let counted : n ≡ bucket_count a = c.bucket_count-count.ensures.count in
    let l : k < 2 * n = c.bucket-bucket.ensures.within (omega (arith, array.least)) in
    let lists = rel.lists ∙ c.note.ensures.lists in
    let settings = rel.settings ∙ c.note.ensures.settings in
    let reg : IsRegrouped hash (2 * n) a d = regrouped-same hash (2 * n) a b d lists settings done.lists in
    let set = settings-seen _ c.self.inside.current c.self.inside.draining.waiting.items c.self.inside.draining.array a c.self.view_is in
    let s : (settings_of c.self.inside.current).skipped ≡ (settings_of a).skipped = ap (λ z. z.skipped) (sym set) in
    let at : k ≡ bucket_number (settings_of a).skipped (2 * n) c.args.hash = rw c.router.ensures at c.bucket-bucket.ensures.value ∙ ap (λ z. bucket_number z (2 * n) c.args.hash) s in
    record {
      rests = (
          let perm = subst (λ es. IsPermutation (entries a) es) (sym (entries-same b d lists)) done.same in
          inr (λ z. let e = reg.count in absurd (omega (arith, array.least)), regrouped-resizes hash (2 * n) a d reg perm array (λ less. absurd (omega arith))));
      doubled = (λ ne. let e = reg.count in omega arith);
      lowered = (λ _. c.relocate_some.ensures.noted ∙ c.note.ensures.noted);
      denied = (λ z. let e = reg.count in absurd (omega (arith, array.least)));
      within = (let e = reg.count in omega arith);
      here = (
          let es = list_of a c.args.place.bucket in
          let x = get-some es c.args.place.slot c.requires.slot in
          let t = (settings_of a).skipped in
          let twice : 2 * n ≡ 2 * bucket_count a = ap (λ z. 2 * z) counted in
          let near : k ≡ bucket_number t (2 * bucket_count a) c.args.hash = at ∙ ap (λ z. bucket_number t z c.args.hash) twice in
          let list : list_of d k ≡ destined_for hash t (2 * bucket_count a) k (entries a) = reg.each k l ∙ ap (λ z. destined_for hash t z k (entries a)) twice in
          let lists-now = lists-seen _ c.self.inside.current c.self.inside.draining.waiting.items c.self.inside.draining.array a c.self.view_is (not_waiting-flags a c.self.invariant c.self.view_is c.requires.pending) in
          let own : es ≡ list_of c.self.inside.current c.args.place.bucket = list-same c.self.inside.current a lists-now c.args.place.bucket in
          let hashes = λ (s : Settings g.row.H.Denot). let h : g.row.E.Denot → ℕ = λ e. g.H.Hashes.hash_of s.hasher (g.E.Keyed.key_of e) in h in
          let few = c.count_destined-slot.ensures ∙ ap (λ xs. length (destined_for (hashes (settings_of c.self.inside.current)) (settings_of c.self.inside.current).skipped (2 * n) k (take c.args.place.slot xs))) (sym own)
          ∙ ap (λ s. length (destined_for (hashes s) (settings_of c.self.inside.current).skipped (2 * n) k (take c.args.place.slot es))) (sym set) in
          let slot : c.count_destined-slot.result ≡ length (destined_for hash t (2 * bucket_count a) k (take c.args.place.slot es)) = few ∙ ap (λ z. length (destined_for hash z (2 * n) k (take c.args.place.slot es))) s ∙ ap (λ z. length (destined_for hash t z k (take c.args.place.slot es))) twice in
          ap (slice_get (list_of d k)) slot ∙ stands-after hash a d c.bucket_count-count.ensures.routed c.args.place.bucket c.args.place.slot c.args.hash x.0 x.1 (c.requires.hashed x.0 x.1) k near list);
      routed = (at ∙ ap (λ z. bucket_number (settings_of a).skipped z c.args.hash) (sym reg.count));
      not_waiting = (
          let down : waits_at (waiting_of b) k ≡ false = but-down (2 * n) k array.least l b done.waiting in
          by_answer (waits_at (waiting_of d) k) (λ q. absurd (let z : true ≡ false = sym (ap (λ w. waits_at w k) (sym c.note.ensures.waiting) ∙ rel.fewer k q) ∙ down in cc)) (λ q. q));
      none = (λ z. let e = reg.count in absurd (omega (arith, array.least)));
      most = (
          let p = but-pending (2 * n) k array.least l b done.waiting in
          let q = pending-same b m c.note.ensures.waiting in
          λ ne. let e = reg.count in omega (arith, rel.most));
      spread = (
          let regb = regrouped-same hash (2 * n) a b m c.note.ensures.lists c.note.ensures.settings done.lists in
          let waiting = c.note.ensures.waiting ∙ done.waiting in
          λ ne short.
          let all : AreShortBut hash (2 * n) k a = subst (λ z. AreShortBut hash z k a) reg.count short in
          let few = but-short (2 * n) k array.least l m waiting hash a regb all in
          but-left (2 * n) k array.least l m waiting (pending_targets d) (rel.exact few) ∙ ap (λ z. left_after k (range_with_len 0 z)) (sym reg.count));
      drained = (
          let waiting = c.note.ensures.waiting ∙ done.waiting in
          λ ne. subst (λ z. AreMovedBeside k (range_with_len 0 z) d) (sym reg.count) (but-moved (2 * n) k array.least l m waiting d rel.moved));
      unique = (unique-same b d lists g.E.Key.PartialEq.eq g.E.Keyed.key_of done.unique);
    }

pub returns-in-Err : goal.returns-in-Err
returns-in-Err g c =
    let a = c.args.self.now in
    let b = c.install_relocating.new.self in
    let d = c.note-in-Err.new.self in
    record {
      rests = (
          let same : b ≡ a = c.in-Err.ensures.err in
          let lists = c.note-in-Err.ensures.lists ∙ ap lists_of same in
          let settings = c.note-in-Err.ensures.settings ∙ ap settings_of same in
          let count = count-same a d lists in
          inl (unchanged-same a d lists settings));
      doubled = (
          let same : b ≡ a = c.in-Err.ensures.err in
          let lists = c.note-in-Err.ensures.lists ∙ ap lists_of same in
          let settings = c.note-in-Err.ensures.settings ∙ ap settings_of same in
          let count = count-same a d lists in
          λ ne. absurd (ne count));
      lowered = (
          let same : c.install_relocating.new.self ≡ c.args.self.now = c.in-Err.ensures.err in
          λ ne. absurd (ne (count-same c.args.self.now c.note-in-Err.new.self (c.note-in-Err.ensures.lists ∙ ap lists_of same))));
      denied = (λ _. c.note-in-Err.ensures.noted);
      within = (
          let same : b ≡ a = c.in-Err.ensures.err in
          let lists = c.note-in-Err.ensures.lists ∙ ap lists_of same in
          let settings = c.note-in-Err.ensures.settings ∙ ap settings_of same in
          let count = count-same a d lists in
          omega (arith, c.requires.within));
      here = (
          let same : b ≡ a = c.in-Err.ensures.err in
          let lists = c.note-in-Err.ensures.lists ∙ ap lists_of same in
          let settings = c.note-in-Err.ensures.settings ∙ ap settings_of same in
          let count = count-same a d lists in
          ap (λ z. slice_get z c.args.place.slot) (list-same a d lists c.args.place.bucket));
      routed = (
          let same : b ≡ a = c.in-Err.ensures.err in
          let lists = c.note-in-Err.ensures.lists ∙ ap lists_of same in
          let settings = c.note-in-Err.ensures.settings ∙ ap settings_of same in
          let count = count-same a d lists in
          let hash = λ (e : g.row.E.Denot). hash_in g.H.Hashes.hash_of a (g.E.Keyed.key_of e) in
          let x = get-some (list_of a c.args.place.bucket) c.args.place.slot c.requires.slot in
          stands-routed hash a d c.bucket_count-count.ensures.routed c.args.place.bucket c.args.place.slot c.args.hash x.0 x.1 (c.requires.hashed x.0 x.1) ∙ ap (λ z. bucket_number (settings_of a).skipped z c.args.hash) (sym count));
      not_waiting = (
          let same : b ≡ a = c.in-Err.ensures.err in
          let lists = c.note-in-Err.ensures.lists ∙ ap lists_of same in
          let settings = c.note-in-Err.ensures.settings ∙ ap settings_of same in
          let count = count-same a d lists in
          ap (λ w. waits_at w c.args.place.bucket) (c.note-in-Err.ensures.waiting ∙ ap waiting_of same) ∙ not_waiting-all a c.requires.pending c.args.place.bucket);
      none = (
          let same : b ≡ a = c.in-Err.ensures.err in
          let lists = c.note-in-Err.ensures.lists ∙ ap lists_of same in
          let settings = c.note-in-Err.ensures.settings ∙ ap settings_of same in
          let count = count-same a d lists in
          λ z. pending-same a d (c.note-in-Err.ensures.waiting ∙ ap waiting_of same) ∙ c.requires.pending);
      most = (
          let same : b ≡ a = c.in-Err.ensures.err in
          let lists = c.note-in-Err.ensures.lists ∙ ap lists_of same in
          let settings = c.note-in-Err.ensures.settings ∙ ap settings_of same in
          let count = count-same a d lists in
          λ ne. absurd (ne count));
      spread = (
          let same : b ≡ a = c.in-Err.ensures.err in
          let lists = c.note-in-Err.ensures.lists ∙ ap lists_of same in
          let settings = c.note-in-Err.ensures.settings ∙ ap settings_of same in
          let count = count-same a d lists in
          λ ne. absurd (ne count));
      drained = (
          let same : b ≡ a = c.in-Err.ensures.err in
          let count = count-same a d (c.note-in-Err.ensures.lists ∙ ap lists_of same) in
          λ ne. absurd (ne count));
      unique = (search rules);
    }
