use Rattle.std.proofs.Common.{◌≡◌, ◌==◌, ◌∙◌, ◌<◌, ℕ, inr, length, sym, ap, subst, arith, rules}
use Rattle.std.specs.List.{count_by}
use Rattle.std.specs.List.Sorted.{IsPermutation}
use Rattle.scc_common.specs.Contents.{bucket_count, entries, hash_in, list_of, settings_of, waiting_of}
use Rattle.scc_buckets.specs.Pour.{destined_for}
use Rattle.scc_common.specs.Routing.{bucket_number}
use Rattle.scc_buckets.proofs.Resizes.{absent-permuted, regrouped-resizes, rests-inserted}
use Rattle.scc_table.specs.Places.{spot_of}
use Rattle.scc_table.specs.TwoArrays.{waits_at}
use Rattle.scc_table.proofs.resizes.Growth.{grown-drained, grown-spread}
use Rattle.scc_table.proofs.places.OneList.{count-listed}
use Rattle.scc_table.proofs.arrays.SameParts.{entries-same, hash-same, pending-same, regrouped-same}
use Rattle.scc_table.proofs.Table.insert_grown.Goals as goal

pub insert_and_relocate-requires : goal.insert_and_relocate-requires
insert_and_relocate-requires g c =
    let a = c.args.self.now in
    let b = c.install.new.self in
    let d = c.note.new.self in
    let hash = λ (e : g.row.E.Denot). hash_in g.H.Hashes.hash_of a (g.E.Keyed.key_of e) in
    let reg = regrouped-same hash c.args.count a b d c.note.ensures.lists c.note.ensures.settings c.install.ensures.lists in
    let n = reg.count in
    let perm = subst (λ es. IsPermutation (entries a) es) (sym (entries-same b d c.note.ensures.lists)) c.install.ensures.same in
    record {
      within = c.bucket_at-bucket.ensures.within (omega (arith, c.requires.some, c.requires.more));
      routed = search rules;
      hashed = search rules;
      absent = absent-permuted _ (entries a) (entries d) perm c.requires.absent;
    }

pub unreachable-requires : goal.unreachable-requires
unreachable-requires g c =
    let a = c.args.self.now in
    let b = c.install.new.self in
    let d = c.note.new.self in
    let hash = λ (e : g.row.E.Denot). hash_in g.H.Hashes.hash_of a (g.E.Keyed.key_of e) in
    let reg = regrouped-same hash c.args.count a b d c.note.ensures.lists c.note.ensures.settings c.install.ensures.lists in
    let i = c.bucket_at-bucket.result in
    let at : i ≡ bucket_number (settings_of a).skipped c.args.count c.args.hash = c.bucket_at-bucket.ensures.value ∙ ap (λ s. bucket_number s.skipped (bucket_count d) c.args.hash) reg.settings ∙ ap (λ n. bucket_number (settings_of a).skipped n c.args.hash) reg.count in
    let k = g.E.Keyed.key_of c.args.entry in
    let hd = hash_in g.H.Hashes.hash_of d in
    let s = (settings_of d).skipped in
    let n = bucket_count d in
    let outer = hash-same g.H.Hashes.hash_of a d reg.settings in
    let some : 0 < n = omega (arith, c.requires.some, c.requires.more, reg.count) in
    let l : i < c.args.count = omega (arith, c.bucket_at-bucket.ensures.within some, reg.count) in
    let few : length (list_of d i) < 32 = subst (λ z. length z < 32) (sym (reg.each i l)) (subst (λ m. length (destined_for hash (settings_of a).skipped c.args.count m (entries a)) < 32) (sym at) c.requires.room) in
    let hashed : c.args.hash ≡ hd k = c.requires.hashed ∙ ap (λ (h : g.row.E-Key.Denot → ℕ). h k) (sym outer) in
    let near : bucket_number s n (hd k) ≡ i = ap (bucket_number s n) (sym hashed) ∙ sym c.bucket_at-bucket.ensures.value in
    let left : count_by (λ (e : g.row.E.Denot). bucket_number s n (hd (g.E.Keyed.key_of e)) == bucket_number s n (hd k)) (entries d) ≡ length (list_of d i) =
    ap (λ m. count_by (λ (e : g.row.E.Denot). bucket_number s n (hd (g.E.Keyed.key_of e)) == m) (entries d)) near ∙ count-listed (λ (e : g.row.E.Denot). hd (g.E.Keyed.key_of e)) d i c.bucket_at-bucket.ensures.routed in
    c.in-Err.ensures.full (some, omega arith)

pub returns : goal.returns
returns g c =
    let a = c.args.self.now in
    let b = c.install.new.self in
    let d = c.note.new.self in
    let hash = λ (e : g.row.E.Denot). hash_in g.H.Hashes.hash_of a (g.E.Keyed.key_of e) in
    let reg = regrouped-same hash c.args.count a b d c.note.ensures.lists c.note.ensures.settings c.install.ensures.lists in
    record {
      ok = (
          let perm = subst (λ es. IsPermutation (entries a) es) (sym (entries-same b d c.note.ensures.lists)) c.install.ensures.same in
          let rests = inr (λ z. absurd (omega (arith, c.requires.more, reg.count)), regrouped-resizes hash c.args.count a d reg perm c.requires.array (λ less. absurd (omega (arith, c.requires.more)))) in
          rests-inserted a d c.insert_and_relocate.new.self c.args.entry (spot_of c.insert_and_relocate.new.self c.in-Ok.place) rests c.in-Ok.ensures.ok);
      buckets = (c.insert_and_relocate.ensures.buckets ∙ reg.count);
      lowered = (c.insert_and_relocate.ensures.refused ∙ c.note.ensures.noted);
      most = (
          let n = pending-same c.install.new.self c.note.new.self c.note.ensures.waiting ∙ c.install.ensures.pending in
          omega (arith, c.insert_and_relocate.ensures.most));
      spread = (grown-spread hash c.args.count a d c.insert_and_relocate.new.self c.args.hash c.bucket_at-bucket.result reg (c.note.ensures.waiting ∙ c.install.ensures.waiting) c.bucket_at-bucket.ensures.value c.in-Ok.ensures.exact);
      drained = (grown-drained hash c.args.count a d c.insert_and_relocate.new.self c.args.hash c.bucket_at-bucket.result reg (c.note.ensures.waiting ∙ c.install.ensures.waiting) c.bucket_at-bucket.ensures.value c.in-Ok.ensures.moved);
      not_waiting = (
          let i = c.bucket_at-bucket.result in
          let at : i ≡ bucket_number (settings_of a).skipped c.args.count c.args.hash = c.bucket_at-bucket.ensures.value ∙ ap (λ s. bucket_number s.skipped (bucket_count d) c.args.hash) reg.settings ∙ ap (λ n. bucket_number (settings_of a).skipped n c.args.hash) reg.count in
          ap (waits_at (waiting_of c.insert_and_relocate.new.self)) (sym at) ∙ c.in-Ok.ensures.not_waiting);
      unique = (search rules);
    }
