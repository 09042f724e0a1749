use Rattle.std.proofs.Common.{◌≡◌, ◌∙◌, ◌*◌, ◌≤◌, inl, inr, replicate, length, true, false, sym, ap, subst, arith, rules}
use Rattle.scc_common.specs.Contents.{bucket_count, entries, hash_in, notes_of, settings_of}
use Rattle.scc_common.specs.Sizes.{IsBucketCount}
use Rattle.scc_buckets.specs.Bounded.{IsResized}
use Rattle.scc_buckets.specs.Pour.{IsRegrouped, destined_for}
use Rattle.scc_buckets.proofs.Powers.{double-array}
use Rattle.scc_buckets.proofs.Resizes.{regrouped-resizes}
use Rattle.scc_table.specs.Bounded.{IsDoublingDue, doubles}
use Rattle.scc_table.proofs.arrays.SameParts.{count-same, unchanged-same}
use Rattle.scc_table.proofs.relocations.ShortLists.{listed-anew, listed-later, listed-resized, short-doubled}
use Rattle.scc_table.proofs.resizes.Marks.{both-are}
use Rattle.scc_table.proofs.Table.grow.Goals as goal

pub install_fresh-requires-clause-array : goal.install_fresh-requires-clause-array
install_fresh-requires-clause-array g c = double-array c.bucket_count-count.result c.bucket_count-count.ensures.lawful (omega (arith, c.requires.some, c.bucket_count-count.ensures.count)) (omega (arith, c.requires.most))

pub install_fresh-requires-clause-other : goal.install_fresh-requires-clause-other
install_fresh-requires-clause-other g c = λ e. absurd (omega (arith, c.requires.some, c.bucket_count-count.ensures.count))

pub returns-in-Ok-clause-grows : goal.returns-in-Ok-clause-grows
returns-in-Ok-clause-grows g c =
    record {
      rests = (
          let array = double-array c.bucket_count-count.result c.bucket_count-count.ensures.lawful (omega (arith, c.requires.some, c.bucket_count-count.ensures.count)) (omega (arith, c.requires.most)) in
          inr (
            λ z. let n = c.in-Ok.ensures.lists.count in absurd (omega (arith, c.requires.some, c.bucket_count-count.ensures.count)),
            regrouped-resizes _ (2 * c.bucket_count-count.result) c.args.self.now c.install_fresh.new.self c.in-Ok.ensures.lists c.in-Ok.ensures.same array (λ less. absurd (omega (arith, c.bucket_count-count.ensures.count))),
          ));
      growth = (search rules);
      lowered = (λ _. both-are (notes_of c.install_fresh.new.self) false false c.in-Ok.ensures.down c.install_fresh.ensures.unmarked);
      denied = (let n = c.in-Ok.ensures.lists.count in λ _ _ z. absurd (omega (arith, c.requires.some, c.bucket_count-count.ensures.count)));
      stays = (let n = c.in-Ok.ensures.lists.count in λ z. absurd (omega (arith, c.requires.some, c.bucket_count-count.ensures.count)));
      waiting = (let n = c.in-Ok.ensures.lists.count in λ z. absurd (omega (arith, c.requires.some, c.bucket_count-count.ensures.count)));
      all = (λ ne. c.in-Ok.ensures.waiting ∙ ap (λ n. replicate n true) (sym c.in-Ok.ensures.lists.count));
      lists = (
          let hash = λ (e : g.row.E.Denot). hash_in g.H.Hashes.hash_of c.args.self.now (g.E.Keyed.key_of e) in
          λ ne. subst (λ n. IsRegrouped hash n c.args.self.now c.install_fresh.new.self) (sym c.in-Ok.ensures.lists.count) c.in-Ok.ensures.lists);
      array = (search rules);
      once = (search rules);
      noted = (search rules);
      marked = (search rules);
      unique = (search rules);
    }

pub returns-in-Err-clause-grows : goal.returns-in-Err-clause-grows
returns-in-Err-clause-grows g c =
    record {
      rests = (inl (unchanged-same c.args.self.now c.install_fresh.new.self c.in-Err.ensures.err c.in-Err.ensures.settings));
      growth = (
          let same = count-same c.args.self.now c.install_fresh.new.self c.in-Err.ensures.err in
          record { first = λ z ne. absurd (ne same); half = λ z ne. absurd (ne same); below = λ z ne. absurd (ne same); doubled = λ z ne. absurd (ne same); not_waiting = λ z ne. c.requires.not_waiting });
      lowered = (λ ne. absurd (ne (count-same c.args.self.now c.install_fresh.new.self c.in-Err.ensures.err)));
      denied = (λ _ _ _. both-are (notes_of c.install_fresh.new.self) true false c.in-Err.ensures.up c.install_fresh.ensures.unmarked);
      stays = (search rules);
      waiting = (search rules);
      all = (λ ne. absurd (ne (count-same c.args.self.now c.install_fresh.new.self c.in-Err.ensures.err)));
      lists = (λ ne. absurd (ne (count-same c.args.self.now c.install_fresh.new.self c.in-Err.ensures.err)));
      array = (let same = count-same c.args.self.now c.install_fresh.new.self c.in-Err.ensures.err in omega (arith, c.requires.some));
      once = (search rules);
      noted = (search rules);
      marked = (search rules);
      unique = (search rules);
    }

pub returns-then-is_marked-clause-grows : goal.returns-then-is_marked-clause-grows
returns-then-is_marked-clause-grows g c =
    record {
      rests = (inl (unchanged-same c.args.self.now c.note.new.self c.note.ensures.lists c.note.ensures.settings));
      growth = (
          let same = count-same c.args.self.now c.note.new.self c.note.ensures.lists in
          record { first = λ z ne. absurd (ne same); half = λ z ne. absurd (ne same); below = λ z ne. absurd (ne same); doubled = λ z ne. absurd (ne same); not_waiting = λ z ne. c.requires.not_waiting });
      lowered = (λ ne. absurd (ne (count-same c.args.self.now c.note.new.self c.note.ensures.lists)));
      denied = (λ _ _ _. c.note.ensures.noted);
      stays = (search rules);
      waiting = (search rules);
      all = (λ ne. absurd (ne (count-same c.args.self.now c.note.new.self c.note.ensures.lists)));
      lists = (λ ne. absurd (ne (count-same c.args.self.now c.note.new.self c.note.ensures.lists)));
      array = (let same = count-same c.args.self.now c.note.new.self c.note.ensures.lists in omega (arith, c.requires.some));
      once = (λ marked. count-same c.args.self.now c.note.new.self c.note.ensures.lists);
      noted = (search rules);
      marked = (search rules);
      unique = (search rules);
    }

pub returns-in-Ok-clause-doubles : goal.returns-in-Ok-clause-doubles
returns-in-Ok-clause-doubles g c =
    let a = c.args.self.now in
    let d = c.install_fresh.new.self in
    let hash = λ (e : g.row.E.Denot). hash_in g.H.Hashes.hash_of c.args.self.now (g.E.Keyed.key_of e) in
    let r = c.in-Ok.ensures in
    let size : bucket_count d ≡ 2 * bucket_count a = r.lists.count ∙ ap (λ n. 2 * n) c.bucket_count-count.ensures.count in
    let array = double-array c.bucket_count-count.result c.bucket_count-count.ensures.lawful (omega (arith, c.requires.some, c.bucket_count-count.ensures.count)) (omega (arith, c.requires.most)) in
    let due : IsDoublingDue c.args.most a = record { not_waiting = c.requires.not_waiting; half = omega arith; below = omega arith } in
    λ listed. doubles due (sym c.is_marked.ensures ∙ c.if-is_marked.false) r.down size record {
      array = subst IsBucketCount (sym r.lists.count) array;
      lists = subst (λ n. IsRegrouped hash n a d) (sym r.lists.count) r.lists;
      bounded = c.install_fresh.ensures.bounded listed.bounded;
    }

pub returns-in-Ok-clause-listed : goal.returns-in-Ok-clause-listed
returns-in-Ok-clause-listed g c =
    let a = c.args.self.now in
    let d = c.install_fresh.new.self in
    let hash = λ (e : g.row.E.Denot). hash_in g.H.Hashes.hash_of c.args.self.now (g.E.Keyed.key_of e) in
    let r = c.in-Ok.ensures in
    let size : bucket_count d ≡ 2 * bucket_count a = r.lists.count ∙ ap (λ n. 2 * n) c.bucket_count-count.ensures.count in
    let array = double-array c.bucket_count-count.result c.bucket_count-count.ensures.lawful (omega (arith, c.requires.some, c.bucket_count-count.ensures.count)) (omega (arith, c.requires.most)) in
    λ listed.
    let resized : IsResized hash a d = record {
      array = subst IsBucketCount (sym r.lists.count) array;
      lists = subst (λ n. IsRegrouped hash n a d) (sym r.lists.count) r.lists;
      bounded = c.install_fresh.ensures.bounded listed.bounded;
    } in
    listed-anew (λ s (e : g.row.E.Denot). g.H.Hashes.hash_of s.hasher (g.E.Keyed.key_of e)) a d c.install_fresh.ensures.settings
    (listed-resized hash a d resized (λ i l. subst (λ n. length (destined_for hash (settings_of a).skipped n i (entries a)) ≤ 32) (sym size) (short-doubled hash a listed i)))

pub returns-in-Err-clause-listed : goal.returns-in-Err-clause-listed
returns-in-Err-clause-listed g c = λ listed. listed-later (λ s (e : g.row.E.Denot). g.H.Hashes.hash_of s.hasher (g.E.Keyed.key_of e)) c.args.self.now c.install_fresh.new.self c.in-Err.ensures.err c.install_fresh.ensures.settings (c.install_fresh.ensures.bounded listed.bounded) listed

pub returns-then-is_marked-clause-listed : goal.returns-then-is_marked-clause-listed
returns-then-is_marked-clause-listed g c = λ listed. listed-later (λ s (e : g.row.E.Denot). g.H.Hashes.hash_of s.hasher (g.E.Keyed.key_of e)) c.args.self.now c.note.new.self c.note.ensures.lists c.note.ensures.settings (c.note.ensures.spilled ∙ listed.bounded) listed
