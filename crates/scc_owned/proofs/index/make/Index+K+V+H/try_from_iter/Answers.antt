use Rattle.std.proofs.Common.{◌≡◌, length, ap, subst, sym, ◌∙◌}
use Rattle.scc_common.specs.Contents.{key_hash}
use Rattle.scc_owned.proofs.IndexCollecting.{collected-settings, collected-distinct, collected-finds, none-unique}
use Rattle.scc_owned.proofs.index.make.Index+K+V+H.try_from_iter.Goals as goal

pub returns-clause-items : goal.returns-clause-items
returns-clause-items g c =
    let ran = c.in-Ok.ensures.ran in
    let count : c.len.result ≡ length ran.1 = c.len.ensures ∙ ran.4.1 in
    let last = ran.3.2 tt in
    let made = c.in_ok-made.made in
    let none = c.in_ok-made.ensures.entries in
    let hash = key_hash g.H.BuildHasher g.H.Hasher.Hasher g.K.Hash.hash_input in
    let finds = collected-finds g.met.K.Eq.laws hash made _ _ c.in-Ok-insert_all.ensures.run (none-unique g.K.PartialEq.eq made none) none in (
      ran.0,
      ran.1,
      ran.2,
      (last.0, (ran.3.0, ran.3.1, last.1)),
      record {
        made = made;
        empty = none;
        none = λ z. c.in_ok-made.ensures.none (count ∙ z);
        size = λ l. rw (← count) (c.in_ok-made.ensures.size (rw count l));
        asked = ap (λ s. s.asked) c.in_ok-made.ensures.settings;
        reserved = ap (λ s. s.reserved) c.in_ok-made.ensures.settings;
        skipped = ap (λ s. s.skipped) c.in_ok-made.ensures.settings;
        noted = c.in_ok-made.ensures.noted;
        waiting = c.in_ok-made.ensures.waiting;
        settings = collected-settings g.met.K.Eq.laws hash made _ _ c.in-Ok-insert_all.ensures.run;
        run = rw (← ran.4.0) c.in-Ok-insert_all.ensures.run;
      },
      rw (← ran.4.0) finds,
    )

pub returns-clause-hasher : goal.returns-clause-hasher
returns-clause-hasher g c =
    let hash = key_hash g.H.BuildHasher g.H.Hasher.Hasher g.K.Hash.hash_input in
    let kept = collected-settings g.met.K.Eq.laws hash c.in_ok-made.made _ _ c.in-Ok-insert_all.ensures.run in
    subst g.H.Default.is_default (sym (ap (λ s. s.hasher) (kept ∙ c.in_ok-made.ensures.settings))) c.default.ensures

pub returns-clause-unique : goal.returns-clause-unique
returns-clause-unique g c =
    let made = c.in_ok-made.made in
    collected-distinct g.met.K.Eq.laws (key_hash g.H.BuildHasher g.H.Hasher.Hasher g.K.Hash.hash_input) made _ _ c.in-Ok-insert_all.ensures.run (none-unique g.K.PartialEq.eq made c.in_ok-made.ensures.entries)
