use Rattle.std.proofs.Common.{◌≡◌, length, ap, subst, sym, ◌∙◌}
use Rattle.scc_common.specs.Contents.{key_hash}
use Rattle.scc_owned_cache.proofs.Collecting.{collected-maximum, collected-settings}
use Rattle.scc_owned_cache.proofs.make.Owned+K+V+H.try_from_iter.Goals as goal

pub returns-clause-items : goal.returns-clause-items
returns-clause-items g c =
    let ran = c.in-Ok.ensures.ran in
    let count : c.len-count.result ≡ length ran.1 = c.len-count.ensures ∙ ran.4.1 in
    let last = ran.3.2 tt in
    let hash = key_hash g.H.BuildHasher g.H.Hasher.Hasher g.K.Hash.hash_input in
    let made = c.in_ok-made.made in (
      ran.0,
      ran.1,
      ran.2,
      (last.0, (ran.3.0, ran.3.1, last.1)),
      record {
        made = made;
        empty = c.in_ok-made.ensures.made.entries;
        none = λ z. c.in_ok-made.ensures.made.none (count ∙ z);
        size = λ l. rw (← count) (c.in_ok-made.ensures.made.size (rw count l));
        maximum = rw (← count) c.in_ok-made.ensures.made.maximum;
        asked = ap (λ s. s.asked) c.in_ok-made.ensures.made.settings;
        reserved = ap (λ s. s.reserved) c.in_ok-made.ensures.made.settings;
        skipped = ap (λ s. s.skipped) c.in_ok-made.ensures.made.settings;
        noted = c.in_ok-made.ensures.made.noted;
        waiting = c.in_ok-made.ensures.made.waiting;
        settings = collected-settings g.K.PartialEq.eq hash made _ _ c.in_ok-put_all.ensures.puts;
        most = collected-maximum g.K.PartialEq.eq hash made _ _ c.in_ok-put_all.ensures.puts;
        run = rw (← ran.4.0) c.in_ok-put_all.ensures.puts;
      },
    )

pub returns-clause-hasher : goal.returns-clause-hasher
returns-clause-hasher g c =
    let hash = key_hash g.H.BuildHasher g.H.Hasher.Hasher g.K.Hash.hash_input in
    let kept = collected-settings g.K.PartialEq.eq hash c.in_ok-made.made _ _ c.in_ok-put_all.ensures.puts in
    subst g.H.Default.is_default (sym (ap (λ s. s.hasher) (kept ∙ c.in_ok-made.ensures.made.settings))) c.default.ensures
