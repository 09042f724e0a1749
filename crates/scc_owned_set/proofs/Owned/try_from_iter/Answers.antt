use Rattle.std.proofs.Common.{ap, subst, sym, ◌∙◌}
use Rattle.std.specs.List.{IsDistinct}
use Rattle.scc_owned_set.proofs.Owned.try_from_iter.Goals as goal

pub insert_all-requires : goal.insert_all-requires
unfolding IsDistinct
insert_all-requires g c = rw c.in_ok-made.ensures.entries tt

pub returns-clause-items : goal.returns-clause-items
returns-clause-items g c =
    let ran = c.in-Ok.ensures.ran in
    let count = c.len.ensures ∙ ran.4.1 in
    let last = ran.3.2 tt in
    let made = c.in_ok-made.made in
    let none = c.in_ok-made.ensures.entries in
    let finds = c.in-Ok-insert_all.ensures.finds in (
      ran.0,
      ran.1,
      ran.2,
      (last.0, (ran.3.0, ran.3.1, last.1)),
      record {
        made = made;
        empty = none;
        none = λ z. c.in_ok-made.ensures.none (count ∙ z);
        size = λ l. rw (← count) (c.in_ok-made.ensures.size (rw count l));
        asked = ap (λ s. s.asked) c.in_ok-made.ensures.settings;
        reserved = ap (λ s. s.reserved) c.in_ok-made.ensures.settings;
        skipped = ap (λ s. s.skipped) c.in_ok-made.ensures.settings;
        noted = c.in_ok-made.ensures.noted;
        waiting = c.in_ok-made.ensures.waiting;
        settings = c.in-Ok-insert_all.ensures.settings;
        run = rw (← ran.4.0) c.in-Ok-insert_all.ensures.run;
      },
      record { finds = λ k. rw (← ran.4.0) (rw none at finds k) },
    )

pub returns-clause-hasher : goal.returns-clause-hasher
returns-clause-hasher g c = subst g.H.Default.is_default (sym (ap (λ s. s.hasher) (c.in-Ok-insert_all.ensures.settings ∙ c.in_ok-made.ensures.settings))) c.default.ensures
