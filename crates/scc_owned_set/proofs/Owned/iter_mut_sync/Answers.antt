use Rattle.std.proofs.Common.{arith, ap, sym, ◌∙◌}
use Rattle.std.proofs.lemmas.Result.{on_err_weaker}
use Rattle.std.proofs.lemmas.List.{length-map}
use Rattle.scc_common.specs.PairWalks.{GoesOn}
use Rattle.scc_owned.specs.Sinks.{with_units}
use Rattle.scc_buckets.proofs.Mapped.{Holds-mapped, ShrinksWhenDue-mapped}
use Rattle.scc_table.proofs.relocations.Mapped.{RelocatesNone-mapped}
use Rattle.scc_owned_set.proofs.Sets.{noted-keys, shows, smaller-keys, unique-keys, waiting-keys}
use Rattle.scc_owned_set.proofs.Walks.{ordered-keys, callable-writes, to-key, Takes-keys, taken-keys, units-same}
use Rattle.scc_owned_set.proofs.Owned.iter_mut_sync.Goals as goal

pub iter_mut_into-requires : goal.iter_mut_into-requires
iter_mut_into-requires g c = λ es p. callable-writes _ g.F.FnMut (λ s. s.0) (λ s key value left r t h. h.met) (λ s key value h. h) GoesOn _ es (c.requires _ (rw (← c.self.view_is) (ordered-keys c.self.inside.map es p)))

pub returns : goal.returns
returns g c =
    let x = c.iter_mut_into.ensures.step in
    record {
      step = rw (← c.self.view_is)
          (_, _, _, x.3.0, ordered-keys c.self.inside.map x.0 x.4, Takes-keys (λ s. s.0) (to-key _ g.F.FnMut (λ s. s.0) (λ s key value left r t h. h.met) (λ s key value h. h)) _ x.0 x.1 x.2 _ x.3 x.5, taken-keys _ _ x.2 x.6, Holds-mapped _ _ _ _ x.7);
      still = rw (← c.self.view_is) (λ e. (shows c.iter_mut_into.new.self).buckets ∙ c.iter_mut_into.ensures.still (ap (λ ks. with_units ks) e) ∙ sym (shows c.self.inside.map).buckets);
      noted = rw (← c.self.view_is) (λ e. noted-keys _ _ (c.iter_mut_into.ensures.noted (ap (λ ks. with_units ks) e)));
      rests = rw (← c.self.view_is) (λ e. waiting-keys _ _ (c.iter_mut_into.ensures.rests (ap (λ ks. with_units ks) e)));
      smaller = rw (← c.self.view_is) (smaller-keys _ _ c.iter_mut_into.ensures.smaller);
      full = on_err_weaker c.iter_mut_into.result (λ h. omega (arith, h, length-map {B = g.row.K.Denot × Unit {0}} c.iter_mut_into.new.taken.items (λ k. (k, tt)))) c.iter_mut_into.ensures.full;
      room = c.iter_mut_into.ensures.room;
      due = rw (← c.self.view_is) (λ t. ShrinksWhenDue-mapped _ _ _ (c.iter_mut_into.ensures.due (λ e. t (units-same _ _ e))));
      relocates = rw (← c.self.view_is) (RelocatesNone-mapped _ _ _ c.iter_mut_into.ensures.relocates);
      was_unique = rw (← c.self.view_is) (unique-keys _ _ c.iter_mut_into.ensures.was_unique);
      unique = unique-keys _ _ c.iter_mut_into.ensures.unique;
    }
