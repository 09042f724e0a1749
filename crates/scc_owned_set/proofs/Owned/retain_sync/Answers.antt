use Rattle.std.specs.Prelude.{⊤}
use Rattle.scc_buckets.proofs.Mapped.{Holds-mapped}
use Rattle.scc_owned_set.proofs.Sets.{shrinks-keys, unique-keys}
use Rattle.scc_owned_set.proofs.Walks.{ordered-keys, callable-writes, to-key, Retains-keys}
use Rattle.scc_owned_set.proofs.Owned.retain_sync.Goals as goal

pub retain_sync-requires : goal.retain_sync-requires
retain_sync-requires g c = λ es p. callable-writes _ g.F.FnMut (λ s. s.0) (λ s key value left r t h. h.met) (λ s key value h. h) (λ a. ⊤) _ es (c.requires _ (rw (← c.self.view_is) (ordered-keys c.self.inside.map es p)))

pub returns : goal.returns
returns g c =
    let x = c.retain_sync.ensures.step in
    record {
      step = rw (← c.self.view_is) (_, _, x.2.0, ordered-keys c.self.inside.map x.0 x.3, Retains-keys (λ s. s.0) (to-key _ g.F.FnMut (λ s. s.0) (λ s key value left r t h. h.met) (λ s key value h. h)) _ x.0 x.1 x.2 x.4, Holds-mapped _ _ _ _ x.5);
      array = rw (← c.self.view_is) (shrinks-keys _ _ (λ t. t) (λ t. t) c.retain_sync.ensures.array);
      was_unique = rw (← c.self.view_is) (unique-keys _ _ c.retain_sync.ensures.was_unique);
      unique = unique-keys _ _ c.retain_sync.ensures.unique;
    }
