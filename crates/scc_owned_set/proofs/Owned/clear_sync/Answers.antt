use Rattle.std.proofs.Common.{ap, ◌∙◌}
use Rattle.std.specs.Map.{keys_of}
use Rattle.scc_buckets.proofs.Mapped.{Holds-mapped}
use Rattle.scc_owned_set.proofs.Sets.{shows, shrinks-keys, unique-keys}
use Rattle.scc_owned_set.proofs.Owned.clear_sync.Goals as goal

pub returns : goal.returns
returns g c =
    record {
      empty = (shows c.clear_sync.new.self).keys ∙ ap (λ es. keys_of es) c.clear_sync.ensures.empty;
      holds = rw (← c.self.view_is) (Holds-mapped _ c.self.inside.map _ c.clear_sync.new.self c.clear_sync.ensures.holds);
      array = rw (← c.self.view_is) (shrinks-keys _ _ (λ t. t) (λ t. t) c.clear_sync.ensures.array);
      unique = unique-keys _ _ c.clear_sync.ensures.unique;
    }
