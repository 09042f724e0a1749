use Rattle.std.proofs.Common.{refl}
use Rattle.scc_common.specs.Pairs.{find as find_pair}
use Rattle.scc_common.specs.Contents.{entries}
use Rattle.scc_owned_set.proofs.Sets.{found, is-found, on-key, RemovesIf-keys, finds-keys, shrinks-found, unique-keys}
use Rattle.scc_owned_set.proofs.Owned.remove_if_sync.Goals as goal

pub remove_if_sync-pair-requires : goal.remove_if_sync-pair-requires
remove_if_sync-pair-requires g c = λ p h x e. c.requires (rw (← c.self.view_is) (is-found g.K.PartialEq.eq c.self.inside.map c.args.k.now (rw h refl)))

pub returns-clause-step : goal.returns-clause-step
returns-clause-step g c = rw (← c.self.view_is, c.key_alone.ensures, found g.K.PartialEq.eq c.self.inside.map c.args.k.now)
    (RemovesIf-keys _ _ g.F.FnOnce c.args.f (λ value left b h. h) g.K.PartialEq.eq c.self.inside.map c.args.k.now c.remove_if_sync-pair.result c.remove_if_sync-pair.new.self (find_pair g.K.PartialEq.eq (entries c.self.inside.map) c.args.k.now) c.remove_if_sync-pair.ensures.step)

pub returns-clause-finds : goal.returns-clause-finds
returns-clause-finds g c = rw (← c.self.view_is, c.key_alone.ensures) (on-key c.remove_if_sync-pair.result (finds-keys _ _ _ _ _) c.remove_if_sync-pair.ensures.finds)

pub returns-clause-unique : goal.returns-clause-unique
returns-clause-unique g c = unique-keys _ _ c.remove_if_sync-pair.ensures.unique

pub returns-clause-array : goal.returns-clause-array
returns-clause-array g c = rw (← c.self.view_is, c.key_alone.ensures) (shrinks-found _ _ c.remove_if_sync-pair.result c.remove_if_sync-pair.ensures.array)
