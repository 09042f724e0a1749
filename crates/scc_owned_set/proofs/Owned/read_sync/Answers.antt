use Rattle.scc_common.specs.Pairs.{find as find_pair}
use Rattle.scc_common.specs.Contents.{entries}
use Rattle.scc_owned_set.proofs.Sets.{found, found-some, Reads-keys}
use Rattle.scc_owned_set.proofs.Owned.read_sync.Goals as goal

pub read_sync-requires : goal.read_sync-requires
read_sync-requires g c = λ a b h. c.requires a.now (rw (← c.self.view_is) (found-some g.K.PartialEq.eq c.self.inside.map c.args.k.now (a.now, b.now) h))

pub returns : goal.returns
returns g c = record { answer = rw (← c.self.view_is, found g.K.PartialEq.eq c.self.inside.map c.args.k.now) (Reads-keys _ _ g.F.FnOnce c.args.f (λ key value r h. h) (find_pair g.K.PartialEq.eq (entries c.self.inside.map) c.args.k.now) c.read_sync.result c.read_sync.ensures.answer) }
