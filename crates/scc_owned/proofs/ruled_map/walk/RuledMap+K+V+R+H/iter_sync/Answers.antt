use Rattle.std.proofs.Common.{drop, subst, sym, take, take-append-drop, true}
use Rattle.scc_common.specs.Contents.{entries}
use Rattle.scc_common.specs.Walks.{CallableWhile}
use Rattle.scc_common.proofs.WalkLemmas.{turn-front}
use Rattle.scc_owned.proofs.RuledPairs.{walks-all}
use Rattle.scc_owned.proofs.ruled_map.walk.RuledMap+K+V+R+H.iter_sync.Goals as goal

pub walk_while-requires : goal.walk_while-requires
walk_while-requires g c = λ n kept.
    let es = entries c.args.self.now in
    turn-front _ _ (take n es) (drop n es) (subst (λ z. CallableWhile g.F.FnMut true c.args.f z) (sym (take-append-drop n es)) c.requires)

pub returns : goal.returns
returns g c =
    let x = c.walk_while.ensures.walks in
    (_, walks-all x.0 (entries c.args.self.now) _ x.2 x.3)
