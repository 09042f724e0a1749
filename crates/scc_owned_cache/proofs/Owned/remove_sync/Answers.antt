use Rattle.scc_common.specs.Contents.{entries}
use Rattle.scc_owned_cache.proofs.Caching.{found-equal, takes-found}
use Rattle.scc_owned_cache.proofs.Kept.{kept-at}
use Rattle.scc_owned_cache.proofs.LookUps.{finds-equal}
use Rattle.scc_owned_cache.proofs.Owned.remove_sync.Goals as goal

pub returns-in-Some-clause-removes : goal.returns-in-Some-clause-removes
returns-in-Some-clause-removes g c =
    let same = found-equal _ g.K.PartialEq.eq c.args.self.now.contents c.args.k.now c.in-Some.place c.remove_at.result c.in-Some.ensures c.remove_at.ensures.pair in
    record {
      step = takes-found _ g.K.PartialEq.eq c.args.self.now c.remove_at.new.self c.args.k.now c.in-Some.place c.remove_at.result c.in-Some.ensures c.remove_at.ensures.pair c.remove_at.ensures.left;
      finds = finds-equal g.met.K.Eq.laws (entries c.args.self.now.contents) (entries c.remove_at.new.self.contents) c.args.k.now c.remove_at.result.0 same c.remove_at.ensures.finds;
      state = c.remove_at.ensures.state;
      relocates = c.remove_at.ensures.relocates;
    }

pub returns-in-Some-clause-kept : goal.returns-in-Some-clause-kept
returns-in-Some-clause-kept g c =
    let same = found-equal _ g.K.PartialEq.eq c.args.self.now.contents c.args.k.now c.in-Some.place c.remove_at.result c.in-Some.ensures c.remove_at.ensures.pair in
    kept-at g.K.PartialEq.eq g.R.Rule.holds g.met.R.Rule.alike g.met.K.Eq.laws.symm c.args.k.now c.remove_at.result same c.remove_at.ensures.kept
