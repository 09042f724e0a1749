use Rattle.scc_owned_cache.proofs.Caching.{shows-pair}
use Rattle.scc_owned_cache.proofs.Kept.{reads-kept}
use Rattle.scc_owned_cache.proofs.Owned.read_sync.Goals as goal

pub f-requires : goal.f-requires
f-requires g c = c.requires c.pair_at.result.0 c.pair_at.result.1 (shows-pair _ g.K.PartialEq.eq c.args.self.now.contents c.args.k.now _ _ c.in-Some.ensures c.pair_at.ensures.pair) c.pair_at.ensures.kept

pub returns-in-Some : goal.returns-in-Some
returns-in-Some g c =
    let here = shows-pair _ g.K.PartialEq.eq c.args.self.now.contents c.args.k.now _ _ c.in-Some.ensures c.pair_at.ensures.pair in
    record {
      answer = record { key = c.pair_at.result.0; value = c.pair_at.result.1; shows = here; met = c.f.ensures };
      kept = reads-kept g.K.PartialEq.eq g.R.Rule.holds g.met.R.Rule.alike g.met.K.Eq.laws.symm _ c.args.self.now c.args.k.now g.F.FnOnce c.args.f c.pair_at.result.0 c.pair_at.result.1 here c.pair_at.ensures.kept _ c.f.ensures;
    }
