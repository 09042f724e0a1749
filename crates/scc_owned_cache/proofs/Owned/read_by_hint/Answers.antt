use Rattle.scc_owned_cache.proofs.Kept.{reads-kept}
use Rattle.scc_owned_cache.proofs.Owned.read_by_hint.Goals as goal

pub f-requires : goal.f-requires
f-requires g c = c.requires _ _ c.in-Some.ensures.found c.in-Some.ensures.kept

pub returns-in-Some : goal.returns-in-Some
returns-in-Some g c =
    record { answer = record { key = _; value = _; shows = c.in-Some.ensures.found; met = c.f.ensures }; kept = reads-kept g.K.PartialEq.eq g.R.Rule.holds g.met.R.Rule.alike g.met.K.Eq.laws.symm _ c.args.self.now c.args.k.now g.F.FnOnce c.args.f _ _ c.in-Some.ensures.found c.in-Some.ensures.kept _ c.f.ensures }
