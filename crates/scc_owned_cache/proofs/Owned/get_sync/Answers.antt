use Rattle.std.proofs.Common.{refl, ap}
use Rattle.scc_owned_cache.proofs.Entries.{same-name, refreshed-under}
use Rattle.scc_owned_cache.proofs.Owned.get_sync.Goals as goal

pub returns-in-Some : goal.returns-in-Some
returns-in-Some g c =
    ((same-name c.at.ensures.guard, λ w. refl, tt), record { same_cache = ap (λ x. x.ghost_name) c.at.ensures.guard; entry = refreshed-under g.K.PartialEq.eq c.args.self c.args.self.now c.refresh.new.self c.args.k.now c.at.result _ refl c.at.ensures.guard c.at.ensures.place c.in-Some.ensures.step c.in-Some.ensures.relocates; missing = tt; kept = tt })

pub returns-in-None : goal.returns-in-None
returns-in-None g c = ((refl, λ _. tt, c.in-None.ensures.step.1), record { same_cache = tt; entry = tt; missing = c.in-None.ensures.step.0.absent; kept = tt })
