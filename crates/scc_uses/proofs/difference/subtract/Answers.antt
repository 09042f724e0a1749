use Rattle.std.proofs.Common.{rules}
use Rattle.scc_uses.proofs.KeyLemmas.{retains-filter, finds-difference, lacks, turned}
use Rattle.scc_uses.proofs.difference.subtract.Goals as goal

pub returns : goal.returns
returns g c =
    let s = c.retain_sync.ensures.step in
    let stay = retains-filter _ (lacks g.met.K.Eq.laws c.args.first.now c.retain_sync.new.self c.args.second.now) _ (λ k b f' t. search (rules, turned)) s.0 s.1 s.2 s.4 in
    finds-difference g.met.K.Eq.laws c.args.first.now c.retain_sync.new.self c.args.second.now s.0 s.1 s.3 stay s.5 c.retain_sync.ensures.was_unique c.retain_sync.ensures.unique
