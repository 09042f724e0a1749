use Rattle.std.proofs.Common.{rules, nat_eq, not}
use Rattle.scc_owned.proofs.Filtering.{retains-filter, finds-filtered}
use Rattle.std.specs.Cmp.{nat_eq_equiv}
use Rattle.scc_uses.proofs.RouteLemmas.{withdrawn}
use Rattle.scc_uses.proofs.routing.Routes.withdraw.Goals as goal

pub returns : goal.returns
returns c d =
    let s = rw c.self.view_is at c.retain_sync.ensures.step in
    let u = rw c.self.view_is at c.retain_sync.ensures.was_unique in
    let stay = retains-filter _ (λ p. not (nat_eq p.1.next_hop c.args.next_hop)) _ (λ p b w f' t. search rules) s.0 s.1 s.2 s.4 in
    withdrawn c.args.self.now c.retain_sync.new.self c.args.next_hop d
    (finds-filtered nat_eq_equiv (λ p. not (nat_eq p.1.next_hop c.args.next_hop)) c.args.self.now c.retain_sync.new.self s.0 s.1 s.3 stay s.5 u c.retain_sync.ensures.unique d)
