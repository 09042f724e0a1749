use Rattle.std.proofs.Common.{◌≡◌, true, sym, rules, ◌++◌}
use Rattle.scc_owned.proofs.Filtering.{takes-sort}
use Rattle.scc_play.proofs.Drained.{drained}
use Rattle.scc_play.proofs.printed.maps.OwnedU64U64Printed.take_items.Goals as goal

pub returns : goal.returns
returns g c =
    let s = c.iter_mut_sync.ensures.step in
    let sorts = takes-sort _ (λ p. true) _ (λ p v w f' t. search rules) s.0 s.1 s.2 c.iter_mut_sync.result s.3 s.5 in
    let all = drained _ s.0 s.1 s.2 c.iter_mut_sync.result (sym c.if-is_err.ensures.value) s.4 sorts in
    let taken : c.iter_mut_sync.new.taken.items ≡ c.args.items.now.items ++ s.2 = search rules in
    (s.2, taken, all)
