use Rattle.std.proofs.Common.{◌≡◌, sym, rules, ◌++◌}
use Rattle.scc_play.proofs.DrainedKeys.{all-taken}
use Rattle.scc_play.proofs.printed.sets.OwnedU64Printed.take_items.Goals as goal

pub returns : goal.returns
returns g c =
    let s = c.iter_mut_sync.ensures.step in
    let all : s.2 ≡ s.0 = all-taken _ (λ f k v f' t. search rules) _ s.0 s.1 s.2 c.iter_mut_sync.result s.3 (sym c.if-is_err.ensures.value) s.5 in
    let taken : c.iter_mut_sync.new.taken.items ≡ c.args.items.now.items ++ s.0 = search rules in
    (s.0, taken, s.4)
