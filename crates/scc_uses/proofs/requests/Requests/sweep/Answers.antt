use Rattle.std.proofs.Common.{rules}
use Rattle.scc_owned.proofs.Filtering.{takes-sort}
use Rattle.scc_uses.proofs.WindowLemmas.{expires, swept, all_live, all_found}
use Rattle.scc_uses.proofs.requests.Requests.sweep.Goals as goal

pub returns-in_err-iter_mut_sync-clause-taken : goal.returns-in_err-iter_mut_sync-clause-taken
returns-in_err-iter_mut_sync-clause-taken c =
    let s = c.iter_mut_sync.ensures.step in
    let sorts = takes-sort _ (expires c.args.self.now.width c.args.now) _ (λ p v w f' t. search rules) s.0 s.1 s.2 c.iter_mut_sync.result s.3 s.5 in
    let h = swept c.args.self.now.windows c.iter_mut_sync.new.self s.0 s.1 s.2 c.iter_mut_sync.result c.args.self.now.width c.args.now s.4 sorts s.7 in
    (s.2, s.6, h.0, h.1)

pub returns-clause-taken : goal.returns-clause-taken
returns-clause-taken c =
    let s = c.iter_mut_sync.ensures.step in
    let sorts = takes-sort _ (expires c.args.self.now.width c.args.now) _ (λ p v w f' t. search rules) s.0 s.1 s.2 c.iter_mut_sync.result s.3 s.5 in
    let h = swept c.args.self.now.windows c.iter_mut_sync.new.self s.0 s.1 s.2 c.iter_mut_sync.result c.args.self.now.width c.args.now s.4 sorts s.7 in
    (s.2, s.6, h.0, h.1)

pub returns-clause-live : goal.returns-clause-live
returns-clause-live c =
    let s = c.iter_mut_sync.ensures.step in
    let sorts = takes-sort _ (expires c.args.self.now.width c.args.now) _ (λ p v w f' t. search rules) s.0 s.1 s.2 c.iter_mut_sync.result s.3 s.5 in
    all_live c.args.self.now.windows c.iter_mut_sync.new.self s.0 s.1 s.2 c.iter_mut_sync.result c.args.self.now.width c.args.now s.4 sorts s.7 c.in_ok-iter_mut_sync.field-0 c.in_ok-iter_mut_sync.was

pub returns-clause-finds : goal.returns-clause-finds
returns-clause-finds c =
    let s = c.iter_mut_sync.ensures.step in
    let sorts = takes-sort _ (expires c.args.self.now.width c.args.now) _ (λ p v w f' t. search rules) s.0 s.1 s.2 c.iter_mut_sync.result s.3 s.5 in
    all_found c.args.self.now.windows c.iter_mut_sync.new.self s.0 s.1 s.2 c.iter_mut_sync.result c.args.self.now.width c.args.now s.4 sorts s.7 c.in_ok-iter_mut_sync.field-0 c.in_ok-iter_mut_sync.was c.iter_mut_sync.ensures.was_unique c.iter_mut_sync.ensures.unique
