use Rattle.std.proofs.Common.{rules, ◌≡◌, ℕ, None, refl, ◌∙◌, nat_eq}
use Rattle.scc_common.specs.Contents.{entries}
use Rattle.scc_common.specs.Pairs.{find}
use Rattle.scc_uses.proofs.WindowLemmas.{hit_again, hit_refused, untouched}
use Rattle.scc_uses.proofs.requests.Requests.hit.Goals as goal

pub returns-in-Some-clause-hit : goal.returns-in-Some-clause-hit
returns-in-Some-clause-hit c =
    hit_again c.args.self.now.windows c.update_sync-counted.new.self _ _ c.args.self.now.width c.args.user c.args.now c.in-Some.hits (λ p u w at. search rules) (find nat_eq (entries c.args.self.now.windows) c.args.user) refl (rw c.in-Some.is at c.update_sync-counted.ensures.step)

pub returns-in_err-insert_sync-clause-refused : goal.returns-in_err-insert_sync-clause-refused
returns-in_err-insert_sync-clause-refused c =
    let none : c.update_sync-counted.result ≡ None = search rules in
    let before = untouched c.args.self.now.windows c.update_sync-counted.new.self _ _ c.args.user (find nat_eq (entries c.args.self.now.windows) c.args.user) c.update_sync-counted.result none c.update_sync-counted.ensures.step in
    let after = hit_refused c.update_sync-counted.new.self c.insert_sync.new.self _ _ c.in_err-insert_sync.field-0.0 c.insert_sync.ensures.unique c.in_err-insert_sync.ensures.step in
    let h : (q : ℕ) → find nat_eq (entries c.insert_sync.new.self) q ≡ find nat_eq (entries c.args.self.now.windows) q = λ q. after q ∙ before q in
    search (rules, h)
