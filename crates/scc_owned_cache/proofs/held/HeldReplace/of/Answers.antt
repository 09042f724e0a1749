use Rattle.std.proofs.Common.{◌∙◌, ap}
use Rattle.scc_owned_cache.specs.Lends.{with_key_at}
use Rattle.scc_owned_cache.proofs.Entries.{inner-made, last_alike, replaced_as}
use Rattle.scc_owned_cache.proofs.held.HeldReplace.of.Goals as goal

pub refresh-requires : goal.refresh-requires
refresh-requires g c = rw c.lend.ensures.value (rw c.look.ensures at c.hash_of-hash.ensures)

pub replace_key_at-old-requires-clause-within : goal.replace_key_at-old-requires-clause-within
replace_key_at-old-requires-clause-within g c = rw (c.lend-in-Some.ensures.value ∙ g.G.Guard.inner_law c.args.guard c.refresh.new.self) c.in-Some.ensures.step.within

pub replace_key_at-old-requires-clause-same : goal.replace_key_at-old-requires-clause-same
replace_key_at-old-requires-clause-same g c = rw (c.lend-in-Some.ensures.value ∙ g.G.Guard.inner_law c.args.guard c.refresh.new.self) (λ p got. last_alike _ g.K.PartialEq.eq c.lend.result.now c.refresh.new.self c.args.k c.in-Some.place p c.in-Some.ensures.step got)

pub at-requires : goal.at-requires
at-requires g c = rw (g.G.Guard.inner_law (g.G.Guard.with_inner c.args.guard c.refresh.new.self) c.replace_key_at-old.new.self) c.replace_key_at-old.ensures.within

pub of_key-requires : goal.of_key-requires
of_key-requires g c =
    let step = c.in-None.ensures.step in
    let is = g.G.Guard.inner_law c.args.guard c.refresh.new.self ∙ step.1 ∙ c.lend.ensures.value in
    record { lacking = rw is (rw c.lend.ensures.value at step.0); hashed = rw is (rw c.look.ensures at c.hash_of-hash.ensures) }

pub returns-in-Some-clause-step : goal.returns-in-Some-clause-step
returns-in-Some-clause-step g c =
    let lent = c.lend-in-Some.ensures.value ∙ g.G.Guard.inner_law c.args.guard c.refresh.new.self in
    let made = inner-made g.G.Guard c.at.ensures.guard ∙ c.replace_key_at-old.ensures.new ∙ ap (λ x. with_key_at x c.in-Some.place c.args.k) lent in
    let old = rw lent at c.replace_key_at-old.ensures.old in
    let step = rw c.lend.ensures.value at c.in-Some.ensures.step in
    let relocates = rw c.lend.ensures.value at c.in-Some.ensures.relocates in
    replaced_as g.K.PartialEq.eq (g.G.Guard.inner c.args.guard) c.refresh.new.self c.args.k c.replace_key_at-old.result c.at.result _ c.at.ensures.place step relocates old made

pub returns-in-Some-clause-state : goal.returns-in-Some-clause-state
returns-in-Some-clause-state g c = rw (inner-made g.G.Guard c.at.ensures.guard) c.replace_key_at-old.ensures.state

pub returns-in-None-clause-step : goal.returns-in-None-clause-step
returns-in-None-clause-step g c =
    let step = c.in-None.ensures.step in
    let lacking = rw c.lend.ensures.value at step.0 in
    record { contents = inner-made g.G.Guard c.of_key.ensures.guard ∙ step.1 ∙ c.lend.ensures.value; absent = lacking.absent; key = c.of_key.ensures.key }

pub returns-in-None-clause-state : goal.returns-in-None-clause-state
returns-in-None-clause-state g c = rw (inner-made g.G.Guard c.of_key.ensures.guard) c.refresh.ensures.state
