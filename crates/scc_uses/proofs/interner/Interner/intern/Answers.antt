use Rattle.std.proofs.Common.{rules, arith, ◌≡◌, ◌++◌, ◌∷◌, [], length, None, sym, ◌∙◌}
use Rattle.scc_uses.specs.Interning.{number_in}
use Rattle.std.proofs.lemmas.Grind.{common_steps}
use Rattle.scc_uses.proofs.WordLemmas.{is_number, added, added_number, refused, on_ok}
use Rattle.scc_uses.proofs.interner.Interner.intern.Goals as goal

pub returns-in-Some-clause-number : goal.returns-in-Some-clause-number
returns-in-Some-clause-number c =
    let read : c.read_sync.result ≡ number_in c.self.inside.numbers c.args.word = search rules in
    rw (← c.self.view_is) (is_number c.self.inside.numbers c.self.inside.words.items c.args.word c.in-Some.number c.self.invariant (sym read ∙ c.in-Some.is))

pub invariant_of-self-then-is_err-2 : goal.invariant_of-self-then-is_err-2
invariant_of-self-then-is_err-2 c =
    let same : c.pop.new.self.items ≡ c.self.inside.words.items = grind (arith, common_steps) in
    rw same (refused c.self.inside.numbers c.insert_sync.new.self c.self.inside.words.items c.self.invariant c.args.word c.in-Ok.number _ c.insert_sync.result c.insert_sync.ensures.unique (search rules) c.insert_sync.ensures.step)

pub invariant_of-self-else-is_err-2 : goal.invariant_of-self-else-is_err-2
invariant_of-self-else-is_err-2 c =
    let read : c.read_sync.result ≡ number_in c.self.inside.numbers c.args.word = search rules in
    let none : c.read_sync.result ≡ None = search rules in
    let more : c.push.new.self.items ≡ c.self.inside.words.items ++ c.args.word ∷ [] = search rules in
    let place : c.in-Ok.number ≡ length c.self.inside.words.items = search rules in
    let finds = on_ok c.insert_sync.result (search rules) c.insert_sync.ensures.finds in
    rw more (added c.self.inside.numbers c.insert_sync.new.self c.self.inside.words.items c.self.invariant c.args.word c.in-Ok.number (sym read ∙ none) place finds)

pub returns-clause-number : goal.returns-clause-number
returns-clause-number c =
    let read : c.read_sync.result ≡ number_in c.self.inside.numbers c.args.word = search rules in
    let none : c.read_sync.result ≡ None = search rules in
    let more : c.push.new.self.items ≡ c.self.inside.words.items ++ c.args.word ∷ [] = search rules in
    let place : c.in-Ok.number ≡ length c.self.inside.words.items = search rules in
    let finds = on_ok c.insert_sync.result (search rules) c.insert_sync.ensures.finds in
    rw more (added_number c.self.inside.numbers c.insert_sync.new.self c.self.inside.words.items c.self.invariant c.args.word c.in-Ok.number (sym read ∙ none) place finds)
