-- Pairs with unit values that keep a rule, as keys.
use Rattle.std.proofs.Common.{Bool, List, [], ◌∷◌, subst}
use Rattle.std.specs.Borrow.{Bor}
use Rattle.std.specs.Fn.{Once, FnOnceReturnsAt}
use Rattle.std.specs.Map.{keys_of}
use Rattle.scc_common.specs.Rules as rules
use Rattle.scc_shared_set.specs.KeyRules.{AllKeep, ReadsKept}

-- the keys of pairs that keep the rule keep it
pub keys-keep : {K : Type 0} (holds : K → Unit {0} → Type 0) (es : List (K × Unit {0})) → rules.AllKeep holds es → AllKeep holds (keys_of es)
keys-keep holds [] h = tt
keys-keep holds (e ∷ es) h = (h.0, keys-keep holds es h.1)

-- an answer of the map's closure at a pair that keeps the rule is an answer of the set's closure at its key
pub reads-kept : {C F K A : Type 0} (gm : Once C (Bor K × (Bor (Unit {0}) × Unit {0})) A) (m : C) (gf : Once F (Bor K × Unit {0}) A) (f : F)
    (one : (key : Bor K) (value : Bor (Unit {0})) (r : A) → gm.post m (key, (value, tt)) r → FnOnceReturnsAt gf f key.now r)
    (eq : K → K → Bool) (holds : K → Unit {0} → Type 0) (k : K) (r : A) → rules.ReadsKept eq holds gm m k r → ReadsKept eq holds gf f k r
reads-kept {K = K} gm m gf f one eq holds k r x = (x.0.0, x.1, x.2, subst (λ (q : K × Unit {0}). FnOnceReturnsAt gf f q.0 r) x.4.shows (one x.4.key x.4.value r x.4.met))
