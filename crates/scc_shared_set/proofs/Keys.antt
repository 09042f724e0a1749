-- Walks over pairs with unit values as walks over their keys, for a closure that may always be called.
use Rattle.std.proofs.Common.{◌≡◌, ℕ, Bool, true, false, List, [], ◌∷◌, ◌++◌, map, refl, ap, sym, subst, ◌∙◌}
use Rattle.std.specs.List.{flat_map, IsDistinct}
use Rattle.std.proofs.lemmas.List.{length-map, map-append, map-id}
use Rattle.std.proofs.lemmas.List.Elements.{All-weaker, All-map}
use Rattle.std.specs.Borrow.{Bor}
use Rattle.std.specs.Fn.{Mut, Once, Called, CalledAt, TakesAt, FnOnceReturnsAt}
use Rattle.std.specs.Map.{keys_of}
use denote.Param.Always.{always_mut, mut_next}
use Rattle.scc_common.specs.Walks.{CalledOn}
use Rattle.scc_common.specs.PairWalks as writes
use Rattle.scc_common.specs.Replies as replies
use Rattle.scc_stripes.specs.Walks.{AreOfStripes}
use Rattle.scc_shared_set.specs.Answers.{ReadsEqual}
use Rattle.scc_owned_set.specs.SetWalks.{Declines, declined_none, declined, PassesAt}

-- a closure that may always be called may be called at a key
pub always-takes : {F K R : Type 0} (g : Mut F (Bor K × Unit {0}) R) (f : F) (k : K) → always_mut g f → TakesAt g f k
always-takes g f k h = λ y e. (h.at ((y, tt) ∷ [])).0

-- a closure that may always be called may always be called after a call
pub always-after : {F K R : Type 0} (g : Mut F (Bor K × Unit {0}) R) (f : F) (k : K) (r : R) (f' : F) → CalledAt g f k r f' → always_mut g f → always_mut g f'
always-after g f k r f' c h = mut_next g _ _ _ _ _ c.called refl h

module _ {C F K : Type 0} (gm : Mut C (Bor K × (Bor (Unit {0}) × Unit {0})) Bool) (gf : Mut F (Bor K × Unit {0}) Bool) (of : C → F)
    (one : (s : C) (key : Bor K) (value : Bor (Unit {0})) (r : Bool) (t : C) → Called gm s (key, (value, tt)) r t → CalledAt gf (of s) key.now r (of t)) where
  at-key : (s : C) (p : K × Unit {0}) (r : Bool) (t : C) → CalledOn gm s p r t → CalledAt gf (of s) p.0 r (of t)
  at-key s p r t h = subst (λ (q : K × Unit {0}). CalledAt gf (of s) q.0 r (of t)) h.shows (one s h.key h.value r t h.called)

  pub Declines-keys : (s : C) (es : List (K × Unit {0})) (t : C) → writes.Declines (CalledOn gm) s es t → Declines (CalledAt gf) (of s) (keys_of es) (of t)
  Declines-keys s es t writes.ended = declined_none
  Declines-keys s es t (writes.went_on {f' = f'} {p = p} {es = rest} c x) = declined (at-key s p false f' c) (Declines-keys f' rest t x)

  pub PassesAt-keys : (s : C) (es : List (K × Unit {0})) (p : K × Unit {0}) → writes.PassesAt (CalledOn gm) s es p → PassesAt (CalledAt gf) (of s) (keys_of es) p.0
  PassesAt-keys s es p x = record { before = of x.before; last = of x.last; declines = Declines-keys s es x.before x.declines; passes = at-key x.before p true x.last x.passes }

-- an answer of the map's closure at a pair with an equal key is an answer of the set's closure at that key
pub reads-key : {C F K R : Type 0} (gm : Once C (Bor K × (Bor (Unit {0}) × Unit {0})) R) (m : C) (gf : Once F (Bor K × Unit {0}) R) (f : F)
    (one : (key : Bor K) (value : Bor (Unit {0})) (r : R) → gm.post m (key, (value, tt)) r → FnOnceReturnsAt gf f key.now r)
    (eq : K → K → Bool) (k : K) (r : R) → replies.ReadsEqual eq gm m k r → ReadsEqual eq gf f k r
reads-key {K = K} gm m gf f one eq k r x = (x.0.0, x.1, subst (λ (q : K × Unit {0}). FnOnceReturnsAt gf f q.0 r) x.2.shows (one x.2.key x.2.value r x.2.met))

joined-keys : {K V : Type 0} (ls : List (List (K × V))) → keys_of (flat_map (λ l. l) ls) ≡ flat_map (λ l. l) (map keys_of ls)
joined-keys [] = refl
joined-keys (l ∷ ls) = map-append (λ p. p.0) l (flat_map (λ l. l) ls) ∙ ap (λ z. keys_of l ++ z) (joined-keys ls)

-- the keys of pairs that are of some stripes are of as many stripes
pub AreOfStripes-keys : {K V : Type 0} (eq : K → K → Bool) (n : ℕ) (es : List (K × V)) → AreOfStripes eq (λ p. p.0) n es → AreOfStripes eq (λ k. k) n (keys_of es)
AreOfStripes-keys {K} {V} eq n es w = record {
  lists = map keys_of w.lists;
  number = length-map w.lists keys_of ∙ w.number;
  whole = ap keys_of w.whole ∙ joined-keys w.lists;
  unique = All-map (λ l. IsDistinct eq (map (λ k. k) l)) keys_of w.lists (All-weaker (λ (l : List (K × V)). IsDistinct eq (keys_of l)) (λ l. IsDistinct eq (map (λ k. k) (keys_of l))) (λ l d. subst (λ z. IsDistinct eq z) (sym (map-id (keys_of l))) d) w.lists w.unique);
}
