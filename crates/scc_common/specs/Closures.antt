-- What a closure was called with, what it returned, and what it left.
use Rattle.std.specs.Prelude.{◌≡◌, Option, None, Some, IsSomeAnd}
use Rattle.std.specs.Borrow.{Bor, MutBor}
use Rattle.std.specs.Fn.{Once}

module _ {F K V R : Type 0} (g : Once F (Bor K × (Bor V × Unit {0})) R) (f : F) where
  -- a call of f with the key and the value of p may return r
  pub record AnswersAt (p : K × V) (r : R) : Type 0 where
    pub key : Bor K
    pub value : Bor V
    pub shows : (key.now, value.now) ≡ p
    pub met : g.post f (key, (value, tt)) r

  -- r is what f may return at the pair, if there is a pair, or else `None`
  abbrev pub Reads : Option (K × V) → Option R → Type 0
  Reads None r = r ≡ None
  Reads (Some p) r = IsSomeAnd r (AnswersAt p)

module _ {F K V R : Type 0} (g : Once F (Bor K × (MutBor V × Unit {0})) (R × (MutBor V × Unit {0}))) (f : F) where
  -- f may be called with a & to the key and a &mut to the value of p
  abbrev pub TakesAt : K × V → Type 0
  TakesAt p = (key : Bor K) (value : MutBor V) → (key.now, value.now) ≡ p → g.pre f (key, (value, tt))

  -- a call of f with the key and the value of p may return r and leave the value w
  pub record WritesAt (p : K × V) (r : R) (w : V) : Type 0 where
    pub key : Bor K
    pub value : MutBor V
    pub shows : (key.now, value.now) ≡ p
    pub left : MutBor V
    pub met : g.post f (key, (value, tt)) (r, (left, tt))
    pub leaves : left.now ≡ w
