-- What look-ups find after a call of a cache.
use Rattle.std.specs.Prelude.{◌≡◌, Bool, true, false, cond, List, Option, None, Some}
use Rattle.std.specs.Borrow.{MutBor}
use Rattle.std.specs.Fn.{Once, FnOnceReturnsAtMut}
use Rattle.scc_common.specs.Pairs.{find, FindsInstead}

module _ {K V : Type 0} (eq : K → K → Bool) where
  -- whether q equals the key of the pair, if there is one
  abbrev pub is_key_of : Option (K × V) → K → Bool
  is_key_of None q = false
  is_key_of (Some x) q = eq q x.0

  -- p was put in, and `out` is the evicted pair, if any: a look-up of p's key finds p, a look-up of the evicted key finds
  -- nothing, and a look-up of another key finds what it found before
  pub record FindsAfterPut (old : List (K × V)) (p : K × V) (out : Option (K × V)) (new : List (K × V)) : Type 0 where
    pub finds : (q : K) → find eq new q ≡ cond (eq q p.0) (Some p) (cond (is_key_of out q) None (find eq old q))

  module _ {F : Type 0} (g : Once F (MutBor V × Unit {0}) (Bool × (MutBor V × Unit {0}))) (f : F) (old : List (K × V)) (k : K) where
    -- f was called on the value of p, the pair of k, if there is one. If f returned true and left w, p with w is
    -- returned, and a look-up of k finds nothing. If f returned false and left w, nothing is returned, and a look-up of
    -- k finds p with w. A look-up of another key finds what it found before, and so does each if there is no p
    abbrev pub FindsAfterTest : Option (K × V) → Option (K × V) → List (K × V) → Type 0
    FindsAfterTest None r new = (r ≡ None) × ((q : K) → find eq new q ≡ find eq old q)
    FindsAfterTest (Some p) (Some x) new = (x.0 ≡ p.0) × FnOnceReturnsAtMut g f p.1 true x.1 × FindsInstead eq old k None new
    FindsAfterTest (Some p) None new = (w : V) × FnOnceReturnsAtMut g f p.1 false w × FindsInstead eq old k (Some (p.0, w)) new
