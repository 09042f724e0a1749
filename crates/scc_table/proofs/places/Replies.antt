-- What follows from the reply of a look-up, in any list.
use Rattle.std.proofs.Common.{◌≡◌, Bool, true, List, Option, None, Some, sym, subst}
use Rattle.std.specs.Prelude.{IfSome}
use Rattle.std.specs.Option.{IsSomeAnd}
use Rattle.std.specs.Borrow.{Bor}
use Rattle.std.specs.Fn.{Once}
use Rattle.scc_common.specs.Pairs.{find}
use Rattle.scc_buckets.proofs.Lookups.{by_option, place-of_find}
use Rattle.scc_common.specs.Closures.{Reads, AnswersAt}
use Rattle.scc_common.specs.Replies.{ReadsEqual}

pub if-map : {A : Type 0} (P Q : A → Type 0) (o : Option A) → ((a : A) → P a → Q a) → IfSome o P → IfSome o Q
if-map P Q None f h = tt
if-map P Q (Some a) f h = f a h

-- the pair that a look-up finds has a key equal to k
pub find-key : {K V : Type 0} (eq : K → K → Bool) (es : List (K × V)) (k : K) (p : K × V) → find eq es k ≡ Some p → eq k p.0 ≡ true
find-key eq es k p f = (place-of_find (eq k) es p f).2

shown : {F K V R : Type 0} (eq : K → K → Bool) (g : Once F (Bor K × (Bor V × Unit {0})) R) (f : F) (k : K) (r : Option R) (p : K × V) → IsSomeAnd r (AnswersAt g f p) → eq k p.0 ≡ true → IfSome r (ReadsEqual eq g f k)
shown eq g f k None p s e = tt
shown eq g f k (Some x) p s e = (p, e, s)

-- what a closure returns for the pair that a look-up finds, it returns for a pair whose key is equal to k
pub reads-equal : {F K V R : Type 0} (eq : K → K → Bool) (g : Once F (Bor K × (Bor V × Unit {0})) R) (f : F) (es : List (K × V)) (k : K) (r : Option R) → Reads g f (find eq es k) r → IfSome r (ReadsEqual eq g f k)
reads-equal eq g f es k r h = by_option (find eq es k)
    (λ none. let e : r ≡ None = subst (λ o. Reads g f o r) none h in subst (λ o. IfSome o (ReadsEqual eq g f k)) (sym e) tt)
    (λ p some. shown eq g f k r p (subst (λ o. Reads g f o r) some h) (find-key eq es k p some))
