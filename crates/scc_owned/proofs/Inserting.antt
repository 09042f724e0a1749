-- Lemmas about insertions through an entry, whatever its guard and its container are.
use Rattle.std.proofs.Common.{◌≡◌, ℕ, Bool, Result, Ok, Err, sym, ap, subst, ◌∙◌}
use Rattle.std.specs.Borrow.{MutBor}
use Rattle.std.specs.Prelude.{IfOk, IfErr, ⊤}
use Rattle.std.specs.Result.{OnErr, OnOk}
use Rattle.std.specs.declared.cmp.PartialEq as eq
use Rattle.std.specs.declared.hash.Hash as hash
use Rattle.std.specs.declared.hash.Hasher as hasher
use Rattle.std.specs.declared.hash.BuildHasher as builder
use Rattle.scc_common.specs.Contents.{Contents, hash_in, IsUniqueBy}
use Rattle.scc_buckets.specs.declared.place.Place.{Place}
use Rattle.scc_table.specs.Places.{IsInsertedAt}
use Rattle.scc_table.specs.Relocations.{Relocates, RelocatesTwo}
use Rattle.scc_common.specs.declared.errors.InsertError.{InsertError}
use Rattle.scc_common.specs.declared.errors.TryInsertError.{TryInsertError}
use Rattle.scc_common.specs.declared.errors.TryInsertError.TheVariants.{Failed, Memory as NoMemory}
use Rattle.scc_common.specs.declared.entry.Keyed as keyed
use Rattle.scc_common.specs.declared.guard.Guard as guard
use Rattle.scc_table.proofs.places.Entries.{put-there}
use Rattle.scc_owned.specs.Held.{Occupied, Vacant, entry_guard, entry_key}
use Rattle.scc_owned.specs.Insertions.{Memory, FailsAtVacant, IsGrownFor, InsertsAtVacant, InsertsThrough, IsInserted, OrInserts, OrInsertsSome, RefusesSome, TriesThrough}
use Rattle.scc_owned.specs.declared.held.HeldOccupied.{HeldOccupied}
use Rattle.scc_owned.specs.declared.held.HeldEntry.{HeldEntry}
use Rattle.scc_owned.specs.declared.held.HeldVacant.{HeldVacant}

pub both-ok : {A B : Type 0} (P Q : A → Type 0) (r : Result A B) → IfOk r P → IfOk r Q → IfOk r (λ a. P a × Q a)
both-ok P Q (Ok a) p q = (p, q)
both-ok P Q (Err e) p q = tt

pub map-ok : {A B : Type 0} (P Q : A → Type 0) (r : Result A B) → ((a : A) → P a → Q a) → IfOk r P → IfOk r Q
map-ok P Q (Ok a) f p = f a p
map-ok P Q (Err e) f p = tt

pub map-err : {A B : Type 0} (P Q : B → Type 0) (r : Result A B) → ((e : B) → P e → Q e) → IfErr r P → IfErr r Q
map-err P Q (Ok a) f p = tt
map-err P Q (Err e) f p = f e p

pub on-ok4 : {A B P Q R T U : Type 0} (r : Result A B) → (P → Q → R → T → U) → OnOk r P → OnOk r Q → OnOk r R → OnOk r T → OnOk r U
on-ok4 (Ok a) f p q s t = f p q s t
on-ok4 (Err b) f p q s t = tt

pub both-err : {A B : Type 0} (P : B → Type 0) (Q : Type 0) (r : Result A B) → IfErr r (λ b. P b × Q) → IfErr r P × OnErr r Q
both-err P Q (Ok a) h = (tt, tt)
both-err P Q (Err b) h = h

pub any-err : {A B : Type 0} (r : Result A B) → OnErr r ⊤
any-err (Ok a) = tt
any-err (Err e) = tt

module _ {G N E V S K T : Type 0} {d : guard.Ghosts G (Contents E S)} {y : keyed.Ghosts E K} {b : builder.Ghosts S T} {w : hasher.Ghosts T} {g : eq.Ghosts K} {h : hash.Ghosts K} where
  -- if P implies Q, a refusal that returns some value with P is a refusal that returns some value with Q
  pub refuses-some : {A : Type 0} {P Q : V → Type 0} (e : HeldEntry G N E S K T d y g b w h) (r : Result A (InsertError K V)) → IfErr r (λ y. (v : V) × P v × (y ≡ Memory (entry_key e, v))) → ((v : V) → P v → Q v) → IfErr r (λ y. (v : V) × Q v × (y ≡ Memory (entry_key e, v)))
  refuses-some e (Ok a) i f = tt
  refuses-some e (Err y) i f = (i.0, f i.0 i.1, i.2)

  pub refuses-this : {A : Type 0} {P : V → Type 0} {x : V} (e : HeldEntry G N E S K T d y g b w h) (r : Result A (InsertError K V)) → IfErr r (λ y. (v : V) × P v × (y ≡ Memory (entry_key e, v))) → ((v : V) → P v → v ≡ x) → IfErr r (λ y. y ≡ Memory (entry_key e, x))
  refuses-this e (Ok a) i f = tt
  refuses-this e (Err y) i f = subst (λ v. y ≡ Memory (entry_key e, v)) (f i.0 i.1) i.2

module _ {G N E S K T : Type 0} {d : guard.Ghosts G (Contents E S)} {y : keyed.Ghosts E K} {b : builder.Ghosts S T} {w : hasher.Ghosts T} {g : eq.Ghosts K} {h : hash.Ghosts K} where
  -- if a closure fails at a vacant entry, its error comes back
  pub fails-at : {X : Type 0} (Q : K → X → Type 0) (e : HeldEntry G N E S K T d y g b w h) (x : HeldVacant G N E S K T d y g b w h) (y : X) → e ≡ Vacant x → Q x.key y → FailsAtVacant e Q y
  fails-at Q e x y is gave = subst (λ z. FailsAtVacant z Q y) (sym is) (record { vacant = tt; failed = gave })

module _ {G N E V S K T : Type 0} {d : guard.Ghosts G (Contents E S)} {y : keyed.Ghosts E K} {b : builder.Ghosts S T} {w : hasher.Ghosts T} {g : eq.Ghosts K} {h : hash.Ghosts K} {made : K → V → E} where
  -- if a pair is inserted through the guard, the returned entry stands at that pair
  pub inserted-after : (e : HeldVacant G N E S K T d y g b w h) (m n : Contents E S) (v : V) (o : HeldOccupied G N E S K T d y g b w h) → o.guard ≡ d.with_inner e.guard n → o.rest ≡ e.rest → m ≡ d.inner e.guard → IsInsertedAt m (made e.key v) n o.place → IsInserted made e v o
  inserted-after e m n v o guarded rests is i =
      let k : d.inner o.guard ≡ n = ap d.inner guarded ∙ d.inner_law e.guard n in
      record {
        same_guard = guarded ∙ ap (d.with_inner e.guard) (sym k);
        rest = rests;
        at = put-there (d.inner e.guard) (made e.key v) (d.inner o.guard) o.place o.within (subst (λ c. IsInsertedAt c (made e.key v) (d.inner o.guard) o.place) is (subst (λ c. IsInsertedAt m (made e.key v) c o.place) (sym k) i));
      }

  -- if a new pair was inserted at q through the guard, an entry with that guard and the place q meets the contract of
  -- `insert_entry`
  pub inserts-at-vacant : {taking : Bool} (same : K → K → Bool) (hash_of : S → K → ℕ) (e : HeldVacant G N E S K T d y g b w h) (m n : Contents E S) (v : V) (o : HeldOccupied G N E S K T d y g b w h) (q : Place) → o.guard ≡ d.with_inner e.guard n → o.place ≡ q → o.rest ≡ e.rest
      → m ≡ d.inner e.guard → IsInsertedAt m (made e.key v) n q → IsGrownFor y.key_of (hash_in hash_of m) m e.key n → Relocates m n → RelocatesTwo (hash_in hash_of m e.key) m n → IsUniqueBy same y.key_of n → InsertsAtVacant made same hash_of taking e v (Ok o)
  inserts-at-vacant same hash_of e m n v o q guarded placed rests is i growth relocates two unique =
      let k : d.inner o.guard ≡ n = ap d.inner guarded ∙ d.inner_law e.guard n in
      record {
        inserted = inserted-after e m n v o guarded rests is (rw placed i);
        growth = rw (k, ← is) growth;
        relocates = rw (k, ← is) relocates;
        two = rw (k, ← is) two;
        unique = rw k unique;
        refused = tt;
        full = tt;
      }

  -- the insertion of v through a vacant entry is the insertion of a value for which P holds, if P holds of v
  pub through-vacant : {taking : Bool} (same : K → K → Bool) (hash_of : S → K → ℕ) (P : K → V → Type 0) (e : HeldEntry G N E S K T d y g b w h) (x : HeldVacant G N E S K T d y g b w h) (v : V) (r : Result (HeldOccupied G N E S K T d y g b w h) (InsertError K V)) → e ≡ Vacant x → P x.key v → InsertsAtVacant made same hash_of taking x v r → InsertsThrough made same hash_of taking e (OrInsertsSome made e P) (RefusesSome e P) r
  through-vacant {taking} same hash_of P e x v r is gave put =
      subst (λ z. InsertsThrough made same hash_of taking z (OrInsertsSome made z P) (RefusesSome z P) r) (sym is) record {
        entry = map-ok (IsInserted made x v) (OrInsertsSome made (Vacant x) P) r (λ o i. (v, gave, i)) put.inserted;
        refused = map-err (λ y. y ≡ Memory (x.key, v)) (RefusesSome (Vacant x) P) r (λ y i. (v, gave, i)) put.refused;
        vacant = any-err r;
        full = put.full;
        growth = put.growth;
        relocates = both-ok _ _ r put.relocates put.two;
        unique = put.unique;
      }

module _ {G N E V S K T : Type 0} {d : guard.Ghosts G (Contents E S)} {y : keyed.Ghosts E K} {b : builder.Ghosts S T} {w : hasher.Ghosts T} {g : eq.Ghosts K} {h : hash.Ghosts K} (made : K → V → E) where
  -- if P implies Q, an insertion of some value with P is an insertion of some value with Q
  pub inserts-some : {X : Type 0} {P Q : K → V → Type 0} (e : HeldEntry G N E S K T d y g b w h) (r : Result (HeldOccupied G N E S K T d y g b w h) X) → IfOk r (OrInsertsSome made e P) → ((k : K) (v : V) → P k v → Q k v) → IfOk r (OrInsertsSome made e Q)
  inserts-some (Occupied p) (Ok o) i f = i
  inserts-some (Vacant e) (Ok o) i f = (i.0, f e.key i.0 i.1, i.2)
  inserts-some e (Err x) i f = tt

  -- if x is the only value with P, an insertion of some value with P is an insertion of x
  pub inserts-this : {X : Type 0} {P : K → V → Type 0} {x : V} (e : HeldEntry G N E S K T d y g b w h) (r : Result (HeldOccupied G N E S K T d y g b w h) X) → IfOk r (OrInsertsSome made e P) → ((k : K) (v : V) → P k v → v ≡ x) → IfOk r (OrInserts made e x)
  inserts-this (Occupied p) (Ok o) i f = i
  inserts-this (Vacant e) (Ok o) i f = subst (λ v. IsInserted made e v o) (f e.key i.0 i.1) i.2
  inserts-this e (Err x) i f = tt

  some-as : (P P' : K → V → Type 0) (e : HeldEntry G N E S K T d y g b w h) (o : HeldOccupied G N E S K T d y g b w h) → ((k : K) (v : V) → P' k v → P k v) → OrInsertsSome made e P' o → OrInsertsSome made e P o
  some-as P P' (Occupied p) o f i = i
  some-as P P' (Vacant x) o f i = (i.0, f x.key i.0 i.1, i.2)

  -- an insertion of a value that a closure makes meets the contract for P and Q if it meets that for P' and Q', which
  -- imply them
  pub tries-as : {X : Type 0} {P' : K → V → Type 0} {Q' : K → X → Type 0} (taking : Bool) (same : K → K → Bool) (hash_of : S → K → ℕ) (P : K → V → Type 0) (Q : K → X → Type 0) (e : HeldEntry G N E S K T d y g b w h) (r : Result (HeldOccupied G N E S K T d y g b w h) (TryInsertError K V X)) → TriesThrough made same hash_of taking e P' Q' r
      → ((k : K) (v : V) → P' k v → P k v) → ((k : K) (x : X) → Q' k x → Q k x) → TriesThrough made same hash_of taking e P Q r
  tries-as {P' = P'} taking same hash_of P Q e (Ok o) t f g = record {
    entry = some-as P P' e o f t.entry;
    refused = tt;
    vacant = t.vacant;
    full = t.full;
    growth = t.growth;
    relocates = t.relocates;
    unique = t.unique;
  }
  tries-as taking same hash_of P Q e (Err (NoMemory p)) t f g = record {
    entry = tt;
    refused = (t.refused.0, f (entry_key e) t.refused.0 t.refused.1, t.refused.2);
    vacant = t.vacant;
    full = t.full;
    growth = t.growth;
    relocates = t.relocates;
    unique = t.unique;
  }
  tries-as taking same hash_of P Q e (Err (Failed x)) t f g = record { vacant = t.vacant; failed = g (entry_key e) x t.failed }

module _ {N E S K T : Type 0} {d : guard.Ghosts (MutBor (Contents E S)) (Contents E S)} {y : keyed.Ghosts E K} {b : builder.Ghosts S T} {w : hasher.Ghosts T} {g : eq.Ghosts K} {h : hash.Ghosts K} where
  -- the container that a vacant entry borrows
  pub vacant-now : (e : HeldEntry (MutBor (Contents E S)) N E S K T d y g b w h) (x : HeldVacant (MutBor (Contents E S)) N E S K T d y g b w h) → e ≡ Vacant x → x.guard.now ≡ (entry_guard e).now
  vacant-now e x is = ap (λ (z : HeldEntry (MutBor (Contents E S)) N E S K T d y g b w h). (entry_guard z).now) (sym is)
