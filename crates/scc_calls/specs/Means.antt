-- Calls and replies that equal one another.
use Rattle.std.proofs.Common.{◌≡◌, ℕ, Bool, true, Option, None, Some, refl, sym, ap, ◌∙◌, subst, inl, inr}
use Rattle.std.specs.Cmp.{IsPartialEquivalence}
use Rattle.scc_calls.specs.Resized.{MovesResized}
use Rattle.scc_calls.specs.Copies.{Alike, Answers, Means}
use Rattle.scc_calls.specs.Parts.{KeyRouted}

-- both calls have no key, or they have equal keys
abbrev pub KeysAlike : {K : Type 0} → (K → K → Bool) → Option K → Option K → Type 0
KeysAlike eq None None = Unit {0}
KeysAlike eq (Some a) (Some b) = eq a b ≡ true
KeysAlike eq None (Some b) = ⊥
KeysAlike eq (Some a) None = ⊥

alike_after : {X : Type 0} (eq : X → X → Bool) → IsPartialEquivalence eq → (x y z : X) → Alike eq x y → Alike eq y z → Alike eq x z
alike_after eq p x y z one (inl same) = subst (λ w. Alike eq x w) (sym same) one
alike_after eq p x y z (inl same) (inr e) = inr (subst (λ w. eq w z ≡ true) same e)
alike_after eq p x y z (inr equal) (inr e) = inr (p.trans x y z equal e)

alike_routed : {K : Type 0} (eq : K → K → Bool) (route : K → ℕ) → ((a b : K) → eq a b ≡ true → route a ≡ route b) → (i : ℕ) (a b : Option K) → KeysAlike eq a b → KeyRouted route i b → KeyRouted route i a
alike_routed eq route like i None None same routed = tt
alike_routed eq route like i (Some a) (Some b) same routed = like a b same ∙ routed
alike_routed eq route like i None (Some b) same routed = absurd same
alike_routed eq route like i (Some a) None same routed = absurd same

-- replies that are alike tell the same
pub told_alike : {R T : Type 0} (replies : R → R → Bool) (told : R → T) → ((a b : R) → replies a b ≡ true → told b ≡ told a) → (given reply : R) → Alike replies given reply → told reply ≡ told given
told_alike replies told tells given reply (inl same) = ap told same
told_alike replies told tells given reply (inr equal) = tells given reply equal

the_same : {C : Type 0} (calls : C → C → Bool) (call : C) → ((made : C) → calls made call ≡ true → made ≡ call) → (made : C) → Alike calls made call → made ≡ call
the_same calls call only made (inl same) = sym same
the_same calls call only made (inr equal) = only made equal

-- if equal values are the same value, values that are alike are the same value
pub the_very : {X : Type 0} (eq : X → X → Bool) → ((a b : X) → eq a b ≡ true → b ≡ a) → (a b : X) → Alike eq a b → b ≡ a
the_very eq only a b (inl same) = same
the_very eq only a b (inr equal) = only a b equal

-- what a call changes with one reply, it changes also if the caller gets a reply that stems from this reply
pub answered : {S C R : Type 0} (stems : C → R → R → Type 0) (moves : S → C → R → S → Type 0) (size : S → ℕ) (resizes : S → ℕ → S → Type 0) (old new : S) (call : C) (given reply : R) → stems call given reply → MovesResized size moves resizes old call given new → MovesResized size (Answers stems moves) resizes old call reply new
answered stems moves size resizes old new call given reply from (inl c) = inl (c.0, (given, from, c.1))
answered stems moves size resizes old new call given reply from (inr (inl c)) = inr (inl (c.0, (c.1.0, c.1.1, (given, from, c.1.2))))
answered stems moves size resizes old new call given reply from (inr (inr c)) = inr (inr (c.0, (c.1.0, (given, from, c.1.1), c.1.2)))

module _ {S C R : Type 0} (calls : C → C → Bool) (replies : R → R → Bool) (moves : S → C → R → S → Type 0) where
  -- what a record of a call and a reply means, a record of an equal call and an equal reply means too
  pub means_alike : IsPartialEquivalence calls → IsPartialEquivalence replies → (old new : S) (call copy : C) (reply given : R) → Alike calls call copy → Alike replies reply given → Means calls replies moves old call reply new → Means calls replies moves old copy given new
  means_alike pc pr old new call copy reply given c r m = (m.0, m.1, alike_after calls pc m.0 call copy m.2 c, alike_after replies pr m.1 reply given m.3 r, m.4)

  -- a record of a call means what the call did, if its reply is alike to the reply of the call
  pub means_own : (old new : S) (call : C) (made given : R) → Alike replies made given → moves old call made new → Means calls replies moves old call given new
  means_own old new call made given same m = (call, made, inl refl, same, m)

  -- a record of a call means what the call did, if its reply stems from the reply of the call and such replies are
  -- alike
  pub means_answer : (stems : C → R → R → Type 0) → ((call : C) (given reply : R) → stems call given reply → Alike replies given reply) → (old new : S) (call : C) (reply : R) → Answers stems moves old call reply new → Means calls replies moves old call reply new
  means_answer stems like old new call reply h = means_own old new call h.0 reply (like call h.0 reply h.1) h.2

  -- if equal calls are the same call, and equal replies the same reply, a record means what the very call of it did
  pub means_same : ((a b : C) → calls a b ≡ true → b ≡ a) → ((a b : R) → replies a b ≡ true → b ≡ a) → (old new : S) (call : C) (reply : R) → Means calls replies moves old call reply new → moves old call reply new
  means_same one other old new call reply m =
      let c : call ≡ m.0 = the_very calls one m.0 call m.2 in
      let r : reply ≡ m.1 = the_very replies other m.1 reply m.3 in
      rw (c, r) m.4

  -- if a call equals no other call, a record of it means that this very call was made
  pub means_of : {P : Type 0} (call : C) → ((made : C) → calls made call ≡ true → made ≡ call) → (old new : S) (reply : R) → ((given : R) → Alike replies given reply → moves old call given new → P) → Means calls replies moves old call reply new → P
  means_of call only old new reply f m = f m.1 m.3 (subst (λ c. moves old c m.1 new) (the_same calls call only m.0 m.2) m.4)

  module _ {K : Type 0} (eq : K → K → Bool) (key_of : C → Option K) (keys : (a b : C) → calls a b ≡ true → KeysAlike eq (key_of a) (key_of b)) (route : K → ℕ) (like : (a b : K) → eq a b ≡ true → route a ≡ route b) where
    made_routed : (i : ℕ) (made call : C) → Alike calls made call → KeyRouted route i (key_of call) → KeyRouted route i (key_of made)
    made_routed i made call (inl same) routed = subst (λ c. KeyRouted route i (key_of c)) same routed
    made_routed i made call (inr equal) routed = alike_routed eq route like i (key_of made) (key_of call) (keys made call equal) routed

    -- what a call of one part means for the whole follows from each call that routes to the same part
    pub means_whole : {W : Type 0} (whole : W → C → R → W → Type 0) (i : ℕ) (old new : S) (before after : W) (call : C) (reply : R) → KeyRouted route i (key_of call)
        → ((made : C) (given : R) → KeyRouted route i (key_of made) → moves old made given new → whole before made given after)
        → Means calls replies moves old call reply new → Means calls replies whole before call reply after
    means_whole whole i old new before after call reply key f m = (m.0, m.1, m.2, m.3, f m.0 m.1 (made_routed i m.0 call m.2 key) m.4)

    -- what holds after each call that routes to part i holds after a record of such a call
    pub means_keeps : {P : Type 0} (i : ℕ) (old new : S) (call : C) (reply : R) → KeyRouted route i (key_of call)
        → ((made : C) (given : R) → KeyRouted route i (key_of made) → moves old made given new → P)
        → Means calls replies moves old call reply new → P
    means_keeps i old new call reply key f m = f m.0 m.1 (made_routed i m.0 call m.2 key) m.4
