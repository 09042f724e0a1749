-- What the same calls do to two containers of one kind with different hashers and sizes.
use Rattle.std.specs.Prelude.{◌≡◌, ◌+◌, ◌++◌, ◌⊎◌, Bool, List, Result, length}
use Rattle.std.specs.Result.{OnOk, OnErr}
use Rattle.scc_common.specs.Contents.{Contents, entries}
use Rattle.scc_calls.specs.Copies.{Means}
use Rattle.scc_calls.specs.Run.{IsRun}
use Rattle.scc_calls.specs.States.{State, ResizesTo, run_setting, state_of}
use Rattle.scc_uses.specs.Alikeness.{AgreeAlong, AreExact}

-- a container, and the replies of its calls
abbrev pub Side : Type 0 → Type 0 → Type 0 → Type 0
Side E H R = Contents E H × List R

-- replies are added, and the container changed by a run of the calls with these replies
abbrev pub AddsRun : {C R E H : Type 0} → (State E → C → R → State E → Type 0) → List C → Side E H R → Side E H R → Type 0
AddsRun {R = R} moves calls a b = (made : List R) × (b.1 ≡ a.1 ++ made) × IsRun moves (ResizesTo (run_setting a.0)) (state_of a.0) calls made (state_of b.0)

-- the first side got one reply for each call, the second side some replies, and both agree as far as they go
abbrev pub AddAlike : {C R E H I : Type 0} → (R → R → Type 0) → List C → Side E H R → Side E I R → Side E H R → Side E I R → Type 0
AddAlike {R = R} agree calls a b c d = (made : List R) × (others : List R) × (c.1 ≡ a.1 ++ made) × (d.1 ≡ b.1 ++ others) × (length made ≡ length calls) × AgreeAlong agree made others

-- the first side got one reply for each call, and the second side the first of these replies
abbrev pub AddSame : {C R E H I : Type 0} → List C → Side E H R → Side E I R → Side E H R → Side E I R → Type 0
AddSame {R = R} calls a b c d = (made : List R) × (rest : List R) × (c.1 ≡ a.1 ++ (made ++ rest)) × (d.1 ≡ b.1 ++ made) × (length (made ++ rest) ≡ length calls)

module _ {C R E H I X Y : Type 0} (equal_calls : C → C → Bool) (equal_replies : R → R → Bool) (moves : State E → C → R → State E → Type 0) (agree : R → R → Type 0)
    (alike same : List E → List E → Type 0) where
  -- the calls are made on a and then on b, which become c and d
  pub record RunsOnBoth (calls : List C) (a : Side E H R) (b : Side E I R) (result : Result X Y) (c : Side E H R) (d : Side E I R) : Type 0 where
    -- the first container changed by a run of calls and replies that equal these
    pub first : AddsRun (Means equal_calls equal_replies moves) calls a c
    -- the second container changed by a run of calls and replies that equal these
    pub second : AddsRun (Means equal_calls equal_replies moves) calls b d
    -- if it succeeds, each call has a reply
    pub all : OnOk result (length c.1 ≡ length a.1 + length calls)
    -- if it succeeds, the replies of both agree one by one
    pub replies : OnOk result ((made : List R) × (others : List R) × (c.1 ≡ a.1 ++ made) × (d.1 ≡ b.1 ++ others) × (length others ≡ length made) × AgreeAlong agree made others)
    -- if it succeeds, the contents of both are alike
    pub contents : OnOk result (alike (entries c.0) (entries d.0))
    -- if it succeeds, both hold the same number of entries
    pub count : OnOk result (length (entries d.0) ≡ length (entries c.0))
    -- if it fails, the second container wasn't touched, or the first gave all replies and the second some replies,
    -- which agree
    pub refused : OnErr result (((d.0 ≡ b.0) × (d.1 ≡ b.1)) ⊎ AddAlike agree calls a b c d)
    -- if equal calls and equal replies are the same, the first container changed by a run of these very calls
    pub exact_first : AreExact equal_calls equal_replies → AddsRun moves calls a c
    -- if equal calls and equal replies are the same, the second container changed by a run of these very calls
    pub exact_second : AreExact equal_calls equal_replies → AddsRun moves calls b d
    -- if equal calls and equal replies are the same and the contents were the same, both give the same replies
    pub exact_replies : AreExact equal_calls equal_replies → same (entries a.0) (entries b.0) → OnOk result ((made : List R) × (c.1 ≡ a.1 ++ made) × (d.1 ≡ b.1 ++ made))
    -- if equal calls and equal replies are the same and the contents were the same, the contents are the same again
    pub exact_contents : AreExact equal_calls equal_replies → same (entries a.0) (entries b.0) → OnOk result (same (entries c.0) (entries d.0))
    -- if equal calls and equal replies are the same, the contents were the same and it fails, the second container
    -- wasn't touched, or it gave the first of the first container's replies
    pub exact_refused : AreExact equal_calls equal_replies → same (entries a.0) (entries b.0) → OnErr result (((d.0 ≡ b.0) × (d.1 ≡ b.1)) ⊎ AddSame calls a b c d)
