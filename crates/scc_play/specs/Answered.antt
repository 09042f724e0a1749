-- What the calls of a script become on several stripes, and what is printed of each call.
use Rattle.std.specs.Prelude.{◌≡◌, ℕ, List, [], ◌∷◌, ◌++◌, length, map, min, Option, None, Some, IfSome, slice_get, ◌==◌, if◌then◌else◌}
use Rattle.std.specs.List.{AllByRecursion, sum_by}
use Rattle.scc_history.specs.Stamps.{receipt}
use Rattle.scc_history.specs.declared.log.Receipt.{Receipt}
use Rattle.scc_recorded.specs.Adds.{number_or_zero}
use Rattle.scc_script.specs.declared.line.WorkerCall.{WorkerCall}

-- the calls of one worker, in their order
abbrev pub calls_by : {A : Type 0} → ℕ → List (WorkerCall A) → List A
calls_by worker [] = []
calls_by worker (c ∷ calls) = if c.worker == worker then c.call ∷ calls_by worker calls else calls_by worker calls

-- receipt i is of stripe i
abbrev pub AreInOrder : {A R : Type 0} → List (Receipt A R) → Type 0
AreInOrder records = (i : ℕ) → IfSome (slice_get records i) (λ r. r.stripe ≡ i)

module _ {A R K : Type 0} (key_of : A → Option K) (counted : R → Option ℕ) (count : ℕ → R) where
  -- the reply to a call of several stripes, by the number in the first reply: the sum of the numbers, if the first
  -- reply has one; else the first reply
  abbrev pub joint_by : Option ℕ → R → List R → R
  joint_by None first replies = first
  joint_by (Some n) first replies = count (min 18446744073709551615 (sum_by (λ r. number_or_zero (counted r)) replies))

  -- the reply to a call of all stripes, from the replies of the stripes: the only reply, or the joint reply of several
  abbrev pub IsJoint : List R → R → Type 0
  IsJoint [] reply = ⊥
  IsJoint (first ∷ []) reply = reply ≡ first
  IsJoint (first ∷ second ∷ more) reply = reply ≡ joint_by (counted first) first (first ∷ second ∷ more)

  -- a call with a key has one record; a call without a key has a record of this call in each stripe, stripe 0 first
  abbrev pub IsAnsweredBy : Option K → ℕ → A → List (Receipt A R) → R → Type 0
  IsAnsweredBy (Some k) stripes call records reply = (stripe : ℕ) × (stamp : ℕ) × (records ≡ receipt stripe stamp call reply ∷ [])
  IsAnsweredBy None stripes call records reply = (length records ≡ stripes) × AreInOrder records × AllByRecursion (λ r. r.call ≡ call) records × IsJoint (map (λ r. r.reply) records) reply

  -- these are the records of a call of a script, and this is the reply that is printed of it
  abbrev pub IsAnswered : ℕ → A → List (Receipt A R) → R → Type 0
  IsAnswered stripes call records reply = IsAnsweredBy (key_of call) stripes call records reply

  -- these are the records of the calls, one call after another, with these replies
  abbrev pub AreAnswered : ℕ → List A → List (Receipt A R) → List R → Type 0
  AreAnswered stripes [] records replies = (records ≡ []) × (replies ≡ [])
  AreAnswered stripes (call ∷ calls) records replies =
      (here : List (Receipt A R)) × (rest : List (Receipt A R)) × (reply : R) × (more : List R)
      × (records ≡ here ++ rest) × (replies ≡ reply ∷ more) × IsAnswered stripes call here reply × AreAnswered stripes calls rest more
