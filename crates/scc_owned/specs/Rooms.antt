-- What a call does that makes room for an insertion.
use Rattle.std.specs.Prelude.{◌≡◌, ℕ, Option, None, Result, IsOk, IsSome}
use Rattle.std.specs.Result.{OnErr, OnOk}
use Rattle.scc_common.specs.Contents.{Contents, bucket_count, settings_of}
use Rattle.scc_common.specs.Steps.{Prepares}
use Rattle.scc_table.specs.Marks.{MarksPreparation}

-- what a call that makes room for an insertion of k, with this result, does to the container c, which becomes d.
-- `found` is the entry of k in c, if there is one
pub record MakesRoom {E K H X R : Type 0} (hash : K → ℕ) (key : E → K) (found : Option E) (c : Contents E H) (k : K) (result : Result X R) (d : Contents E H) : Type 0 where
  -- if k is there, nothing is made
  pub present : IsSome found → IsOk result × (d ≡ c)
  -- if k is missing and the call succeeds, an insertion of k is prepared
  pub ok : found ≡ None → OnOk result (Prepares hash key c (hash k) d)
  -- if k is missing, note and mark are those of a preparation
  pub marks : found ≡ None → MarksPreparation hash key c (hash k) d
  -- it fails only if k is missing and there is no array, and then nothing changes
  pub err : OnErr result ((found ≡ None) × (bucket_count c ≡ 0))
  pub same : OnErr result (d ≡ c)
  pub settings : settings_of d ≡ settings_of c
