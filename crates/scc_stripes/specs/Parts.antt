-- What the parts hold that will be stripes.
use Rattle.std.specs.Prelude.{ℕ, List, vec_len}
use Rattle.std.specs.List.{All}
use Rattle.std.specs.Arc.{arc_value}
use Rattle.std.specs.declared.alloc.Global.{Global}
use Rattle.std.specs.declared.sync.Arc.{Arc}
use Rattle.scc_stripes.specs.declared.parts.OpenStripes.{OpenStripes}
use Rattle.scc_stripes.specs.Stripes.{share_of}

module _ {O H : Type 0} where
  -- the containers
  abbrev pub parts_of : OpenStripes O H → List O
  parts_of p = p.parts.items

  -- the number of parts
  abbrev pub part_count : OpenStripes O H → ℕ
  part_count p = vec_len p.parts

  -- how many first bits of a hash name the part
  abbrev pub part_bits : OpenStripes O H → ℕ
  part_bits p = p.bits

  -- the slots that all parts together were asked for
  abbrev pub part_slots : OpenStripes O H → ℕ
  part_slots p = p.slots

  -- the owner of the hasher
  abbrev pub parts_owner : OpenStripes O H → Arc H Global
  parts_owner p = p.hasher

  -- the hasher, which all parts share
  abbrev pub parts_hasher : OpenStripes O H → H
  parts_hasher p = arc_value (parts_owner p)

  -- each part is made with the hasher of all, for its share of the slots asked for and of `maximum`, and skips the bits
  -- that name it
  abbrev pub AreMade : (ℕ → ℕ → ℕ → H → O → Type 0) → ℕ → OpenStripes O H → Type 0
  AreMade made maximum p = All (made (part_bits p) (share_of (part_bits p) (part_slots p)) (share_of (part_bits p) maximum) (parts_hasher p)) (parts_of p)
