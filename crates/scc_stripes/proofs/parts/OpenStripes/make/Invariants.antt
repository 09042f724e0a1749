use Rattle.std.proofs.Common.{◌≡◌, vec_len}
use Rattle.std.specs.List.{All}
use Rattle.std.specs.Arc.{arc_value}
use Rattle.scc_stripes.specs.Stripes.{share_of}
use Rattle.scc_stripes.proofs.parts.OpenStripes.make.Given as goal

abbrev pub invariant-loop-made : goal.invariant-loop-made
invariant-loop-made g l = record {
  number : vec_len l.parts ≡ l.made;
  parts : All (g.O.Part.is_made l.bits (share_of l.bits l.slots) (share_of l.bits l.maximum) (arc_value l.hasher)) l.parts.items;
}
