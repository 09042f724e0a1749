use Rattle.std.proofs.Common.{refl}
use Rattle.std.proofs.lemmas.Option.{slice_get_read}
use Rattle.scc_stripes.proofs.parts.OpenStripes.change.Goals as goal

pub returns-clause-change : goal.returns-clause-change
returns-clause-change g c = (
  c.index_mut.result.now,
  c.f.new.arg2,
  slice_get_read c.args.self.now.parts.items _ _ _ c.args.self.now.parts.ok.0 c.requires.part c.index_mut.ensures.value,
  record { shown = c.index_mut.result; shows = refl; left = _; met = c.f.ensures; leaves = refl },
  refl,
)
