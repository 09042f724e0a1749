use Rattle.scc_buckets.proofs.Bare.{all-bare}
use Rattle.scc_draining.proofs.draining.Draining.begin.Goals as goal

pub destroy_empty-requires : goal.destroy_empty-requires
destroy_empty-requires g c = λ i l. rw c.replace-bare.ensures.value (all-bare c.args.self.now.array c.requires i)
