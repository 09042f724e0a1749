use Rattle.std.proofs.Common.{sym, ◌∙◌}
use Rattle.scc_owned_set.proofs.Sets.{bucket-same}
use Rattle.scc_owned_set.proofs.Owned.bucket_index.Goals as goal

pub returns : goal.returns
returns g c = record { index = rw (← c.self.view_is) (c.bucket_index.ensures.index ∙ sym (bucket-same g.H.BuildHasher g.H.Hasher.Hasher g.K.Hash.hash_input c.self.inside.map c.args.k.now)) }
