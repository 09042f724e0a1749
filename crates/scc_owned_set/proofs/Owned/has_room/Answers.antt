use Rattle.scc_owned_set.proofs.Sets.{has-room-hashed, roomy-hashed}
use Rattle.scc_owned_set.proofs.Owned.has_room.Goals as goal

pub returns : goal.returns
returns g c = rw (← c.self.view_is) (λ h. has-room-hashed g.K.PartialEq.eq g.H.BuildHasher g.H.Hasher.Hasher g.K.Hash.hash_input c.self.inside.map c.args.k.now (c.has_room.ensures.0 h), λ h. c.has_room.ensures.1 (roomy-hashed g.K.PartialEq.eq g.H.BuildHasher g.H.Hasher.Hasher g.K.Hash.hash_input c.self.inside.map c.args.k.now h))
