use Rattle.scc_owned_set.proofs.Room.{makes-hashed}
use Rattle.scc_owned_set.proofs.Sets.{unique-keys}
use Rattle.scc_owned_set.proofs.Owned.make_room.Goals as goal

pub returns-clause-room : goal.returns-clause-room
returns-clause-room g c = rw (← c.self.view_is) (makes-hashed g.H.BuildHasher g.H.Hasher.Hasher g.K.Hash.hash_input c.self.inside.map c.args.k.now g.K.PartialEq.eq c.make_room.result c.make_room.new.self c.make_room.ensures.room)

pub returns-clause-unique : goal.returns-clause-unique
returns-clause-unique g c = unique-keys _ _ c.make_room.ensures.unique
