use Rattle.scc_owned_set.proofs.Places.{found-place}
use Rattle.scc_owned_set.proofs.Room.{makes-hashed}
use Rattle.scc_owned_set.proofs.Sets.{unique-keys}
use Rattle.scc_owned_set.proofs.Owned.find_or_make_room.Goals as goal

pub returns-clause-room : goal.returns-clause-room
returns-clause-room g c = rw (← c.self.view_is) (makes-hashed g.H.BuildHasher g.H.Hasher.Hasher g.K.Hash.hash_input c.self.inside.map c.args.k.now g.K.PartialEq.eq c.find_or_make_room.result c.find_or_make_room.new.self c.find_or_make_room.ensures.room)

pub returns-clause-found : goal.returns-clause-found
returns-clause-found g c = found-place g.K.PartialEq.eq c.find_or_make_room.new.self c.args.k.now c.find_or_make_room.result c.find_or_make_room.ensures.found

pub returns-clause-unique : goal.returns-clause-unique
returns-clause-unique g c = unique-keys _ _ c.find_or_make_room.ensures.unique
