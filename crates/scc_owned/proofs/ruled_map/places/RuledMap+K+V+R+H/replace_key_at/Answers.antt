use Rattle.scc_owned.proofs.ruled_map.places.RuledMap+K+V+R+H.replace_key_at.Goals as goal

pub returns-clause-old : goal.returns-clause-old
returns-clause-old g c = rw (← c.self.view_is) c.replace_key_at.ensures.old
