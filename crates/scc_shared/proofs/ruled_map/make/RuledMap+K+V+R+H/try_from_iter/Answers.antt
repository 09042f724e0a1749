use Rattle.scc_shared.proofs.ruled_map.make.RuledMap+K+V+R+H.try_from_iter.Goals as goal

pub upsert_all-requires : goal.upsert_all-requires
upsert_all-requires g c =
    let ran = c.in-Ok.ensures.ran in
    let last = ran.3.2 tt in
    rw ran.4.0 (c.requires.kept ran.0 ran.1 ran.2 (last.0, (ran.3.0, ran.3.1, last.1)))
