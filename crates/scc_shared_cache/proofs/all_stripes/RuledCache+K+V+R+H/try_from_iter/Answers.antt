use Rattle.scc_shared_cache.proofs.all_stripes.RuledCache+K+V+R+H.try_from_iter.Goals as goal

pub put_all-requires : goal.put_all-requires
put_all-requires g c =
    let ran = c.in-Ok.ensures.ran in
    let last = ran.3.2 tt in
    rw ran.4.0 (c.requires.kept ran.0 ran.1 ran.2 (last.0, (ran.3.0, ran.3.1, last.1)))
