use Rattle.scc_owned.proofs.ruled_map.places.RuledMap+K+V+R+H.visit.Goals as goal

pub visit_at-requires-clause-keeps : goal.visit_at-requires-clause-keeps
visit_at-requires-clause-keeps g c = λ e r w f' got allowed called. c.requires.keeps c.args.f.now f' e r w allowed called

pub returns : goal.returns
returns g c = let x = c.visit_at.ensures.step in rw (← c.self.view_is) (x.0, x.1, x.2, x.3, x.4, x.5, c.requires.keeps c.args.f.now _ x.0 _ x.1 x.5 x.3)
