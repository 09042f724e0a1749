use Rattle.std.proofs.Common.{◌∙◌, Some, None, refl, sym, ap}
use Rattle.scc_owned.proofs.Found.{found-here}
use Rattle.scc_owned.proofs.Updating.{updated-step, updated-finds, updated-missing, updated-noted, updated-waiting, updated-unique}
use Rattle.scc_owned.proofs.map.hinted.Map+K+V+H.update_by_hint.Goals as goal

pub write_at-requires-clause-within : goal.write_at-requires-clause-within
write_at-requires-clause-within g c = let found = c.in-Found.ensures.hinted in found.within

pub write_at-requires-clause-takes : goal.write_at-requires-clause-takes
write_at-requires-clause-takes g c = λ e got allowed a b shows. c.requires a b (rw (← c.self.view_is) (found-here g.K.PartialEq.eq c.self.inside.table c.args.k.now c.in-Found.place c.in-Found.ensures.hinted e got ∙ ap Some (sym shows)))

pub returns-in-Found : goal.returns-in-Found
returns-in-Found g c =
    let s = c.write_at.ensures.step in
    record {
      step = rw (← c.self.view_is) (updated-step g.U.FnOnce c.args.u g.met.K.Eq.laws c.self.inside.table c.write_at.new.self c.args.k.now c.look_by_hint.ensures.unique (Some c.write_at.result) (c.in-Found.place, s.0, s.1, c.in-Found.ensures.hinted, s.2, s.3, s.4));
      finds = rw (← c.self.view_is) (updated-finds g.U.FnOnce c.args.u g.met.K.Eq.laws c.self.inside.table c.write_at.new.self c.args.k.now c.look_by_hint.ensures.unique (Some c.write_at.result) (c.in-Found.place, s.0, s.1, c.in-Found.ensures.hinted, s.2, s.3, s.4));
      missing = tt;
      noted = rw (← c.self.view_is) (updated-noted g.U.FnOnce c.args.u g.met.K.Eq.laws c.self.inside.table c.write_at.new.self c.args.k.now c.look_by_hint.ensures.unique (Some c.write_at.result) (c.in-Found.place, s.0, s.1, c.in-Found.ensures.hinted, s.2, s.3, s.4));
      waiting = rw (← c.self.view_is) (updated-waiting g.U.FnOnce c.args.u g.met.K.Eq.laws c.self.inside.table c.write_at.new.self c.args.k.now c.look_by_hint.ensures.unique (Some c.write_at.result) (c.in-Found.place, s.0, s.1, c.in-Found.ensures.hinted, s.2, s.3, s.4));
      unique = updated-unique g.U.FnOnce c.args.u g.met.K.Eq.laws c.self.inside.table c.write_at.new.self c.args.k.now c.look_by_hint.ensures.unique (Some c.write_at.result) (c.in-Found.place, s.0, s.1, c.in-Found.ensures.hinted, s.2, s.3, s.4);
    }

pub returns-in-Missed : goal.returns-in-Missed
returns-in-Missed g c =
    record {
      step = rw (← c.self.view_is) (updated-step g.U.FnOnce c.args.u g.met.K.Eq.laws c.self.inside.table c.self.inside.table c.args.k.now c.look_by_hint.ensures.unique None (c.in-Missed.ensures.hinted.1, refl));
      finds = tt;
      missing = rw (← c.self.view_is) (updated-missing g.U.FnOnce c.args.u g.met.K.Eq.laws c.self.inside.table c.self.inside.table c.args.k.now c.look_by_hint.ensures.unique None (c.in-Missed.ensures.hinted.1, refl));
      noted = rw (← c.self.view_is) (updated-noted g.U.FnOnce c.args.u g.met.K.Eq.laws c.self.inside.table c.self.inside.table c.args.k.now c.look_by_hint.ensures.unique None (c.in-Missed.ensures.hinted.1, refl));
      waiting = rw (← c.self.view_is) (updated-waiting g.U.FnOnce c.args.u g.met.K.Eq.laws c.self.inside.table c.self.inside.table c.args.k.now c.look_by_hint.ensures.unique None (c.in-Missed.ensures.hinted.1, refl));
      unique = rw (← c.self.view_is) (updated-unique g.U.FnOnce c.args.u g.met.K.Eq.laws c.self.inside.table c.self.inside.table c.args.k.now c.look_by_hint.ensures.unique None (c.in-Missed.ensures.hinted.1, refl));
    }
