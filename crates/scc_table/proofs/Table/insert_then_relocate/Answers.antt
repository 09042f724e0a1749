use Rattle.std.proofs.Common.{◌∙◌, drop, ap, subst, arith, rules}
use Rattle.scc_table.specs.Relocates.{AreMovedFrom}
use Rattle.scc_table.proofs.insertions.Places.{placed-at, placed-count, placed-down, placed-fewer, placed-short}
use Rattle.scc_table.proofs.arrays.SameParts.{count-same, pending-same, unchanged-same, unique-same}
use Rattle.scc_table.proofs.relocations.Targets.{targets-same}
use Rattle.scc_table.proofs.Table.insert_then_relocate.Goals as goal

pub returns-in-Ok : goal.returns-in-Ok
returns-in-Ok g c =
    let a = c.args.self.now in
    let m = c.insert_in.new.self in
    let d = c.relocate_some.new.self in
    let p = c.in-Ok.place in
    let put = c.in-Ok.ensures.exact in
    let r = c.relocate_some.ensures in
    let waiting = c.insert_in.ensures.waiting in
    record {
      ok = (placed-at a c.args.bucket c.args.entry m p put c.requires.new.within c.requires.not_waiting waiting d r.lists r.settings r.fewer);
      err = (search rules);
      full = (search rules);
      buckets = (placed-count a c.args.bucket c.args.entry m p put c.requires.new.within c.requires.not_waiting waiting d r.lists r.settings r.fewer);
      refused = (search rules);
      fewer = (placed-fewer a c.args.bucket c.args.entry m p put c.requires.new.within c.requires.not_waiting waiting d r.lists r.settings r.fewer);
      less = (let n = pending-same c.args.self.now c.insert_in.new.self c.insert_in.ensures.waiting in omega (arith, c.relocate_some.ensures.less));
      most = (let n = pending-same c.args.self.now c.insert_in.new.self c.insert_in.ensures.waiting in omega (arith, c.relocate_some.ensures.most));
      not_waiting = (placed-down a c.args.bucket c.args.entry m p put c.requires.new.within c.requires.not_waiting waiting d r.lists r.settings r.fewer);
      moved = (subst (λ ts. AreMovedFrom ts c.args.most c.relocate_some.new.self) (targets-same a c.insert_in.new.self c.insert_in.ensures.waiting) c.relocate_some.ensures.moved);
      exact = (λ short. r.exact (placed-short a c.args.bucket c.args.entry m p put c.requires.new.within c.requires.not_waiting waiting short) ∙ ap (drop c.args.most) (targets-same a m waiting));
      unique = (unique-same m d r.lists g.E.Key.PartialEq.eq g.E.Keyed.key_of c.insert_in.ensures.unique);
    }

pub returns-in-Err : goal.returns-in-Err
returns-in-Err g c =
    record {
      ok = (search rules);
      err = (
          let z = c.in-Err.ensures.stays in
          (c.in-Err.ensures.err, unchanged-same c.args.self.now c.insert_in.new.self z.lists z.settings));
      full = (search rules);
      buckets = (count-same c.args.self.now c.insert_in.new.self c.in-Err.ensures.stays.lists);
      refused = (search rules);
      fewer = (search rules);
      less = (let n = pending-same c.args.self.now c.insert_in.new.self c.insert_in.ensures.waiting in omega arith);
      most = (let n = pending-same c.args.self.now c.insert_in.new.self c.insert_in.ensures.waiting in omega arith);
      not_waiting = (search rules);
      moved = (search rules);
      exact = (search rules);
      unique = (search rules);
    }
