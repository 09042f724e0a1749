use Rattle.std.proofs.Common.{◌≡◌, sym, arith, rules, subst}
use Rattle.scc_array.specs.Shelves.{shelf_of}
use Rattle.scc_array.specs.Shelf.{shelf_entries}
use Rattle.scc_buckets.specs.Pour.{destined_for}
use Rattle.scc_draining.proofs.Buckets.{first-own, still-within, later-own}
use Rattle.scc_draining.proofs.Drains.{DrainsUntil, drain-start, drain-end, drain-room, drain-step}
use Rattle.scc_draining.proofs.relocate.Relocation.drain.Goals as goal

pub pull-requires-clause-pullable : goal.pull-requires-clause-pullable
pull-requires-clause-pullable g c =
    let hash = λ (e : g.row.E.Denot). g.H.Hashes.hash_of c.args.router.now.hasher (g.E.Keyed.key_of e) in
    record {
      source = search rules;
      few = search rules;
      own = search rules;
      target = still-within c.args.into.now c.loop-source.into c.args.self.now.target c.requires.target c.loop-source.invariant.1;
      packed = search rules;
      room = drain-room hash c.args.router.now.skipped c.args.self.now.count c.args.self.now.target c.args.self.now.first c.args.self.now.last c.args.old.now c.requires.drainable.sources (shelf_of c.args.into.now c.args.self.now.target) c.loop-source.old (shelf_of c.loop-source.into c.args.self.now.target) c.loop-source.source c.loop-source.invariant.0 c.loop-source-test.true c.requires.room;
    }

pub loop-source-init : goal.loop-source-init
loop-source-init g c =
    let hash = λ (e : g.row.E.Denot). g.H.Hashes.hash_of c.args.router.now.hasher (g.E.Keyed.key_of e) in
    (drain-start hash c.args.router.now.skipped c.args.self.now.count c.args.self.now.target c.args.self.now.first c.args.self.now.last c.args.old.now c.requires.drainable.sources (shelf_of c.args.into.now c.args.self.now.target) c.requires.drainable.own c.requires.packed, first-own c.args.into.now c.args.self.now.target)

pub pull-requires-clause-joined : goal.pull-requires-clause-joined
pull-requires-clause-joined g c =
    let hash = λ (e : g.row.E.Denot). g.H.Hashes.hash_of c.args.router.now.hasher (g.E.Keyed.key_of e) in
    let u = c.loop-source.invariant.0 in
    λ whole. subst (λ s. destined_for hash c.args.router.now.skipped c.args.self.now.count c.args.self.now.target (shelf_entries s) ≡ shelf_entries s) (sym (u.left c.loop-source.source (omega arith)))
    ((c.requires.drainable.joined whole).all c.loop-source.source c.loop-source.auto.source c.loop-source-test.true)

pub loop-source-preserved : goal.loop-source-preserved
loop-source-preserved g c =
    let hash = λ (e : g.row.E.Denot). g.H.Hashes.hash_of c.args.router.now.hasher (g.E.Keyed.key_of e) in (
      drain-step hash c.args.router.now.skipped c.args.self.now.count c.args.self.now.target c.args.self.now.first c.args.self.now.last c.args.old.now c.requires.drainable.sources (shelf_of c.args.into.now c.args.self.now.target) c.loop-source.old (shelf_of c.loop-source.into c.args.self.now.target) c.loop-source.source c.loop-source.invariant.0 c.loop-source-test.true
          c.pull.new.old (shelf_of c.pull.new.into c.args.self.now.target) c.pull.ensures.pulls,
      later-own c.args.into.now c.loop-source.into c.args.self.now.target c.requires.target c.loop-source.invariant.1 c.pull.new.into _ c.pull.ensures.others,
    )

pub returns-clause-drains : goal.returns-clause-drains
returns-clause-drains g c =
    let hash = λ (e : g.row.E.Denot). g.H.Hashes.hash_of c.args.router.now.hasher (g.E.Keyed.key_of e) in
    let order = c.requires.drainable.sources.order in
    let upper = c.loop-source.auto.source-end order in
    let at : c.loop-source.source ≡ c.args.self.now.last = omega arith in
    drain-end hash c.args.router.now.skipped c.args.self.now.count c.args.self.now.target c.args.self.now.first c.args.self.now.last c.args.old.now c.requires.drainable.sources (shelf_of c.args.into.now c.args.self.now.target) c.loop-source.old (shelf_of c.loop-source.into c.args.self.now.target)
    (subst (DrainsUntil hash c.args.router.now.skipped c.args.self.now.count c.args.self.now.target c.args.old.now (shelf_of c.args.into.now c.args.self.now.target) c.loop-source.old (shelf_of c.loop-source.into c.args.self.now.target)) at c.loop-source.invariant.0)
