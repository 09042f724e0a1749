use Rattle.std.proofs.Common.{◌≡◌, ◌<◌, ◌∙◌, sym, ap, arith, length, length-append, take}
use Rattle.std.specs.List.{flat_map}
use Rattle.scc_array.specs.Shelves.{shelf_of}
use Rattle.scc_array.specs.Shelf.{shelf_entries}
use Rattle.scc_buckets.specs.Pour.{destined_for}
use Rattle.scc_draining.proofs.Counted.{destined-le, total-start, total-end, total-more, part-le}
use Rattle.scc_draining.proofs.relocate.Relocation.count_all.Goals as goal

pub loop-source-init : goal.loop-source-init
loop-source-init g c =
    let hash = λ (e : g.row.E.Denot). g.H.Hashes.hash_of c.args.router.now.hasher (g.E.Keyed.key_of e) in
    sym (total-start hash c.args.router.now.skipped c.args.self.now.count c.args.self.now.target c.args.self.now.first c.args.self.now.last c.args.old.now c.requires.sources)

pub count_in-found-requires-clause-few : goal.count_in-found-requires-clause-few
count_in-found-requires-clause-few g c =
    let l : c.loop-source.source < length c.args.old.now = omega (arith, c.requires.sources.within) in
    let within = (c.requires.own.own c.loop-source.source l).within in
    let over = c.requires.few c.loop-source.source in
    let s = shelf_of c.args.old.now c.loop-source.source in
    omega (arith, length-append s.slots s.overflow)

pub overflow_add-found : goal.overflow_add-found
overflow_add-found g c =
    let hash = λ (e : g.row.E.Denot). g.H.Hashes.hash_of c.args.router.now.hasher (g.E.Keyed.key_of e) in
    let l : c.loop-source.source < length c.args.old.now = omega (arith, c.requires.sources.within) in
    let m = part-le c.args.old.now c.loop-source.source l in
    let a = destined-le hash c.args.router.now.skipped c.args.self.now.count c.args.self.now.target (flat_map shelf_entries (take c.loop-source.source c.args.old.now)) in
    let b = destined-le hash c.args.router.now.skipped c.args.self.now.count c.args.self.now.target (shelf_entries (shelf_of c.args.old.now c.loop-source.source)) in
    omega (arith, c.requires.most, c.loop-source.invariant, c.count_in-found.ensures)

pub loop-source-preserved : goal.loop-source-preserved
loop-source-preserved g c =
    let hash = λ (e : g.row.E.Denot). g.H.Hashes.hash_of c.args.router.now.hasher (g.E.Keyed.key_of e) in
    let l : c.loop-source.source < length c.args.old.now = omega (arith, c.requires.sources.within) in
    let more = total-more hash c.args.router.now.skipped c.args.self.now.count c.args.self.now.target c.args.self.now.first c.args.self.now.last c.args.old.now c.requires.sources c.loop-source.source l in
    omega (arith, more, c.loop-source.invariant, c.count_in-found.ensures)

pub returns : goal.returns
returns g c =
    let hash = λ (e : g.row.E.Denot). g.H.Hashes.hash_of c.args.router.now.hasher (g.E.Keyed.key_of e) in
    let order = c.requires.sources.order in
    let upper = c.loop-source.auto.source-end order in
    let at : c.loop-source.source ≡ c.args.self.now.last = omega arith in
    c.loop-source.invariant ∙ ap (λ m. length (destined_for hash c.args.router.now.skipped c.args.self.now.count c.args.self.now.target (flat_map shelf_entries (take m c.args.old.now)))) at
    ∙ total-end hash c.args.router.now.skipped c.args.self.now.count c.args.self.now.target c.args.self.now.first c.args.self.now.last c.args.old.now c.requires.sources
