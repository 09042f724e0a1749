use Rattle.std.proofs.Common.{◌≡◌, ◌+◌, arith, length-append}
use Rattle.scc_array.specs.Shelves.{shelf_of}
use Rattle.scc_draining.proofs.Counted.{one-source}
use Rattle.scc_draining.proofs.Joined.{total-row}
use Rattle.scc_draining.proofs.relocate.Relocation.count_coming.Goals as goal

pub returns-then-bucket_len-le32-clause-enough : goal.returns-then-bucket_len-le32-clause-enough
returns-then-bucket_len-le32-clause-enough g c =
    let hash = λ (e : g.row.E.Denot). g.H.Hashes.hash_of c.args.router.now.hasher (g.E.Keyed.key_of e) in
    let next : c.args.self.now.first + 1 ≡ c.args.self.now.last = omega (arith, c.requires.drainable.sources.order, c.if-self-eq1.true) in
    let most = one-source hash c.args.router.now.skipped c.args.self.now.count c.args.self.now.target c.args.self.now.first c.args.self.now.last c.args.old.now c.requires.drainable.sources next in
    omega (arith, most, c.bucket_len.ensures, c.if-bucket_len-le32.true)

pub returns-then-self-clause-enough : goal.returns-then-self-clause-enough
returns-then-self-clause-enough g c =
    let olds = c.args.old.now in
    let hash = λ (e : g.row.E.Denot). g.H.Hashes.hash_of c.args.router.now.hasher (g.E.Keyed.key_of e) in
    let all = total-row hash c.args.router.now.skipped c.args.self.now.count c.args.self.now.target c.args.self.now.first c.args.self.now.last olds c.requires.drainable.sources (c.requires.drainable.joined c.if-self.true) in
    omega (arith, all, c.len_between.ensures)

pub returns-then-self-clause-exact : goal.returns-then-self-clause-exact
returns-then-self-clause-exact g c =
    let olds = c.args.old.now in
    let hash = λ (e : g.row.E.Denot). g.H.Hashes.hash_of c.args.router.now.hasher (g.E.Keyed.key_of e) in
    let all = total-row hash c.args.router.now.skipped c.args.self.now.count c.args.self.now.target c.args.self.now.first c.args.self.now.last olds c.requires.drainable.sources (c.requires.drainable.joined c.if-self.true) in
    λ _. omega (arith, all, c.len_between.ensures)

pub len_between-requires-clause-few : goal.len_between-requires-clause-few
len_between-requires-clause-few g c =
    λ j l.
    let s = shelf_of c.args.old.now j in
    let within = (c.requires.drainable.own.own j l).within in
    let over = c.requires.drainable.few j in
    omega (arith, length-append s.slots s.overflow)
