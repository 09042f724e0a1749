use Rattle.std.proofs.Common.{◌∙◌, sym, arith}
use Rattle.scc_buckets.proofs.Standing.{along}
use Rattle.scc_draining.proofs.FromBuckets.{within-sources}
use Rattle.scc_draining.proofs.Stepped.{none-before, none-past, stands-first}
use Rattle.scc_draining.proofs.draining.Draining.first_spot.Goals as goal

pub sources-first-requires-clause-multiples : goal.sources-first-requires-clause-multiples
sources-first-requires-clause-multiples g c = rw c.len.ensures.count c.requires.multiples

pub returns-then-first-len : goal.returns-then-first-len
returns-then-first-len g c =
    let hash = λ (e : g.row.E.Denot). g.H.Hashes.hash_of c.args.router.now.hasher (g.E.Keyed.key_of e) in
    let t = c.args.router.now.skipped in
    let olds = c.args.self.now.array in
    let only = rw c.len.ensures.count at c.sources-first.ensures.only in
    let last = rw c.len.ensures.count at c.sources-first.ensures.within in
    let sources = within-sources hash t c.args.count c.args.target c.sources-first.result.0 c.sources-first.result.1 olds c.requires.own c.sources-first.ensures.order last only in
    none-past hash t c.args.count c.args.target c.sources-first.result.0 c.sources-first.result.1 olds sources (omega (arith, c.if-first-len.true, c.len-2.ensures.count))

pub returns : goal.returns
returns g c =
    let hash = λ (e : g.row.E.Denot). g.H.Hashes.hash_of c.args.router.now.hasher (g.E.Keyed.key_of e) in
    let t = c.args.router.now.skipped in
    let olds = c.args.self.now.array in
    let only = rw c.len.ensures.count at c.sources-first.ensures.only in
    let last = rw c.len.ensures.count at c.sources-first.ensures.within in
    let sources = within-sources hash t c.args.count c.args.target c.sources-first.result.0 c.sources-first.result.1 olds c.requires.own c.sources-first.ensures.order last only in
    let none = none-before hash t c.args.count c.args.target c.sources-first.result.0 c.sources-first.result.1 olds sources in
    along c.spot_from.result (λ e. sym e ∙ none) (λ r next. stands-first hash t c.args.count c.args.target c.sources-first.result.0 c.sources-first.result.1 olds sources next) c.spot_from.ensures
