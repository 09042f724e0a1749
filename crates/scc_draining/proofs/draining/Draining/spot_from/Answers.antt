use Rattle.std.proofs.Common.{◌∙◌, ◌≤◌, inl, inr, length, arith}
use Rattle.scc_array.specs.Shelf.{empty_shelf}
use Rattle.scc_buckets.proofs.Standing.{along}
use Rattle.scc_draining.proofs.Drains.{take-all_bound}
use Rattle.scc_draining.proofs.FromBuckets.{few-entries, sources-more, within-sources}
use Rattle.scc_draining.proofs.draining.Draining.spot_from.Goals as goal

pub sources-end-requires-clause-multiples : goal.sources-end-requires-clause-multiples
sources-end-requires-clause-multiples g c = rw c.len.ensures.count c.requires.multiples

pub spot_from-requires-clause-few : goal.spot_from-requires-clause-few
spot_from-requires-clause-few g c =
    let hash = λ (e : g.row.E.Denot). g.H.Hashes.hash_of c.args.router.now.hasher (g.E.Keyed.key_of e) in
    few-entries hash c.args.router.now.skipped c.args.self.now.array _ c.requires.own (omega arith) c.requires.few

pub returns : goal.returns
returns g c =
    let hash = λ (e : g.row.E.Denot). g.H.Hashes.hash_of c.args.router.now.hasher (g.E.Keyed.key_of e) in
    let t = c.args.router.now.skipped in
    let olds = c.args.self.now.array in
    let only = rw c.len.ensures.count at c.sources-end.ensures.only in
    let last = rw c.len.ensures.count at c.sources-end.ensures.within in
    let sources = within-sources hash t c.args.count c.args.target c.sources-end.result.0 c.sources-end.result.1 olds c.requires.own c.sources-end.ensures.order last only in
    let past : c.end_past.result ≤ length olds = elim c.end_past.ensures.one [ inl e ↦ omega (arith, e, last) | inr e ↦ omega (arith, e, c.requires.source) ] in
    let more = sources-more hash t c.args.count c.args.target c.sources-end.result.0 c.sources-end.result.1 c.end_past.result olds sources c.end_past.ensures.least past in
    let all = take-all_bound hash t c.args.count c.args.target c.sources-end.result.0 c.end_past.result olds more empty_shelf in
    along c.spot_from.result (λ e. e ∙ all) (λ r next. next) c.spot_from.ensures
