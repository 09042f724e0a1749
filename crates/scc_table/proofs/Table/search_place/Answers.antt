use Rattle.std.proofs.Common.{ℕ, ◌<◌, ◌∙◌, Bool, refl, sym, arith}
use Rattle.scc_common.specs.Contents.{bucket_count, hash_in, settings_of}
use Rattle.scc_common.specs.Routing.{bucket_number}
use Rattle.scc_buckets.proofs.FindingLemmas.{HashOf}
use Rattle.scc_buckets.proofs.Standing.{along}
use Rattle.scc_table.specs.Places.{spot_of}
use Rattle.scc_table.proofs.resizes.Installation.{number-within}
use Rattle.scc_table.proofs.places.ListFinds.{listed-found, unlisted-missed}
use Rattle.scc_table.proofs.Table.search_place.Goals as goal

pub returns : goal.returns
returns g c =
    let now = c.args.self.now in
    let hash = λ (e : g.row.E.Denot). hash_in g.H.Hashes.hash_of now (g.E.Keyed.key_of e) in
    let passes : g.row.E.Denot → Bool = λ e. g.E.Key.PartialEq.eq c.args.key.now (g.E.Keyed.key_of e) in
    let i : ℕ = bucket_number (settings_of now).skipped (bucket_count now) c.args.hash in
    let same : HashOf passes hash c.args.hash = record { same = λ e w. sym (c.requires ∙ g.met.H.Hashes.respects_eq (settings_of now).hasher c.args.key.now (g.E.Keyed.key_of e) w) } in
    along c.search.result (unlisted-missed now passes i)
    (λ q f.
    let b = f.within.bucket in
    let l : i < bucket_count now = number-within (settings_of now).skipped (bucket_count now) c.args.hash (omega arith) in
    listed-found now hash c.search.ensures.routed passes c.args.hash i same refl (spot_of now q) f l)
    c.search.ensures.place
