use Rattle.std.proofs.Common.{◌≡◌, ◌∙◌, None, Some, refl, sym, ap, arith}
use Rattle.std.specs.List.{position}
use Rattle.scc_common.specs.Contents.{bucket_count, settings_of}
use Rattle.scc_common.specs.Hashing.{hash_of}
use Rattle.scc_common.specs.Routing.{bucket_number}
use Rattle.scc_table.proofs.insertions.AtEnds.{absent-list}
use Rattle.scc_table.proofs.arrays.SameParts.{count-same, entries-same}
use Rattle.scc_owned_cache.proofs.Caching.{is-lacking, state-after}
use Rattle.scc_owned_cache.proofs.Relocations.{any-some, refreshed-from, relocated-one}
use Rattle.scc_owned_cache.proofs.Owned.refresh_after_relocation.Goals as goal

pub returns-in_err-search_place-clause-step : goal.returns-in_err-search_place-clause-step
returns-in_err-search_place-clause-step g c =
    let t = c.self.inside.table in
    let hashed = rw (← c.self.view_is) at c.requires.hashed in
    rw c.from_residual.ensures (rw (← c.self.view_is) (is-lacking (λ k. hash_of g.H.BuildHasher g.H.Hasher.Hasher (settings_of t).hasher (g.K.Hash.hash_input k)) g.K.PartialEq.eq t c.args.k.now _ (ap (bucket_number (settings_of t).skipped (bucket_count t)) hashed) c.in_err-search_place.ensures, refl))

pub invariant_of-self : goal.invariant_of-self
invariant_of-self g c =
    let h = c.self.invariant in
    let r = c.in-Ok.ensures.ok in
    let same = count-same c.self.inside.table c.relocate.new.self r.lists in
    state-after g.K.PartialEq.eq _ _ c.self.inside.table c.relocate.new.self c.self.inside.maximum h (c.relocate.ensures.listed h.lists) c.relocate.ensures.unique r.settings (omega (arith, h.within))

pub refresh_in_bucket-requires-clause-within : goal.refresh_in_bucket-requires-clause-within
refresh_in_bucket-requires-clause-within g c =
    let within = rw (← c.self.view_is) at c.requires.within in
    let same = count-same c.self.inside.table c.relocate.new.self c.in-Ok.ensures.ok.lists in
    omega arith

pub refresh_in_bucket-requires-clause-routed : goal.refresh_in_bucket-requires-clause-routed
refresh_in_bucket-requires-clause-routed g c =
    let t = c.self.inside.table in
    let m = c.relocate.new.self in
    let r = c.in-Ok.ensures.ok in
    let routed = rw (← c.self.view_is) at c.requires.routed in
    routed ∙ ap (λ s. bucket_number s.skipped (bucket_count t) c.args.hash) (sym r.settings) ∙ ap (λ n. bucket_number (settings_of m).skipped n c.args.hash) (sym (count-same t m r.lists))

pub refresh_in_bucket-requires-clause-hashed : goal.refresh_in_bucket-requires-clause-hashed
refresh_in_bucket-requires-clause-hashed g c =
    let hashed = rw (← c.self.view_is) at c.requires.hashed in
    hashed ∙ ap (λ s. hash_of g.H.BuildHasher g.H.Hasher.Hasher s.hasher (g.K.Hash.hash_input c.args.k.now)) (sym c.in-Ok.ensures.ok.settings)

pub returns-clause-step : goal.returns-clause-step
returns-clause-step g c =
    let t = c.self.inside.table in
    let m = c.relocate.new.self in
    let r = c.in-Ok.ensures.ok in
    let f = c.in_ok-search_place.ensures in
    rw (← c.self.view_is) (refreshed-from (λ s k. hash_of g.H.BuildHasher g.H.Hasher.Hasher s.hasher (g.K.Hash.hash_input k)) g.K.PartialEq.eq (record { contents = t; maximum = c.self.inside.maximum }) (record { contents = m; maximum = c.self.inside.maximum }) c.refresh_in_bucket.new.self c.args.k.now r.lists r.settings r.refused refl
    (λ none.
    let all = ap (position (λ p. g.K.PartialEq.eq c.args.k.now p.0)) (sym (entries-same t m r.lists)) ∙ none in
    let z = sym (absent-list t (λ p. g.K.PartialEq.eq c.args.k.now p.0) _ all) ∙ f.found in
    let y : None ≡ Some _ = z in cc)
    c.refresh_in_bucket.result c.refresh_in_bucket.ensures.step)

pub returns-clause-relocates : goal.returns-clause-relocates
returns-clause-relocates g c =
    let t = c.self.inside.table in
    let routed = rw (← c.self.view_is) at c.requires.routed in
    let hashed = rw (← c.self.view_is) at c.requires.hashed in
    let at = routed ∙ ap (bucket_number (settings_of t).skipped (bucket_count t)) hashed in
    any-some c.refresh_in_bucket.result (rw (← c.self.view_is) (relocated-one _ t c.relocate.new.self c.refresh_in_bucket.new.self.contents c.args.bucket at c.in-Ok.ensures.targets c.in-Ok.ensures.not_waiting c.refresh_in_bucket.ensures.waiting))
