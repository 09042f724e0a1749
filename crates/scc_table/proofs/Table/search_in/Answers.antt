use Rattle.std.proofs.Common.{◌≡◌, ◌<◌, Bool, None, sym, ap, ◌∙◌, subst, arith}
use Rattle.std.specs.List.{position}
use Rattle.scc_common.specs.Contents.{Contents, bucket_count, entries, hash_in, list_of, settings_of}
use Rattle.scc_common.specs.Routing.{bucket_number}
use Rattle.scc_buckets.proofs.FindingLemmas.{HashOf}
use Rattle.scc_table.proofs.arrays.CurrentChanges.{own-list}
use Rattle.scc_table.proofs.places.Searches.{missed-own}
use Rattle.scc_table.proofs.arrays.CurrentParts.{settings-seen}
use Rattle.scc_table.proofs.arrays.OneBucket.{count-own, flag-free}
use Rattle.scc_table.proofs.Table.search_in.Goals as goal

pub search_in-requires-clause-within : goal.search_in-requires-clause-within
search_in-requires-clause-within g c =
    let t = c.self.inside in
    let cur = t.current in
    let i = c.args.bucket in
    let count = count-own c.self.invariant c.self.view_is in
    let within : i < bucket_count cur = let q = c.requires.within in omega (arith, count) in
    within

pub search_in-requires-clause-routed : goal.search_in-requires-clause-routed
search_in-requires-clause-routed g c =
    let t = c.self.inside in
    let cur = t.current in
    let ws = t.draining.waiting.items in
    let olds = t.draining.array in
    let hk = hash_in g.H.Hashes.hash_of cur in
    let key = g.E.Keyed.key_of in
    let view = c.self.view_is in
    let now = c.args.self.now in
    let hash = λ (e : g.row.E.Denot). hk (key e) in
    let set = settings-seen hash cur ws olds now view in
    let count = count-own c.self.invariant c.self.view_is in
    let routed = c.requires.routed ∙ ap (λ s. bucket_number s.skipped (bucket_count now) c.args.hash) (sym set) ∙ ap (λ n. bucket_number (settings_of cur).skipped n c.args.hash) (sym count) in
    routed

pub search_in-requires-clause-hashed : goal.search_in-requires-clause-hashed
search_in-requires-clause-hashed g c =
    let t = c.self.inside in
    let cur = t.current in
    let ws = t.draining.waiting.items in
    let olds = t.draining.array in
    let hk = hash_in g.H.Hashes.hash_of cur in
    let key = g.E.Keyed.key_of in
    let view = c.self.view_is in
    let now = c.args.self.now in
    let hash = λ (e : g.row.E.Denot). hk (key e) in
    let set = settings-seen hash cur ws olds now view in
    let hashed = c.requires.hashed ∙ ap (λ s. g.H.Hashes.hash_of s.hasher c.args.key.now) (sym set) in
    hashed

pub returns-clause-place : goal.returns-clause-place
returns-clause-place g c =
    let t = c.self.inside in
    let cur = t.current in
    let ws = t.draining.waiting.items in
    let olds = t.draining.array in
    let hk = hash_in g.H.Hashes.hash_of cur in
    let key = g.E.Keyed.key_of in
    let view = c.self.view_is in
    let i = c.args.bucket in
    let hash = λ (e : g.row.E.Denot). hk (key e) in
    let down = flag-free c.self.invariant _ c.self.view_is c.requires.not_waiting in
    let here = ap (λ z. list_of z i) (sym view) ∙ own-list hash cur ws olds i down in
    let passes : g.row.E.Denot → Bool = λ e. g.E.Key.PartialEq.eq c.args.key.now (key e) in
    c.search_in.ensures.place ∙ ap (position passes) (sym here)

pub returns-clause-missed : goal.returns-clause-missed
returns-clause-missed g c =
    let t = c.self.inside in
    let cur = t.current in
    let ws = t.draining.waiting.items in
    let olds = t.draining.array in
    let inv = c.self.invariant in
    let hk = hash_in g.H.Hashes.hash_of cur in
    let key = g.E.Keyed.key_of in
    let view = c.self.view_is in
    let now = c.args.self.now in
    let i = c.args.bucket in
    let hash = λ (e : g.row.E.Denot). hk (key e) in
    let down = flag-free c.self.invariant _ c.self.view_is c.requires.not_waiting in
    let set = settings-seen hash cur ws olds now view in
    let count = count-own c.self.invariant c.self.view_is in
    let within : i < bucket_count cur = let q = c.requires.within in omega (arith, count) in
    let routed = c.requires.routed ∙ ap (λ s. bucket_number s.skipped (bucket_count now) c.args.hash) (sym set) ∙ ap (λ n. bucket_number (settings_of cur).skipped n c.args.hash) (sym count) in
    let passes : g.row.E.Denot → Bool = λ e. g.E.Key.PartialEq.eq c.args.key.now (key e) in
    let hashed = c.requires.hashed ∙ ap (λ s. g.H.Hashes.hash_of s.hasher c.args.key.now) (sym set) in
    let same_hash : HashOf passes hash c.args.hash = record { same = λ e w. sym (hashed ∙ g.met.H.Hashes.respects_eq (settings_of cur).hasher c.args.key.now (key e) w) } in
    λ none. subst (λ (z : Contents g.row.E.Denot g.row.H.Denot). position passes (entries z) ≡ None) view (missed-own hash cur ws olds inv.arrays c.search_in.ensures.routed passes c.args.hash i same_hash routed within down (sym c.search_in.ensures.place ∙ none))
