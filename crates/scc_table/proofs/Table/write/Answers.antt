use Rattle.std.proofs.Common.{◌≡◌, ◌∙◌, refl, sym, ap, subst, arith}
use Rattle.std.specs.List.{find}
use Rattle.std.proofs.lemmas.Option.{IfSome_then}
use Rattle.scc_array.proofs.Finds.{find-position}
use Rattle.scc_common.specs.Contents.{Contents, Settings, entries, hash_in, pending_of}
use Rattle.scc_table.specs.Places.{IsFoundAt, index_of}
use Rattle.scc_draining.specs.Drainings.{draining_of}
use Rattle.scc_table.specs.TwoArrays.{together}
use Rattle.scc_table.specs.Updates.{WritesFirst}
use Rattle.scc_table.proofs.arrays.JoinedLists.{pending-together}
use Rattle.scc_table.proofs.places.Searches.{entries-not_waiting}
use Rattle.scc_table.proofs.arrays.CurrentParts.{settings-seen}
use Rattle.scc_table.proofs.arrays.Updates.{not_waiting-first, not_waiting-kept}
use Rattle.scc_table.proofs.Table.write.Goals as goal

pub write-requires-clause-hashed : goal.write-requires-clause-hashed
write-requires-clause-hashed g c =
    let t = c.self.inside in
    let hk = hash_in g.H.Hashes.hash_of t.current in
    let hash = λ (e : g.row.E.Denot). hk (g.E.Keyed.key_of e) in
    let set = settings-seen hash t.current t.draining.waiting.items t.draining.array c.args.self.now c.self.view_is in
    c.requires.hashed ∙ ap (λ s. g.H.Hashes.hash_of s.hasher c.args.key.now) (sym set)

pub write-requires-clause-takes : goal.write-requires-clause-takes
write-requires-clause-takes g c = λ e found allowed.
    let t = c.self.inside in
    let cur = t.current in
    let hk = hash_in g.H.Hashes.hash_of cur in
    let hash = λ (x : g.row.E.Denot). hk (g.E.Keyed.key_of x) in
    let passes = λ (x : g.row.E.Denot). g.E.Key.PartialEq.eq c.args.key.now (g.E.Keyed.key_of x) in
    let none = c.self.invariant.none c.if-self-eq0.true in
    let seen : find passes (entries c.args.self.now) ≡ find passes (entries cur) = ap (λ (z : Contents g.row.E.Denot g.row.H.Denot). find passes (entries z)) (sym c.self.view_is) ∙ ap (find passes) (entries-not_waiting hash cur t.draining.array t.draining.waiting.items none) in
    c.requires.takes e (seen ∙ found) allowed

pub write-requires-clause-keeps : goal.write-requires-clause-keeps
write-requires-clause-keeps g c = λ e r w found allowed written.
    let t = c.self.inside in
    let cur = t.current in
    let hk = hash_in g.H.Hashes.hash_of cur in
    let hash = λ (x : g.row.E.Denot). hk (g.E.Keyed.key_of x) in
    let passes = λ (x : g.row.E.Denot). g.E.Key.PartialEq.eq c.args.key.now (g.E.Keyed.key_of x) in
    let none = c.self.invariant.none c.if-self-eq0.true in
    let seen : find passes (entries c.args.self.now) ≡ find passes (entries cur) = ap (λ (z : Contents g.row.E.Denot g.row.H.Denot). find passes (entries z)) (sym c.self.view_is) ∙ ap (find passes) (entries-not_waiting hash cur t.draining.array t.draining.waiting.items none) in
    c.requires.keeps e r w (seen ∙ found) allowed written

pub returns-then-self-eq0-clause-allowed : goal.returns-then-self-eq0-clause-allowed
returns-then-self-eq0-clause-allowed g c =
    let t = c.self.inside in
    let cur = t.current in
    let hk = hash_in g.H.Hashes.hash_of cur in
    let hash = λ (x : g.row.E.Denot). hk (g.E.Keyed.key_of x) in
    let passes = λ (x : g.row.E.Denot). g.E.Key.PartialEq.eq c.args.key.now (g.E.Keyed.key_of x) in
    let none = c.self.invariant.none c.if-self-eq0.true in
    let seen : find passes (entries c.args.self.now) ≡ find passes (entries cur) = ap (λ (z : Contents g.row.E.Denot g.row.H.Denot). find passes (entries z)) (sym c.self.view_is) ∙ ap (find passes) (entries-not_waiting hash cur t.draining.array t.draining.waiting.items none) in
    IfSome_then c.write.result c.write.ensures.allowed (λ _ f. (f.0, seen ∙ f.1, f.2))

pub invariant_of-self : goal.invariant_of-self
invariant_of-self g c =
    let t = c.self.inside in
    let passes = λ (x : g.row.E.Denot). g.E.Key.PartialEq.eq c.args.key.now (g.E.Keyed.key_of x) in
    let laws = g.met.E.Key.Eq.laws in
    let hash_for = λ (s : Settings g.row.H.Denot) (k : g.row.E-Key.Denot). g.H.Hashes.hash_of s.hasher k in
    not_waiting-kept (λ (e : g.row.E.Denot). g.W.Writer.gives c.args.w (g.E.Keyed.key_of e) (g.E.Valued.value_of e)) g.E.Keyed.key_of g.E.Valued.with_value passes laws hash_for t.current c.write.new.self (draining_of t.draining) c.self.invariant (c.self.invariant.none c.if-self-eq0.true)
    (λ e w. ap (λ k. g.E.Key.PartialEq.eq k (g.E.Keyed.key_of e)) (g.met.E.Valued.value_keeps_key e w) ∙ laws.refl (g.E.Keyed.key_of e)) c.write.result c.write.ensures.step

pub returns-then-self-eq0-clause-step : goal.returns-then-self-eq0-clause-step
returns-then-self-eq0-clause-step g c =
    let t = c.self.inside in
    let passes = λ (x : g.row.E.Denot). g.E.Key.PartialEq.eq c.args.key.now (g.E.Keyed.key_of x) in
    let laws = g.met.E.Key.Eq.laws in
    let hash_for = λ (s : Settings g.row.H.Denot) (k : g.row.E-Key.Denot). g.H.Hashes.hash_of s.hasher k in
    let new = together (λ (e : g.row.E.Denot). hash_in g.H.Hashes.hash_of c.write.new.self (g.E.Keyed.key_of e)) c.write.new.self t.draining.waiting.items t.draining.array in
    subst (λ (z : Contents g.row.E.Denot g.row.H.Denot). WritesFirst (λ (e : g.row.E.Denot). g.W.Writer.gives c.args.w (g.E.Keyed.key_of e) (g.E.Valued.value_of e)) g.E.Valued.with_value passes z new c.write.result) c.self.view_is
    (not_waiting-first (λ (e : g.row.E.Denot). g.W.Writer.gives c.args.w (g.E.Keyed.key_of e) (g.E.Valued.value_of e)) g.E.Keyed.key_of g.E.Valued.with_value passes laws hash_for t.current c.write.new.self (draining_of t.draining) c.self.invariant (c.self.invariant.none c.if-self-eq0.true) c.write.result c.write.ensures.step)

pub search_both-place-requires-clause-pending : goal.search_both-place-requires-clause-pending
search_both-place-requires-clause-pending g c =
    let t = c.self.inside in
    let inv = c.self.invariant in
    let hk = hash_in g.H.Hashes.hash_of t.current in
    let hash = λ (e : g.row.E.Denot). hk (g.E.Keyed.key_of e) in
    let counted = ap pending_of (sym c.self.view_is) ∙ pending-together hash t.current t.draining.waiting.items t.draining.array in
    omega (arith, counted, inv.counted, c.if-self-eq0.false)

pub write_at-requires-clause-takes : goal.write_at-requires-clause-takes
write_at-requires-clause-takes g c =
    let now = c.args.self.now in
    let q = c.search_both-place.result in
    let passes = λ (x : g.row.E.Denot). g.E.Key.PartialEq.eq c.args.key.now (g.E.Keyed.key_of x) in
    let found : IsFoundAt passes now q = c.search_both-place.ensures.found (omega (arith, c.if-place-ge-NOWHERE.false)) in
    let first = find-position passes (entries now) (index_of now q) found.found in
    λ e got allowed. c.requires.takes e (first ∙ got) allowed

pub write_at-requires-clause-keeps : goal.write_at-requires-clause-keeps
write_at-requires-clause-keeps g c =
    let now = c.args.self.now in
    let q = c.search_both-place.result in
    let passes = λ (x : g.row.E.Denot). g.E.Key.PartialEq.eq c.args.key.now (g.E.Keyed.key_of x) in
    let found : IsFoundAt passes now q = c.search_both-place.ensures.found (omega (arith, c.if-place-ge-NOWHERE.false)) in
    let first = find-position passes (entries now) (index_of now q) found.found in
    λ e r w got allowed written. c.requires.keeps e r w (first ∙ got) allowed written

pub returns-clause-step : goal.returns-clause-step
returns-clause-step g c =
    let now = c.args.self.now in
    let q = c.search_both-place.result in
    let passes = λ (x : g.row.E.Denot). g.E.Key.PartialEq.eq c.args.key.now (g.E.Keyed.key_of x) in
    let found : IsFoundAt passes now q = c.search_both-place.ensures.found (omega (arith, c.if-place-ge-NOWHERE.false)) in
    let first = find-position passes (entries now) (index_of now q) found.found in
    let x = c.write_at.ensures.step in
    (q, x.0, x.1, found, x.2, x.3, x.4)

pub returns-clause-allowed : goal.returns-clause-allowed
returns-clause-allowed g c =
    let now = c.args.self.now in
    let q = c.search_both-place.result in
    let passes = λ (x : g.row.E.Denot). g.E.Key.PartialEq.eq c.args.key.now (g.E.Keyed.key_of x) in
    let found : IsFoundAt passes now q = c.search_both-place.ensures.found (omega (arith, c.if-place-ge-NOWHERE.false)) in
    let first = find-position passes (entries now) (index_of now q) found.found in
    let x = c.write_at.ensures.step in
    (x.0, first ∙ x.2, x.5)
