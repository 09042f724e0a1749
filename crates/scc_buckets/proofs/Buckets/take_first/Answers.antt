use Rattle.scc_common.specs.Contents.{hash_in}
use Rattle.std.proofs.Common.{◌≡◌, ◌∙◌, ◌≤◌, List, [], None, sym, ap, subst, rules, length, refl}
use Rattle.std.specs.List.{position}
use Rattle.scc_array.specs.Shelves.{shelf_of}
use Rattle.scc_array.specs.Shelf.{Shelf, shelf_entries}
use Rattle.scc_array.specs.Takes.{IsTakenOut}
use Rattle.scc_buckets.proofs.Arrays.{shelf-at}
use Rattle.scc_buckets.proofs.FindingLemmas.{HashOf, has_tag, no-entries}
use Rattle.scc_buckets.proofs.TakenFirst.{missed-all, missed-places, taken-near, taken-far, taken-unique, taken-first}
use Rattle.scc_buckets.proofs.Views.{settings-view}
use Rattle.scc_buckets.proofs.Buckets.take_first.Goals as goal

pub returns-then-count-eq0 : goal.returns-then-count-eq0
returns-then-count-eq0 g c =
    let p = λ (e : g.row.E.Denot). g.E.Key.PartialEq.eq c.args.key.now (g.E.Keyed.key_of e) in
    let none : length c.self.inside.buckets ≡ 0 = search rules in
    (ap (position p) (no-entries c.self.inside.buckets _ c.args.self.now c.self.view_is none), refl)

pub take_in_slots-requires-clause-tagged : goal.take_in_slots-requires-clause-tagged
take_in_slots-requires-clause-tagged g c =
    let t = c.self.inside in
    let bs = t.buckets in
    let i = c.bucket-bucket.result in
    let p = λ (x : g.row.E.Denot). g.E.Key.PartialEq.eq c.args.key.now (g.E.Keyed.key_of x) in
    let hash = λ (x : g.row.E.Denot). g.H.Hashes.hash_of t.router.hasher (g.E.Keyed.key_of x) in
    let hashed = rw (settings-view bs _ c.args.self.now c.self.view_is, hash_in) at c.requires in
    let same : HashOf p hash c.args.hash = record { same = λ x w. sym (hashed ∙ g.met.H.Hashes.respects_eq t.router.hasher c.args.key.now (g.E.Keyed.key_of x) w) } in
    rw c.tag.ensures (has_tag _ hash c.args.hash t.router.skipped (length bs) i (shelf_of bs i) same (c.self.invariant.table.own i (shelf_of bs i) (search rules) (shelf-at bs i (search rules))))

pub invariant_of-self : goal.invariant_of-self
invariant_of-self g c =
    let t = c.self.inside in
    let bs = t.buckets in
    let i = c.bucket-bucket.result in
    let p = λ (x : g.row.E.Denot). g.E.Key.PartialEq.eq c.args.key.now (g.E.Keyed.key_of x) in
    let hash = λ (x : g.row.E.Denot). g.H.Hashes.hash_of t.router.hasher (g.E.Keyed.key_of x) in
    let hashed = rw (settings-view bs _ c.args.self.now c.self.view_is, hash_in) at c.requires in
    let same : HashOf p hash c.args.hash = record { same = λ x w. sym (hashed ∙ g.met.H.Hashes.respects_eq t.router.hasher c.args.key.now (g.E.Keyed.key_of x) w) } in
    let ds = c.take_in_slots.new.self in
    let took = c.in-Some.ensures in
    let j = took.0 in
    let out : IsTakenOut p bs i ds j c.in-Some.entry = took.2 in
    record {
      table = taken-near p hash c.args.hash t.router.skipped t.length t.overflowing i bs c.self.invariant.table same (search rules) (search rules) _ c.args.self.now c.self.view_is ds j c.in-Some.entry out took.1;
      small_minimum = c.self.invariant.small_minimum;
      unique = taken-unique p hash c.args.hash t.router.skipped t.length t.overflowing i bs c.self.invariant.table same (search rules) (search rules) _ c.args.self.now c.self.view_is ds j c.in-Some.entry out g.met.E.Key.Eq.laws g.E.Keyed.key_of c.self.invariant.unique;
    }

pub returns-in-Some : goal.returns-in-Some
returns-in-Some g c =
    let t = c.self.inside in
    let bs = t.buckets in
    let i = c.bucket-bucket.result in
    let p = λ (x : g.row.E.Denot). g.E.Key.PartialEq.eq c.args.key.now (g.E.Keyed.key_of x) in
    let hash = λ (x : g.row.E.Denot). g.H.Hashes.hash_of t.router.hasher (g.E.Keyed.key_of x) in
    let hashed = rw (settings-view bs _ c.args.self.now c.self.view_is, hash_in) at c.requires in
    let same : HashOf p hash c.args.hash = record { same = λ x w. sym (hashed ∙ g.met.H.Hashes.respects_eq t.router.hasher c.args.key.now (g.E.Keyed.key_of x) w) } in
    let ds = c.take_in_slots.new.self in
    let took = c.in-Some.ensures in
    let j = took.0 in
    let out : IsTakenOut p bs i ds j c.in-Some.entry = took.2 in
    taken-first p hash c.args.hash t.router.skipped t.length t.overflowing i bs c.self.invariant.table same (search rules) (search rules) _ c.args.self.now c.self.view_is ds j c.in-Some.entry out

pub returns-then-not-may_overflow : goal.returns-then-not-may_overflow
returns-then-not-may_overflow g c =
    let t = c.self.inside in
    let bs = t.buckets in
    let i = c.bucket-bucket.result in
    let p = λ (x : g.row.E.Denot). g.E.Key.PartialEq.eq c.args.key.now (g.E.Keyed.key_of x) in
    let hash = λ (x : g.row.E.Denot). g.H.Hashes.hash_of t.router.hasher (g.E.Keyed.key_of x) in
    let hashed = rw (settings-view bs _ c.args.self.now c.self.view_is, hash_in) at c.requires in
    let same : HashOf p hash c.args.hash = record { same = λ x w. sym (hashed ∙ g.met.H.Hashes.respects_eq t.router.hasher c.args.key.now (g.E.Keyed.key_of x) w) } in
    let ds = c.take_in_slots.new.self in
    let stays : ds ≡ bs = c.in-None.ensures.1 in
    let empty : (shelf_of bs i).overflow ≡ [] = subst (λ (z : List (Shelf g.row.E.Denot)). (shelf_of z i).overflow ≡ []) stays (c.may_overflow.ensures c.if-not-may_overflow.true) in
    missed-places p hash c.args.hash t.router.skipped t.length t.overflowing i bs c.self.invariant.table same (search rules) (search rules) _ c.args.self.now c.self.view_is c.in-None.ensures.0 empty ds stays

pub invariant_of-self-in-Some-take_in_overflow : goal.invariant_of-self-in-Some-take_in_overflow
invariant_of-self-in-Some-take_in_overflow g c =
    let t = c.self.inside in
    let bs = t.buckets in
    let i = c.bucket-bucket.result in
    let p = λ (x : g.row.E.Denot). g.E.Key.PartialEq.eq c.args.key.now (g.E.Keyed.key_of x) in
    let hash = λ (x : g.row.E.Denot). g.H.Hashes.hash_of t.router.hasher (g.E.Keyed.key_of x) in
    let hashed = rw (settings-view bs _ c.args.self.now c.self.view_is, hash_in) at c.requires in
    let same : HashOf p hash c.args.hash = record { same = λ x w. sym (hashed ∙ g.met.H.Hashes.respects_eq t.router.hasher c.args.key.now (g.E.Keyed.key_of x) w) } in
    let ds = c.take_in_overflow.new.self in
    let took = c.in-Some-take_in_overflow.ensures in
    let j = took.0 in
    let x = c.in-Some-take_in_overflow.entry in
    let out : IsTakenOut p bs i ds j x = subst (λ (z : List (Shelf g.row.E.Denot)). IsTakenOut p z i ds j x) c.in-None.ensures.1 took.2 in
    let past : length (shelf_of bs i).slots ≤ j = subst (λ (z : List (Shelf g.row.E.Denot)). length (shelf_of z i).slots ≤ j) c.in-None.ensures.1 took.1 in
    record {
      table = (taken-far p hash c.args.hash t.router.skipped t.length t.overflowing i bs c.self.invariant.table same (search rules) (search rules) _ c.args.self.now c.self.view_is ds j x out past).0;
      small_minimum = c.self.invariant.small_minimum;
      unique = taken-unique p hash c.args.hash t.router.skipped t.length t.overflowing i bs c.self.invariant.table same (search rules) (search rules) _ c.args.self.now c.self.view_is ds j x out g.met.E.Key.Eq.laws g.E.Keyed.key_of c.self.invariant.unique;
    }

pub returns-in-Some-take_in_overflow : goal.returns-in-Some-take_in_overflow
returns-in-Some-take_in_overflow g c =
    let t = c.self.inside in
    let bs = t.buckets in
    let i = c.bucket-bucket.result in
    let p = λ (x : g.row.E.Denot). g.E.Key.PartialEq.eq c.args.key.now (g.E.Keyed.key_of x) in
    let hash = λ (x : g.row.E.Denot). g.H.Hashes.hash_of t.router.hasher (g.E.Keyed.key_of x) in
    let hashed = rw (settings-view bs _ c.args.self.now c.self.view_is, hash_in) at c.requires in
    let same : HashOf p hash c.args.hash = record { same = λ x w. sym (hashed ∙ g.met.H.Hashes.respects_eq t.router.hasher c.args.key.now (g.E.Keyed.key_of x) w) } in
    let ds = c.take_in_overflow.new.self in
    let took = c.in-Some-take_in_overflow.ensures in
    let j = took.0 in
    let x = c.in-Some-take_in_overflow.entry in
    let out : IsTakenOut p bs i ds j x = subst (λ (z : List (Shelf g.row.E.Denot)). IsTakenOut p z i ds j x) c.in-None.ensures.1 took.2 in
    let past : length (shelf_of bs i).slots ≤ j = subst (λ (z : List (Shelf g.row.E.Denot)). length (shelf_of z i).slots ≤ j) c.in-None.ensures.1 took.1 in
    taken-first p hash c.args.hash t.router.skipped t.length t.overflowing i bs c.self.invariant.table same (search rules) (search rules) _ c.args.self.now c.self.view_is ds j x out

pub returns-in-None-take_in_overflow : goal.returns-in-None-take_in_overflow
returns-in-None-take_in_overflow g c =
    let t = c.self.inside in
    let bs = t.buckets in
    let i = c.bucket-bucket.result in
    let p = λ (x : g.row.E.Denot). g.E.Key.PartialEq.eq c.args.key.now (g.E.Keyed.key_of x) in
    let hash = λ (x : g.row.E.Denot). g.H.Hashes.hash_of t.router.hasher (g.E.Keyed.key_of x) in
    let hashed = rw (settings-view bs _ c.args.self.now c.self.view_is, hash_in) at c.requires in
    let same : HashOf p hash c.args.hash = record { same = λ x w. sym (hashed ∙ g.met.H.Hashes.respects_eq t.router.hasher c.args.key.now (g.E.Keyed.key_of x) w) } in
    let ds = c.take_in_overflow.new.self in
    let stays = c.in-None.ensures.1 in
    let missed : position p (shelf_entries (shelf_of bs i)) ≡ None = subst (λ (z : List (Shelf g.row.E.Denot)). position p (shelf_entries (shelf_of z i)) ≡ None) stays c.in-None-take_in_overflow.ensures.0 in
    missed-all p hash c.args.hash t.router.skipped t.length t.overflowing i bs c.self.invariant.table same (search rules) (search rules) _ c.args.self.now c.self.view_is missed ds (c.in-None-take_in_overflow.ensures.1 ∙ stays)
