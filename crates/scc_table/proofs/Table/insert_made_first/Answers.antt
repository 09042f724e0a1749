use Rattle.std.proofs.Common.{◌≡◌, ◌∙◌, ℕ, None, List, map, sym, ap, subst, arith}
use Rattle.std.proofs.lemmas.Result.{IfErr-weaker, IfOk-weaker, on_ok_weaker}
use Rattle.std.specs.List.{position, IsDistinct}
use Rattle.scc_common.specs.Contents.{hash_in, settings_of}
use Rattle.scc_draining.specs.Drainings.{draining_of}
use Rattle.scc_table.specs.TwoArrays.{IsTable, together}
use Rattle.scc_table.proofs.arrays.OneArray.{entries-alone, lists-alone}
use Rattle.scc_table.proofs.resizes.FirstArray.{first-flags}
use Rattle.scc_table.proofs.arrays.JoinedLists.{refused-together, settings-together, waiting-together}
use Rattle.scc_table.proofs.arrays.CurrentCalls.{fields-lone, over-first, over-grows, over-inserted, over-unchanged}
use Rattle.scc_table.proofs.arrays.SameParts.{entries-same, hash-same}
use Rattle.scc_table.proofs.arrays.NoneWaits.{either-answer}
use Rattle.scc_table.proofs.arrays.Views.{count-seen, lists-seen, refused-seen, settings-seen}
use Rattle.scc_table.proofs.Table.insert_made_first.Goals as goal

pub insert_made_first-requires-clause-hashed : goal.insert_made_first-requires-clause-hashed
insert_made_first-requires-clause-hashed g c =
    let t = c.self.inside in
    let cur = t.current in
    let ws = t.draining.waiting.items in
    let olds = t.draining.array in
    let a = c.args.self.now in
    let hk = hash_in g.H.Hashes.hash_of cur in
    let hash = λ (e : g.row.E.Denot). hk (g.E.Keyed.key_of e) in
    let view = c.self.view_is in
    let outer = hash-same g.H.Hashes.hash_of cur a (settings-seen hash cur ws olds a view) in
    c.requires.hashed ∙ ap (λ (h : g.row.E-Key.Denot → ℕ). h (g.E.Keyed.key_of (g.E.Made.made_of c.args.parts))) outer

pub insert_made_first-requires-clause-none : goal.insert_made_first-requires-clause-none
insert_made_first-requires-clause-none g c =
    let t = c.self.inside in
    let cur = t.current in
    let hash = λ (e : g.row.E.Denot). hash_in g.H.Hashes.hash_of cur (g.E.Keyed.key_of e) in
    sym (count-seen hash cur t.draining.waiting.items t.draining.array c.args.self.now c.self.view_is c.self.invariant.arrays.flags) ∙ c.requires.none

pub insert_made_first-requires-clause-absent : goal.insert_made_first-requires-clause-absent
insert_made_first-requires-clause-absent g c =
    let t = c.self.inside in
    let cur = t.current in
    let ws = t.draining.waiting.items in
    let olds = t.draining.array in
    let a = c.args.self.now in
    let inv = c.self.invariant in
    let hk = hash_in g.H.Hashes.hash_of cur in
    let hash = λ (e : g.row.E.Denot). hk (g.E.Keyed.key_of e) in
    let view = c.self.view_is in
    let none = first-flags inv view c.requires.none in
    let before = lists-seen hash cur ws olds a view none in
    subst (λ es. position (λ e. g.E.Key.PartialEq.eq (g.E.Keyed.key_of (g.E.Made.made_of c.args.parts)) (g.E.Keyed.key_of e)) es ≡ None) (entries-same cur a before) c.requires.absent

pub invariant_of-self : goal.invariant_of-self
invariant_of-self g c =
    let t = c.self.inside in
    let new = c.insert_made_first.new.self in
    let e = c.insert_made_first.ensures in
    let none = first-flags c.self.invariant c.self.view_is c.requires.none in
    let kept : settings_of new ≡ settings_of t.current = either-answer c.insert_made_first.result e.ok e.err (λ p i. i.holds.settings) (λ p u. u.1.settings) in
    subst (λ (h : g.row.E-Key.Denot → ℕ). IsTable g.E.Key.PartialEq.eq g.E.Keyed.key_of h new (draining_of t.draining)) (sym (hash-same g.H.Hashes.hash_of t.current new kept))
    (fields-lone g.E.Key.PartialEq.eq g.E.Keyed.key_of (hash_in g.H.Hashes.hash_of t.current) t.current new (draining_of t.draining) c.self.invariant none kept (omega (arith, e.few)) e.unique)

pub returns : goal.returns
returns g c =
    let t = c.self.inside in
    let cur = t.current in
    let ws = t.draining.waiting.items in
    let olds = t.draining.array in
    let a = c.args.self.now in
    let new = c.insert_made_first.new.self in
    let inv = c.self.invariant in
    let hk = hash_in g.H.Hashes.hash_of cur in
    let hash = λ (e : g.row.E.Denot). hk (g.E.Keyed.key_of e) in
    let view = c.self.view_is in
    let none = first-flags inv view c.requires.none in
    let later = λ (e : g.row.E.Denot). hash_in g.H.Hashes.hash_of new (g.E.Keyed.key_of e) in
    let d = together later new ws olds in
    let before = lists-seen hash cur ws olds a view none in
    let had = settings-seen hash cur ws olds a view in
    let after = lists-alone later new ws olds none in
    let has = settings-together later new ws olds in
    record {
      ok = (IfOk-weaker c.insert_made_first.result _ _ (λ p i. over-inserted a cur new d before had after has (waiting-together later new ws olds ∙ none) (g.E.Made.made_of c.args.parts) p i) c.insert_made_first.ensures.ok);
      err = (IfErr-weaker c.insert_made_first.result _ _ (λ p u. (u.0, over-unchanged a cur new d before had after has u.1)) c.insert_made_first.ensures.err);
      growth = (over-grows a cur new d before had after has c.requires.none c.insert_made_first.ensures.growth);
      noted = (refused-together later new ws olds ∙ c.insert_made_first.ensures.noted ∙ sym (refused-seen hash cur ws olds a c.self.view_is));
      first = (on_ok_weaker c.insert_made_first.result (λ f. over-first a cur new d before had after has f) c.insert_made_first.ensures.first);
      waiting = (waiting-together later new ws olds ∙ none);
      unique = (subst (λ (es : List g.row.E.Denot). IsDistinct g.E.Key.PartialEq.eq (map g.E.Keyed.key_of es)) (sym (entries-alone later new ws olds none)) c.insert_made_first.ensures.unique);
    }
