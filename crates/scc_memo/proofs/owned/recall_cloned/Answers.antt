use Rattle.std.proofs.Common.{◌∙◌, ap, refl, rules, subst, sym}
use Rattle.scc_common.specs.Contents.{key_hash}
use Rattle.scc_owned_cache.specs.Entries.{occupied_pair}
use Rattle.scc_memo.specs.Memos.{HasValues, refreshed}
use Rattle.scc_memo.proofs.Values.{key-there, remembers-as, remembers-through, value-or-clone, value-there, value-under, values-remembered}
use Rattle.scc_memo.proofs.owned.recall_cloned.Goals as goal

pub clone_or_call-requires : goal.clone_or_call-requires
clone_or_call-requires g c =
    let hash = key_hash g.H.BuildHasher g.H.Hasher.Hasher g.P.Key.Hash.hash_input c.args.cache.now.contents in
    let s = c.in-Occupied.ensures.entry.changes.lists in
    subst (g.P.Pure.wanted c.args.function.now) (sym c.key.ensures.key) (c.requires.wanted (occupied_pair c.in-Occupied.entry).0 (key-there (g.P.Pure.value c.args.function.now) hash g.P.Key.PartialEq.eq c.args.cache.now.contents c.args.k s.0 (occupied_pair c.in-Occupied.entry) s.1 c.requires.values))

pub of-value-requires : goal.of-value-requires
of-value-requires g c = subst (g.P.Pure.wanted c.args.function.now) (sym (c.key-in-Vacant.ensures ∙ c.in-Vacant.ensures.entry.key)) (c.requires.wanted c.args.k (g.met.P.Key.Eq.laws.refl c.args.k))

pub returns-in-Occupied-clause-value : goal.returns-in-Occupied-clause-value
returns-in-Occupied-clause-value g c =
    let value = g.P.Pure.value c.args.function.now in
    let hash = key_hash g.H.BuildHasher g.H.Hasher.Hasher g.P.Key.Hash.hash_input c.args.cache.now.contents in
    let s = c.in-Occupied.ensures.entry.changes.lists in
    let alike = g.met.P.Pure.equal_alike c.args.function.now in
    value-or-clone g.P.Value.Clone.is_clone (value c.key.result.now) (value c.args.k) c.get.result.now c.clone_or_call.result
    (ap value c.key.ensures.key ∙ value-under value hash g.P.Key.PartialEq.eq alike c.args.cache.now.contents c.args.k s.0 (occupied_pair c.in-Occupied.entry) s.1 c.requires.values)
    (c.get.ensures.value ∙ value-there value hash g.P.Key.PartialEq.eq alike c.args.cache.now.contents c.args.k s.0 (occupied_pair c.in-Occupied.entry) s.1 c.requires.values)
    c.clone_or_call.ensures

pub returns-in-Occupied-clause-values : goal.returns-in-Occupied-clause-values
returns-in-Occupied-clause-values g c =
    let value = g.P.Pure.value c.args.function.now in
    let after : HasValues value c.in-Occupied.entry.guard.now.contents =
    values-remembered value (key_hash g.H.BuildHasher g.H.Hasher.Hasher g.P.Key.Hash.hash_input c.args.cache.now.contents) g.P.Key.PartialEq.eq c.args.cache.now c.in-Occupied.entry.guard.now c.args.k (value c.args.k) (refreshed (occupied_pair c.in-Occupied.entry) c.in-Occupied.ensures.entry.changes c.in-Occupied.ensures.entry.relocates) refl c.requires.values in
    search (rules, after)

pub returns-in-Occupied-clause-step : goal.returns-in-Occupied-clause-step
returns-in-Occupied-clause-step g c =
    let value = g.P.Pure.value c.args.function.now in
    remembers-as value (key_hash g.H.BuildHasher g.H.Hasher.Hasher g.P.Key.Hash.hash_input c.args.cache.now.contents) g.P.Key.PartialEq.eq c.args.cache.now c.args.k (value c.args.k) c.in-Occupied.entry.guard.now _ (search rules) (refreshed (occupied_pair c.in-Occupied.entry) c.in-Occupied.ensures.entry.changes c.in-Occupied.ensures.entry.relocates)

pub returns-in-Vacant-clause-step : goal.returns-in-Vacant-clause-step
returns-in-Vacant-clause-step g c =
    let value = g.P.Pure.value c.args.function.now in
    let vacant = c.in-Vacant.ensures.entry in
    remembers-as value (key_hash g.H.BuildHasher g.H.Hasher.Hasher g.P.Key.Hash.hash_input c.args.cache.now.contents) g.P.Key.PartialEq.eq c.args.cache.now c.args.k (value c.args.k) _ _ (search rules) (remembers-through value (key_hash g.H.BuildHasher g.H.Hasher.Hasher g.P.Key.Hash.hash_input) g.P.Key.PartialEq.eq c.args.cache.now c.in-Vacant.entry.guard.now _ c.args.k c.in-Vacant.entry.key c.of-value.result (value c.args.k) c.put-evicted.result vacant.contents vacant.key (c.of-value.ensures ∙ ap value (c.key-in-Vacant.ensures ∙ vacant.key)) vacant.absent c.put-evicted.ensures.step c.put-evicted.ensures.relocates)

pub returns-in-Vacant-clause-values : goal.returns-in-Vacant-clause-values
returns-in-Vacant-clause-values g c =
    let value = g.P.Pure.value c.args.function.now in
    let vacant = c.in-Vacant.ensures.entry in
    let after = values-remembered value (key_hash g.H.BuildHasher g.H.Hasher.Hasher g.P.Key.Hash.hash_input c.args.cache.now.contents) g.P.Key.PartialEq.eq c.args.cache.now _ c.args.k (value c.args.k) (remembers-through value (key_hash g.H.BuildHasher g.H.Hasher.Hasher g.P.Key.Hash.hash_input) g.P.Key.PartialEq.eq c.args.cache.now c.in-Vacant.entry.guard.now _ c.args.k c.in-Vacant.entry.key c.of-value.result (value c.args.k) c.put-evicted.result vacant.contents vacant.key (c.of-value.ensures ∙ ap value (c.key-in-Vacant.ensures ∙ vacant.key)) vacant.absent c.put-evicted.ensures.step c.put-evicted.ensures.relocates) refl c.requires.values in
    search (rules, after)
