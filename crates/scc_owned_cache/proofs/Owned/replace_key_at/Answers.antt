use Rattle.std.proofs.Common.{◌∙◌, ap, sym, subst}
use Rattle.scc_table.specs.Places.{IsPlace, spot_of}
use Rattle.scc_table.specs.Placed.{IsPlace-with_write_at}
use Rattle.scc_common.specs.Contents.{settings_of}
use Rattle.scc_common.specs.Hashing.{hash_of}
use Rattle.scc_common.specs.Pairs.{with_pair_key}
use Rattle.scc_owned_cache.proofs.Entries.{alike-keyed}
use Rattle.scc_owned_cache.proofs.Writing.{get-listed, key-state-by}
use Rattle.scc_owned_cache.proofs.Owned.replace_key_at.Goals as goal

pub replace_key_at-requires-clause-within : goal.replace_key_at-requires-clause-within
replace_key_at-requires-clause-within g c = subst (λ z. IsPlace z.contents c.args.place) (sym c.self.view_is) c.requires.within

pub replace_key_at-requires-clause-same : goal.replace_key_at-requires-clause-same
replace_key_at-requires-clause-same g c =
    let within = subst (λ z. IsPlace z.contents c.args.place) (sym c.self.view_is) c.requires.within in
    λ p got. c.requires.same p (rw (← c.self.view_is) (get-listed with_pair_key c.self.inside.table (spot_of c.self.inside.table c.args.place) within c.args.key p got))

pub invariant_of-self : goal.invariant_of-self
invariant_of-self g c =
    let within = subst (λ z. IsPlace z.contents c.args.place) (sym c.self.view_is) c.requires.within in
    let same = rw (← c.self.view_is) at c.requires.same in
    let s = settings_of c.self.inside.table in
    key-state-by g.K.PartialEq.eq (λ s k. hash_of g.H.BuildHasher g.H.Hasher.Hasher s.hasher (g.K.Hash.hash_input k)) (record { contents = c.self.inside.table; maximum = c.self.inside.maximum }) c.args.place within c.self.invariant c.args.key c.replace_key_at.new.self c.replace_key_at.ensures.new
    (λ q got. ap (hash_of g.H.BuildHasher g.H.Hasher.Hasher s.hasher) (g.met.K.Hash.respects_eq c.args.key q.0 (same q got)))
    c.replace_key_at.ensures.unique

pub returns-clause-old : goal.returns-clause-old
returns-clause-old g c =
    let within = subst (λ z. IsPlace z.contents c.args.place) (sym c.self.view_is) c.requires.within in
    let v = c.replace_key_at.ensures.old in
    rw (← c.self.view_is) (v.0, get-listed with_pair_key c.self.inside.table (spot_of c.self.inside.table c.args.place) within c.args.key v.0 v.1, v.2)

pub returns-clause-state : goal.returns-clause-state
returns-clause-state g c =
    let within = subst (λ z. IsPlace z.contents c.args.place) (sym c.self.view_is) c.requires.within in
    let same = rw (← c.self.view_is) at c.requires.same in
    let s = settings_of c.self.inside.table in
    key-state-by g.K.PartialEq.eq (λ s k. hash_of g.H.BuildHasher g.H.Hasher.Hasher s.hasher (g.K.Hash.hash_input k)) (record { contents = c.self.inside.table; maximum = c.self.inside.maximum }) c.args.place within c.self.invariant c.args.key c.replace_key_at.new.self c.replace_key_at.ensures.new
    (λ q got. ap (hash_of g.H.BuildHasher g.H.Hasher.Hasher s.hasher) (g.met.K.Hash.respects_eq c.args.key q.0 (same q got)))
    c.replace_key_at.ensures.unique

pub returns-clause-within : goal.returns-clause-within
returns-clause-within g c =
    let within = subst (λ z. IsPlace z.contents c.args.place) (sym c.self.view_is) c.requires.within in
    rw c.replace_key_at.ensures.new (IsPlace-with_write_at with_pair_key c.self.inside.table c.args.place c.args.key within)

pub returns-clause-alike : goal.returns-clause-alike
returns-clause-alike g c = λ p got.
    let t = c.self.inside.table in
    let within = subst (λ z. IsPlace z.contents c.args.place) (sym c.self.view_is) c.requires.within in
    let same = rw (← c.self.view_is) at c.requires.same in
    let v = c.replace_key_at.ensures.old in
    let here = get-listed with_pair_key t (spot_of t c.args.place) within c.args.key v.0 v.1 in
    let equal = g.met.K.Eq.laws.symm v.0.0 c.args.key ∙ same v.0 here in
    let now = rw c.replace_key_at.ensures.new at got in
    rw v.2 (alike-keyed g.K.PartialEq.eq (record { contents = t; maximum = c.self.inside.maximum }) c.args.place within v.0 c.args.key here equal p now)
