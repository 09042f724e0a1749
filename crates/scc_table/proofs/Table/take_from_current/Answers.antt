use Rattle.std.proofs.Common.{◌∙◌, sym, ap, subst}
use Rattle.scc_common.specs.Contents.{Contents, Settings, hash_in, waiting_of}
use Rattle.scc_table.specs.Removals.{SwapTakesFirst}
use Rattle.scc_draining.specs.Drainings.{draining_of}
use Rattle.scc_table.specs.TwoArrays.{together}
use Rattle.scc_table.proofs.arrays.JoinedLists.{waiting-together}
use Rattle.scc_table.proofs.arrays.CurrentParts.{settings-seen}
use Rattle.scc_table.proofs.removals.CurrentArray.{not_waiting-taken, not_waiting-left}
use Rattle.scc_table.proofs.Table.take_from_current.Goals as goal

pub take_first-requires : goal.take_first-requires
take_first-requires g c =
    let t = c.self.inside in
    let hk = hash_in g.H.Hashes.hash_of t.current in
    let hash = λ (e : g.row.E.Denot). hk (g.E.Keyed.key_of e) in
    let set = settings-seen hash t.current t.draining.waiting.items t.draining.array c.args.self.now c.self.view_is in
    c.requires.hashed ∙ ap (λ s. g.H.Hashes.hash_of s.hasher c.args.key.now) (sym set)

pub invariant_of-self : goal.invariant_of-self
invariant_of-self g c =
    let t = c.self.inside in
    let passes = λ (x : g.row.E.Denot). g.E.Key.PartialEq.eq c.args.key.now (g.E.Keyed.key_of x) in
    let hash = λ (e : g.row.E.Denot). hash_in g.H.Hashes.hash_of t.current (g.E.Keyed.key_of e) in
    let hash_for = λ (s : Settings g.row.H.Denot) (k : g.row.E-Key.Denot). g.H.Hashes.hash_of s.hasher k in
    let none = sym (waiting-together hash t.current t.draining.waiting.items t.draining.array) ∙ ap waiting_of c.self.view_is ∙ c.requires.not_waiting in
    not_waiting-left g.E.Keyed.key_of passes g.met.E.Key.Eq.laws hash_for t.current c.take_first.new.self (draining_of t.draining) c.self.invariant none c.take_first.result c.take_first.ensures

pub returns : goal.returns
returns g c =
    let t = c.self.inside in
    let passes = λ (x : g.row.E.Denot). g.E.Key.PartialEq.eq c.args.key.now (g.E.Keyed.key_of x) in
    let hash = λ (e : g.row.E.Denot). hash_in g.H.Hashes.hash_of t.current (g.E.Keyed.key_of e) in
    let hash_for = λ (s : Settings g.row.H.Denot) (k : g.row.E-Key.Denot). g.H.Hashes.hash_of s.hasher k in
    let none = sym (waiting-together hash t.current t.draining.waiting.items t.draining.array) ∙ ap waiting_of c.self.view_is ∙ c.requires.not_waiting in
    let new = together (λ (e : g.row.E.Denot). hash_in g.H.Hashes.hash_of c.take_first.new.self (g.E.Keyed.key_of e)) c.take_first.new.self t.draining.waiting.items t.draining.array in
    subst (λ (z : Contents g.row.E.Denot g.row.H.Denot). SwapTakesFirst g.E.Key.PartialEq.eq g.E.Keyed.key_of passes z new c.take_first.result) c.self.view_is
    (not_waiting-taken g.E.Keyed.key_of passes g.met.E.Key.Eq.laws hash_for t.current c.take_first.new.self (draining_of t.draining) c.self.invariant none c.take_first.result c.take_first.ensures)
