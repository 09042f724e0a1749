use Rattle.std.proofs.Common.{◌≡◌, ◌∙◌, ℕ, ap, subst, arith, rules}
use Rattle.std.proofs.lemmas.Result.{on_err_weaker, on_ok_weaker}
use Rattle.std.specs.List.{count_by}
use Rattle.std.specs.List.Sorted.{IsPermutation}
use Rattle.scc_common.specs.Contents.{entries, hash_in}
use Rattle.scc_table.proofs.relocations.OneByOne.{pending-is}
use Rattle.scc_table.proofs.arrays.SameParts.{count-same, entries-same, hash-same, pending-same, regrouped-from, unchanged-same}
use Rattle.scc_table.proofs.Table.resize_to.Goals as goal

pub install_fresh-requires-clause-not_waiting : goal.install_fresh-requires-clause-not_waiting
install_fresh-requires-clause-not_waiting g c = pending-is c.finish.new.self ∙ ap (count_by (λ w. w)) c.in-Ok.ensures.ok

pub install_fresh-requires-clause-some : goal.install_fresh-requires-clause-some
install_fresh-requires-clause-some g c = let same = count-same c.args.self.now c.finish.new.self c.finish.ensures.lists in omega (arith, c.requires.some)

pub install_fresh-requires-clause-other : goal.install_fresh-requires-clause-other
install_fresh-requires-clause-other g c = λ z. c.requires.other (z ∙ count-same c.args.self.now c.finish.new.self c.finish.ensures.lists)

pub returns-in-Ok : goal.returns-in-Ok
returns-in-Ok g c =
    record {
      lists = (
          let a = c.args.self.now in
          let b = c.finish.new.self in
          let inner = λ (e : g.row.E.Denot). hash_in g.H.Hashes.hash_of b (g.E.Keyed.key_of e) in
          let outer = λ (e : g.row.E.Denot). hash_in g.H.Hashes.hash_of a (g.E.Keyed.key_of e) in
          let keys = hash-same g.H.Hashes.hash_of a b c.finish.ensures.settings in
          let same : inner ≡ outer = ap (λ (h : g.row.E-Key.Denot → ℕ). let f : g.row.E.Denot → ℕ = λ e. h (g.E.Keyed.key_of e) in f) keys in
          on_ok_weaker c.install_fresh.result (regrouped-from inner outer c.args.count a b c.install_fresh.new.self same c.finish.ensures.lists c.finish.ensures.settings) c.install_fresh.ensures.lists);
      same = (on_ok_weaker c.install_fresh.result (λ p. subst (λ es. IsPermutation es (entries c.install_fresh.new.self)) (entries-same c.args.self.now c.finish.new.self c.finish.ensures.lists) p) c.install_fresh.ensures.same);
      waiting = (search rules);
      pending = (search rules);
      down = (search rules);
      err = (on_err_weaker c.install_fresh.result (λ z. unchanged-same c.args.self.now c.install_fresh.new.self (z ∙ c.finish.ensures.lists) (c.install_fresh.ensures.settings ∙ c.finish.ensures.settings)) c.install_fresh.ensures.err);
      fewer = (search rules);
      less = (on_err_weaker c.install_fresh.result (λ z. let n = pending-same c.finish.new.self c.install_fresh.new.self z in omega (arith, c.finish.ensures.less)) c.install_fresh.ensures.stays);
      still = (on_err_weaker c.install_fresh.result (λ z. z ∙ c.finish.ensures.lists) c.install_fresh.ensures.err);
      settings = (search rules);
      bounded = (λ none short. c.install_fresh.ensures.bounded (c.finish.ensures.bounded none short));
      up = (search rules);
      unmarked = (search rules);
      unique = (search rules);
    }

pub returns-in-Err : goal.returns-in-Err
returns-in-Err g c =
    record {
      lists = (search rules);
      same = (search rules);
      waiting = (search rules);
      pending = (search rules);
      down = (search rules);
      err = (unchanged-same c.args.self.now c.note.new.self (c.note.ensures.lists ∙ c.finish.ensures.lists) (c.note.ensures.settings ∙ c.finish.ensures.settings));
      fewer = (search rules);
      less = (let n = pending-same c.finish.new.self c.note.new.self c.note.ensures.waiting in omega (arith, c.finish.ensures.less));
      still = (search rules);
      settings = (search rules);
      bounded = (λ none short. c.note.ensures.spilled ∙ c.finish.ensures.bounded none short);
      up = (search rules);
      unmarked = (search rules);
      unique = (search rules);
    }
