use Rattle.std.proofs.Common.{◌≡◌, ◌∷◌, ◌++◌, [], Ok, Err, ◌∙◌, ap, append-nil, append_assoc, refl, subst, sym}
use Rattle.std.specs.Vec.Iter.{into_iter_items}
use Rattle.std.proofs.lemmas.Fn.{FoldsTo-push}
use Rattle.std.proofs.lemmas.List.{nil_from_length}
use Rattle.scc_common.specs.Contents.{entries, key_hash}
use Rattle.scc_owned_set.specs.Collections.{InsertsAll, InsertsOne}
use Rattle.scc_owned_set.proofs.Collecting.{finds-new, finds-old}
use Rattle.scc_owned_set.proofs.Owned.insert_all.Goals as goal
use Rattle.scc_owned_set.proofs.Owned.insert_all.Goals.{in-Ok, in-Err-Exists}

pub loop-k-preserved-after-insert_sync : goal.loop-k-preserved-after-insert_sync
loop-k-preserved-after-insert_sync g c =
    let hash = key_hash g.H.BuildHasher g.H.Hasher.Hasher g.K.Hash.hash_input in
    let inv = c.loop-k.invariant in
    let steps : into_iter_items c.loop-k.k-iterator ≡ c.in-Some.k ∷ into_iter_items c.next.new.self = c.in-Some.ensures.steps.0 in
    let place = append_assoc c.loop-k.yielded (c.in-Some.k ∷ []) (into_iter_items c.next.new.self) ∙ rw (← steps) inv.place in
    elim c.match-insert_sync.branch [
      | in-Ok w ↦ (let h = rw w.in-Ok.is at c.insert_sync.ensures.step in
          let f = rw w.in-Ok.is at c.insert_sync.ensures.finds in
          record {
            place = place;
            run = FoldsTo-push (InsertsOne g.K.PartialEq.eq hash) c.args.self.now c.loop-k.yielded c.loop-k.self c.in-Some.k c.insert_sync.new.self inv.run (Ok tt, tt, record { step = h; array = rw w.in-Ok.is at c.insert_sync.ensures.array });
            settings = h.1.settings ∙ inv.settings;
            unique = c.insert_sync.ensures.unique;
            finds = λ q. finds-new g.met.K.Eq.laws (entries c.args.self.now) (entries c.loop-k.self) (entries c.insert_sync.new.self) c.loop-k.yielded c.in-Some.k q (inv.finds q) (f.finds q) h.0;
          })
      | in-Err-Exists w ↦ (let h = rw w.in-Err-Exists.field-0-is at w.in-Err-Exists.ensures.step in
          record {
            place = place;
            run = FoldsTo-push (InsertsOne g.K.PartialEq.eq hash) c.args.self.now c.loop-k.yielded c.loop-k.self c.in-Some.k c.insert_sync.new.self inv.run (Err w.in-Err-Exists.field-0, rw w.in-Err-Exists.field-0-is tt, record { step = w.in-Err-Exists.ensures.step; array = rw w.in-Err-Exists.is at c.insert_sync.ensures.array });
            settings = h.2.settings ∙ inv.settings;
            unique = c.insert_sync.ensures.unique;
            finds = λ q. finds-old g.met.K.Eq.laws (entries c.args.self.now) (entries c.loop-k.self) (entries c.insert_sync.new.self) c.loop-k.yielded c.in-Some.k q (inv.finds q) h.2.exact h.1;
          })
    ]

pub loop-k-preserved : goal.loop-k-preserved
loop-k-preserved g c =
    let hash = key_hash g.H.BuildHasher g.H.Hasher.Hasher g.K.Hash.hash_input in
    let inv = c.loop-k.invariant in
    let steps : into_iter_items c.loop-k.k-iterator ≡ c.in-Some.k ∷ into_iter_items c.next.new.self = c.in-Some.ensures.steps.0 in
    let place = append_assoc c.loop-k.yielded (c.in-Some.k ∷ []) (into_iter_items c.next.new.self) ∙ rw (← steps) inv.place in
    elim c.match-insert_sync.branch [
      | in-Ok w ↦ (let h = rw w.in-Ok.is at c.insert_sync.ensures.step in
          let f = rw w.in-Ok.is at c.insert_sync.ensures.finds in
          record {
            place = place;
            run = FoldsTo-push (InsertsOne g.K.PartialEq.eq hash) c.args.self.now c.loop-k.yielded c.loop-k.self c.in-Some.k c.insert_sync.new.self inv.run (Ok tt, tt, record { step = h; array = rw w.in-Ok.is at c.insert_sync.ensures.array });
            settings = h.1.settings ∙ inv.settings;
            unique = c.insert_sync.ensures.unique;
            finds = λ q. finds-new g.met.K.Eq.laws (entries c.args.self.now) (entries c.loop-k.self) (entries c.insert_sync.new.self) c.loop-k.yielded c.in-Some.k q (inv.finds q) (f.finds q) h.0;
          })
      | in-Err-Exists w ↦ (let h = rw w.in-Err-Exists.field-0-is at w.in-Err-Exists.ensures.step in
          record {
            place = place;
            run = FoldsTo-push (InsertsOne g.K.PartialEq.eq hash) c.args.self.now c.loop-k.yielded c.loop-k.self c.in-Some.k c.insert_sync.new.self inv.run (Err w.in-Err-Exists.field-0, rw w.in-Err-Exists.field-0-is tt, record { step = w.in-Err-Exists.ensures.step; array = rw w.in-Err-Exists.is at c.insert_sync.ensures.array });
            settings = h.2.settings ∙ inv.settings;
            unique = c.insert_sync.ensures.unique;
            finds = λ q. finds-old g.met.K.Eq.laws (entries c.args.self.now) (entries c.loop-k.self) (entries c.insert_sync.new.self) c.loop-k.yielded c.in-Some.k q (inv.finds q) h.2.exact h.1;
          })
    ]

pub returns-in-Err-Memory : goal.returns-in-Err-Memory
returns-in-Err-Memory g c =
    let inv = c.loop-k.invariant in
    let steps : into_iter_items c.loop-k.k-iterator ≡ c.in-Some.k ∷ into_iter_items c.next.new.self = c.in-Some.ensures.steps.0 in
    let h = rw c.in-Err-Memory.field-0-is at c.in-Err-Memory.ensures.step in
    let array = rw (c.in-Err-Memory.is, c.in-Err-Memory.field-0-is, h.0) at c.insert_sync.ensures.array in
    rw h.0 (record { refused = (c.loop-k.yielded, into_iter_items c.next.new.self, c.loop-k.self, sym (rw (← steps) inv.place), inv.run, record { step = (refl, h.1, h.2, h.3); array = array }); run = tt; settings = tt; finds = tt; unique = tt })

pub returns-clause-run : goal.returns-clause-run
returns-clause-run g c =
    let inv = c.loop-k.invariant in
    let none : into_iter_items c.loop-k.k-iterator ≡ [] = nil_from_length (into_iter_items c.loop-k.k-iterator) (sym c.loop-k.k-iterator.rest.ok.0 ∙ c.in-None.ensures.steps.0) in
    let all : c.loop-k.yielded ≡ c.args.keys.items = sym (append-nil c.loop-k.yielded) ∙ ap (λ ks. c.loop-k.yielded ++ ks) (sym none) ∙ inv.place in
    subst (λ ks. InsertsAll g.K.PartialEq.eq (key_hash g.H.BuildHasher g.H.Hasher.Hasher g.K.Hash.hash_input) c.args.self.now ks c.loop-k.self) all inv.run
