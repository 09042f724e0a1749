use Rattle.std.proofs.Common.{◌≡◌, ◌∙◌, ◌≤◌, ℕ, true, false, inl, inr, length, sym, ap, subst, arith, rules}
use Rattle.std.proofs.lemmas.Result.{on_err_weaker}
use Rattle.scc_common.specs.Contents.{HasRoomBy, bucket_count, hash_in, list_of, settings_of}
use Rattle.scc_common.specs.Routing.{bucket_number}
use Rattle.scc_table.proofs.arrays.OneBucket.{flag-down, routed-own, within-own}
use Rattle.scc_table.proofs.arrays.SameParts.{hash-same}
use Rattle.scc_table.proofs.arrays.Views.{settings-seen}
use Rattle.scc_table.proofs.insertions.Answered.{answered-fields, answered-new, answered-owed, answered-put, answered-stays, answered-unique, answered-waiting}
use Rattle.scc_table.proofs.insertions.CurrentArray.{long-full, room-own}
use Rattle.scc_table.proofs.Table.insert_in.Goals as goal
use Rattle.scc_table.proofs.Table.insert_in.Goals.{then-self-gt0+else-has_no_room, else-self-gt0}

pub insert_in-requires : goal.insert_in-requires
insert_in-requires g c = answered-new g.H.Hashes.hash_of c.self.invariant c.self.view_is c.requires.new

pub list_len-listed-requires : goal.list_len-listed-requires
list_len-listed-requires g c = within-own c.self.invariant c.self.view_is c.requires.new.within

pub returns-then-has_no_room : goal.returns-then-has_no_room
returns-then-has_no_room g c =
    record {
      exact = (search rules);
      err = (search rules);
      stays = (search rules);
      full = (
          let t = c.self.inside in
          let cur = t.current in
          let ws = t.draining.waiting.items in
          let olds = t.draining.array in
          let i = c.args.bucket in
          let inv = c.self.invariant in
          let hk = hash_in g.H.Hashes.hash_of cur in
          let hash = λ (e : g.row.E.Denot). hk (g.E.Keyed.key_of e) in
          let view = c.self.view_is in
          let settings = settings-seen hash cur ws olds c.args.self.now view in
          let outer = hash-same g.H.Hashes.hash_of cur c.args.self.now settings in
          let within = within-own c.self.invariant c.self.view_is c.requires.new.within in
          let down = flag-down c.self.invariant _ c.self.view_is c.requires.not_waiting in
          let routed = routed-own c.self.invariant _ c.self.view_is c.requires.new.routed in
          let hashed : c.args.hash ≡ hk (g.E.Keyed.key_of c.args.entry) = c.requires.new.hashed ∙ ap (λ (h : g.row.E-Key.Denot → ℕ). h (g.E.Keyed.key_of c.args.entry)) outer in
          let long : 32 ≤ length (list_of cur i) = omega (arith, c.if-has_no_room.ensures.full, c.list_len-listed.ensures.len) in
          let at : i ≡ bucket_number (settings_of cur).skipped (bucket_count cur) (hk (g.E.Keyed.key_of c.args.entry)) = routed ∙ ap (bucket_number (settings_of cur).skipped (bucket_count cur)) hashed in
          subst (λ (h : g.row.E-Key.Denot → ℕ). HasRoomBy h g.E.Keyed.key_of c.args.self.now (g.E.Keyed.key_of c.args.entry) → ⊥) (sym outer)
          (long-full g.E.Keyed.key_of hk cur ws olds inv.arrays c.args.self.now view c.list_len-listed.ensures.routed (g.E.Keyed.key_of c.args.entry) i within down at long));
      waiting = (search rules);
      owed = (search rules);
      unique = (search rules);
    }

pub invariant_of-self : goal.invariant_of-self
invariant_of-self g c =
    answered-fields g.met.E.Key.Eq.laws g.H.Hashes.hash_of c.self.invariant c.self.view_is c.args.entry _ _ c.requires.new c.requires.not_waiting c.insert_in.new.self c.insert_in.result c.insert_in.ensures.exact c.insert_in.ensures.stays
    (λ p put. elim c.if-self-gt0.branch [
      | then-self-gt0+else-has_no_room w ↦
          let was = w.overflow_len-spilled.ensures.value in
          elim (w.if-has_no_room.ensures.room (λ h. absurd (let z : false ≡ true = h in cc))) [
            | inl q ↦ let s = put.short (omega (arith, w.list_len-listed.ensures.len)) in omega (arith, c.self.invariant.few)
            | inr q ↦ omega (arith, put.spilled)
          ]
      | else-self-gt0 w ↦ let z = w.if-self-gt0.false in omega (arith, c.insert_in.ensures.few)
    ])

pub returns : goal.returns
returns g c =
    record {
      exact = answered-put g.met.E.Key.Eq.laws g.H.Hashes.hash_of c.self.invariant c.self.view_is c.args.entry _ _ c.requires.new c.requires.not_waiting c.insert_in.new.self c.insert_in.result c.insert_in.ensures.exact c.insert_in.ensures.stays;
      err = (search rules);
      stays = answered-stays g.met.E.Key.Eq.laws g.H.Hashes.hash_of c.self.invariant c.self.view_is c.args.entry _ _ c.requires.new c.requires.not_waiting c.insert_in.new.self c.insert_in.result c.insert_in.ensures.exact c.insert_in.ensures.stays;
      full = (
          let t = c.self.inside in
          let hk = hash_in g.H.Hashes.hash_of t.current in
          let outer = hash-same g.H.Hashes.hash_of t.current c.args.self.now (settings-seen _ t.current t.draining.waiting.items t.draining.array c.args.self.now c.self.view_is) in
          on_err_weaker c.insert_in.result
          (λ no. subst (λ (h : g.row.E-Key.Denot → ℕ). HasRoomBy h g.E.Keyed.key_of c.args.self.now (g.E.Keyed.key_of c.args.entry) → ⊥) (sym outer) (λ r. no (room-own g.E.Keyed.key_of hk t.current t.draining.waiting.items t.draining.array c.self.invariant.arrays c.args.self.now c.self.view_is (g.E.Keyed.key_of c.args.entry) r)))
          c.insert_in.ensures.full);
      waiting = answered-waiting g.met.E.Key.Eq.laws g.H.Hashes.hash_of c.self.invariant c.self.view_is c.args.entry _ _ c.requires.new c.requires.not_waiting c.insert_in.new.self c.insert_in.result c.insert_in.ensures.exact c.insert_in.ensures.stays;
      owed = answered-owed g.met.E.Key.Eq.laws g.H.Hashes.hash_of c.self.invariant c.self.view_is c.args.entry _ _ c.requires.new c.requires.not_waiting c.insert_in.new.self c.insert_in.result c.insert_in.ensures.exact c.insert_in.ensures.stays;
      unique = answered-unique g.met.E.Key.Eq.laws g.H.Hashes.hash_of c.self.invariant c.self.view_is c.args.entry _ _ c.requires.new c.requires.not_waiting c.insert_in.new.self c.insert_in.result c.insert_in.ensures.exact c.insert_in.ensures.stays;
    }
