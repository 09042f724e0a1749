use Rattle.std.proofs.Common.{◌≡◌, true, false, inl, inr, arith, rules}
use Rattle.scc_table.proofs.arrays.OneBucket.{within-own}
use Rattle.scc_table.proofs.insertions.Answered.{answered-fields, answered-new, answered-owed, answered-put, answered-stays, answered-unique, answered-waiting}
use Rattle.scc_table.proofs.Table.insert_made_in.Goals as goal
use Rattle.scc_table.proofs.Table.insert_made_in.Goals.{then-self-gt0+else-has_no_room, else-self-gt0}

pub insert_made_in-requires : goal.insert_made_in-requires
insert_made_in-requires g c = answered-new g.H.Hashes.hash_of c.self.invariant c.self.view_is c.requires.new

pub list_len-listed-requires : goal.list_len-listed-requires
list_len-listed-requires g c = within-own c.self.invariant c.self.view_is c.requires.new.within

pub invariant_of-self : goal.invariant_of-self
invariant_of-self g c =
    answered-fields g.met.E.Key.Eq.laws g.H.Hashes.hash_of c.self.invariant c.self.view_is (g.E.Made.made_of c.args.parts) _ _ c.requires.new c.requires.not_waiting c.insert_made_in.new.self c.insert_made_in.result c.insert_made_in.ensures.exact c.insert_made_in.ensures.stays
    (λ p put. elim c.if-self-gt0.branch [
      | then-self-gt0+else-has_no_room w ↦
          let was = w.overflow_len-spilled.ensures.value in
          elim (w.if-has_no_room.ensures.room (λ h. absurd (let z : false ≡ true = h in cc))) [
            | inl q ↦ let s = put.short (omega (arith, w.list_len-listed.ensures.len)) in omega (arith, c.self.invariant.few)
            | inr q ↦ omega (arith, put.spilled)
          ]
      | else-self-gt0 w ↦ let z = w.if-self-gt0.false in omega (arith, c.insert_made_in.ensures.few)
    ])

pub returns : goal.returns
returns g c =
    record {
      exact = answered-put g.met.E.Key.Eq.laws g.H.Hashes.hash_of c.self.invariant c.self.view_is (g.E.Made.made_of c.args.parts) _ _ c.requires.new c.requires.not_waiting c.insert_made_in.new.self c.insert_made_in.result c.insert_made_in.ensures.exact c.insert_made_in.ensures.stays;
      err = (search rules);
      stays = answered-stays g.met.E.Key.Eq.laws g.H.Hashes.hash_of c.self.invariant c.self.view_is (g.E.Made.made_of c.args.parts) _ _ c.requires.new c.requires.not_waiting c.insert_made_in.new.self c.insert_made_in.result c.insert_made_in.ensures.exact c.insert_made_in.ensures.stays;
      full = (search rules);
      waiting = answered-waiting g.met.E.Key.Eq.laws g.H.Hashes.hash_of c.self.invariant c.self.view_is (g.E.Made.made_of c.args.parts) _ _ c.requires.new c.requires.not_waiting c.insert_made_in.new.self c.insert_made_in.result c.insert_made_in.ensures.exact c.insert_made_in.ensures.stays;
      owed = answered-owed g.met.E.Key.Eq.laws g.H.Hashes.hash_of c.self.invariant c.self.view_is (g.E.Made.made_of c.args.parts) _ _ c.requires.new c.requires.not_waiting c.insert_made_in.new.self c.insert_made_in.result c.insert_made_in.ensures.exact c.insert_made_in.ensures.stays;
      unique = answered-unique g.met.E.Key.Eq.laws g.H.Hashes.hash_of c.self.invariant c.self.view_is (g.E.Made.made_of c.args.parts) _ _ c.requires.new c.requires.not_waiting c.insert_made_in.new.self c.insert_made_in.result c.insert_made_in.ensures.exact c.insert_made_in.ensures.stays;
    }
