use Rattle.std.proofs.Common.{◌≡◌, ◌==◌, ◌++◌, Some, set, sym, ap, ◌∙◌, arith, inl, inr, length-set, Bool, true, false, refl}
use mir.Val.{bool_byte}
use Rattle.std.specs.List.{slice_get}
use Rattle.std.proofs.lemmas.List.{length-map, map-set}
use Rattle.scc_array.proofs.Gets.{get-set, get-set_other, get-within}
use Rattle.scc_array.proofs.Windows.{same_or_not}
use Rattle.scc_array.specs.Shelves.{shelf_of}
use Rattle.scc_array.proofs.ListsLemmas.{get-left}
use Rattle.scc_common.specs.Routing.{bucket_number}
use Rattle.scc_draining.proofs.relocate.Relocation.flags_of.Goals as goal
use Rattle.scc_array.specs.Sifts.{raised}

one-or-zero : (b : Bool) → (bool_byte b == 1) ≡ b
one-or-zero true = refl
one-or-zero false = refl

pub loop-slot-preserved : goal.loop-slot-preserved
loop-slot-preserved g c =
    let p = c.loop-slot.slot in
    let flag = bool_byte (c.bucket.result == c.args.self.now.target) in
    let bits = raised c.loop-slot.flags in
    let many = length-map c.loop-slot.flags (λ x. x == 1) in
    let up : (flag == 1) ≡ (c.bucket.result == c.args.self.now.target) = one-or-zero (c.bucket.result == c.args.self.now.target) in
    let next : raised (set c.loop-slot.flags p flag) ≡ set bits p (c.bucket.result == c.args.self.now.target) = map-set (λ x. x == 1) c.loop-slot.flags p flag ∙ ap (λ b. set bits p b) up in
    let xs = (shelf_of c.args.old.now c.args.source).slots in let os = (shelf_of c.args.old.now c.args.source).overflow in
    let number = λ (e : g.row.E.Denot). bucket_number c.args.router.now.skipped c.args.self.now.count (g.H.Hashes.hash_of c.args.router.now.hasher (g.E.Keyed.key_of e)) in
    let x = c.entry_of.result.now in
    let hashed = c.hash-hash.ensures ∙ ap (λ k. g.H.Hashes.hash_of c.args.router.now.hasher k) c.key.ensures in
    let to : c.bucket.result ≡ number x = c.bucket.ensures.value ∙ ap (bucket_number c.args.router.now.skipped c.args.self.now.count) hashed in (
      length-set c.loop-slot.flags p flag ∙ c.loop-slot.invariant.0,
      λ j e l got. ap (λ fs. slice_get fs j) next ∙ elim (same_or_not j p) [
        | inl s ↦
            let there : slice_get (xs ++ os) p ≡ Some e = get-left xs os p e (ap (slice_get xs) (sym s) ∙ got) in
            let both : Some e ≡ Some x = sym there ∙ c.entry_of.ensures in
            let same : x ≡ e = cc in
            let within = get-within xs j e got in
            let n = c.loop-slot.invariant.0 in
            ap (slice_get (set bits p (c.bucket.result == c.args.self.now.target))) s ∙ get-set bits p (c.bucket.result == c.args.self.now.target) (let m = c.slot_count-slots.ensures.most in let t = c.loop-slot-test.true in omega arith) ∙ ap (λ k. Some (k == c.args.self.now.target)) (to ∙ ap number same)
        | inr d ↦ get-set_other bits p j (c.bucket.result == c.args.self.now.target) d ∙ c.loop-slot.invariant.1 j e (omega arith) got
      ],
    )

pub returns : goal.returns
returns g c = λ j e got. c.loop-slot.invariant.1 j e (let l = get-within (shelf_of c.args.old.now c.args.source).slots j e got in omega (arith, c.loop-slot-test.false, c.slot_count-slots.ensures.count)) got
