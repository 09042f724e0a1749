-- The entry of a word after the word is counted.
use Rattle.std.proofs.Common.{◌≡◌, ℕ, suc, ◌^◌, ◌-◌, min, sym, ap, ◌∙◌, nat_eq, MutBor}
use Rattle.std.specs.Cmp.{nat_eq_equiv}
use Rattle.std.specs.Fn.{Once, FnOnceReturnsAtMut}
use Rattle.std.specs.declared.cmp.PartialEq as equality
use Rattle.std.specs.declared.hash.Hash as hash
use Rattle.std.specs.declared.hash.Hasher as hasher
use Rattle.std.specs.declared.hash.BuildHasher as builder
use Rattle.scc_common.specs.Contents.{Contents, entries}
use Rattle.scc_common.specs.Pairs.{find}
use Rattle.scc_owned.specs.Held.{occupied_pair}
use Rattle.scc_owned.specs.Entries.{IsEntryOf}
use Rattle.scc_owned.specs.declared.held.HeldEntry.TheVariants.{Occupied, Vacant}
use Rattle.scc_owned.specs.declared.held.HeldEntry.{HeldEntry}
use Rattle.scc_common.specs.declared.guard.Guard as guard
use Rattle.scc_owned.proofs.CallerLemmas.{ModifiedOr}
use Rattle.scc_uses.specs.Counts.{one_more}
use Rattle.scc_owned.specs.Lends.{pair_keys}
use borrow.Author.Tests.{eqb-true}

module _ {G N S T : Type 0} {keep : guard.Ghosts G (Contents (ℕ × ℕ) S)} {g : equality.Ghosts ℕ} {h : hash.Ghosts ℕ} {b : builder.Ghosts S T} {w : hasher.Ghosts T} (c : Contents (ℕ × ℕ) S) (k : ℕ)
    {F : Type 0} (f : Once F (MutBor ℕ × Unit {0}) (Unit {0} × (MutBor ℕ × Unit {0}))) (x : F) (says : (m n : ℕ) → FnOnceReturnsAtMut f x m tt n → n ≡ min (suc m) (2 ^ 64 - 1)) where
  pub counted : (e : HeldEntry G N (ℕ × ℕ) S ℕ T keep pair_keys g b w h) (q : ℕ × ℕ) → IsEntryOf nat_eq c k e → ModifiedOr nat_eq_equiv c k f x e 1 q → q ≡ (k, one_more (find nat_eq (entries c) k))
  counted (Occupied p) q at m =
      let key : q.0 ≡ k = m.0 ∙ sym (eqb-true k (occupied_pair p).0 at.equal) in
      let value : q.1 ≡ one_more (find nat_eq (entries c) k) = says (occupied_pair p).1 q.1 m.1 ∙ sym (ap one_more at.found) in
      (λ i. (key i, value i))
  counted (Vacant e) q at m = m ∙ ap (λ o. (k, one_more o)) (sym at.found)
