-- Parts that are made for one request have one setting.
use Rattle.std.proofs.Common.{◌≡◌, ◌∙◌, ℕ, zero, suc, ◌<◌, refl, sym, ap, subst, arith}
use Rattle.scc_common.specs.Sizes.{IsArraySize}
use Rattle.scc_calls.specs.declared.fixed.Request.{Request}
use Rattle.scc_calls.specs.declared.fixed.Setting.{Setting}

-- the setting s of a part that is made for the request r, in a kind with these limits. The slots of its array are the
-- minimum
pub record IsMadeFor {H : Type 0} (limits : ℕ → ℕ → ℕ → Type 0) (r : Request H) (s : Setting H) : Type 0 where
  pub hasher : s.hasher ≡ r.hasher
  pub skipped : s.skipped ≡ r.skipped
  pub none : r.slots ≡ 0 → s.minimum ≡ 0
  pub size : 0 < r.slots → IsArraySize r.slots s.minimum
  pub maximum : limits r.maximum s.minimum s.maximum

same-minimum : (slots m n : ℕ) → (slots ≡ 0 → m ≡ 0) → (slots ≡ 0 → n ≡ 0) → (0 < slots → IsArraySize slots m) → (0 < slots → IsArraySize slots n) → m ≡ n
same-minimum zero m n zm zn am an = zm refl ∙ sym (zn refl)
same-minimum (suc slots) m n zm zn am an =
    let a = am (omega arith) in
    let b = an (omega arith) in
    let l = a.fewest n b.power b.least b.enough in
    let k = b.fewest m a.power a.least a.enough in
    omega arith

same-fields : {H : Type 0} (a b : Setting H) → a.hasher ≡ b.hasher → a.skipped ≡ b.skipped → a.minimum ≡ b.minimum → a.maximum ≡ b.maximum → a ≡ b
same-fields {H} a b h s m x =
    let P : H → ℕ → ℕ → ℕ → Setting H = λ p q r t. record { hasher = p; skipped = q; minimum = r; maximum = t } in
    ap (λ p. P p a.skipped a.minimum a.maximum) h ∙ ap (λ q. P b.hasher q a.minimum a.maximum) s ∙ ap (λ r. P b.hasher b.skipped r a.maximum) m ∙ ap (λ t. P b.hasher b.skipped b.minimum t) x

-- a request has one setting
pub same-setting : {H : Type 0} (limits : ℕ → ℕ → ℕ → Type 0) → ((asked slots m n : ℕ) → limits asked slots m → limits asked slots n → m ≡ n)
    → (r : Request H) (a b : Setting H) → IsMadeFor limits r a → IsMadeFor limits r b → a ≡ b
same-setting limits one r a b p q =
    let n = same-minimum r.slots a.minimum b.minimum p.none q.none p.size q.size in
    same-fields a b (p.hasher ∙ sym q.hasher) (p.skipped ∙ sym q.skipped) n (one r.maximum b.minimum a.maximum b.maximum (subst (λ k. limits r.maximum k a.maximum) n p.maximum) q.maximum)
