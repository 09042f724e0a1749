-- The meaning of a table of sessions: the end of each session.
use Rattle.std.specs.Prelude.{◌≡◌, ◌≤◌, ◌<◌, ℕ, Bool, true, false, cond, max, Option, None, Some, nat_eq}
use Rattle.std.specs.Option.{option_map}
use Rattle.scc_common.specs.Contents.{Contents, entries}
use Rattle.scc_common.specs.Pairs.{find}

module _ {S : Type 0} where
  -- when the session ends, if there is such a session
  unfoldable pub end_of : Contents (ℕ × ℕ) S → ℕ → Option ℕ
  end_of c id = option_map (λ p. p.1) (find nat_eq (entries c) id)

  -- session `id` ends at `end`, or is missing if `end` is `None`; each other session is as before
  pub record Sets (c : Contents (ℕ × ℕ) S) (id : ℕ) (end : Option ℕ) (d : Contents (ℕ × ℕ) S) : Type 0 where
    pub ends : (q : ℕ) → end_of d q ≡ cond (nat_eq q id) end (end_of c q)

  -- each session is as before
  pub record IsAsBefore (c d : Contents (ℕ × ℕ) S) : Type 0 where
    pub ends : (q : ℕ) → end_of d q ≡ end_of c q

  -- a stored session ends at `end` or later
  abbrev pub Renews : Option ℕ → Contents (ℕ × ℕ) S → ℕ → ℕ → Bool → Contents (ℕ × ℕ) S → Type 0
  Renews None c id end b d = (b ≡ false) × IsAsBefore c d
  Renews (Some old) c id end b d = (b ≡ true) × Sets c id (Some (max old end)) d

  -- a session that has ended by `now` is removed
  abbrev pub Expires : Option ℕ → Contents (ℕ × ℕ) S → ℕ → ℕ → Bool → Contents (ℕ × ℕ) S → Type 0
  Expires None c id now b d = (b ≡ false) × IsAsBefore c d
  Expires (Some end) c id now b d = ((end ≤ now) → (b ≡ true) × Sets c id None d) × ((now < end) → (b ≡ false) × IsAsBefore c d)
