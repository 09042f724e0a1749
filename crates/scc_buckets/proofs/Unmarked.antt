-- Contents without their mark.
use Rattle.std.proofs.Common.{◌≡◌, ◌∙◌, ℕ, Bool, false, List, refl, ap}
use Rattle.scc_common.specs.Contents.{Contents, Settings, bucket_count, entries, lists_of, note_of, notes_of, overflow_of, owed_of, settings_of, waiting_of, without_mark}
use Rattle.scc_common.specs.Steps.{IsUnchanged}

module _ {E S : Type 0} where
  made : List (List E) → Settings S → Bool × Bool → ℕ → List Bool → List (List ℕ) → Contents E S
  made l s r p w o = record { lists = l; settings = s; refused = r; spilled = p; waiting = w; owed = o }

  -- contents that have all but the mark of c are c without its mark
  pub is-without_mark : (c d : Contents E S) → lists_of d ≡ lists_of c → settings_of d ≡ settings_of c → notes_of d ≡ (note_of c, false) → overflow_of d ≡ overflow_of c → waiting_of d ≡ waiting_of c → owed_of d ≡ owed_of c → d ≡ without_mark c
  unfolding lists_of settings_of notes_of overflow_of waiting_of owed_of without_mark made
  is-without_mark c d l s r p w o =
      ap (λ z. made z d.settings d.refused d.spilled d.waiting d.owed) l
      ∙ ap (λ z. made c.lists z d.refused d.spilled d.waiting d.owed) s
      ∙ ap (λ z. made c.lists c.settings z d.spilled d.waiting d.owed) r
      ∙ ap (λ z. made c.lists c.settings (c.refused.0, false) z d.waiting d.owed) p
      ∙ ap (λ z. made c.lists c.settings (c.refused.0, false) c.spilled z d.owed) w
      ∙ ap (λ z. made c.lists c.settings (c.refused.0, false) c.spilled c.waiting z) o

  -- the entries, the buckets and the settings are those of c
  pub without_mark-unchanged : (c : Contents E S) → IsUnchanged c (without_mark c)
  unfolding entries bucket_count settings_of without_mark
  without_mark-unchanged c = record { exact = refl; buckets = refl; settings = refl }

  pub without_mark-lists : (c : Contents E S) → lists_of (without_mark c) ≡ lists_of c
  unfolding lists_of without_mark
  without_mark-lists c = refl

  pub without_mark-notes : (c : Contents E S) → notes_of (without_mark c) ≡ (note_of c, false)
  unfolding notes_of without_mark
  without_mark-notes c = refl
