-- Facts that puts, one after another, leave as they are.
use Rattle.std.proofs.Common.{◌≡◌, ◌∙◌, ℕ, Bool, List, [], ◌∷◌, Option, Result, Ok, Err, sym, ap}
use Rattle.scc_common.specs.Contents.{Contents, settings_of}
use Rattle.scc_common.specs.declared.errors.InsertError.{InsertError}
use Rattle.scc_common.specs.declared.errors.InsertError.TheVariants.{Exists, Memory}
use Rattle.scc_owned_cache.specs.Caches.{Cached}
use Rattle.scc_owned_cache.specs.CacheSteps.{Puts}
use Rattle.scc_owned_cache.specs.Collections.{PutsAll}

module _ {K V S : Type 0} (eq : K → K → Bool) where
  put-settings : (hash : K → ℕ) (c : Cached (K × V) S) (p : K × V) (r : Result (Option (K × V)) (InsertError K V)) (d : Cached (K × V) S) → Puts hash eq c p r d → settings_of d.contents ≡ settings_of c.contents
  put-settings hash c p (Ok x) d s = s.1.2.settings ∙ s.1.1.settings
  put-settings hash c p (Err (Exists q)) d s = ap (λ z. settings_of z.contents) s.2
  put-settings hash c p (Err (Memory q)) d s = ap (λ z. settings_of z.contents) s.3

  put-maximum : (hash : K → ℕ) (c : Cached (K × V) S) (p : K × V) (r : Result (Option (K × V)) (InsertError K V)) (d : Cached (K × V) S) → Puts hash eq c p r d → d.maximum ≡ c.maximum
  put-maximum hash c p (Ok x) d s = s.1.2.maximum ∙ s.1.1.maximum
  put-maximum hash c p (Err (Exists q)) d s = ap (λ z. z.maximum) s.2
  put-maximum hash c p (Err (Memory q)) d s = ap (λ z. z.maximum) s.3

  module _ (hash : Contents (K × V) S → K → ℕ) where
    -- puts keep the settings
    pub collected-settings : (c : Cached (K × V) S) (ps : List (K × V)) (d : Cached (K × V) S) → PutsAll eq hash c ps d → settings_of d.contents ≡ settings_of c.contents
    collected-settings c [] d s = sym (ap (λ z. settings_of z.contents) s)
    collected-settings c (p ∷ ps) d s = collected-settings s.0 ps d s.2 ∙ put-settings (hash c.contents) c p s.1.0 s.0 s.1.1.step

    -- puts keep the maximum
    pub collected-maximum : (c : Cached (K × V) S) (ps : List (K × V)) (d : Cached (K × V) S) → PutsAll eq hash c ps d → d.maximum ≡ c.maximum
    collected-maximum c [] d s = sym (ap (λ z. z.maximum) s)
    collected-maximum c (p ∷ ps) d s = collected-maximum s.0 ps d s.2 ∙ put-maximum (hash c.contents) c p s.1.0 s.0 s.1.1.step
