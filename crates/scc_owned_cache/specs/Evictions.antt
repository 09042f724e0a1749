-- What a put under a rule evicts.
use Rattle.std.specs.Prelude.{◌≡◌, Bool, false, Option, IfSome}

-- the pair that was evicted to put in k, if there is one: its key doesn't equal k, and it keeps the rule
abbrev pub IsEvictedFor : {K V : Type 0} → (K → K → Bool) → (K → V → Type 0) → K → Option (K × V) → Type 0
IsEvictedFor eq holds k out = IfSome out (λ p. (eq k p.0 ≡ false) × holds p.0 p.1)
