-- The meaning of windows of requests.
use Rattle.std.specs.Prelude.{◌≤◌, ◌<◌, ◌-◌, ◌^◌, ℕ, suc, min, cond, Option, None, Some, nat_le}
use Rattle.scc_uses.specs.declared.requests.Window.{Window}

-- the window of the pair is over by now
abbrev pub IsExpired : ℕ → ℕ → ℕ × Window → Type 0
IsExpired width now p = width ≤ now - p.1.since

-- the window of the pair isn't over yet
abbrev pub IsLive : ℕ → ℕ → ℕ × Window → Type 0
IsLive width now p = now - p.1.since < width

-- the window of a user after a request
abbrev pub after_hit : ℕ → ℕ → Option (ℕ × Window) → Window
after_hit width now None = record { since = now; hits = 1 }
after_hit width now (Some p) = cond (nat_le width (now - p.1.since)) (record { since = now; hits = 1 }) (record { since = p.1.since; hits = min (suc p.1.hits) (2 ^ 64 - 1) })

-- the pair, unless its window is over by now
abbrev pub live_at : ℕ → ℕ → Option (ℕ × Window) → Option (ℕ × Window)
live_at width now None = None
live_at width now (Some p) = cond (nat_le width (now - p.1.since)) None (Some p)
