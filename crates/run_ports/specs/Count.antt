use Rattle.std.specs.Prelude.{ℕ, ◌+◌, ◌-◌, ◌^◌, ◌≤◌, min}

-- a count of 64 bits that goes up by one, and stays at its last value
abbrev pub count_after : ℕ → ℕ
count_after n = min (n + 1) (2 ^ 64 - 1)

-- a count that was `before` rose, or stands at its last value
abbrev pub Rose : ℕ → ℕ → Type 0
Rose before now = count_after before ≤ now
