-- Bytes of a script's text.
use Rattle.std.specs.Prelude.{ℕ, ◌==◌, Bool, ◌||◌}

-- a line feed
abbrev pub feed : ℕ
feed = 10

-- a carriage return
abbrev pub return : ℕ
return = 13

-- a blank: a space or a tab
abbrev pub is_blank : ℕ → Bool
is_blank b = b == 32 || b == 9

-- a quote: "
abbrev pub quote : ℕ
quote = 34

-- a number sign: #
abbrev pub hash : ℕ
hash = 35
