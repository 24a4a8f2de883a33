use Rattle.std.specs.Prelude.{◌≡◌, ℕ, ◌≤◌, List, ◌++◌, take, Option}
use Rattle.std.specs.Option.{option_map}

-- what a contract sees of an output
pub record OutputState : Type 0 where
  -- the bytes that were written, or None where they aren't known
  pub written : Option (List ℕ)
  -- how many writes failed
  pub faults : ℕ

-- no count fell
pub record IsLaterOutput (before now : OutputState) : Type 0 where
  pub faults : before.faults ≤ now.faults

-- where it is known, what is written is now all that was there before, and then these bytes
abbrev pub IsAppended : Option (List ℕ) → Option (List ℕ) → List ℕ → Type 0
IsAppended before after bytes = after ≡ option_map (λ written. written ++ bytes) before

-- only the first `kept` of the bytes were appended, or all where there are fewer
pub record IsPartlyAppended (before after : Option (List ℕ)) (bytes : List ℕ) : Type 0 where
  pub kept : ℕ
  pub appended : IsAppended before after (take kept bytes)
