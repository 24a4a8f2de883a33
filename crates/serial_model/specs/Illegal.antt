-- At which entry an order stops being legal.
use Rattle.std.specs.Prelude.{ℕ, suc, ◌<◌, List, length, take}
use Rattle.edit_terms.specs.declared.script.Script.{Script}
use Rattle.run_terms.specs.Order.{IsLegalOrder}
use Rattle.serial_model.specs.declared.plain_error.PlainError.{PlainError}
use Rattle.serial_model.specs.declared.plain_error.PlainError.TheVariants.{Illegal, Memory}

-- The entries before it make a legal order, and with it they don't: it is no player's number, or its player has no
-- command left.
pub record IsFirstIllegal (scripts : List Script) (order : List ℕ) (at : ℕ) : Type 0 where
  pub within : at < length order
  pub before : IsLegalOrder scripts (take at order)
  pub illegal : ¬ IsLegalOrder scripts (take (suc at) order)

-- what an error says of an order; want of memory says nothing
abbrev pub IsErrorOf : List Script → List ℕ → PlainError → Type 0
IsErrorOf scripts order (Illegal at) = IsFirstIllegal scripts order at
IsErrorOf scripts order Memory = Unit {0}
