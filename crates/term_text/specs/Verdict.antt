-- Verdicts: the value that a text stands for, or its fault; and what several verdicts come to, of which the
-- first fault from the left is the answer.
use Rattle.std.specs.Prelude.{List, [], ◌∷◌, Result, Ok, Err}

-- the same verdict on what is made of the value
abbrev pub verdict_map : {A B F : Type 0} → (A → B) → Result A F → Result B F
verdict_map f (Ok x) = Ok (f x)
verdict_map f (Err fault) = Err fault

-- the verdict on the value, where there is one
abbrev pub verdict_then : {A B F : Type 0} → (A → Result B F) → Result A F → Result B F
verdict_then f (Ok x) = f x
verdict_then f (Err fault) = Err fault

-- what is made of two values
abbrev pub both : {A B C F : Type 0} → (A → B → C) → Result A F → Result B F → Result C F
both f (Ok x) second = verdict_map (f x) second
both f (Err fault) second = Err fault

-- what is made of three values
abbrev pub all_three : {A B C D F : Type 0} → (A → B → C → D) → Result A F → Result B F → Result C F → Result D F
all_three f (Ok x) second third = both (f x) second third
all_three f (Err fault) second third = Err fault

-- the same verdict, with another name for the fault
abbrev pub fault_map : {A F G : Type 0} → (F → G) → Result A F → Result A G
fault_map f (Ok x) = Ok x
fault_map f (Err fault) = Err (f fault)

-- all values, where each verdict has one; else the first fault
abbrev pub all_or_first : {A F : Type 0} → List (Result A F) → Result (List A) F
all_or_first [] = Ok []
all_or_first (Ok x ∷ more) = verdict_map (λ xs. x ∷ xs) (all_or_first more)
all_or_first (Err fault ∷ more) = Err fault
