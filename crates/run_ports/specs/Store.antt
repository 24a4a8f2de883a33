use Rattle.std.specs.Prelude.{◌≡◌, ℕ, ◌≤◌, ◌<◌, List, length, take, Option, Some, IfSome, IsSomeAnd, ◌⊎◌, if◌then◌else◌}
use Rattle.std.specs.Option.{option_map}
use Rattle.std.specs.Str.{bytes_eq}

-- the bytes of each file, by its name; None where there is no such file
abbrev pub Files : Type 0
Files = List ℕ → Option (List ℕ)

-- the files after `name` was written: it holds these bytes, and the other names are as they were
abbrev pub with_file : List ℕ → List ℕ → Files → Files
with_file name bytes files = λ other. if bytes_eq name other then Some bytes else files other

-- what a contract sees of a file store
pub record StoreState : Type 0 where
  -- its files, or None where what it holds isn't known
  pub files : Option Files
  -- how many loads of a name failed
  pub faults : List ℕ → ℕ
  -- how many saves of a name failed
  pub save_faults : List ℕ → ℕ
  -- how many loads found a file that is longer than was allowed
  pub longs : ℕ

-- no count fell
pub record IsLater (before now : StoreState) : Type 0 where
  pub faults : (name : List ℕ) → before.faults name ≤ now.faults name
  pub save_faults : (name : List ℕ) → before.save_faults name ≤ now.save_faults name
  pub longs : before.longs ≤ now.longs

-- where the files are known, the file of this name holds these bytes
abbrev pub IsLoaded : Option Files → List ℕ → List ℕ → Type 0
IsLoaded known name bytes = IfSome known (λ files. files name ≡ Some bytes)

-- where the files are known, there is a file of this name, and it is longer than the limit
abbrev pub IsTooLong : Option Files → List ℕ → ℕ → Type 0
IsTooLong known name limit = IfSome known (λ files. IsSomeAnd (files name) (λ bytes. limit < length bytes))

-- where the files are known, the file of this name holds these bytes now, and the other names are as they were
abbrev pub IsSaved : Option Files → Option Files → List ℕ → List ℕ → Type 0
IsSaved before after name bytes = after ≡ option_map (with_file name bytes) before

-- the file of this name holds only the first `kept` of the bytes, or all where there are fewer
pub record IsPartlySaved (before after : Option Files) (name bytes : List ℕ) : Type 0 where
  pub kept : ℕ
  pub saved : IsSaved before after name (take kept bytes)

-- what a save that failed can leave: the files as before, or a prefix of the bytes under this name
abbrev pub IsTorn : Option Files → Option Files → List ℕ → List ℕ → Type 0
IsTorn before after name bytes = (after ≡ before) ⊎ IsPartlySaved before after name bytes
