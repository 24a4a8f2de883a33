-- The words of a call: the files that they name, and the numbers that they set.
use Rattle.std.specs.Prelude.{ℕ, ◌^◌, ◌-◌, ◌&&◌, if◌then◌else◌, List, ◌∷◌, length, map, Option, Some, None, IsTrue, codes, bytes_eq, string_bytes}
use Rattle.run_terms.specs.Limits.{is_one_of}
use Rattle.term_text.specs.Digits.{natural_between}
use Rattle.edit_top.specs.declared.words.Names.{Names}
use Rattle.edit_top.specs.declared.words.RunWords.{RunWords}

-- the names of a run's files: the world to load, the file to save, and the scripts
pub record FileNames : Type 0 where
  pub world : List ℕ
  pub out : List ℕ
  pub scripts : List (List ℕ)

-- what the words of a run say: its files, the seed of random choices, how many workers run jobs, and how many edits a
-- player's history keeps
pub record Asked : Type 0 where
  pub names : FileNames
  pub seed : ℕ
  pub workers : ℕ
  pub depth : ℕ

-- a seed is below 2^64, in 1 to 20 digits
abbrev pub seed_of : List ℕ → Option ℕ
seed_of word = natural_between 20 0 (2 ^ 64 - 1) word

-- 1 to 64 workers, in 1 or 2 digits
abbrev pub workers_of : List ℕ → Option ℕ
workers_of word = natural_between 2 1 64 word

-- a history of 1 to 1,000 edits, in 1 to 4 digits
abbrev pub depth_of : List ℕ → Option ℕ
depth_of word = natural_between 4 1 1000 word

abbrev pub asked_with : FileNames → Option ℕ → Option ℕ → Option ℕ → Option Asked
asked_with names (Some seed) (Some workers) (Some depth) = Some (record { names = names; seed = seed; workers = workers; depth = depth })
asked_with names _ _ _ = None

-- What the words `run WORLD OUT SEED WORKERS DEPTH SCRIPT` with 1 to 64 words SCRIPT ask for, and nothing where they
-- are other words.
abbrev pub asked_by : List (List ℕ) → Option Asked
asked_by (call ∷ world ∷ out ∷ seed ∷ workers ∷ depth ∷ scripts) =
    if bytes_eq call (codes "run") && is_one_of 1 64 (length scripts) then asked_with (record { world = world; out = out; scripts = scripts }) (seed_of seed) (workers_of workers) (depth_of depth)
    else None
asked_by _ = None

-- 1 to 64 scripts, and a history of 1 to 1,000 edits
pub record IsAskedWithin (asked : Asked) : Type 0 where
  pub scripts : IsTrue (is_one_of 1 64 (length asked.names.scripts))
  pub depth : IsTrue (is_one_of 1 1000 asked.depth)

abbrev pub names_view : Names → FileNames
names_view names = record { world = names.world.now; out = names.out.now; scripts = map string_bytes names.scripts.now }

abbrev pub asked_view : RunWords → Asked
asked_view words = record { names = names_view words.names; seed = words.settings.seed; workers = words.settings.workers; depth = words.settings.depth }
