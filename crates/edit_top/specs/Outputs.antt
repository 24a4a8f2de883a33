-- The files that a run saves, one after the other.
use Rattle.std.specs.Prelude.{◌≡◌, ℕ, List, ◌∷◌, ◌++◌, Option, fold}
use Rattle.std.specs.Option.{option_map}
use Rattle.run_ports.specs.Count.{Rose}
use Rattle.run_ports.specs.Store.{Files, StoreState, with_file, IsTorn}
use Rattle.edit_top.specs.declared.outputs.Output.{Output}

-- a file to save: its name and its bytes
abbrev pub output_view : Output → List ℕ × List ℕ
output_view output = (output.name.now, output.bytes.items)

-- the files after these were saved in order
abbrev pub with_files : List (List ℕ × List ℕ) → Files → Files
with_files outputs files = fold (λ (fs : Files) (o : List ℕ × List ℕ). with_file o.0 o.1 fs) files outputs

-- all of these were saved, in order
abbrev pub AreSaved : Option Files → Option Files → List (List ℕ × List ℕ) → Type 0
AreSaved before after outputs = after ≡ option_map (with_files outputs) before

-- the saves stopped: those before were saved, and of this one a prefix at most
pub record StopsSaving (before after : StoreState) (outputs : List (List ℕ × List ℕ)) : Type 0 where
  pub front : List (List ℕ × List ℕ)
  pub output : List ℕ × List ℕ
  pub rest : List (List ℕ × List ℕ)
  pub parts : outputs ≡ front ++ output ∷ rest
  pub between : Option Files
  pub saved : AreSaved before.files between front
  pub torn : IsTorn between after.files output.0 output.1
  pub rose : Rose (before.save_faults output.0) (after.save_faults output.0)
