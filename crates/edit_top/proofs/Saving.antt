-- Files that are saved one after the other.
use Rattle.std.proofs.Common.{ℕ, List, [], ◌∷◌, ◌++◌, Option, Some, None, sym, ap, ◌∙◌, arith}
use Rattle.std.specs.Option.{option_map}
use Rattle.std.proofs.lemmas.List.Sums.{fold-append}
use Rattle.run_ports.specs.Store.{Files, StoreState, with_file, IsLater, IsSaved}
use Rattle.edit_top.specs.Outputs.{AreSaved}

-- one file more
pub saved_then : (before mid after : Option Files) (outputs : List (List ℕ × List ℕ)) (output : List ℕ × List ℕ) → AreSaved before mid outputs → IsSaved mid after output.0 output.1 → AreSaved before after (outputs ++ output ∷ [])
saved_then None mid after outputs output first second = second ∙ ap (λ (m : Option Files). option_map (with_file output.0 output.1) m) first
saved_then (Some files) mid after outputs output first second =
    second ∙ ap (λ (m : Option Files). option_map (with_file output.0 output.1) m) first
    ∙ ap (λ (fs : Files). Some fs) (sym (fold-append (λ (fs : Files) (o : List ℕ × List ℕ). with_file o.0 o.1 fs) files outputs (output ∷ [])))

-- counts that did not fall twice did not fall
pub later_then : (a b c : StoreState) → IsLater a b → IsLater b c → IsLater a c
later_then a b c first second = record {
  faults = λ name. omega (arith, first.faults name, second.faults name);
  save_faults = λ name. omega (arith, first.save_faults name, second.save_faults name);
  longs = omega (arith, first.longs, second.longs);
}
