-- What the limits of a workload say of its players and their commands.
use Rattle.std.proofs.Common.{◌≡◌, ℕ, ◌<◌, ◌≤◌, inl, inr, true, List, [], length, get_or, Option, Some, sym, ap, ◌∙◌, subst, arith}
use Rattle.std.specs.Prelude.{All, IsTrue, nat_le, slice_get}
use Rattle.std.specs.Option.{option_map_or}
use Rattle.std.proofs.lemmas.Bool.{and_parts, leb-true}
use Rattle.std.proofs.lemmas.List.{get_or_default}
use Rattle.std.proofs.lemmas.List.Elements.{All-nil}
use Rattle.std.proofs.lemmas.Option.{slice_get_cases, slice_get_within, get_or_from_slice_get}
use Rattle.edit_terms.specs.declared.script.Line.{Line}
use Rattle.edit_terms.specs.declared.script.Script.{Script}
use Rattle.run_terms.specs.Limits.{is_one_of, is_command_within, IsScriptWithin, IsWithinLimits}
use Rattle.run_terms.specs.Order.{lines_of}
use Rattle.run_terms.specs.Workload.{Workload}

-- ---- numbers

pub not_below : (low high n : ℕ) → is_one_of low high n ≡ true → low ≤ n
not_below low high n h = leb-true low n (and_parts (nat_le low n) (nat_le n high) h).0

pub not_above : (low high n : ℕ) → is_one_of low high n ≡ true → n ≤ high
not_above low high n h = leb-true n high (and_parts (nat_le low n) (nat_le n high) h).1

pub some_depth : (case : Workload) → IsWithinLimits case → 1 ≤ case.depth
some_depth case limits = not_below 1 1000 case.depth limits.depth

pub few_depth : (case : Workload) → IsWithinLimits case → case.depth ≤ 1000
few_depth case limits = not_above 1 1000 case.depth limits.depth

pub few_players : (case : Workload) → IsWithinLimits case → length case.scripts ≤ 64
few_players case limits = not_above 1 64 (length case.scripts) limits.scripts

-- ---- the commands of a player

pub lines_are : (scripts : List Script) (player : ℕ) (script : Script) → player < length scripts → script ≡ get_or scripts player script → lines_of scripts player ≡ script.lines
lines_are scripts player script known is = elim (slice_get_cases scripts player).1 [
  | inl found ↦
      let same : found.0 ≡ script = sym found.3 ∙ get_or_default scripts player found.0 script known ∙ sym is in
      ap (λ (s : Option Script). option_map_or (λ (t : Script). t.lines) s []) (found.2 ∙ ap (λ (s : Script). Some s) same)
  | inr past ↦ absurd (omega (arith, known, past.0))
]

-- what is true of no commands, and of those of each script, is true of those of a player
pub lines_keep : (P : List Line → Type 0) → P [] → (scripts : List Script) → All (λ script. P script.lines) scripts → (player : ℕ) → P (lines_of scripts player)
lines_keep P none scripts all player = elim (slice_get_cases scripts player).1 [
  | inl found ↦
      subst (λ (o : Option Script). P (option_map_or (λ (s : Script). s.lines) o [])) (sym found.2) (subst (λ (s : Script). P s.lines) found.3 (all player found.0 found.1))
  | inr past ↦ subst (λ (o : Option Script). P (option_map_or (λ (s : Script). s.lines) o [])) (sym past.1) none
]

-- what is true of each line of each script is true of a player's lines
pub lines_all : (Q : Line → Type 0) (scripts : List Script) → All (λ script. All Q script.lines) scripts → (player : ℕ) → All Q (lines_of scripts player)
lines_all Q scripts all player = lines_keep (λ lines. All Q lines) (All-nil Q) scripts all player

-- what is true of each line is true of the one of this number
pub line_has : (Q : Line → Type 0) (lines : List Line) → All Q lines → (n : ℕ) (line : Line) → slice_get lines n ≡ Some line → Q line
line_has Q lines all n line is = subst Q (get_or_from_slice_get lines n line line is) (all n line (slice_get_within lines n line is))

pub script_within : (case : Workload) (player : ℕ) (script : Script) → IsWithinLimits case → player < length case.scripts → script ≡ get_or case.scripts player script → IsScriptWithin script
script_within case player script limits known is = subst (λ (s : Script). IsScriptWithin s) (sym is) (limits.each player script known)

pub few_lines : (scripts : List Script) → All IsScriptWithin scripts → (player : ℕ) → length (lines_of scripts player) ≤ 10000
few_lines scripts each player = lines_keep (λ lines. length lines ≤ 10000) (omega arith) scripts (λ k d known. (each k d known).lines) player

pub lines_within : (scripts : List Script) → All IsScriptWithin scripts → (player : ℕ) → All (λ line. IsTrue (is_command_within line.command)) (lines_of scripts player)
lines_within scripts each player = lines_all (λ line. IsTrue (is_command_within line.command)) scripts (λ k d known. (each k d known).commands) player
