-- The lines of a script, group after group.
use Rattle.std.proofs.Common.{◌≡◌, ℕ, zero, suc, ◌+◌, ◌*◌, List, [], ◌∷◌, ◌++◌, length, refl, sym, ap, ◌∙◌, arith}
use Rattle.std.specs.List.{range_with_len, flat_map}
use Rattle.std.proofs.lemmas.Grind.{flat_map-append}
use Rattle.edit_terms.specs.declared.script.Command.{Command}
use Rattle.edit_terms.specs.declared.script.Line.{Line}
use Rattle.world_gen.specs.Drill.{drill_word, group_commands, lines_from}

lines_from-append : (first : ℕ) (before behind : List Command) → lines_from first (before ++ behind) ≡ lines_from first before ++ lines_from (first + length before) behind
lines_from-append first [] behind = ap (λ (n : ℕ). lines_from n behind) (omega arith)
lines_from-append first (command ∷ before) behind =
    ap (λ (lines : List Line). record { number = first; command = command } ∷ lines)
    (lines_from-append (first + 1) before behind ∙ ap (λ (n : ℕ). lines_from (first + 1) before ++ lines_from n behind) (omega arith))

pub length-lines_from : (first : ℕ) (commands : List Command) → length (lines_from first commands) ≡ length commands
length-lines_from first [] = refl
length-lines_from first (command ∷ commands) = ap suc (length-lines_from (first + 1) commands)

range_more : (a n : ℕ) → range_with_len a (suc n) ≡ range_with_len a n ++ (a + n) ∷ []
range_more a zero = ap (λ (m : ℕ). m ∷ []) (omega arith)
range_more a (suc n) = ap (λ (t : List ℕ). a ∷ t) (range_more (a + 1) n ∙ ap (λ (m : ℕ). range_with_len (a + 1) n ++ m ∷ []) (omega arith))

-- the commands of the first so many groups
abbrev pub commands_of_groups : ℕ → ℕ → ℕ → List Command
commands_of_groups number player groups = flat_map (λ (group : ℕ). group_commands (drill_word number player group) player) (range_with_len 0 groups)

commands_more : (number player groups : ℕ) → commands_of_groups number player (groups + 1) ≡ commands_of_groups number player groups ++ group_commands (drill_word number player groups) player
commands_more number player groups =
    let group : ℕ → List Command = λ g. group_commands (drill_word number player g) player in
    let next : groups + 1 ≡ suc groups = omega arith in
    let last : 0 + groups ≡ groups = omega arith in
    ap (λ (n : ℕ). flat_map group (range_with_len 0 n)) next
    ∙ ap (flat_map group) (range_more 0 groups)
    ∙ ap (λ (n : ℕ). flat_map group (range_with_len 0 groups ++ n ∷ [])) last
    ∙ flat_map-append group (range_with_len 0 groups) (groups ∷ [])

-- three lines, one after another
pub three_lines : (old : List Line) (a b c : Line) → ((old ++ a ∷ []) ++ b ∷ []) ++ c ∷ [] ≡ old ++ a ∷ b ∷ c ∷ []
three_lines [] a b c = refl
three_lines (line ∷ old) a b c = ap (λ (lines : List Line). line ∷ lines) (three_lines old a b c)

-- one group more
pub lines_more : (number player groups : ℕ) (before behind : List Line) → before ≡ lines_from 2 (commands_of_groups number player groups) → length before ≡ 3 * groups
    → behind ≡ before ++ lines_from (3 * groups + 2) (group_commands (drill_word number player groups) player) → behind ≡ lines_from 2 (commands_of_groups number player (groups + 1))
lines_more number player groups before behind was long is =
    let commands = commands_of_groups number player groups in
    let group = group_commands (drill_word number player groups) player in
    let count : length commands ≡ 3 * groups = sym (length-lines_from 2 commands) ∙ ap (λ (ls : List Line). length ls) (sym was) ∙ long in
    is
    ∙ ap (λ (ls : List Line). ls ++ lines_from (3 * groups + 2) group) was
    ∙ ap (λ (n : ℕ). lines_from 2 commands ++ lines_from n group) (omega (arith, count))
    ∙ sym (lines_from-append 2 commands group)
    ∙ ap (lines_from 2) (sym (commands_more number player groups))
