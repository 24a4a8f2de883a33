use Rattle.std.proofs.Common.{◌≡◌, ℕ, ◌+◌, ◌*◌, List, ◌++◌, ◌∷◌, [], ap, ◌∙◌, arith}
use Rattle.edit_terms.specs.declared.pos.Pos.{Pos}
use Rattle.edit_terms.specs.declared.script.Command.{Command}
use Rattle.edit_terms.specs.declared.script.Command.TheVariants.{Pos1, Pos2}
use Rattle.edit_terms.specs.declared.script.Line.{Line}
use Rattle.world_gen.specs.Drill.{drill_word, corner, command_by, pattern_of, state_by}
use Rattle.world_gen.proofs.LineLemmas.{three_lines}
use Rattle.world_gen.proofs.scripts.push_group.Goals as goal

pub returns : goal.returns
returns c =
    let g = c.args.group in
    let old = c.args.lines.now.items in
    let word : ℕ → ℕ = drill_word c.args.number c.args.player g in
    let first : Line = record { number = 3 * g + 2; command = Pos1 (corner c.args.player (word 0) (word 1) (word 2)) } in
    let second : Line = record { number = 3 * g + 2 + 1; command = Pos2 (corner c.args.player (word 3) (word 4) (word 5)) } in
    let third : Line = record { number = 3 * g + 2 + 1 + 1; command = command_by (word 6) (pattern_of (state_by (word 7))) } in
    let one : c.push_line.new.lines.items ≡ old ++ first ∷ [] =
    c.in_ok-push_line.ensures ∙ ap (λ (p : Pos). old ++ record { number = 3 * g + 2; command = Pos1 p } ∷ []) c.corner_by.ensures in
    let two : c.push_line-2.new.lines.items ≡ (old ++ first ∷ []) ++ second ∷ [] =
    c.in_ok-push_line-2.ensures
    ∙ ap (λ (ls : List Line). ls ++ record { number = 3 * g + 3; command = Pos2 c.corner_by-2.result } ∷ []) one
    ∙ ap (λ (p : Pos). (old ++ first ∷ []) ++ record { number = 3 * g + 3; command = Pos2 p } ∷ []) c.corner_by-2.ensures
    ∙ ap (λ (n : ℕ). (old ++ first ∷ []) ++ record { number = n; command = second.command } ∷ []) (omega arith) in
    let last : c.in_ok-last.last ≡ third.command =
    c.in_ok-last.ensures
    ∙ ap (λ (w : ℕ). command_by w (pattern_of (state_by c.drill_word.result))) c.drill_word-choice.ensures
    ∙ ap (λ (w : ℕ). command_by (word 6) (pattern_of (state_by w))) c.drill_word.ensures in
    c.in_ok-push_line-3.ensures
    ∙ ap (λ (ls : List Line). ls ++ record { number = 3 * g + 4; command = c.in_ok-last.last } ∷ []) two
    ∙ ap (λ (command : Command). ((old ++ first ∷ []) ++ second ∷ []) ++ record { number = 3 * g + 4; command = command } ∷ []) last
    ∙ ap (λ (n : ℕ). ((old ++ first ∷ []) ++ second ∷ []) ++ record { number = n; command = third.command } ∷ []) (omega arith)
    ∙ three_lines old first second third
