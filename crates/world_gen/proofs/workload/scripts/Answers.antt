use Rattle.std.proofs.Common.{◌≡◌, ℕ, ◌∙◌, List, ◌++◌, ◌∷◌, [], map, ap, sym, arith, rules}
use Rattle.std.specs.List.{range_with_len}
use Rattle.std.proofs.lemmas.List.FromFn.{map-range_with_len_more}
use Rattle.edit_terms.specs.declared.script.Script.{Script}
use Rattle.world_gen.specs.Drill.{drill_script}
use Rattle.world_gen.proofs.workload.scripts.Goals as goal

pub loop-player-preserved : goal.loop-player-preserved
loop-player-preserved c =
    c.in_ok-push.ensures.items
    ∙ ap (λ (s : Script). c.loop-player.scripts.items ++ s ∷ []) c.in_ok-drill_script.ensures
    ∙ ap (λ (ss : List Script). ss ++ drill_script c.args.number c.loop-player.player ∷ []) c.loop-player.invariant
    ∙ sym (map-range_with_len_more (drill_script c.args.number) 0 c.loop-player.player c.loop-player.player (omega arith))

pub returns : goal.returns
returns c =
    let all : c.loop-player.player ≡ 8 = search rules in
    c.loop-player.invariant ∙ ap (λ (n : ℕ). map (drill_script c.args.number) (range_with_len 0 n)) all
