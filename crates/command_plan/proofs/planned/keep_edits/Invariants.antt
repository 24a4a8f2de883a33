use Rattle.std.proofs.Common.{◌≡◌, ℕ, ◌||◌, eqb, false, get_or, take}
use Rattle.std.specs.List.{list_any}
use Rattle.command_plan.proofs.planned.keep_edits.Given as goal

-- the edits passed
abbrev pub invariant-loop-edit : goal.invariant-loop-edit
invariant-loop-edit l = (k : ℕ) → get_or l.keeps k false ≡ (get_or l.initial.keeps k false || list_any (λ edit. eqb edit k) (take l.edit-index l.edits))
