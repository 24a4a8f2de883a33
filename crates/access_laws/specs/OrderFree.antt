-- The serial order doesn't matter where no two players' commands access a common chunk and nothing is drawn by ticket.
use Rattle.std.specs.Prelude.{◌≡◌, ℕ, ◌<◌, ◌==◌, nat_le, Bool, true, ◌&&◌, ◌||◌, List, length, All, slice_get}
use Rattle.std.specs.List.{list_all}
use Rattle.std.specs.Option.{option_map_or}
use Rattle.edit_terms.specs.declared.clip.Source.{Source}
use Rattle.edit_terms.specs.declared.mask.Mask.{Mask}
use Rattle.edit_terms.specs.declared.mask.Term.{Term}
use Rattle.edit_terms.specs.declared.outcome.Outcome.{Outcome}
use Rattle.edit_terms.specs.declared.pattern.Pattern.{Pattern}
use Rattle.edit_terms.specs.declared.script.Command.{Command}
use Rattle.edit_terms.specs.declared.script.Command.TheVariants.{Set, Walls, Faces, Replace, Sphere, Cyl, Gmask}
use Rattle.edit_terms.specs.declared.script.Script.{Script}
use Rattle.edit_terms.specs.declared.step.Work.{Work}
use Rattle.edit_terms.specs.declared.step.Work.TheVariants.{Fill}
use Rattle.edit_terms.specs.declared.step.Step.{Step}
use Rattle.edit_terms.specs.declared.step.Step.TheVariants.{Job}
use Rattle.edit_terms.specs.Grid.{world_of}
use Rattle.edit_terms.specs.Mask.{noise_leaves}
use Rattle.run_terms.specs.Workload.{Workload}
use Rattle.run_terms.specs.Order.{IsWholeOrder, lines_of, ticket_of, step_of_command}
use Rattle.run_terms.specs.Access.{chunks_read_by, chunks_written_by}
use Rattle.run_terms.specs.Reply.{reply_of, final_world}
use Rattle.access_laws.specs.Locality.{is_among}

-- the mask has no noise leaf
abbrev pub is_free_of_noise : Mask → Bool
is_free_of_noise mask = list_all (λ (t : Term). noise_leaves t.leaf == 0) mask.terms

-- the pattern has at most one entry, so that there is no choice
abbrev pub is_without_choice : Pattern → Bool
is_without_choice pattern = nat_le (length pattern.entries) 1

-- the work's own mask has no noise leaf, and its pattern no choice
abbrev pub is_work_still : Work → Bool
is_work_still (Fill region mask pattern) = option_map_or is_free_of_noise mask true && is_without_choice pattern
is_work_still _ = true

-- the same of a command, and the global mask that limits it has no noise leaf either
abbrev pub is_still : Step → Bool
is_still (Job spec) = option_map_or is_free_of_noise spec.global true && is_work_still spec.work
is_still _ = true

-- the command's mask, or the global mask that it sets, has no noise leaf, and its pattern no choice
abbrev pub is_command_still : Command → Bool
is_command_still (Set pattern) = is_without_choice pattern
is_command_still (Walls pattern) = is_without_choice pattern
is_command_still (Faces pattern) = is_without_choice pattern
is_command_still (Replace mask pattern) = is_free_of_noise mask && is_without_choice pattern
is_command_still (Sphere pattern radius hollow) = is_without_choice pattern
is_command_still (Cyl pattern radius height hollow) = is_without_choice pattern
is_command_still (Gmask mask) = option_map_or is_free_of_noise mask true
is_command_still _ = true

-- the commands of all scripts are so
abbrev pub AreScriptsStill : List Script → Type 0
AreScriptsStill scripts = All (λ script. All (λ line. is_command_still line.command ≡ true) script.lines) scripts

-- the command reads or writes the chunk
abbrev pub accesses : Workload → Source → ℕ → Bool
accesses case id chunk = is_among (chunks_read_by case id) chunk || is_among (chunks_written_by case id) chunk

-- Nothing ties the players' commands to an order: two commands that access a common chunk are one player's, and no
-- command's mask, pattern or global mask asks for a random word.
pub record IsFreeOfOrder (case : Workload) : Type 0 where
  pub apart : (a b : Source) (chunk : ℕ) → accesses case a chunk ≡ true → accesses case b chunk ≡ true → a.player ≡ b.player
  pub still : (id : Source) → is_still (step_of_command case id) ≡ true

-- each command has the same reply in both orders, and both leave the same world
pub record HaveSameResults (case : Workload) (first second : List ℕ) : Type 0 where
  pub replies : (id : Source) → id.step < length (lines_of case.scripts id.player) → reply_of case first (ticket_of first id) ≡ reply_of case second (ticket_of second id)
  pub world : final_world case first ≡ final_world case second

-- whatever the whole order, the results are the same
abbrev pub OrderIsFree : Workload → Type 0
OrderIsFree case = (first second : List ℕ) → IsWholeOrder case.scripts first → IsWholeOrder case.scripts second → HaveSameResults case first second

-- each command has the same reply in both outcomes, and their worlds are the same
pub record DifferInOrderAlone (case : Workload) (first second : Outcome) : Type 0 where
  pub replies : (id : Source) → id.step < length (lines_of case.scripts id.player)
      → slice_get first.replies (ticket_of first.order id) ≡ slice_get second.replies (ticket_of second.order id)
  pub world : world_of first.world ≡ world_of second.world
