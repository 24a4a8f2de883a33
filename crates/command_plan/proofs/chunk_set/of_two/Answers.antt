use Rattle.std.proofs.Common.{◌++◌, Option, subst}
use Rattle.command_plan.specs.declared.rectangle.Rectangle.{Rectangle}
use Rattle.command_plan.specs.Cuts.{IsCutOf}
use Rattle.command_plan.proofs.ChunkSetLemmas.{cut_with_apart}
use Rattle.command_plan.proofs.chunk_set.of_two.Goals as goal

pub returns-in-Some-None : goal.returns-in-Some-None
returns-in-Some-None c = λ area xs ys first second.
    c.of_one.ensures area (xs ++ ys)
    (cut_with_apart area xs ys c.in-Some-None.first (subst (λ (o : Option Rectangle). IsCutOf area xs o) c.in-Some-None.is-0 first) (subst (λ (o : Option Rectangle). IsCutOf area ys o) c.in-Some-None.is-1 second))
