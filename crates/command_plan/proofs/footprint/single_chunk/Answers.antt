use Rattle.run_terms.specs.Access.{single_box}
use Rattle.command_plan.proofs.footprint.single_chunk.Goals as goal

pub returns : goal.returns
returns c = c.extent_chunks.ensures (single_box c.args.at.now) c.single_extent.ensures
