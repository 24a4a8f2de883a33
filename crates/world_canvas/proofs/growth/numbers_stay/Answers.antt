use Rattle.world_canvas.proofs.GrowthLemmas.{grown_itself, grown_again, grown_numbered, grown_world, grown_named, grown_changes}
use Rattle.world_canvas.proofs.growth.numbers_stay.Goals as goal

pub returns : goal.returns
returns c = record {
  itself = grown_itself;
  again = grown_again;
  numbered = grown_numbered;
  world = grown_world;
  named = grown_named;
  changes = grown_changes;
}
