use Rattle.chunk_sections.proofs.CutLemmas.{placed}
use Rattle.chunk_sections.proofs.cut.Cut.section_of.Goals as goal

pub returns-clause-to : goal.returns-clause-to
returns-clause-to c = (placed c.args.self.now c.requires.fits c.args.place c.requires.there).to
