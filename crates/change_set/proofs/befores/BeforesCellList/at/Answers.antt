use Rattle.std.proofs.Common.{◌+◌, ◌-◌, Some, sym, ap, ◌∙◌, arith}
use Rattle.edit_terms.specs.Area.{Area, position_of}
use Rattle.edit_terms.specs.Chunk.{chunk_box, place_in_chunk}
use Rattle.change_set.specs.Changes.{befores}
use Rattle.change_set.specs.Runs.{lent_run}
use Rattle.change_set.proofs.ReadLemmas.{before_read, position_there}
use Rattle.change_set.proofs.befores.BeforesCellList.at.Goals as goal

pub returns : goal.returns
returns c =
    let there = before_read c.args.self.now.changes.now.area c.args.self.now.changes.now.list c.args.i (lent_run c.run_of-run.result) c.run_of-run.ensures c.args.i (omega arith) c.run_of-run.ensures.to in
    position_there (befores c.args.self.now.changes.now.list) c.args.i _ (lent_run c.run_of-run.result).before there
    ∙ ap Some (sym (c.position_in_run.ensures ∙ ap (λ (a : Area). position_of (chunk_box a (lent_run c.run_of-run.result).first) (place_in_chunk a (lent_run c.run_of-run.result).first + (c.args.i - (lent_run c.run_of-run.result).start))) c.area.ensures))
