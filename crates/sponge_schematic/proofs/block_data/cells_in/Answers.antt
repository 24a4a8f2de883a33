-- Each turn reads one more cell.
use Rattle.std.proofs.Common.{subst, List, ℕ, length, Result, arith}
use Rattle.std.proofs.lemmas.Result.{err_from_is_err_and}
use Rattle.sponge_schematic.specs.declared.fault.WorldFault.{WorldFault}
use Rattle.sponge_schematic.specs.Answers.{Gives}
use Rattle.sponge_schematic.specs.BlockData.{cells_in}
use Rattle.sponge_schematic.proofs.CellLoop.{begins, goes_on, ends, is_done}
use Rattle.sponge_schematic.proofs.block_data.cells_in.Goals as goal

pub loop-cell-init : goal.loop-cell-init
loop-cell-init c = record { reads = begins c.args.places.now.numbers.items c.args.volume c.args.bytes.now c.in_ok-cells.cells.items c.in_ok-cells.ensures.items; shorter = omega arith }

pub returns-in_err-place : goal.returns-in_err-place
returns-in_err-place c =
    let p = err_from_is_err_and c.from_residual-in_err-place.result c.from_residual-in_err-place.ensures.1 in
    rw (p.1, p.2)
    (ends c.args.places.now.numbers.items (length c.args.bytes.now) c.args.volume c.loop-cell.cell c.loop-cell.rest.now c.loop-cell.cells.items
    (cells_in c.args.places.now.numbers.items c.args.volume c.args.bytes.now) c.loop-cell.invariant.reads c.in_err-place.field-0.0 c.loop-cell-test.true c.in_err-place.ensures.gives)

pub loop-cell-preserved : goal.loop-cell-preserved
loop-cell-preserved c = record {
  reads = goes_on c.args.places.now.numbers.items (length c.args.bytes.now) c.args.volume c.loop-cell.cell c.loop-cell.rest.now c.loop-cell.cells.items
      (cells_in c.args.places.now.numbers.items c.args.volume c.args.bytes.now) c.loop-cell.invariant.reads c.in_ok-place.place c.in_ok-place.after.now _ c.in_ok-push.ensures.items c.loop-cell-test.true c.in_ok-place.ensures.gives;
  shorter = omega (arith, c.in_ok-place.ensures.shorter, c.loop-cell.invariant.shorter);
}

pub returns : goal.returns
returns c =
    subst (λ (r : Result (List ℕ) WorldFault). Gives (λ x. x.items) c.all_read.result r)
    (is_done c.args.places.now.numbers.items (length c.args.bytes.now) c.args.volume c.loop-cell.cell c.loop-cell.rest.now c.loop-cell.cells.items
    (cells_in c.args.places.now.numbers.items c.args.volume c.args.bytes.now) c.loop-cell.invariant.reads c.loop-cell-test.false)
    c.all_read.ensures
