use Rattle.std.proofs.Common.{◌≡◌, ℕ, ◌<◌, ap, subst, length, arith}
use Rattle.edit_terms.specs.StateText.{written_state}
use Rattle.state_counts.specs.Counts.{IsCountedBelow}
use Rattle.state_counts.proofs.Census.{counted_first, counted_none, counted_more, count_within, blocks_here, state_here}
use Rattle.state_counts.proofs.counting.count_kinds.Goals.{then-index-gt0+in_ok-add, else-index-gt0}
use Rattle.state_counts.proofs.counting.count_kinds.Goals as goal

pub loop-kind-init : goal.loop-kind-init
loop-kind-init c = record { ordered = c.new-counts.ensures.ordered; counted = counted_first c.args.kinds.now c.args.cells.now c.new-counts.result c.new-counts.ensures.empty }

pub add-requires : goal.add-requires
add-requires c =
    let kind = c.loop-kind.kind in
    let state = state_here c.args.kinds.now kind c.loop-kind-test.true c.index-kinds-kind.result c.index-kinds-kind.is in
    let blocks = blocks_here c.args.kinds.now c.args.cells.now c.in_ok-blocks.blocks.items kind c.in_ok-blocks.ensures.whole c.in_ok-blocks.ensures.counts c.loop-kind-test.true c.index-then-index-gt0.result.now c.index-then-index-gt0.ensures in
    let within = count_within c.args.kinds.now c.args.cells.now kind c.loop-kind.counts c.loop-kind.invariant.counted (written_state c.index-kinds-kind.result) (ap written_state state) in
    omega (arith, within, blocks, c.requires.few)

pub loop-kind-preserved : goal.loop-kind-preserved
loop-kind-preserved c =
    let kind = c.loop-kind.kind in
    elim c.if-index-gt0.branch [
      | then-index-gt0+in_ok-add w ↦
          let state = state_here c.args.kinds.now kind c.loop-kind-test.true w.index-kinds-kind.result w.index-kinds-kind.is in
          let blocks = blocks_here c.args.kinds.now c.args.cells.now c.in_ok-blocks.blocks.items kind c.in_ok-blocks.ensures.whole c.in_ok-blocks.ensures.counts c.loop-kind-test.true w.index-then-index-gt0.result.now w.index-then-index-gt0.ensures in
          let first = blocks_here c.args.kinds.now c.args.cells.now c.in_ok-blocks.blocks.items kind c.in_ok-blocks.ensures.whole c.in_ok-blocks.ensures.counts c.loop-kind-test.true c.index.result.now c.index.ensures in
          let some : 0 < w.index-then-index-gt0.result.now = omega (arith, blocks, first, w.if-index-gt0.true) in
          rw w.counts-is record {
            ordered = w.in_ok-add.ensures.ordered c.loop-kind.invariant.ordered;
            counted = counted_more c.args.kinds.now c.args.cells.now kind c.loop-kind.counts c.loop-kind.invariant.counted w.index-kinds-kind.result w.index-then-index-gt0.result.now state blocks some w.add.new.counts w.in_ok-add.ensures.added;
          }
      | else-index-gt0 w ↦
          let first = blocks_here c.args.kinds.now c.args.cells.now c.in_ok-blocks.blocks.items kind c.in_ok-blocks.ensures.whole c.in_ok-blocks.ensures.counts c.loop-kind-test.true c.index.result.now c.index.ensures in
          rw w.counts-is record {
            ordered = c.loop-kind.invariant.ordered;
            counted = counted_none c.args.kinds.now c.args.cells.now kind c.loop-kind.counts c.loop-kind.invariant.counted (omega (arith, first, w.if-index-gt0.false));
          }
    ]

pub returns-clause-counted : goal.returns-clause-counted
returns-clause-counted c =
    let all : c.loop-kind.kind ≡ length c.args.kinds.now = omega arith in
    subst (λ (k : ℕ). IsCountedBelow c.args.kinds.now c.args.cells.now k c.loop-kind.counts) all c.loop-kind.invariant.counted
