use Rattle.std.proofs.Common.{◌/◌, ◌++◌, arith, subst, sym, ◌∙◌, List, ℕ}
use Rattle.sponge_schematic.specs.Varint.{varint}
use Rattle.sponge_schematic.proofs.VarintBytes.{IsLeft, left_first, left_next, left_last}
use Rattle.sponge_schematic.proofs.varint.put_varint.Goals as goal

pub loop-left-init : goal.loop-left-init
loop-left-init c = left_first c.args.out.now.items c.args.number (omega arith)

pub loop-left-preserved : goal.loop-left-preserved
loop-left-preserved c =
    subst (λ (bs : List ℕ). IsLeft (c.args.out.now.items ++ varint c.args.number) bs (c.loop-left.left / 128)) (sym c.in_ok-push.ensures.items)
    (left_next _ _ c.loop-left.left c.loop-left.invariant c.loop-left-test.true)

pub returns : goal.returns
returns c = c.in_ok-push-2.ensures.items ∙ left_last _ _ c.loop-left.left c.loop-left.invariant c.loop-left-test.false
