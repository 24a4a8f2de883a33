use Rattle.std.proofs.Common.{◌≡◌, List, [], ◌∷◌, ◌++◌, true, sym, subst, ◌∙◌, arith}
use Rattle.change_set.specs.declared.proposed.Proposed.{Proposed}
use Rattle.change_set.specs.Changes.{positions, rises}
use Rattle.change_set.proofs.ListLemmas.{follows_kept}
use Rattle.change_cases.proofs.lists.changed.Goals as goal

pub loop-index-preserved : goal.loop-index-preserved
loop-index-preserved c =
    let found = c.in-Some.ensures in
    let block = found.inverse in
    let at = c.in-Some.at in
    let a = c.args.area.now in
    let e = c.in_ok-push.ensures in
    let place = block.place in
    let d : Proposed = record { at = at; before = c.in-Some-both_at.old.now; after = c.in-Some-both_at.new.now } in
    let here = c.loop-index.invariant.next at block.held (omega (arith, place)) in
    record {
      area = e.area ∙ c.loop-index.invariant.area;
      next = λ q held above.
          let on = c.loop-index.invariant.next q held (omega (arith, above)) in
          subst (λ (xs : List Proposed). rises a (positions xs ++ q ∷ []) ≡ true) (sym e.added) (follows_kept a c.loop-index.changes.list d q here on block.held held (omega (arith, above, place)));
    }
