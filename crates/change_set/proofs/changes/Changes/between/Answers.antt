use Rattle.std.proofs.Common.{◌≡◌, true, [], ◌∷◌, ◌++◌, length, take, filter, sym, subst}
use Rattle.std.proofs.lemmas.Option.{slice_get_read}
use Rattle.change_set.specs.Changes.{ChangeList, positions, rises, is_change}
use Rattle.change_set.proofs.ListLemmas.{rises_kept}
use Rattle.change_set.proofs.changes.Changes.between.Goals as goal

pub push-requires : goal.push-requires
push-requires c =
    let cells = c.args.cells.now in
    let cell = c.cell-item.result in
    let i = c.loop-cell.cell-index in
    let there = slice_get_read cells (length cells) i cell (λ j. length cells) c.loop-cell-test.true c.cell-item.is in
    let kept : ChangeList = record { area = c.args.area.now; list = filter is_change (take i cells) } in
    let rising : rises kept.area (positions kept.list ++ cell.at ∷ []) ≡ true = rises_kept c.args.area.now is_change cells i cell there c.requires.rising in
    record { rising = subst (λ (s : ChangeList). rises s.area (positions s.list ++ cell.at ∷ []) ≡ true) (sym c.loop-cell.invariant) rising }
