use Rattle.std.proofs.Common.{◌≡◌, ◌+◌, ◌-◌, true, false, ap, ◌∙◌, subst, arith, ℕ}
use Rattle.edit_terms.specs.Area.{Area, holds, index_of, position_of, IsBlockAt}
use Rattle.edit_terms.proofs.AreaLemmas.{position_at_index}
use Rattle.edit_terms.specs.Chunk.{chunk_box, place_in_chunk}
use Rattle.edit_terms.proofs.ChunkLemmas.{part_held}
use Rattle.change_set.proofs.SearchLemmas.{cell_there}
use Rattle.change_set.proofs.search.further_in.Goals as goal

pub returns-in_default-clause-value : goal.returns-in_default-clause-value
returns-in_default-clause-value c = λ j below is.
    let held : holds (chunk_box c.args.area.now c.args.first.now) c.args.first.now ≡ true = part_held c.args.area.now c.args.first.now c.requires.held in
    let out = c.in_default.ensures in
    let outside : holds c.chunk_box-part.result c.args.first.now ≡ false = out.index in
    cc (held, outside)

pub returns-in_default-index_of-clause-value : goal.returns-in_default-index_of-clause-value
returns-in_default-index_of-clause-value c = λ j below is.
    let cell = cell_there c.args.area.now c.args.first.now c.args.p.now c.args.length j c.well_formed-2.ensures c.requires.held c.requires.fits below is in
    let held : holds (chunk_box c.args.area.now c.args.first.now) c.args.p.now ≡ true = cell.held in
    let out = c.in_default-index_of.ensures in
    let outside : holds c.chunk_box-part.result c.args.p.now ≡ false = out.index in
    cc (held, outside)

pub returns-then-place-from-clause-value : goal.returns-then-place-from-clause-value
returns-then-place-from-clause-value c = λ j below is.
    let cell = cell_there c.args.area.now c.args.first.now c.args.p.now c.args.length j c.well_formed-2.ensures c.requires.held c.requires.fits below is in
    let e = c.in-Some.ensures in
    let e2 = c.in-Some-index_of.ensures in
    let from = subst (λ (s : Area). IsBlockAt s c.in-Some.from c.args.first.now) c.chunk_box-part.ensures.part e.index in
    let place = subst (λ (s : Area). IsBlockAt s c.in-Some-index_of.place c.args.p.now) c.chunk_box-part.ensures.part e2.index in
    let less = c.if-place-from.true in
    let one = cell.place in
    let two = from.place in
    let three = place.place in
    omega (arith, one, two, three, less)

pub returns-then-place-from-2-clause-value : goal.returns-then-place-from-2-clause-value
returns-then-place-from-2-clause-value c = λ j below is.
    let cell = cell_there c.args.area.now c.args.first.now c.args.p.now c.args.length j c.well_formed-2.ensures c.requires.held c.requires.fits below is in
    let e = c.in-Some.ensures in
    let e2 = c.in-Some-index_of.ensures in
    let from = subst (λ (s : Area). IsBlockAt s c.in-Some.from c.args.first.now) c.chunk_box-part.ensures.part e.index in
    let place = subst (λ (s : Area). IsBlockAt s c.in-Some-index_of.place c.args.p.now) c.chunk_box-part.ensures.part e2.index in
    let order = c.if-place-from.false in
    let far = c.if-place-from-2.true in
    let one = cell.place in
    let two = from.place in
    let three = place.place in
    omega (arith, one, two, three, order, far, below)

pub returns-clause-value : goal.returns-clause-value
returns-clause-value c =
    let part = chunk_box c.args.area.now c.args.first.now in
    let e = c.in-Some.ensures in
    let e2 = c.in-Some-index_of.ensures in
    let from = subst (λ (s : Area). IsBlockAt s c.in-Some.from c.args.first.now) c.chunk_box-part.ensures.part e.index in
    let place = subst (λ (s : Area). IsBlockAt s c.in-Some-index_of.place c.args.p.now) c.chunk_box-part.ensures.part e2.index in
    let order = c.if-place-from.false in
    let two = from.place in
    let three = place.place in
    let whole : place_in_chunk c.args.area.now c.args.first.now + (c.in-Some-index_of.place - c.in-Some.from) ≡ index_of part c.args.p.now = omega (arith, two, three, order) in
    ap (λ (n : ℕ). position_of part n) whole ∙ position_at_index part c.args.p.now place.held
