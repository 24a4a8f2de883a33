-- The blocks of a column are those of the box whose chunk has the column's number.
use Rattle.std.proofs.Common.{◌≡◌, ℕ, ◌+◌, ◌*◌, ◌/◌, ◌%◌, ◌<◌, Bool, true, false, ◌&&◌, ◌==◌, ℤ, pos, ◌-ℤ◌, ◌*ℤ◌, ◌≤ℤ◌, refl, sym, ap, ◌∙◌, true≢false, eq-eqb, arith}
use Rattle.std.specs.Prelude.{nat_abs}
use Rattle.std.specs.Int.{int_max}
use Rattle.std.specs.Cmp.Derive.{both_true}
use Rattle.std.proofs.lemmas.Nat.{div-add-mod', div-mul-add, mod-mul-add}
use Rattle.std.proofs.lemmas.Bool.{eqb-true}
use Rattle.std.proofs.lemmas.Int.{ints}
use Rattle.edit_terms.specs.declared.pos.Pos.{Pos}
use Rattle.edit_terms.specs.Area.{Area, is_from, holds, offset, sixteenth, columns, chunks, chunk_of, is_world_box}
use Rattle.edit_terms.specs.Frame.{common_count}
use Rattle.edit_terms.specs.Chunk.{first_in_column, count_in_column}
use Rattle.edit_terms.proofs.AreaLemmas.{and_both, limits}
use Rattle.edit_terms.proofs.ChunkLemmas.{held_parts, held_from, cut, same_column, in_part}
use Rattle.edit_terms.proofs.ColumnLemmas.{column_of_block, sixteenth_rises}
use Rattle.chunk_sections.specs.Column.{first_block, column_box}
use Rattle.chunk_sections.proofs.PlaceLemmas.{axis_column, not_below, self_offset, chunk_x, chunk_z}

low_of : (low : ℤ) (size : ℕ) (v : ℤ) → is_from low size v ≡ true → low ≤ℤ v
low_of low size v h = grind (arith, ints)

same_offset : (c s t : ℤ) → c ≤ℤ s → c ≤ℤ t → nat_abs (s -ℤ c) ≡ nat_abs (t -ℤ c) → s ≡ t
same_offset c s t a b h = grind (arith, ints)

-- a coordinate of the box whose column is the one of another coordinate is in the cut there
axis_in : (low : ℤ) (size : ℕ) (v u : ℤ) → is_from low size v ≡ true → is_from low size u ≡ true → offset (sixteenth low) (sixteenth u) ≡ offset (sixteenth low) (sixteenth v)
    → is_from (first_in_column low v) (count_in_column low size v) u ≡ true
axis_in low size v u hv hu e =
    let same : sixteenth u ≡ sixteenth v = same_offset (sixteenth low) (sixteenth u) (sixteenth v) (sixteenth_rises low u (low_of low size u hu)) (sixteenth_rises low v (low_of low size v hv)) e in
    ap (λ (s : ℤ). is_from (int_max low (s *ℤ pos 16)) (common_count low size (s *ℤ pos 16) 16) u) (sym same) ∙ (cut low size u hu).held

-- the column of a block of the box is one of the box's
column_below : (low : ℤ) (size : ℕ) (v : ℤ) → is_from low size v ≡ true → offset (sixteenth low) (sixteenth v) < columns low size
column_below low size v h = let none = self_offset (sixteenth low) in let to = (column_of_block low low size v (not_below low) h).to in omega arith

-- Of a position p and the first block f of a chunk: their columns.
module _ (a : Area) (chunk : ℕ) (box : is_world_box a ≡ true) (there : chunk < chunks a) (first : holds a (first_block a chunk) ≡ true) (p : Pos) where
  first_x : offset (sixteenth a.least.x) (sixteenth (first_block a chunk).x) ≡ chunk % columns a.least.x a.width
  first_x = axis_column a.least.x a.width (chunk % columns a.least.x a.width) (limits a box).width (chunk_x a chunk)

  first_z : offset (sixteenth a.least.z) (sixteenth (first_block a chunk).z) ≡ chunk / columns a.least.x a.width
  first_z = axis_column a.least.z a.length (chunk / columns a.least.x a.width) (limits a box).length (chunk_z a chunk there)

  of_chunk : holds (column_box a chunk) p ≡ true → chunk_of a p ≡ chunk
  of_chunk h =
      let parts = held_parts (column_box a chunk) p h in
      let x : offset (sixteenth a.least.x) (sixteenth p.x) ≡ chunk % columns a.least.x a.width = ap (λ (s : ℤ). nat_abs (s -ℤ sixteenth a.least.x)) (same_column a.least.x a.width (first_block a chunk).x p.x parts.x) ∙ first_x in
      let z : offset (sixteenth a.least.z) (sixteenth p.z) ≡ chunk / columns a.least.x a.width = ap (λ (s : ℤ). nat_abs (s -ℤ sixteenth a.least.z)) (same_column a.least.z a.length (first_block a chunk).z p.z parts.z) ∙ first_z in
      let whole : chunk / columns a.least.x a.width * columns a.least.x a.width + chunk % columns a.least.x a.width ≡ chunk = div-add-mod' chunk (columns a.least.x a.width) in
      ap (λ n. n + offset (sixteenth a.least.z) (sixteenth p.z) * columns a.least.x a.width) x
      ∙ ap (λ n. chunk % columns a.least.x a.width + n * columns a.least.x a.width) z ∙ omega arith

  in_chunk : holds a p ≡ true → chunk_of a p ≡ chunk → holds (column_box a chunk) p ≡ true
  in_chunk h e =
      let own = held_parts a p h in
      let corner = held_parts a (first_block a chunk) first in
      let w : ℕ = columns a.least.x a.width in
      let ox : ℕ = offset (sixteenth a.least.x) (sixteenth p.x) in
      let oz : ℕ = offset (sixteenth a.least.z) (sixteenth p.z) in
      let small = column_below a.least.x a.width p.x own.x in
      let turned : oz * w + ox ≡ chunk = omega (arith, e) in
      let x : ox ≡ chunk % w = sym (mod-mul-add oz w ox small) ∙ ap (λ n. n % w) turned in
      let z : oz ≡ chunk / w = sym (div-mul-add oz w ox small) ∙ ap (λ n. n / w) turned in
      held_from (column_box a chunk) p (record {
        x = axis_in a.least.x a.width (first_block a chunk).x p.x corner.x own.x (x ∙ sym first_x);
        y = own.y;
        z = axis_in a.least.z a.length (first_block a chunk).z p.z corner.z own.z (z ∙ sym first_z);
      })

  pub column_box-holds : holds (column_box a chunk) p ≡ (holds a p && (chunk_of a p == chunk))
  column_box-holds = by (holds (column_box a chunk) p) (holds a p && (chunk_of a p == chunk)) refl refl
    where
      by : (b c : Bool) → holds (column_box a chunk) p ≡ b → (holds a p && (chunk_of a p == chunk)) ≡ c → holds (column_box a chunk) p ≡ (holds a p && (chunk_of a p == chunk))
      by true c f g = f ∙ sym (both_true (in_part a (first_block a chunk) p f) (eq-eqb (chunk_of a p) chunk (of_chunk f)))
      by false true f g =
          let parts = and_both (holds a p) (chunk_of a p == chunk) g in
          absurd (true≢false (sym (in_chunk parts.0 (eqb-true (chunk_of a p) chunk parts.1)) ∙ f))
      by false false f g = f ∙ sym g
