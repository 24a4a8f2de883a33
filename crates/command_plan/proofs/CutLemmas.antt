-- What an interval has in common with that of a world's box, by columns of chunks.
use Rattle.std.proofs.Common.{◌≡◌, ℕ, ◌+◌, ◌-◌, ◌<◌, ◌≤◌, true, false, ap, ℤ, pos, ◌+ℤ◌, ◌-ℤ◌, ◌≤ℤ◌, ◌<ℤ◌, ◌∙◌, arith}
use Rattle.std.specs.Prelude.{nat_abs}
use Rattle.std.proofs.lemmas.Int.{ints}
use Rattle.edit_terms.specs.Area.{Area, offset, sixteenth, columns, is_world_box}
use Rattle.edit_terms.proofs.AreaLemmas.{limits}
use Rattle.edit_terms.proofs.ColumnLemmas.{sixteenth_rises, few_columns, last_not_below}
use Rattle.region_shapes.specs.declared.interval.Interval.{Interval}
use Rattle.region_shapes.specs.Interval.{is_empty, size}
use Rattle.command_plan.specs.Rectangles.{chunk_grid_of, IsChunkGrid}

-- by columns, from the first to behind the last
columns_sum : (cb cl ce : ℤ) → cb ≤ℤ cl → cl ≤ℤ ce → nat_abs (ce -ℤ cb) + 1 ≡ nat_abs (cl -ℤ cb) + (nat_abs (ce -ℤ cl) + 1)
columns_sum cb cl ce a b = grind (arith, ints)

last_number : (i : Interval) → i.from <ℤ i.to → i.to -ℤ pos 1 ≡ i.from +ℤ pos (size i - 1)
last_number i some = grind (arith, ints)

pub some_order : (i : Interval) → is_empty i ≡ false → i.from <ℤ i.to
some_order i some = grind (arith, ints)

pub run_end : (shared own : Interval) → own.from ≤ℤ shared.from → shared.from <ℤ shared.to
    → offset (sixteenth own.from) (sixteenth (shared.to -ℤ pos 1)) + 1 ≡ offset (sixteenth own.from) (sixteenth shared.from) + columns shared.from (size shared)
run_end shared own from some =
    let low = shared.from in
    let end = low +ℤ pos (size shared - 1) in
    ap (λ (v : ℤ). offset (sixteenth own.from) (sixteenth v) + 1) (last_number shared some)
    ∙ columns_sum (sixteenth own.from) (sixteenth low) (sixteenth end) (sixteenth_rises own.from low from) (sixteenth_rises low end (last_not_below low (size shared)))

pub chunk_grid_is : (area : Area) → is_world_box area ≡ true → IsChunkGrid (chunk_grid_of area)
chunk_grid_is area h =
    let fits = limits area h in
    record {
      wide = omega arith;
      long = omega arith;
      few_columns = few_columns area.least.x area.width fits.narrow;
      few_rows = few_columns area.least.z area.length fits.short;
    }
