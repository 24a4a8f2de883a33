-- Where the block at a place lies among the sections of a cut.
use Rattle.std.proofs.Common.{◌≡◌, ℕ, ◌+◌, ◌-◌, ◌*◌, ◌/◌, ◌%◌, ◌<◌, ◌≤◌, true, ℤ, pos, ◌+ℤ◌, ◌*ℤ◌, ◌≤ℤ◌, ◌<ℤ◌, ap, ◌∙◌, arith}
use Rattle.std.proofs.lemmas.Nat.{div-add-mod', mod_below, div_below, div-mul-add}
use Rattle.std.proofs.Math.Nat.{mul-le-mul_right, mul-le-mul, le-mul_of_pos_right}
use Rattle.std.proofs.lemmas.Int.{ints}
use Rattle.edit_terms.specs.Area.{Area, volume, offset, sixteenth, is_world_box}
use Rattle.edit_terms.specs.Chunk.{column_start}
use Rattle.edit_terms.proofs.AreaLemmas.{limits}
use Rattle.edit_terms.proofs.ColumnLemmas.{sixteenth_low, sixteenth_high}
use Rattle.chunk_sections.specs.declared.cut.Cut.{Cut}
use Rattle.chunk_sections.specs.Cut.{IsCut, cut_of, section_count, section_bottom, section_top, section_start, section_size, section_of}

-- a place lies in its section
pub record IsPlaced (c : Cut) (i : ℕ) : Type 0 where
  pub there : section_of c i < section_count c
  pub from : section_start c (section_of c i) ≤ i
  pub to : i < section_start c (section_of c i) + section_size c (section_of c i)

pub placed : (c : Cut) → IsCut c → (i : ℕ) → i < c.layers * c.layer → IsPlaced c i
placed c h i within =
    let y : ℕ = i / c.layer in
    let s : ℕ = section_of c i in
    let low : c.skipped < 16 = h.low in
    let some : 0 < c.layer = h.some in
    let in_box : y < c.layers = div_below i c.layer c.layers some within in
    let split : y * c.layer + i % c.layer ≡ i = div-add-mod' i c.layer in
    let rest : i % c.layer < c.layer = mod_below i c.layer some in
    let above : section_bottom c s ≤ y = omega arith in
    let below : y + 1 ≤ section_bottom c s + (section_top c s - section_bottom c s) = omega arith in
    let start : section_bottom c s * c.layer ≤ y * c.layer = mul-le-mul_right c.layer above in
    let end : (y + 1) * c.layer ≤ (section_bottom c s + (section_top c s - section_bottom c s)) * c.layer = mul-le-mul_right c.layer below in
    record { there = omega arith; from = omega arith; to = omega arith }

-- a place of a section has that section
pub section_of_start : (c : Cut) → IsCut c → (s j : ℕ) → j < section_size c s → section_of c (section_start c s + j) ≡ s
section_of_start c h s j within =
    let y : ℕ = j / c.layer in
    let low : c.skipped < 16 = h.low in
    let some : 0 < c.layer = h.some in
    let split : y * c.layer + j % c.layer ≡ j = div-add-mod' j c.layer in
    let rest : j % c.layer < c.layer = mod_below j c.layer some in
    let in_section : y < section_top c s - section_bottom c s = div_below j c.layer (section_top c s - section_bottom c s) some within in
    let sum : section_start c s + j ≡ (section_bottom c s + y) * c.layer + j % c.layer = omega arith in
    let layer : (section_start c s + j) / c.layer ≡ section_bottom c s + y = ap (λ n. n / c.layer) sum ∙ div-mul-add (section_bottom c s + y) c.layer (j % c.layer) rest in
    ap (λ n. (c.skipped + n) / 16) layer ∙ omega arith

-- a place of a section is one of the box
pub section_within : (c : Cut) → IsCut c → (s j : ℕ) → j < section_size c s → section_start c s + j < c.layers * c.layer
section_within c h s j within =
    let in_section : j / c.layer < section_top c s - section_bottom c s = div_below j c.layer (section_top c s - section_bottom c s) h.some within in
    let tall : section_bottom c s + (section_top c s - section_bottom c s) ≤ c.layers = omega arith in
    let all : (section_bottom c s + (section_top c s - section_bottom c s)) * c.layer ≤ c.layers * c.layer = mul-le-mul_right c.layer tall in
    omega arith

-- a section ends in the box
pub section_end : (c : Cut) → IsCut c → (s : ℕ) → s < section_count c → section_start c s + section_size c s ≤ c.layers * c.layer
section_end c h s there =
    let low : c.skipped < 16 = h.low in
    let tall : section_bottom c s + (section_top c s - section_bottom c s) ≤ c.layers = omega arith in
    let all : (section_bottom c s + (section_top c s - section_bottom c s)) * c.layer ≤ c.layers * c.layer = mul-le-mul_right c.layer tall in
    omega arith

skipped_low : (v : ℤ) → (sixteenth v *ℤ pos 16) ≤ℤ v → v <ℤ (sixteenth v *ℤ pos 16 +ℤ pos 16) → offset (column_start v) v < 16
skipped_low v low high = grind (arith, ints)

-- the cut of a chunk's box
pub cut_fits : (a : Area) → is_world_box a ≡ true → a.width ≤ 16 → a.length ≤ 16 → IsCut (cut_of a)
cut_fits a box narrow short =
    let fits = limits a box in
    let few : a.width * a.length ≤ 16 * 16 = mul-le-mul narrow short in
    let width : 0 < a.width = fits.width in
    let length : 0 < a.length = fits.length in
    let wide : a.width ≤ a.width * a.length = le-mul_of_pos_right a.width length in
    record { low = skipped_low a.least.y (sixteenth_low a.least.y) (sixteenth_high a.least.y); some = omega arith; few = few; flat = fits.low }

-- a box has its layers
pub volume_layers : (a : Area) → volume a ≡ (cut_of a).layers * (cut_of a).layer
volume_layers a = omega arith
