-- How a box of layers is cut into sections: a section has the layers of sixteen in the world, from a height that sixteen
-- divides on, so the lowest and the highest one of a box may have fewer.
use Rattle.std.specs.Prelude.{ℕ, ◌+◌, ◌-◌, ◌*◌, ◌/◌, ◌<◌, ◌≤◌, min}
use Rattle.edit_terms.specs.Area.{Area, offset}
use Rattle.edit_terms.specs.Chunk.{column_start}
use Rattle.chunk_sections.specs.declared.cut.Cut.{Cut}

-- The cut of a box: how many layers of its lowest section's sixteen lie below it, how many layers it has, and how many
-- blocks a layer has.
abbrev pub cut_of : Area → Cut
cut_of a = record { skipped = offset (column_start a.least.y) a.least.y; layers = a.height; layer = a.width * a.length }

-- how many sections there are
abbrev pub section_count : Cut → ℕ
section_count c = (c.skipped + c.layers + 15) / 16

-- the first layer of a section, and the layer behind its last, counted from the box's lowest
abbrev pub section_bottom : Cut → ℕ → ℕ
section_bottom c s = 16 * s - c.skipped

abbrev pub section_top : Cut → ℕ → ℕ
section_top c s = min c.layers (16 * s + 16 - c.skipped)

-- the place of a section's first block in the list of the box's blocks, and how many blocks it has
abbrev pub section_start : Cut → ℕ → ℕ
section_start c s = section_bottom c s * c.layer

abbrev pub section_size : Cut → ℕ → ℕ
section_size c s = (section_top c s - section_bottom c s) * c.layer

-- the section of the block at a place
abbrev pub section_of : Cut → ℕ → ℕ
section_of c i = (c.skipped + i / c.layer) / 16

-- the sizes of a chunk's part of a world's box
pub record IsCut (c : Cut) : Type 0 where
  pub low : c.skipped < 16
  pub some : 0 < c.layer
  pub few : c.layer ≤ 256
  pub flat : c.layers ≤ 65535
