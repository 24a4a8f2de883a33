-- What an entry gives is good for files, and the other way round.
use Rattle.std.proofs.Common.{◌≡◌, ℕ, ◌-◌, List, [], ◌∷◌, ◌++◌, Some, None, Option, refl, sym, ap, subst, arith, pos, lit<}
use Rattle.std.specs.Prelude.{codes, unwrap_or, FitsSigned}
use Rattle.std.specs.Int.{w32}
use Rattle.std.proofs.lemmas.Int.{ints}
use Rattle.std.specs.Result.{result_ok}
use Rattle.std.specs.List.{find, before_first, after_first}
use Rattle.std.specs.Option.{option_and_then}
use Rattle.std.specs.Cmp.Lexicographic.{bytes_decides}
use Rattle.edit_terms.specs.declared.pos.Pos.{Pos}
use Rattle.edit_terms.specs.Area.{Area}
use Rattle.nbt_tags.specs.declared.tag.Tag.{Tag, out-Tag}
use Rattle.nbt_tags.specs.declared.tag.Tag.TheVariants as tags
use Rattle.nbt_tags.specs.declared.tag.Tag.TheOpen as layer
use Rattle.nbt_tags.specs.declared.tag.Named.{Named}
use Rattle.nbt_tags.specs.Spelling.{Layer, name_of, tag_of, max_depth}
use Rattle.nbt_tags.specs.WellFormed.{IsSoundTag, IsSound, IsSoundEntry, IsWellFormedRow, within}
use Rattle.nbt_tags.specs.Written.{written_row}
use Rattle.nbt_tags.proofs.TreeReads.{whole_row-complete}
use Rattle.nbt_tags.proofs.Spelled.{written_row-spells}
use Rattle.block_entities.specs.Entry.{row_in, row_of, is_pos, place_from_corner, place_of, tags_of_entry, position_of_tag}
use Rattle.block_entities.specs.FileEntities.{IsEntry, IsFileEntity, tags_of, pos_tag, origin}
use Rattle.block_entities.proofs.Local.{HasFit}
use Rattle.block_entities.proofs.Rows.{split_at_first, find-passes, IsSoundRow-front, IsSoundRow-back, IsSoundRow-exchange}

-- the tags of a well-formed row's spelling are the row
pub tags_of-written_row : (row : List Named) → IsWellFormedRow 3 row → tags_of (written_row row) ≡ row
tags_of-written_row row h =
    ap (λ (r : Option (List Named)). unwrap_or r []) (ap result_ok (whole_row-complete 3 (written_row row) row (written_row-spells 3 row h)))

row_in-sound : (level : Layer) → IsSound (within 510) level → IsWellFormedRow 3 (row_in level)
unfolding within
row_in-sound (layer.Compound row) h = h
row_in-sound (layer.Byte z) h = record { entries = tt; distinct = tt }
row_in-sound (layer.Short z) h = record { entries = tt; distinct = tt }
row_in-sound (layer.Int z) h = record { entries = tt; distinct = tt }
row_in-sound (layer.Long z) h = record { entries = tt; distinct = tt }
row_in-sound (layer.Float z) h = record { entries = tt; distinct = tt }
row_in-sound (layer.Double z) h = record { entries = tt; distinct = tt }
row_in-sound (layer.ByteArray z) h = record { entries = tt; distinct = tt }
row_in-sound (layer.Str z) h = record { entries = tt; distinct = tt }
row_in-sound (layer.List element items) h = record { entries = tt; distinct = tt }
row_in-sound (layer.IntArray z) h = record { entries = tt; distinct = tt }
row_in-sound (layer.LongArray z) h = record { entries = tt; distinct = tt }

-- the named tags of an entry are a well-formed row
pub row_of-sound : (entry : Tag) → IsEntry entry → IsWellFormedRow 3 (row_of entry)
row_of-sound entry h = row_in-sound (out-Tag entry) h.fits

-- the tag that says where a block stands is well formed
pub pos_tag-sound : (p : Pos) → HasFit p → IsSoundEntry (IsSoundTag (max_depth - 3)) (pos_tag p)
pos_tag-sound p h = record {
  name = record { short = lit< tt; bytes = (lit< tt, (lit< tt, (lit< tt, tt))) };
  tag = subst (IsSound (within (max_depth - 3))) (sym (tags.outs-IntArray (p.x ∷ p.y ∷ p.z ∷ []))) (record { count = lit< tt; each = (h.x, (h.y, (h.z, tt))) });
}

origin_fits : FitsSigned w32 (pos 0)
origin_fits = grind (arith, ints)

-- an entry that names some place has a Pos
pos_there : (o : Option Named) (area : Area) (index : ℕ) → option_and_then (place_from_corner area) (option_and_then (λ (named : Named). position_of_tag (tag_of named)) o) ≡ Some index → (named : Named) × (o ≡ Some named)
pos_there (Some named) area index h = (named, refl)
pos_there None area index h = absurd cc

-- the entity of an entry is good for files
pub tags_of_entry-good : (area : Area) (entry : Tag) (index : ℕ) → IsEntry entry → place_of area entry ≡ Some index → IsFileEntity (tags_of_entry entry)
tags_of_entry-good area entry index h place =
    let row : List Named = row_of entry in
    let sound : IsWellFormedRow 3 row = row_of-sound entry h in
    let found = pos_there (find is_pos row) area index place in
    let split : row ≡ before_first is_pos row ++ found.0 ∷ after_first is_pos row = split_at_first is_pos row found.0 found.1 in
    let parts : IsWellFormedRow 3 (before_first is_pos row ++ found.0 ∷ after_first is_pos row) = subst (IsWellFormedRow 3) split sound in
    let named : name_of found.0 ≡ codes "Pos" = (bytes_decides (name_of found.0) (codes "Pos")).0 (find-passes is_pos row found.0 found.1) in
    let front = IsSoundRow-front (IsSoundTag (max_depth - 3)) (before_first is_pos row) (found.0 ∷ after_first is_pos row) parts in
    let whole = IsSoundRow-back (IsSoundTag (max_depth - 3)) (before_first is_pos row) (found.0 ∷ after_first is_pos row) parts in
    let back = IsSoundRow-back (IsSoundTag (max_depth - 3)) (found.0 ∷ []) (after_first is_pos row) whole in
    let before = tags_of-written_row (before_first is_pos row) front in
    let after = tags_of-written_row (after_first is_pos row) back in
    record {
      before = ap written_row before;
      after = ap written_row after;
      sound = rw (before, after) (IsSoundRow-exchange (IsSoundTag (max_depth - 3)) (before_first is_pos row) (after_first is_pos row) found.0 (pos_tag origin) named (pos_tag-sound origin (record { x = origin_fits; y = origin_fits; z = origin_fits })) parts);
    }
