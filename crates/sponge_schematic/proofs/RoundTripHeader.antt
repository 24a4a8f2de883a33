-- The versions and the box that are written are read again.
use Rattle.std.proofs.Common.{◌≡◌, ℕ, ◌<◌, ◌^◌, Bool, true, false, cond, ltb, List, [], ◌∷◌, Option, Some, Result, Ok, Err, refl, ap, ◌∙◌, arith, ℤ, pos}
use Rattle.std.specs.Prelude.{codes, ◌==◌}
use Rattle.std.specs.Int.{w16, cast_signed}
use Rattle.std.proofs.lemmas.Bool.{le-ltb}
use Rattle.std.proofs.lemmas.Bool.Decides.{Decides-eqb}
use Rattle.block_entities.proofs.Local.{not_true}
use Rattle.std.proofs.lemmas.Int.{of_z-to_z}
use Rattle.edit_terms.specs.declared.pos.Pos.{Pos}
use Rattle.edit_terms.specs.Area.{Area, volume, is_sized, is_part, map_area, is_world_box}
use Rattle.edit_terms.specs.World.{World}
use Rattle.edit_terms.proofs.AreaLemmas.{and_both, limits, IsLimited}
use Rattle.nbt_tags.specs.declared.tag.Tag.{Tag, out-Tag}
use Rattle.nbt_tags.specs.declared.tag.Tag.TheVariants as tags
use Rattle.nbt_tags.specs.declared.tag.Named.{Named}
use Rattle.sponge_schematic.specs.declared.fault.Field.{Field}
use Rattle.sponge_schematic.specs.declared.fault.Field.TheVariants as fields
use Rattle.sponge_schematic.specs.declared.fault.WorldFault.{WorldFault}
use Rattle.sponge_schematic.specs.declared.fault.WorldFault.TheVariants as faults
use Rattle.sponge_schematic.specs.Carried.{CarriedTags}
use Rattle.sponge_schematic.specs.Fields.{◌>>=◌, int_in, size_in, int_field, size_field, tag_named, required}
use Rattle.sponge_schematic.specs.Header.{version_two, data_version_of, sized, some_blocks, few_blocks, sizes_of, corner_in, corner_of, on_map, area_of}
use Rattle.sponge_schematic.specs.File.{own_tags, file_row, size_tag, corner_tag}

-- an Int that is there
int_found : (field : Field) (row : List Named) (z : ℤ) → required field row ≡ Ok (tags.Int z) → int_field field row ≡ Ok z
unfolding int_field
int_found field row z h = ap (λ (r : Result Tag WorldFault). r >>= λ (tag : Tag). int_in field (out-Tag tag)) h ∙ ap (int_in field) (tags.outs-Int z)

-- a size that is there
size_found : (field : Field) (row : List Named) (n : ℕ) → n < 2 ^ 16 → required field row ≡ Ok (size_tag n) → size_field field row ≡ Ok n
unfolding size_field
size_found field row n lt h =
    ap (λ (r : Result Tag WorldFault). r >>= λ (tag : Tag). size_in field (out-Tag tag)) h
    ∙ ap (size_in field) (tags.outs-Short (cast_signed w16 n))
    ∙ ap (λ (m : ℕ). Ok m) (of_z-to_z w16 n lt)

pub data_version_again : (carried : CarriedTags) (w : World) → data_version_of (file_row carried w) ≡ Ok carried.data_version
unfolding data_version_of file_row own_tags
data_version_again carried w =
    let row = file_row carried w in
    ap (λ (r : Result ℤ WorldFault). r >>= λ (version : ℤ). version_two version >>= λ (is_two : _). int_field fields.DataVersion row) (int_found fields.Version row (pos 2) refl)
    ∙ int_found fields.DataVersion row carried.data_version refl

is_some_size : (n : ℕ) → 0 < n → (n == 0) ≡ false
is_some_size n lt = not_true (n == 0) (λ h. let e : n ≡ 0 = (Decides-eqb n 0).0 h in omega (arith, e, lt))

some_again : (a : Area) → IsLimited a → some_blocks a ≡ Ok tt
some_again a limit =
    let w = is_some_size a.width limit.width in
    let h = is_some_size a.height limit.height in
    let l = is_some_size a.length limit.length in
    rw (w, h, l) refl

few_again : (a : Area) → IsLimited a → few_blocks a ≡ Ok tt
few_again a limit = let e : ltb 33554432 (volume a) ≡ false = le-ltb 33554432 (volume a) limit.small in ap (λ (b : Bool). cond b (Err (faults.TooLarge (volume a))) (Ok tt)) e

-- the sizes, where each is there
sizes_found : (row : List Named) (a : Area) → IsLimited a → size_field fields.Width row ≡ Ok a.width → size_field fields.Height row ≡ Ok a.height → size_field fields.Length row ≡ Ok a.length
    → sizes_of row ≡ Ok (sized a.width a.height a.length)
unfolding sizes_of
sizes_found row a limit w h l =
    let some : some_blocks (sized a.width a.height a.length) ≡ Ok tt = some_again a limit in
    let few : few_blocks (sized a.width a.height a.length) ≡ Ok tt = few_again a limit in
    ap (λ (r : Result ℕ WorldFault). r >>= λ (width : ℕ). size_field fields.Height row >>= λ (height : ℕ). size_field fields.Length row >>= λ (len : ℕ). some_blocks (sized width height len) >>= λ (some : _). few_blocks (sized width height len) >>= λ (few : _). Ok (sized width height len)) w
    ∙ ap (λ (r : Result ℕ WorldFault). r >>= λ (height : ℕ). size_field fields.Length row >>= λ (len : ℕ). some_blocks (sized a.width height len) >>= λ (some : _). few_blocks (sized a.width height len) >>= λ (few : _). Ok (sized a.width height len)) h
    ∙ ap (λ (r : Result ℕ WorldFault). r >>= λ (len : ℕ). some_blocks (sized a.width a.height len) >>= λ (some : _). few_blocks (sized a.width a.height len) >>= λ (few : _). Ok (sized a.width a.height len)) l
    ∙ ap (λ (r : Result (Unit {0}) WorldFault). r >>= λ (some : Unit {0}). few_blocks (sized a.width a.height a.length) >>= λ (few : _). Ok (sized a.width a.height a.length)) some
    ∙ ap (λ (r : Result (Unit {0}) WorldFault). r >>= λ (few : Unit {0}). Ok (sized a.width a.height a.length)) few

area_found : (row : List Named) (a : Area) → sizes_of row ≡ Ok (sized a.width a.height a.length) → tag_named (codes "Offset") row ≡ Some (corner_tag a.least) → is_part a map_area ≡ true → area_of row ≡ Ok a
unfolding area_of
area_found row a sizes corner map =
    ap (λ (r : Result Area WorldFault). r >>= λ (sizes : Area). corner_of (tag_named (codes "Offset") row) >>= λ (least : Pos). on_map (record sizes { least = least })) sizes
    ∙ ap (λ (o : Option Tag). corner_of o >>= λ (least : Pos). on_map (record (sized a.width a.height a.length) { least = least })) corner
    ∙ ap (λ (r : Result Pos WorldFault). r >>= λ (least : Pos). on_map (record (sized a.width a.height a.length) { least = least })) (ap corner_in (tags.outs-IntArray (a.least.x ∷ a.least.y ∷ a.least.z ∷ [])))
    ∙ ap (λ (b : Bool). cond b (Ok a) (Err faults.OutOfRange)) map

pub area_again : (carried : CarriedTags) (w : World) → is_world_box w.area ≡ true → area_of (file_row carried w) ≡ Ok w.area
unfolding file_row own_tags
area_again carried w box =
    let row = file_row carried w in
    let a = w.area in
    let limit = limits a box in
    let narrow = limit.narrow in let low = limit.low in let short = limit.short in
    area_found row a
    (sizes_found row a limit (size_found fields.Width row a.width (omega (arith, narrow)) refl) (size_found fields.Height row a.height (omega (arith, low)) refl) (size_found fields.Length row a.length (omega (arith, short)) refl))
    refl (and_both (is_sized a) (is_part a map_area) box).1
