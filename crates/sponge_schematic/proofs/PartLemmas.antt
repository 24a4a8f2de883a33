-- What is known of the parts that were read.
use Rattle.std.proofs.Common.{◌≡◌, ℕ, zero, suc, ◌+◌, ◌-◌, ◌^◌, ◌<◌, ℤ, pos, Bool, true, false, cond, List, [], ◌∷◌, length, Option, None, Some, Result, Ok, Err, IfOk, refl, sym, ap, subst, ◌∙◌, arith}
use Rattle.std.specs.Prelude.{◌&&◌, nat_lt, find, option_map}
use Rattle.std.specs.Ordering.{int_eq}
use Rattle.std.specs.Option.{ForSome, ok_or}
use Rattle.std.specs.List.{AllByRecursion, list_all, position_or_len}
use Rattle.std.proofs.lemmas.Bool.{eq-eqb}
use Rattle.edit_terms.specs.Area.{Area, volume}
use Rattle.edit_terms.specs.Grid.{is_numbered}
use Rattle.edit_terms.specs.StateText.{State}
use Rattle.nbt_tags.specs.declared.tag.Tag.{Tag, out-Tag}
use Rattle.nbt_tags.specs.declared.tag.Tag.TheOpen as layer
use Rattle.nbt_tags.specs.declared.tag.Named.{Named}
use Rattle.nbt_tags.specs.Spelling.{Layer, tag_of, max_depth}
use Rattle.nbt_tags.specs.WellFormed.{IsSound, IsSoundTag, IsSoundEntry, within}
use Rattle.block_entities.specs.Gathering.{is_entry_list, IsEntryList}
use Rattle.sponge_schematic.specs.declared.fault.Field.{Field}
use Rattle.sponge_schematic.specs.declared.fault.Field.TheVariants as fields
use Rattle.sponge_schematic.specs.declared.fault.WorldFault.{WorldFault}
use Rattle.sponge_schematic.specs.declared.fault.WorldFault.TheVariants as faults
use Rattle.sponge_schematic.specs.Answers.{Gives}
use Rattle.sponge_schematic.specs.Fields.{◌>>=◌, has_name, tag_named, field_name, required, row_in, row_of, bytes_in, bytes_of}
use Rattle.sponge_schematic.specs.BlockData.{place_of, cell_at, cells_from, all_read, cells_in}
use Rattle.sponge_schematic.specs.Root.{IsShortIn, IsShort, IsFileRow, AreCells}
use Rattle.sponge_schematic.specs.Schematic.{entry_list}
use Rattle.sponge_schematic.specs.Varint.{varint_at}

-- ---- tags by name

found_entry : (P : Named → Type 0) (name : List ℕ) (row : List Named) (tag : Tag) → AllByRecursion P row → tag_named name row ≡ Some tag → (entry : Named) × (tag_of entry ≡ tag) × P entry
found_entry P name [] tag all e = absurd cc
found_entry P name (entry ∷ row) tag all e = by (found_entry P name row tag all.1) (has_name name entry) refl
  where
    by : (tag_named name row ≡ Some tag → (x : Named) × (tag_of x ≡ tag) × P x) → (b : Bool) → has_name name entry ≡ b → (x : Named) × (tag_of x ≡ tag) × P x
    by rest true t = let q : Some (tag_of entry) ≡ Some tag = ap (λ c. option_map tag_of (cond c (Some entry) (find (has_name name) row))) (sym t) ∙ e in (entry, (let r : tag_of entry ≡ tag = cc in r), all.0)
    by rest false t = rest (ap (λ c. option_map tag_of (cond c (Some entry) (find (has_name name) row))) (sym t) ∙ e)

required_there : (field : Field) (row : List Named) (tag : Tag) → required field row ≡ Ok tag → tag_named (field_name field) row ≡ Some tag
required_there field row tag e = by (tag_named (field_name field) row) refl
  where
    by : (o : Option Tag) → tag_named (field_name field) row ≡ o → tag_named (field_name field) row ≡ Some tag
    by None t = let q : Err (faults.Missing field) ≡ Ok tag = ap (λ o. ok_or o (faults.Missing field)) (sym t) ∙ e in absurd cc
    by (Some x) t = let q : Ok x ≡ Ok tag = ap (λ o. ok_or o (faults.Missing field)) (sym t) ∙ e in let r : x ≡ tag = cc in t ∙ ap Some r

row_level : (field : Field) (level : Layer) (entries : List Named) → row_in field level ≡ Ok entries → IsShortIn level → length entries < 2 ^ 32
row_level field (layer.Compound row) entries e short = let q : row ≡ entries = cc in subst (λ (xs : List Named). length xs < 2 ^ 32) q short
row_level field _ entries e short = absurd cc

-- a palette has fewer than 2^32 entries
pub short_palette : (field : Field) (row : List Named) (tag : Tag) (entries : List Named) → IsFileRow row → required field row ≡ Ok tag → row_of field tag ≡ Ok entries → length entries < 2 ^ 32
short_palette field row tag entries h there e =
    let found = found_entry (λ entry. IsShort (tag_of entry)) (field_name field) row tag h.short (required_there field row tag there) in
    row_level field (out-Tag tag) entries e (subst IsShort found.1 found.2)

bytes_level : (levels : ℕ) (field : Field) (level : Layer) (bytes : List ℕ) → bytes_in field level ≡ Ok bytes → IsSound (within levels) level → length bytes < 2 ^ 32
bytes_level levels field (layer.ByteArray items) bytes e sound = let q : items ≡ bytes = cc in subst (λ (xs : List ℕ). length xs < 2 ^ 32) q (omega (arith, sound.count))
bytes_level levels field _ bytes e sound = absurd cc

-- block data have fewer than 2^32 bytes
pub short_data : (field : Field) (row : List Named) (tag : Tag) (bytes : List ℕ) → IsFileRow row → required field row ≡ Ok tag → bytes_of field tag ≡ Ok bytes → length bytes < 2 ^ 32
short_data field row tag bytes h there e =
    let found = found_entry (IsSoundEntry (IsSoundTag (max_depth - 1))) (field_name field) row tag h.sound.entries (required_there field row tag there) in
    bytes_level (max_depth - 1) field (out-Tag tag) bytes e (subst (IsSoundTag (max_depth - 1)) found.1 found.2.tag)

-- a list of block entities that was looked at
pub entry_list_there : (row : List Named) (name : List ℕ) → IsFileRow row → entry_list (tag_named name row) ≡ Ok (tag_named name row) → ForSome (tag_named name row) IsEntryList
entry_list_there row name h looked = by
  where
    kind : (list : Tag) → entry_list (Some list) ≡ Ok (Some list) → is_entry_list list ≡ true
    kind list e = test (is_entry_list list) refl
      where
        test : (b : Bool) → is_entry_list list ≡ b → is_entry_list list ≡ true
        test true t = t
        test false t = let q = sym (ap (λ c. cond c (Ok (Some list)) (Err (faults.WrongType fields.BlockEntities))) t) ∙ e in absurd cc

    by : (list : Tag) → tag_named name row ≡ Some list → IsEntryList list
    by list t =
        let found = found_entry (IsSoundEntry (IsSoundTag (max_depth - 1))) name row list h.sound.entries t in
        record { kind = kind list (ap entry_list (sym t) ∙ looked ∙ ap Ok t); sound = subst (IsSoundTag (max_depth - 1)) found.1 found.2.tag }

-- ---- cells

bind_ok : {A B : Type 0} (read : Result A WorldFault) (next : A → Result B WorldFault) (y : B) → (read >>= next) ≡ Ok y → (x : A) × (read ≡ Ok x) × (next x ≡ Ok y)
bind_ok (Ok x) next y e = (x, refl, e)
bind_ok (Err fault) next y e = absurd cc

place_within : (numbers : List ℤ) (n place : ℕ) → place_of numbers n ≡ Some place → nat_lt place (length numbers) ≡ true
place_within numbers n place e = by (nat_lt (position_or_len (λ z. int_eq z (pos n)) numbers) (length numbers)) refl
  where
    at : ℕ
    at = position_or_len (λ z. int_eq z (pos n)) numbers

    by : (b : Bool) → nat_lt at (length numbers) ≡ b → nat_lt place (length numbers) ≡ true
    by true t = let q : Some at ≡ Some place = ap (λ c. cond c (Some at) None) (sym t) ∙ e in let r : at ≡ place = cc in ap (λ k. nat_lt k (length numbers)) (sym r) ∙ t
    by false t = let q : None ≡ Some place = ap (λ c. cond c (Some at) None) (sym t) ∙ e in absurd cc

found_place : (numbers : List ℤ) (n cell place : ℕ) → ok_or (place_of numbers n) (faults.BadIndex cell n) ≡ Ok place → place_of numbers n ≡ Some place
found_place numbers n cell place e = by (place_of numbers n) refl
  where
    by : (o : Option ℕ) → place_of numbers n ≡ o → place_of numbers n ≡ Some place
    by None t = let q : Err (faults.BadIndex cell n) ≡ Ok place = ap (λ o. ok_or o (faults.BadIndex cell n)) (sym t) ∙ e in absurd cc
    by (Some x) t = let q : Ok x ≡ Ok place = ap (λ o. ok_or o (faults.BadIndex cell n)) (sym t) ∙ e in let r : x ≡ place = cc in t ∙ ap Some r

cell_within : (numbers : List ℤ) (size cell : ℕ) (bytes : List ℕ) (first : ℕ × List ℕ) → cell_at numbers size cell bytes ≡ Ok first → nat_lt first.0 (length numbers) ≡ true
unfolding cell_at
cell_within numbers size cell bytes first e =
    let next : ℕ × List ℕ → Result (ℕ × List ℕ) WorldFault = λ number. ok_or (place_of numbers number.0) (faults.BadIndex cell number.0) >>= λ place. Ok (place, number.1) in
    let number = bind_ok (varint_at cell (size - length bytes) bytes) next first e in
    let place = bind_ok (ok_or (place_of numbers number.0.0) (faults.BadIndex cell number.0.0)) (λ (place : ℕ). Ok (place, number.0.1)) first number.2 in
    let q : (place.0, number.0.1) ≡ first = (let r : Ok (place.0, number.0.1) ≡ Ok first = place.2 in cc) in
    subst (λ (f : ℕ × List ℕ). nat_lt f.0 (length numbers) ≡ true) q (place_within numbers number.0.0 place.0 (found_place numbers number.0.0 cell place.0 place.1))

cells_are : (numbers : List ℤ) (size cell count : ℕ) (bytes : List ℕ) (read : List ℕ × List ℕ) → cells_from numbers size cell count bytes ≡ Ok read → AreCells numbers count read.0
unfolding cells_from
cells_are numbers size cell zero bytes read e = let q : ([], bytes) ≡ read = cc in subst (λ (r : List ℕ × List ℕ). AreCells numbers 0 r.0) q (record { long = refl; within = refl })
cells_are numbers size cell (suc count) bytes read e =
    let next : ℕ × List ℕ → Result (List ℕ × List ℕ) WorldFault = λ first. cells_from numbers size (cell + 1) count first.1 >>= λ others. Ok (first.0 ∷ others.0, others.1) in
    let first = bind_ok (cell_at numbers size cell bytes) next read e in
    let others = bind_ok (cells_from numbers size (cell + 1) count first.0.1) (λ (others : List ℕ × List ℕ). Ok (first.0.0 ∷ others.0, others.1)) read first.2 in
    let q : (first.0.0 ∷ others.0.0, others.0.1) ≡ read = (let r : Ok (first.0.0 ∷ others.0.0, others.0.1) ≡ Ok read = others.2 in cc) in
    let h = cells_are numbers size (cell + 1) count first.0.1 others.0 others.1 in
    subst (λ (r : List ℕ × List ℕ). AreCells numbers (suc count) r.0) q
    (record { long = ap suc h.long; within = ap (λ b. b && list_all (λ place. nat_lt place (length numbers)) others.0.0) (cell_within numbers size cell bytes first.0 first.1) ∙ h.within })

all_read_cells : (read : List ℕ × List ℕ) (cells : List ℕ) → all_read read ≡ Ok cells → read.0 ≡ cells
all_read_cells (front, []) cells e = let q : front ≡ cells = cc in q
all_read_cells (front, b ∷ bytes) cells e = absurd cc

data_cells : (numbers : List ℤ) (count : ℕ) (bytes cells : List ℕ) → cells_in numbers count bytes ≡ Ok cells → AreCells numbers count cells
unfolding cells_in
data_cells numbers count bytes cells e =
    let read = bind_ok (cells_from numbers (length bytes) 0 count bytes) all_read cells e in
    subst (AreCells numbers count) (all_read_cells read.0 cells read.2) (cells_are numbers (length bytes) 0 count bytes read.0 read.1)

pub cells_known : {X : Type 0} (view : X → List ℕ) (numbers : List ℤ) (count : ℕ) (bytes : List ℕ) (r : Result X WorldFault) → Gives view r (cells_in numbers count bytes) → IfOk r (λ x. AreCells numbers count (view x))
cells_known view numbers count bytes (Ok x) e = data_cells numbers count bytes (view x) e
cells_known view numbers count bytes (Err fault) e = tt

-- cells of a box's volume, with as many states as numbers
pub numbered_cells : (area : Area) (numbers : List ℤ) (states : List State) (cells : List ℕ) → length states ≡ length numbers → AreCells numbers (volume area) cells → is_numbered area states cells ≡ true
numbered_cells area numbers states cells paired h =
    ap (λ b. b && list_all (λ n. nat_lt n (length states)) cells) (eq-eqb _ _ h.long)
    ∙ ap (λ k. list_all (λ n. nat_lt n k) cells) paired ∙ h.within
