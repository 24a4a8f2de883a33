-- The kinds of tags, and the byte that stands for each.
use Rattle.std.specs.Prelude.{ℕ, Option, None, Some, ◌==◌, if◌then◌else◌}
use Rattle.nbt_tags.specs.declared.kind.Kind.{Kind}
use Rattle.nbt_tags.specs.declared.kind.Kind.TheVariants as kinds
use Rattle.nbt_tags.specs.declared.tag.Tag.{Tag, out-Tag}
use Rattle.nbt_tags.specs.declared.tag.Tag.TheOpen as layer

-- the byte that stands for a kind
abbrev pub type_byte : Kind → ℕ
type_byte kinds.Byte = 1
type_byte kinds.Short = 2
type_byte kinds.Int = 3
type_byte kinds.Long = 4
type_byte kinds.Float = 5
type_byte kinds.Double = 6
type_byte kinds.ByteArray = 7
type_byte kinds.Str = 8
type_byte kinds.List = 9
type_byte kinds.Compound = 10
type_byte kinds.IntArray = 11
type_byte kinds.LongArray = 12

-- the kind that a byte stands for: 0 ends a compound, and a byte above 12 stands for nothing
unfoldable pub kind_of : ℕ → Option Kind
kind_of byte =
    if byte == 1 then Some kinds.Byte else
    (if byte == 2 then Some kinds.Short else
    (if byte == 3 then Some kinds.Int else
    (if byte == 4 then Some kinds.Long else
    (if byte == 5 then Some kinds.Float else
    (if byte == 6 then Some kinds.Double else
    (if byte == 7 then Some kinds.ByteArray else
    (if byte == 8 then Some kinds.Str else
    (if byte == 9 then Some kinds.List else
    (if byte == 10 then Some kinds.Compound else
    (if byte == 11 then Some kinds.IntArray else
    (if byte == 12 then Some kinds.LongArray else None)))))))))))

-- the kind of one level of a tag, whatever stands in place of the tags inside
abbrev pub layer_kind : {A B : Type 0} → layer.Tag-F A B → Kind
layer_kind (layer.Byte _) = kinds.Byte
layer_kind (layer.Short _) = kinds.Short
layer_kind (layer.Int _) = kinds.Int
layer_kind (layer.Long _) = kinds.Long
layer_kind (layer.Float _) = kinds.Float
layer_kind (layer.Double _) = kinds.Double
layer_kind (layer.ByteArray _) = kinds.ByteArray
layer_kind (layer.Str _) = kinds.Str
layer_kind (layer.List _ _) = kinds.List
layer_kind (layer.Compound _) = kinds.Compound
layer_kind (layer.IntArray _) = kinds.IntArray
layer_kind (layer.LongArray _) = kinds.LongArray

-- the kind of a tag
abbrev pub tag_kind : Tag → Kind
tag_kind tag = layer_kind (out-Tag tag)

-- the type byte of a tag
abbrev pub tag_byte : Tag → ℕ
tag_byte tag = type_byte (tag_kind tag)
