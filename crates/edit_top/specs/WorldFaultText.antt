-- What is printed of a file that is no world.
use Rattle.std.specs.Prelude.{ℕ, List, [], ◌∷◌, ◌++◌, codes, decimal}
use Rattle.std.specs.Fmt.{signed_decimal}
use Rattle.std.specs.List.{flat_map}
use Rattle.nbt_tags.specs.declared.fault.NbtFault.{NbtFault}
use Rattle.nbt_tags.specs.declared.fault.NbtFault.TheVariants as nbt
use Rattle.block_state.specs.declared.fault.StateFault.{StateFault}
use Rattle.block_state.specs.declared.fault.StateFault.TheVariants as state
use Rattle.sponge_schematic.specs.declared.fault.WorldFault.{WorldFault}
use Rattle.sponge_schematic.specs.declared.fault.WorldFault.TheVariants.{Compressed, Nbt, NotSchematic, Missing, WrongType, Version, Empty, TooLarge, OutOfRange, BadState, BadIndex, ShortData, LongData, BadVarint, Memory}
use Rattle.sponge_schematic.specs.Fields.{field_name}

-- why bytes are no named tag, and where
abbrev pub nbt_text : NbtFault → List (List ℕ)
nbt_text (nbt.Short at) = codes "nbt short at " ∷ decimal at ∷ []
nbt_text (nbt.BadType at) = codes "nbt type at " ∷ decimal at ∷ []
nbt_text (nbt.BadCount at) = codes "nbt count at " ∷ decimal at ∷ []
nbt_text (nbt.Duplicate at) = codes "nbt duplicate at " ∷ decimal at ∷ []
nbt_text (nbt.Deep at) = codes "nbt deep at " ∷ decimal at ∷ []
nbt_text (nbt.Trailing at) = codes "nbt trailing at " ∷ decimal at ∷ []
nbt_text nbt.Memory = codes "memory" ∷ []

-- why a text stands for no block state
abbrev pub state_text : StateFault → List ℕ
state_text state.BadName = codes "bad name"
state_text state.BadProperty = codes "bad property"
state_text state.RepeatedKey = codes "repeated key"
state_text state.TooManyProperties = codes "too many properties"
state_text state.Memory = codes "memory"

-- why a file is no world, in pieces
abbrev pub world_text : WorldFault → List (List ℕ)
world_text Compressed = codes "compressed" ∷ []
world_text (Nbt fault) = nbt_text fault
world_text NotSchematic = codes "not a schematic" ∷ []
world_text (Missing field) = codes "missing " ∷ field_name field ∷ []
world_text (WrongType field) = codes "wrong type " ∷ field_name field ∷ []
world_text (Version version) = codes "version " ∷ signed_decimal version ∷ []
world_text Empty = codes "empty" ∷ []
world_text (TooLarge volume) = codes "too large " ∷ decimal volume ∷ []
world_text OutOfRange = codes "out of range" ∷ []
world_text (BadState index fault) = codes "palette entry " ∷ decimal index ∷ codes ": " ∷ state_text fault ∷ []
world_text (BadIndex cell value) = codes "cell " ∷ decimal cell ∷ codes ": no palette number " ∷ decimal value ∷ []
world_text (ShortData cells) = codes "block data short after " ∷ decimal cells ∷ codes " cells" ∷ []
world_text (LongData bytes) = codes "block data has " ∷ decimal bytes ∷ codes " bytes too many" ∷ []
world_text (BadVarint byte) = codes "bad varint at " ∷ decimal byte ∷ []
world_text Memory = codes "memory" ∷ []

-- these pieces in a line that tells a fault of the world
unfoldable pub world_line : List (List ℕ) → List ℕ
world_line pieces = flat_map (λ piece. piece) (codes "fault: world: " ∷ pieces ++ codes "\n" ∷ [])
