-- What a reader answered, against what reading gives. Only want of memory is free.
use Rattle.std.specs.Prelude.{◌≡◌, Result, Ok, Err}
use Rattle.sponge_schematic.specs.declared.fault.WorldFault.{WorldFault}
use Rattle.sponge_schematic.specs.declared.fault.WorldFault.TheVariants as faults

-- what was read is this fault, or an allocation was refused
abbrev pub Fails : {Y : Type 0} → WorldFault → Result Y WorldFault → Type 0
Fails faults.Memory read = Unit {0}
Fails fault read = read ≡ Err fault

-- What a reader returned, seen by view, is what was to be read, or an allocation was refused.
abbrev pub Gives : {X Y : Type 0} → (X → Y) → Result X WorldFault → Result Y WorldFault → Type 0
Gives view (Ok x) read = read ≡ Ok (view x)
Gives view (Err fault) read = Fails fault read
