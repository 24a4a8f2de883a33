-- Looks at a file one after another.
use Rattle.std.proofs.Common.{◌≡◌, Result, Ok, Err, ap, subst}
use Rattle.std.specs.Prelude.{OnOk, IfOk}
use Rattle.sponge_schematic.specs.declared.fault.WorldFault.{WorldFault}
use Rattle.sponge_schematic.specs.declared.fault.WorldFault.TheVariants as faults
use Rattle.sponge_schematic.specs.Fields.{◌>>=◌}
use Rattle.sponge_schematic.specs.Answers.{Fails}

-- a fault of the first look is the fault of the whole
pub Fails-bind : {A B : Type 0} (fault : WorldFault) (read : Result A WorldFault) (next : A → Result B WorldFault) → Fails fault read → Fails fault (read >>= next)
Fails-bind faults.Memory read next h = tt
Fails-bind fault read next h = ap (λ r. r >>= next) h

pub Fails-along : {A : Type 0} (fault : WorldFault) (read total : Result A WorldFault) → read ≡ total → Fails fault read → Fails fault total
Fails-along {A} fault read total e h = subst (λ (r : Result A WorldFault). Fails fault r) e h

-- what follows from a fact of an Ok
pub OnOk-implied : {T E P Q : Type 0} (r : Result T E) → (P → Q) → OnOk r P → OnOk r Q
OnOk-implied (Ok x) f h = f h
OnOk-implied (Err e) f h = h

-- what follows from a fact of an Ok's value
pub IfOk-implied : {T E : Type 0} {P Q : T → Type 0} (r : Result T E) → ((x : T) → P x → Q x) → IfOk r P → IfOk r Q
IfOk-implied (Ok x) f h = f x h
IfOk-implied (Err e) f h = h
