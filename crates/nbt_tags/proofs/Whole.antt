-- From the answer of a public reader to what it says of the bytes.
use Rattle.std.proofs.Common.{◌≡◌, ℕ, List, length, Result, Ok, Err, ap, subst}
use Rattle.std.specs.Prelude.{IfOk}
use Rattle.nbt_tags.specs.declared.fault.NbtFault.{NbtFault}
use Rattle.nbt_tags.specs.declared.flaw.Flaw.{Flaw}
use Rattle.nbt_tags.specs.declared.tag.Named.{Named}
use Rattle.nbt_tags.specs.Spelling.{Spells, SpellsRow}
use Rattle.nbt_tags.specs.WellFormed.{AreBytes, IsWellFormed, IsWellFormedRow}
use Rattle.nbt_tags.specs.Reading.{IsAnswer, with_places, whole_root, whole_row, decoded, decoded_row}
use Rattle.nbt_tags.proofs.Fits.{Spells-fits, SpellsRow-fits}
use Rattle.nbt_tags.proofs.TreeReads.{whole_root-sound, whole_root-complete, whole_row-sound, whole_row-complete}

with_places-ok : {A : Type 0} (size : ℕ) (r : Result A Flaw) (x : A) → with_places size r ≡ Ok x → r ≡ Ok x
with_places-ok size (Ok y) x e = ap (λ (z : _). Ok z) cc
with_places-ok size (Err flaw) x e = absurd cc

pub decoded-found : (bytes : List ℕ) (r : Result Named NbtFault) → IsAnswer r (decoded bytes) → IfOk r (λ named. Spells named bytes)
decoded-found bytes (Ok named) h = whole_root-sound bytes named (with_places-ok (length bytes) (whole_root bytes) named h)
decoded-found bytes (Err fault) h = tt

pub decoded-full : (bytes : List ℕ) (r : Result Named NbtFault) → AreBytes bytes → IsAnswer r (decoded bytes) → IfOk r (λ named. IsWellFormed named)
decoded-full bytes (Ok named) fits h = Spells-fits named bytes fits (whole_root-sound bytes named (with_places-ok (length bytes) (whole_root bytes) named h))
decoded-full bytes (Err fault) fits h = tt

pub decoded-only : (bytes : List ℕ) (r : Result Named NbtFault) (named : Named) → Spells named bytes → IsAnswer r (decoded bytes) → IsAnswer r (Ok named)
decoded-only bytes r named is h = subst (λ (read : Result Named NbtFault). IsAnswer r read) (ap (with_places (length bytes)) (whole_root-complete bytes named is)) h

pub decoded_row-found : (depth : ℕ) (bytes : List ℕ) (r : Result (List Named) NbtFault) → IsAnswer r (decoded_row depth bytes) → IfOk r (λ row. SpellsRow depth row bytes)
decoded_row-found depth bytes (Ok row) h = whole_row-sound depth bytes row (with_places-ok (length bytes) (whole_row depth bytes) row h)
decoded_row-found depth bytes (Err fault) h = tt

pub decoded_row-full : (depth : ℕ) (bytes : List ℕ) (r : Result (List Named) NbtFault) → AreBytes bytes → IsAnswer r (decoded_row depth bytes) → IfOk r (λ row. IsWellFormedRow depth row)
decoded_row-full depth bytes (Ok row) fits h = SpellsRow-fits depth row bytes fits (whole_row-sound depth bytes row (with_places-ok (length bytes) (whole_row depth bytes) row h))
decoded_row-full depth bytes (Err fault) fits h = tt

pub decoded_row-only : (depth : ℕ) (bytes : List ℕ) (r : Result (List Named) NbtFault) (row : List Named) → SpellsRow depth row bytes → IsAnswer r (decoded_row depth bytes) → IsAnswer r (Ok row)
decoded_row-only depth bytes r row is h = subst (λ (read : Result (List Named) NbtFault). IsAnswer r read) (ap (with_places (length bytes)) (whole_row-complete depth bytes row is)) h
