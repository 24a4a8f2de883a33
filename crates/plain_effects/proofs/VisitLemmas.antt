-- The places of a box by rows along x: the row of a place tells its offsets along y and z.
use Rattle.std.proofs.Common.{◌≡◌, ℕ, ◌+◌, ◌-◌, ◌*◌, ◌/◌, ◌%◌, ◌<◌, ◌≤◌, Bool, true, false, ◌&&◌, List, ◌++◌, refl, sym, ap, ◌∙◌, arith}
use Rattle.std.specs.List.{range_with_len, filter}
use Rattle.std.proofs.lemmas.Nat.{div-mul-add, mod-mul-add}
use Rattle.std.proofs.lemmas.List.{append-nil}
use Rattle.std.proofs.lemmas.List.Elements.{filter-append}
use Rattle.std.proofs.Math.Nat.{div-div-eq-div-mul, mul_comm, mul_assoc, mul-le-mul}
use Rattle.edit_terms.specs.Area.{Area, volume, is_world_box}
use Rattle.edit_terms.proofs.AreaLemmas.{limits}
use Rattle.plain_effects.specs.declared.section.Section.{Section}
use Rattle.plain_effects.specs.Sections.{is_in_span, is_in_section, IsSectionOf}
use Rattle.plain_effects.proofs.Ranges.{range-append, kept_run, kept_none}

-- a row's places are below the volume
pub row_within : (a : Area) (row : ℕ) → is_world_box a ≡ true → row < a.height * a.length → row * a.width + a.width ≤ 33554432
row_within a row fits below =
    let rows : (row + 1) * a.width ≤ a.height * a.length * a.width = mul-le-mul (omega (arith, below)) (omega arith) in
    let all : a.height * a.length * a.width ≡ volume a = mul_comm (a.height * a.length) a.width ∙ sym (mul_assoc a.width a.height a.length) in
    omega (arith, rows, all, (limits a fits).small)

-- the offset along x of the k-th place of a row, and those that its row has along y and z
in_row : (a : Area) (s : Section) (row k : ℕ) → k < a.width
    → is_in_section a s (row * a.width + k) ≡ (is_in_span s.x k && is_in_span s.y (row / a.length) && is_in_span s.z (row % a.length))
in_row a s row k inside =
    let w = a.width in
    let l = a.length in
    let x : (row * w + k) % w ≡ k = mod-mul-add row w k inside in
    let r : (row * w + k) / w ≡ row = div-mul-add row w k inside in
    let y : (row * w + k) / (w * l) ≡ row / l = sym (div-div-eq-div-mul (row * w + k) w l) ∙ ap (λ (n : ℕ). n / l) r in
    let z : (row * w + k) / w % l ≡ row % l = ap (λ (n : ℕ). n % l) r in
    ap (λ (n : ℕ). is_in_span s.x n && is_in_span s.y ((row * w + k) / (w * l)) && is_in_span s.z ((row * w + k) / w % l)) x
    ∙ ap (λ (n : ℕ). is_in_span s.x k && is_in_span s.y n && is_in_span s.z ((row * w + k) / w % l)) y
    ∙ ap (λ (n : ℕ). is_in_span s.x k && is_in_span s.y (row / l) && is_in_span s.z n) z

outside : (x y z : Bool) → (y && z) ≡ false → (x && y && z) ≡ false
outside true y z h = h
outside false y z h = refl

inside : (x y z : Bool) → (y && z) ≡ true → (x && y && z) ≡ x
inside true y z h = h
inside false y z h = refl

-- a row outside the section has none of its places
pub row_passed : (a : Area) (s : Section) (row : ℕ) (before after : List ℕ) → (is_in_span s.y (row / a.length) && is_in_span s.z (row % a.length)) ≡ false → after ≡ before
    → after ≡ before ++ filter (is_in_section a s) (range_with_len (row * a.width) a.width)
row_passed a s row before after out same =
    let none = kept_none (is_in_section a s) (row * a.width) a.width (λ k below. in_row a s row k below ∙ outside (is_in_span s.x k) (is_in_span s.y (row / a.length)) (is_in_span s.z (row % a.length)) out) in
    same ∙ sym (ap (λ xs. before ++ xs) none ∙ append-nil before)

-- of a row inside it those between the ends along x
pub row_visited : (a : Area) (s : Section) (row : ℕ) → IsSectionOf a s → (is_in_span s.y (row / a.length) && is_in_span s.z (row % a.length)) ≡ true
    → range_with_len (row * a.width + s.x.from) (row * a.width + s.x.to - (row * a.width + s.x.from)) ≡ filter (is_in_section a s) (range_with_len (row * a.width) a.width)
row_visited a s row is within =
    let size : row * a.width + s.x.to - (row * a.width + s.x.from) ≡ s.x.to - s.x.from = omega arith in
    ap (range_with_len (row * a.width + s.x.from)) size
    ∙ sym (kept_run (is_in_section a s) (row * a.width) a.width s.x.from s.x.to is.x.from is.x.to
    (λ k below. in_row a s row k below ∙ inside (is_in_span s.x k) (is_in_span s.y (row / a.length)) (is_in_span s.z (row % a.length)) within))

-- the places of one row more
pub rows_more : (a : Area) (s : Section) (row : ℕ)
    → filter (is_in_section a s) (range_with_len 0 (row * a.width)) ++ filter (is_in_section a s) (range_with_len (row * a.width) a.width)
    ≡ filter (is_in_section a s) (range_with_len 0 ((row + 1) * a.width))
rows_more a s row =
    let size : row * a.width + a.width ≡ (row + 1) * a.width = omega arith in
    let from : row * a.width ≡ 0 + row * a.width = omega arith in
    sym (filter-append (is_in_section a s) (range_with_len 0 (row * a.width)) (range_with_len (row * a.width) a.width))
    ∙ ap (λ (n : ℕ). filter (is_in_section a s) (range_with_len 0 (row * a.width) ++ range_with_len n a.width)) from
    ∙ ap (filter (is_in_section a s)) (sym (range-append 0 (row * a.width) a.width))
    ∙ ap (λ (n : ℕ). filter (is_in_section a s) (range_with_len 0 n)) size

-- all rows together
pub all_rows : (a : Area) (row : ℕ) → row ≡ a.height * a.length → row * a.width ≡ volume a
all_rows a row is = ap (λ (n : ℕ). n * a.width) is ∙ mul_comm (a.height * a.length) a.width ∙ sym (mul_assoc a.width a.height a.length)
