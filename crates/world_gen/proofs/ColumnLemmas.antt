-- A player has 32 columns of x, two chunks wide: the chunks of the drill's world that a box in these columns touches are
-- the player's.
use Rattle.std.proofs.Common.{◌≡◌, ℕ, zero, suc, ◌+◌, ◌*◌, ◌/◌, ◌%◌, ◌<◌, ◌≤◌, eqb, Bool, true, false, ◌||◌, List, [], ◌∷◌, ℤ, pos, negsuc, ◌+ℤ◌, ◌≤ℤ◌, refl, sym, ap, ◌∙◌, arith}
use Rattle.std.specs.Prelude.{All}
use Rattle.std.specs.Int.{int_min, int_max}
use Rattle.std.specs.List.{range_with_len, list_any}
use Rattle.std.proofs.Math.Nat.{mod-lt}
use Rattle.std.proofs.lemmas.Int.{ints}
use Rattle.std.proofs.lemmas.List.Elements.{All-head, All-tail}
use Rattle.edit_terms.specs.declared.pos.Pos.{Pos}
use Rattle.edit_terms.specs.declared.region.Kind.TheVariants.{Cuboid}
use Rattle.edit_terms.specs.Area.{Area, volume, offset, sixteenth, position_of, chunk_of}
use Rattle.edit_terms.specs.Frame.{count_between, common_count, common_box, shape_frame}
use Rattle.run_terms.specs.Access.{is_chunk_of_box}
use Rattle.world_gen.specs.Drill.{corner, drill_area}

-- the position is in the player's columns
pub record IsOwnPosition (player : ℕ) (p : Pos) : Type 0 where
  pub from : pos (32 * player) ≤ℤ p.x
  pub to : (p.x +ℤ pos 1) ≤ℤ pos (32 * player + 32)

-- the box is
pub record IsOwnBox (player : ℕ) (box : Area) : Type 0 where
  pub from : pos (32 * player) ≤ℤ box.least.x
  pub to : (box.least.x +ℤ pos box.width) ≤ℤ pos (32 * player + 32)

-- a player's corners are in its columns
pub corner_own : (player a b c : ℕ) → IsOwnPosition player (corner player a b c)
corner_own player a b c = record { from = grind (arith, ints); to = grind (arith, ints) }

-- two coordinates from a bound on: so is the lesser
cuboid_from : (low : ℕ) (x y : ℤ) → pos low ≤ℤ x → pos low ≤ℤ y → pos low ≤ℤ int_min x y
cuboid_from low x y h k = grind (arith, ints)

-- two coordinates below a bound: so are all between them
cuboid_to : (high : ℕ) (x y : ℤ) → (x +ℤ pos 1) ≤ℤ pos high → (y +ℤ pos 1) ≤ℤ pos high → (int_min x y +ℤ pos (count_between x y)) ≤ℤ pos high
cuboid_to high x y h k = grind (arith, ints)

-- the box of two positions in the columns is in them
pub cuboid_own : (player : ℕ) (first second : Pos) → IsOwnPosition player first → IsOwnPosition player second → IsOwnBox player (shape_frame Cuboid first second)
cuboid_own player first second f s = record {
  from = cuboid_from (32 * player) first.x second.x f.from s.from;
  to = cuboid_to (32 * player + 32) first.x second.x f.to s.to;
}

-- a coordinate of the drill's world in the player's columns
record IsColumn (player : ℕ) (x : ℤ) : Type 0 where
  n : ℕ
  is : x ≡ pos n
  from : 32 * player ≤ n
  to : n < 32 * player + 32
  inside : n < 256

-- the columns that a box in the player's columns shares with the world are the player's
shared_column : (player b w k : ℕ) → 32 * player ≤ b → b + w ≤ 32 * player + 32 → k < common_count (pos b) w (pos 0) 256 → IsColumn player (int_max (pos b) (pos 0) +ℤ pos k)
shared_column player b w k from to inside = record {
  n = b + k;
  is = grind (arith, ints);
  from = grind (arith, ints);
  to = grind (arith, ints);
  inside = grind (arith, ints);
}

-- the owner of a chunk, from its column and row
owner_of : (player n m : ℕ) → 32 * player ≤ n → n < 32 * player + 32 → n < 256 → (n / 16 + m * 16) % 16 / 2 ≡ player
owner_of player n m from to inside = omega arith

-- a number is as far above 0 as it says
row_back : (q : ℕ) → offset (pos 0) (pos q) ≡ q
row_back q = grind (arith, ints)

-- so the owner of a position's chunk, from the position's column
owner_of_column : (player : ℕ) (p : Pos) → IsColumn player p.x → chunk_of drill_area p % 16 / 2 ≡ player
owner_of_column player p column =
    let row = offset (pos 0) (sixteenth p.z) in
    ap (λ (x : ℤ). (offset (pos 0) (sixteenth x) + row * 16) % 16 / 2) column.is
    ∙ ap (λ (q : ℕ). (q + row * 16) % 16 / 2) (row_back (column.n / 16))
    ∙ owner_of player column.n row column.from column.to column.inside

-- a box with a block is at least one block wide
wide : (w h l i : ℕ) → i < w * h * l → 0 < w
wide zero h l i below = absurd (omega (arith, below))
wide (suc w) h l i below = omega arith

-- each block that a box in the player's columns shares with the world is in the player's columns
shared_own : (player : ℕ) (box : Area) → IsOwnBox player box → (index : ℕ) → index < volume (common_box box drill_area) → IsColumn player (position_of (common_box box drill_area) index).x
shared_own player box own index inside =
    let shared = common_box box drill_area in
    by_low box.least.x own.from own.to (index % shared.width) (mod-lt index (wide shared.width shared.height shared.length index inside))
  where
    by_low : (low : ℤ) → pos (32 * player) ≤ℤ low → (low +ℤ pos box.width) ≤ℤ pos (32 * player + 32) → (k : ℕ) → k < common_count low box.width (pos 0) 256 → IsColumn player (int_max low (pos 0) +ℤ pos k)
    by_low (pos b) from to k inside = shared_column player b box.width k (omega (arith, ints)) (omega (arith, ints)) inside
    by_low (negsuc b) from to k inside = absurd (omega (arith, ints))

pub either : {X : Type 0} (a b : Bool) → (a || b) ≡ true → (a ≡ true → X) → (b ≡ true → X) → X
either true b h first second = first refl
either false b h first second = second h

-- a test that some number of a range passes
any_in_range : {X : Type 0} (test : ℕ → Bool) (a n end : ℕ) → a + n ≤ end → list_any test (range_with_len a n) ≡ true → ((k : ℕ) → k < end → test k ≡ true → X) → X
any_in_range test a zero end fits h found = absurd cc
any_in_range test a (suc n) end fits h found =
    either (test a) (list_any test (range_with_len (a + 1) n)) h (λ here. found a (omega (arith, fits)) here)
    (λ later. any_in_range test (a + 1) n end (omega (arith, fits)) later found)

-- a chunk of a box in the player's columns is the player's
pub chunk_own : (player chunk : ℕ) (box : Area) → IsOwnBox player box → is_chunk_of_box drill_area chunk box ≡ true → chunk % 16 / 2 ≡ player
chunk_own player chunk box own h =
    let shared = common_box box drill_area in
    any_in_range (λ index. eqb (chunk_of drill_area (position_of shared index)) chunk) 0 (volume shared) (volume shared) (omega arith) h
    (λ index inside is.
    let same : chunk_of drill_area (position_of shared index) ≡ chunk = grind (arith) in
    ap (λ (c : ℕ). c % 16 / 2) (sym same) ∙ owner_of_column player (position_of shared index) (shared_own player box own index inside))

-- a chunk of some boxes in the player's columns is the player's
pub chunks_own : (player chunk : ℕ) (boxes : List Area) → All (IsOwnBox player) boxes → list_any (is_chunk_of_box drill_area chunk) boxes ≡ true → chunk % 16 / 2 ≡ player
chunks_own player chunk [] own h = absurd cc
chunks_own player chunk (box ∷ boxes) own h =
    either (is_chunk_of_box drill_area chunk box) (list_any (is_chunk_of_box drill_area chunk) boxes) h
    (λ here. chunk_own player chunk box (All-head (IsOwnBox player) box boxes own) here)
    (λ later. chunks_own player chunk boxes (All-tail (IsOwnBox player) box boxes own) later)
