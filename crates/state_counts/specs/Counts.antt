-- How many blocks of each state a world has.
use Rattle.std.specs.Prelude.{◌≡◌, ℕ, zero, suc, ◌&&◌, nat_lt, List, map, get_or, Option, Some, None, option_map, count_by, bytes_eq, Vec}
use Rattle.std.specs.Global.{Global}
use Rattle.std.specs.List.{find}
use Rattle.std.specs.List.Sorted.{IsStrictlySortedBy}
use Rattle.std.specs.Option.{unwrap_or}
use Rattle.std.specs.Ordering.{nat_cmp}
use Rattle.std.specs.declared.cmp.Ordering.{Ordering}
use Rattle.std.specs.Cmp.Lexicographic.{slice_cmp}
use Rattle.std.specs.BTreeMap.{BTreeMap, get_by}
use Rattle.edit_terms.specs.StateText.{State, air, written_state}
use Rattle.edit_terms.specs.World.{World}

-- how many blocks of a world have the state of this written text
abbrev pub blocks_with : World → List ℕ → ℕ
blocks_with w text = count_by (λ c. bytes_eq (written_state c.state) text) w.contents

-- a count, and none for 0
abbrev pub counted : ℕ → Option ℕ
counted zero = None
counted (suc n) = Some (suc n)

-- the count beside a text in a list
abbrev pub count_beside : List (List ℕ × ℕ) → List ℕ → Option ℕ
count_beside census text = option_map (λ e. e.1) (find (λ e. bytes_eq text e.0) census)

-- A census of a world: the written texts of its blocks' states in byte order, each once, and beside each how many blocks
-- have it.
pub record IsCensus (w : World) (census : List (List ℕ × ℕ)) : Type 0 where
  pub rising : IsStrictlySortedBy (slice_cmp nat_cmp) (map (λ e. e.0) census)
  pub counts : (text : List ℕ) → count_beside census text ≡ counted (blocks_with w text)

-- the entries of a map of counts
abbrev pub listed : BTreeMap (Vec ℕ Global) ℕ → List (List ℕ × ℕ)
listed counts = map (λ e. (e.0.items, e.1)) counts.entries

-- ---- while the counts are made

-- texts in byte order, as keys
abbrev pub key_cmp : Vec ℕ Global → Vec ℕ Global → Ordering
key_cmp a b = slice_cmp nat_cmp a.items b.items

-- what a map of counts has for a text
abbrev pub blocks_of : BTreeMap (Vec ℕ Global) ℕ → List ℕ → Option ℕ
blocks_of counts text = get_by (λ k. slice_cmp nat_cmp text k.items) counts

-- the same, 0 where it has none
abbrev pub count_of : BTreeMap (Vec ℕ Global) ℕ → List ℕ → ℕ
count_of counts text = unwrap_or (blocks_of counts text) 0

-- how many of these numbers are below a kind and of a kind with this text
abbrev pub count_below : List State → List ℕ → ℕ → List ℕ → ℕ
count_below kinds numbers kind text = count_by (λ n. nat_lt n kind && bytes_eq (written_state (get_or kinds n air)) text) numbers

-- the counts are those of the kinds below this one
abbrev pub IsCountedBelow : List State → List ℕ → ℕ → BTreeMap (Vec ℕ Global) ℕ → Type 0
IsCountedBelow kinds numbers kind counts = (text : List ℕ) → blocks_of counts text ≡ counted (count_below kinds numbers kind text)
