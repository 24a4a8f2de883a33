-- The serial states of one chunk: tickets that have no job there change nothing, and once the previous access is settled no
-- ticket between has one.
use Rattle.std.proofs.Common.{◌≡◌, ℕ, zero, suc, ◌<◌, ◌≤◌, Bool, true, false, cond, not, ◌&&◌, ◌||◌, List, ◌∷◌, map, Option, Some, None, refl, sym, ap, ◌∙◌, inl, inr, arith}
use Rattle.std.specs.Prelude.{filter}
use Rattle.std.specs.Option.{option_map_or}
use Rattle.std.proofs.lemmas.Bool.{cases_lt}
use Rattle.edit_terms.specs.declared.clip.Source.{Source}
use Rattle.edit_terms.specs.Area.{is_world_box}
use Rattle.edit_terms.specs.World.{BlockContent}
use Rattle.edit_terms.proofs.AreaLemmas.{and_both}
use Rattle.run_terms.specs.Workload.{Workload}
use Rattle.run_terms.specs.Order.{source_of}
use Rattle.run_terms.specs.Fold.{world_after}
use Rattle.run_terms.specs.Limits.{IsWithinLimits}
use Rattle.run_terms.specs.Access.{chunk_part, is_accessed, previous_access}
use Rattle.access_laws.specs.Locality.{is_among}
use Rattle.access_laws.proofs.ChunkEffects.{other_parts}
use Rattle.access_laws.proofs.Writes.{or_parts}
use Rattle.core_laws.specs.ChunkState.{ChunkState, Recorded}
use Rattle.core_laws.specs.Core.{reads_chunk, writes_chunk, is_settled, has_turn, chunk_read}
use Rattle.core_laws.specs.Serial.{tickets_below, captured_by, recorded_by, is_kept, serial_chunk}
use Rattle.core_laws.proofs.Tickets.{filter_below-suc, filter_below-same, among_listed, IsLast, LastIs, last_is}

-- what is asked of a ticket that has a job is so
pub asked : (a b : Bool) → a ≡ true → (not a || b) ≡ true → b ≡ true
asked true b is h = h
asked false b is h = absurd cc

module _ (case : Workload) (limits : IsWithinLimits case) (fits : is_world_box case.opening.area ≡ true) (keeps : Source → Bool) (order : List ℕ) (chunk : ℕ) where
  abbrev reads : ℕ → Bool
  reads = reads_chunk case order chunk

  abbrev writes : ℕ → Bool
  writes = writes_chunk case order chunk

  abbrev serial : ℕ → ℕ → ChunkState
  serial = serial_chunk case keeps order chunk

  -- where no ticket writes the chunk, its part stays
  pub parts_same : (a end : ℕ) → a ≤ end → ((s : ℕ) → a ≤ s → s < end → writes s ≡ false) → chunk_part (world_after case order a) chunk ≡ chunk_part (world_after case order end) chunk
  parts_same a zero few none = ap (λ (k : ℕ). chunk_part (world_after case order k) chunk) (let e : a ≡ 0 = omega (arith, few) in e)
  parts_same a (suc end) few none = elim (cases_lt a (suc end)) [
    | inl below ↦
        parts_same a end (omega (arith, below)) (λ s low high. none s low (omega (arith, high)))
        ∙ sym (other_parts case limits fits order end chunk (none end (omega (arith, below)) (omega arith)))
    | inr above ↦ ap (λ (k : ℕ). chunk_part (world_after case order k) chunk) (let e : a ≡ suc end = omega (arith, few, above) in e)
  ]

  -- further tickets that read and write nothing here change nothing
  pub serial-same : (r w s t : ℕ) → r ≤ s → w ≤ t → ((k : ℕ) → r ≤ k → k < s → reads k ≡ false) → ((k : ℕ) → w ≤ k → k < t → writes k ≡ false) → serial r w ≡ serial s t
  serial-same r w s t more further no_read no_write =
      let read = filter_below-same reads r s more no_read in
      let written = filter_below-same writes w t further no_write in
      let kept = filter_below-same (is_kept case keeps order chunk) w t further (λ k low high. ap (λ (b : Bool). b && keeps (source_of order k)) (no_write k low high)) in
      let cells = parts_same w t further no_write in
      λ i. record {
        reads = read i;
        writes = written i;
        cells = cells i;
        parts = map (captured_by case order chunk) (read i);
        kept = map (recorded_by case order chunk) (kept i);
      }

  -- a read job gives the next serial state
  pub read-serial : (t : ℕ) → reads t ≡ true → chunk_read case (source_of order t) t chunk (serial t t) ≡ serial (suc t) t
  read-serial t is =
      let one_more : filter reads (tickets_below (suc t)) ≡ t ∷ filter reads (tickets_below t) =
      filter_below-suc reads t ∙ ap (λ (b : Bool). cond b (t ∷ filter reads (tickets_below t)) (filter reads (tickets_below t))) is in
      let back = sym one_more in
      λ i. record (serial t t) { reads = back i; parts = map (captured_by case order chunk) (back i) }

  -- a write job gives the next, where it makes the world's part and the ticket's changes
  pub write-serial : (t : ℕ) → writes t ≡ true → (cells : List BlockContent) → cells ≡ chunk_part (world_after case order (suc t)) chunk → (made : Recorded) → made ≡ recorded_by case order chunk t
      → record (serial (suc t) t) { writes = t ∷ (serial (suc t) t).writes; cells = cells; kept = cond (keeps (source_of order t)) (made ∷ (serial (suc t) t).kept) (serial (suc t) t).kept } ≡ serial (suc t) (suc t)
  write-serial t is cells right made recorded =
      let test = is_kept case keeps order chunk in
      let one_more : t ∷ filter writes (tickets_below t) ≡ filter writes (tickets_below (suc t)) =
      sym (filter_below-suc writes t ∙ ap (λ (b : Bool). cond b (t ∷ filter writes (tickets_below t)) (filter writes (tickets_below t))) is) in
      let kept : cond (keeps (source_of order t)) (made ∷ map (recorded_by case order chunk) (filter test (tickets_below t))) (map (recorded_by case order chunk) (filter test (tickets_below t)))
      ≡ map (recorded_by case order chunk) (filter test (tickets_below (suc t))) =
      ap (λ (m : Recorded). cond (keeps (source_of order t)) (m ∷ map (recorded_by case order chunk) (filter test (tickets_below t))) (map (recorded_by case order chunk) (filter test (tickets_below t)))) recorded
      ∙ by_keeps (keeps (source_of order t))
      ∙ sym (ap (map (recorded_by case order chunk)) (filter_below-suc test t ∙ ap (λ (b : Bool). cond (b && keeps (source_of order t)) (t ∷ filter test (tickets_below t)) (filter test (tickets_below t))) is)) in
      λ i. record (serial (suc t) t) { writes = one_more i; cells = right i; kept = kept i }
    where
      by_keeps : (b : Bool)
          → cond b (recorded_by case order chunk t ∷ map (recorded_by case order chunk) (filter (is_kept case keeps order chunk) (tickets_below t))) (map (recorded_by case order chunk) (filter (is_kept case keeps order chunk) (tickets_below t)))
          ≡ map (recorded_by case order chunk) (cond b (t ∷ filter (is_kept case keeps order chunk) (tickets_below t)) (filter (is_kept case keeps order chunk) (tickets_below t)))
      by_keeps true = refl
      by_keeps false = refl

  -- ---- the previous access

  other_job : (a b : Bool) → a ≡ false → (a || b) ≡ true → b ≡ true
  other_job true b is h = absurd cc
  other_job false b is h = h

  module _ (r w t : ℕ) (least : w ≤ r) (most : r ≤ suc w) where
    -- the jobs of a settled ticket lie below
    pub record IsBehind (p : ℕ) : Type 0 where
      pub read : reads p ≡ true → p < r
      pub written : writes p ≡ true → p < w

    settled_behind : (p : ℕ) → is_settled case order chunk (serial r w) p ≡ true → IsBehind p
    settled_behind p h =
        let parts = and_both (not (reads p) || is_among (serial r w).reads p) (not (writes p) || is_among (serial r w).writes p) h in
        record {
          read = λ is. (among_listed reads r p (asked (reads p) (is_among (serial r w).reads p) is parts.0)).below;
          written = λ is. (among_listed writes w p (asked (writes p) (is_among (serial r w).writes p) is parts.1)).below;
        }

    -- no ticket between has a job here
    pub record NoneBetween : Type 0 where
      pub no_read : (s : ℕ) → r ≤ s → s < t → reads s ≡ false
      pub no_write : (s : ℕ) → w ≤ s → s < t → writes s ≡ false

    untouched : (s : ℕ) → is_accessed case order chunk s ≡ false → (reads s ≡ false) × (writes s ≡ false)
    untouched s none = or_parts (reads s) (writes s) none

    module _ (p : ℕ) (last : IsLast (is_accessed case order chunk) t p) (behind : IsBehind p) where
      reader : (s : ℕ) → r ≤ s → s ≤ p → (b : Bool) → reads p ≡ b → reads s ≡ false
      reader s low high true is = absurd (omega (arith, low, high, behind.read is))
      reader s low high false is = let written = behind.written (other_job (reads p) (writes p) is last.passes) in absurd (omega (arith, low, high, written, least))

      writer : (s : ℕ) → w ≤ s → s ≤ p → (b : Bool) → writes p ≡ b → writes s ≡ false
      writer s low high true is = absurd (omega (arith, low, high, behind.written is))
      writer s low high false is = ap writes (let e : s ≡ p = omega (arith, low, high, most, read_below) in e) ∙ is
        where
          read_only : (b : Bool) → reads p ≡ b → p < r
          read_only true is = behind.read is
          read_only false is = let written = behind.written (other_job (reads p) (writes p) is last.passes) in absurd (omega (arith, low, high, written))

          read_below : p < r
          read_below = read_only (reads p) refl

      none_after : NoneBetween
      none_after = record {
        no_read = λ s low high. elim (cases_lt p s) [
          | inl above ↦ (untouched s (last.none s above high)).0
          | inr below ↦ reader s low (omega (arith, below)) (reads p) refl
        ];
        no_write = λ s low high. elim (cases_lt p s) [
          | inl above ↦ (untouched s (last.none s above high)).1
          | inr below ↦ writer s low (omega (arith, below)) (writes p) refl
        ];
      }

    -- where it is the ticket's turn, no ticket between has a job
    pub none_between : has_turn case order chunk (serial r w) t ≡ true → NoneBetween
    none_between turn = by_last (previous_access case order t chunk) (last_is (is_accessed case order chunk) t) turn
      where
        by_last : (o : Option ℕ) → LastIs (is_accessed case order chunk) t o → option_map_or (is_settled case order chunk (serial r w)) o true ≡ true → NoneBetween
        by_last None none h = record { no_read = λ s low high. (untouched s (none s high)).0; no_write = λ s low high. (untouched s (none s high)).1 }
        by_last (Some p) last h = none_after p last (settled_behind p h)
