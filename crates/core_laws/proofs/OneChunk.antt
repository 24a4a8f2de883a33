-- A serial chunk before a job whose turn it is: it is as after all smaller tickets, and for a write with the ticket's own read.
use Rattle.std.proofs.Common.{◌≡◌, ℕ, suc, ◌<◌, ◌≤◌, Bool, true, false, not, ◌||◌, List, length, refl, sym, ap, ◌∙◌, inl, inr, arith}
use Rattle.std.specs.Cmp.Derive.{both_true}
use Rattle.std.proofs.lemmas.Bool.{cases_lt}
use Rattle.edit_terms.specs.declared.clip.Source.{Source}
use Rattle.edit_terms.specs.Area.{is_world_box}
use Rattle.run_terms.specs.Workload.{Workload}
use Rattle.run_terms.specs.Limits.{IsWithinLimits}
use Rattle.access_laws.specs.Locality.{is_among}
use Rattle.core_laws.specs.ChunkState.{ChunkState}
use Rattle.core_laws.specs.Core.{reads_chunk, writes_chunk, is_settled, has_turn}
use Rattle.core_laws.specs.Serial.{serial_chunk, IsSerialChunk}
use Rattle.core_laws.proofs.SerialSteps.{NoneBetween, none_between, serial-same}
use Rattle.core_laws.proofs.Tickets.{among_listed, among_below}

-- a job that is there is done
pub job_done : (a b : Bool) → (a ≡ true → b ≡ true) → (not a || b) ≡ true
job_done true b h = h refl
job_done false b h = refl

-- a ticket below both numbers is settled
pub serial-settled : (case : Workload) (keeps : Source → Bool) (order : List ℕ) (chunk r w t : ℕ) → t < r → t < w → is_settled case order chunk (serial_chunk case keeps order chunk r w) t ≡ true
serial-settled case keeps order chunk r w t in_read in_written =
    both_true (job_done (reads_chunk case order chunk t) (is_among (serial_chunk case keeps order chunk r w).reads t) (λ is. among_below (reads_chunk case order chunk) r t in_read is))
    (job_done (writes_chunk case order chunk t) (is_among (serial_chunk case keeps order chunk r w).writes t) (λ is. among_below (writes_chunk case order chunk) w t in_written is))

module _ (case : Workload) (limits : IsWithinLimits case) (fits : is_world_box case.opening.area ≡ true) (keeps : Source → Bool) (order : List ℕ) (chunk : ℕ)
    (state : ChunkState) (h : IsSerialChunk case keeps order chunk state) (t : ℕ) where
  abbrev reads : ℕ → Bool
  reads = reads_chunk case order chunk

  abbrev writes : ℕ → Bool
  writes = writes_chunk case order chunk

  -- a ticket whose job isn't done lies above those whose jobs are
  above_reads : reads t ≡ true → is_among state.reads t ≡ false → h.read ≤ t
  above_reads accessed undone = elim (cases_lt t h.read) [
    | inl below ↦ let done = ap (λ (here : ChunkState). is_among here.reads t) h.same ∙ among_below reads h.read t below accessed in absurd cc
    | inr above ↦ above
  ]

  above_writes : writes t ≡ true → is_among state.writes t ≡ false → h.written ≤ t
  above_writes accessed undone = elim (cases_lt t h.written) [
    | inl below ↦ let done = ap (λ (here : ChunkState). is_among here.writes t) h.same ∙ among_below writes h.written t below accessed in absurd cc
    | inr above ↦ above
  ]

  none_here : has_turn case order chunk state t ≡ true → NoneBetween case limits fits keeps order chunk h.read h.written t h.least h.most
  none_here turn = none_between case limits fits keeps order chunk h.read h.written t h.least h.most (ap (λ (here : ChunkState). has_turn case order chunk here t) (sym h.same) ∙ turn)

  pub state_before_read : reads t ≡ true → is_among state.reads t ≡ false → has_turn case order chunk state t ≡ true → state ≡ serial_chunk case keeps order chunk t t
  state_before_read accessed undone turn =
      let up = above_reads accessed undone in
      let none = none_here turn in
      let least = h.least in
      h.same ∙ serial-same case limits fits keeps order chunk h.read h.written t t up (omega (arith, least, up)) none.no_read none.no_write

  -- the ticket's read is done, if it reads the chunk
  pub state_before_write : writes t ≡ true → is_among state.writes t ≡ false → has_turn case order chunk state t ≡ true → (reads t ≡ true → is_among state.reads t ≡ true)
      → state ≡ serial_chunk case keeps order chunk (suc t) t
  state_before_write accessed undone turn read =
      let up = above_writes accessed undone in
      let none = none_here turn in
      let most = h.most in
      h.same ∙ serial-same case limits fits keeps order chunk h.read h.written (suc t) t (omega (arith, most, up)) up (λ s low high. up_to_own s low high none.no_read) none.no_write
    where
      own : (s : ℕ) → h.read ≤ s → t ≤ s → s < suc t → (b : Bool) → reads t ≡ b → reads t ≡ false
      own s low above high false is = is
      own s low above high true is =
          let listed = among_listed reads h.read t (ap (λ (here : ChunkState). is_among here.reads t) (sym h.same) ∙ read is) in
          absurd (omega (arith, low, above, high, listed.below))

      up_to_own : (s : ℕ) → h.read ≤ s → s < suc t → ((k : ℕ) → h.read ≤ k → k < t → reads k ≡ false) → reads s ≡ false
      up_to_own s low high none = elim (cases_lt s t) [
        | inl below ↦ none s low below
        | inr above ↦ ap reads (let e : s ≡ t = omega (arith, high, above) in e) ∙ own s low above high (reads t) refl
      ]
