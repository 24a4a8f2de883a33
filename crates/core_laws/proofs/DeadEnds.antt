-- No dead end, in any core: of the least ticket that has a job left, a read job is enabled, or once its reads are done a write.
use Rattle.std.proofs.Common.{◌≡◌, ℕ, zero, suc, ◌<◌, ◌≤◌, eqb, Bool, true, false, not, ◌&&◌, ◌||◌, List, [], ◌∷◌, length, ◌⊎◌, Option, Some, None, refl, ap, subst, inl, inr, arith}
use Rattle.std.specs.Prelude.{IfSome}
use Rattle.std.specs.List.{list_all}
use Rattle.std.specs.Option.{option_map_or}
use Rattle.std.specs.Cmp.Derive.{both_true}
use Rattle.std.proofs.lemmas.Bool.{cases_lt, eq-eqb, lt-ltb}
use Rattle.edit_terms.specs.declared.clip.Clip.{Clip}
use Rattle.edit_terms.specs.declared.event.Event.TheVariants.{Read, Write}
use Rattle.edit_terms.specs.declared.step.Step.{Step}
use Rattle.edit_terms.specs.declared.step.Step.TheVariants.{Settled, Job, Refused}
use Rattle.edit_terms.proofs.AreaLemmas.{and_both}
use Rattle.run_terms.specs.Workload.{Workload}
use Rattle.run_terms.specs.Order.{ticket_of, step_of_ticket}
use Rattle.run_terms.specs.Access.{chunks_read, chunks_written, is_accessed, previous_access}
use Rattle.run_terms.specs.Needs.{needs_clipboard}
use Rattle.run_terms.proofs.Earlier.{clip_of}
use Rattle.run_terms.proofs.FoldLemmas.{clip_earlier}
use Rattle.access_laws.specs.Locality.{is_among}
use Rattle.access_laws.proofs.Chunks.{or_second}
use Rattle.core_laws.specs.Core.{Core, reads_chunk, writes_chunk, is_settled, has_turn, are_reads_done, is_clipboard_there}
use Rattle.core_laws.specs.Progress.{HasEnabledJob, HasNoDeadEnd}
use Rattle.core_laws.proofs.Parts.{all_among}
use Rattle.core_laws.proofs.SerialSteps.{asked}
use Rattle.core_laws.proofs.Tickets.{LastIs, last_is}

-- ---- lists

-- where not all pass a test, one is there that doesn't
record IsFailing (test : ℕ → Bool) (ks : List ℕ) : Type 0 where
  number : ℕ
  among : is_among ks number ≡ true
  fails : test number ≡ false

failing : (test : ℕ → Bool) (ks : List ℕ) → list_all test ks ≡ false → IsFailing test ks
failing test [] h = absurd cc
failing test (k ∷ ks) h = by_head (failing test ks) (test k) refl h
  where
    by_head : (list_all test ks ≡ false → IsFailing test ks) → (b : Bool) → test k ≡ b → (b && list_all test ks) ≡ false → IsFailing test (k ∷ ks)
    by_head later true is all = let rest = later all in record { number = rest.number; among = or_second (eqb k rest.number) (is_among ks rest.number) rest.among; fails = rest.fails }
    by_head later false is all = record { number = k; among = ap (λ (b : Bool). b || is_among ks k) (eq-eqb k k refl); fails = is }

pub all_pass : (test : ℕ → Bool) (ks : List ℕ) → ((k : ℕ) → is_among ks k ≡ true → test k ≡ true) → list_all test ks ≡ true
all_pass test [] each = refl
all_pass test (k ∷ ks) each =
    both_true (each k (ap (λ (b : Bool). b || is_among ks k) (eq-eqb k k refl))) (all_pass test ks (λ m among. each m (or_second (eqb k m) (is_among ks m) among)))

-- a job that isn't done is there
left : (a b : Bool) → (not a || b) ≡ false → (a ≡ true) × (b ≡ false)
left true b h = (refl, h)
left false b h = absurd cc

module _ (case : Workload) (core : Core) where
  abbrev order : List ℕ
  order = core.order

  abbrev settled : ℕ → ℕ → Bool
  settled chunk t = is_settled case order chunk (core.chunks chunk) t

  -- each job of the ticket is done
  abbrev pub IsDone : ℕ → Type 0
  IsDone t = (chunk : ℕ) → settled chunk t ≡ true

  -- this holds, or some job is enabled
  abbrev OrJob : Type 0 → Type 0
  OrJob P = P ⊎ HasEnabledJob case core

  abbrev are_writes_done : ℕ → Bool
  are_writes_done t = list_all (λ chunk. is_among (core.chunks chunk).writes t) (chunks_written case order t)

  all_done : (t : ℕ) → are_reads_done case core t ≡ true → are_writes_done t ≡ true → IsDone t
  all_done t reads writes chunk =
      both_true (done_in (λ c. is_among (core.chunks c).reads t) (chunks_read case order t) reads (reads_chunk case order chunk t) refl)
      (done_in (λ c. is_among (core.chunks c).writes t) (chunks_written case order t) writes (writes_chunk case order chunk t) refl)
    where
      done_in : (test : ℕ → Bool) (ks : List ℕ) → list_all test ks ≡ true → (b : Bool) → is_among ks chunk ≡ b → (not b || test chunk) ≡ true
      done_in test ks all true among = all_among test ks chunk all among
      done_in test ks all false among = refl

  -- the reads of a ticket that is done
  reads_done : (t : ℕ) → IsDone t → are_reads_done case core t ≡ true
  reads_done t done =
      all_pass (λ c. is_among (core.chunks c).reads t) (chunks_read case order t) (λ c among.
      asked (reads_chunk case order c t) (is_among (core.chunks c).reads t) among
      (and_both (not (reads_chunk case order c t) || is_among (core.chunks c).reads t) (not (writes_chunk case order c t) || is_among (core.chunks c).writes t) (done c)).0)

  module _ (t : ℕ) (drawn : t < length order) (before : (s : ℕ) → s < t → IsDone s) where
    -- where all smaller tickets are done it is this one's turn
    pub turn : (chunk : ℕ) → has_turn case order chunk (core.chunks chunk) t ≡ true
    turn chunk = by_last (previous_access case order t chunk) (last_is (is_accessed case order chunk) t)
      where
        by_last : (o : Option ℕ) → LastIs (is_accessed case order chunk) t o → option_map_or (is_settled case order chunk (core.chunks chunk)) o true ≡ true
        by_last None none = refl
        by_last (Some p) last = before p last.below chunk

    pub clipboard_there : (step : Step) → IfSome (clip_of step) (λ c. ticket_of order c.source < t) → is_clipboard_there case core step ≡ true
    clipboard_there Settled earlier = refl
    clipboard_there (Refused refusal) earlier = refl
    clipboard_there (Job spec) earlier = or_second (not (needs_clipboard spec.work)) (option_map_or (λ c. are_reads_done case core (ticket_of order c.source)) spec.clip true) (by_clip spec.clip earlier)
      where
        by_clip : (clip : Option Clip) → IfSome clip (λ c. ticket_of order c.source < t) → option_map_or (λ c. are_reads_done case core (ticket_of order c.source)) clip true ≡ true
        by_clip None early = refl
        by_clip (Some c) early = reads_done (ticket_of order c.source) (before (ticket_of order c.source) early)

    read_enabled : IsFailing (λ c. is_among (core.chunks c).reads t) (chunks_read case order t) → HasEnabledJob case core
    read_enabled open_read =
        let chunk = open_read.number in
        record {
          event = Read t chunk;
          job = refl;
          enabled = both_true (both_true (both_true (lt-ltb t (length order) drawn) open_read.among) (ap not open_read.fails)) (turn chunk);
        }

    write_enabled : are_reads_done case core t ≡ true → IsFailing (λ c. is_among (core.chunks c).writes t) (chunks_written case order t) → HasEnabledJob case core
    write_enabled reads open_write =
        let chunk = open_write.number in
        record {
          event = Write t chunk;
          job = refl;
          enabled =
              both_true (both_true (both_true (both_true (both_true (lt-ltb t (length order) drawn) open_write.among) (ap not open_write.fails)) (turn chunk)) reads)
              (clipboard_there (step_of_ticket case order t) (clip_earlier case order t));
        }

    -- then it is done, or has an enabled job
    here : OrJob (IsDone t)
    here = by_reads (are_reads_done case core t) refl (are_writes_done t) refl
      where
        by_reads : (a : Bool) → are_reads_done case core t ≡ a → (b : Bool) → are_writes_done t ≡ b → OrJob (IsDone t)
        by_reads true reads true writes = inl (all_done t reads writes)
        by_reads true reads false writes = inr (write_enabled reads (failing (λ c. is_among (core.chunks c).writes t) (chunks_written case order t) writes))
        by_reads false reads b writes = inr (read_enabled (failing (λ c. is_among (core.chunks c).reads t) (chunks_read case order t) reads))

  -- all tickets below a number are done, or some job is enabled
  up_to : (n : ℕ) → n ≤ length order → OrJob ((s : ℕ) → s < n → IsDone s)
  up_to zero within = inl (λ s below. absurd (omega (arith, below)))
  up_to (suc n) within = elim (up_to n (omega (arith, within))) [
    | inr job ↦ inr job
    | inl before ↦ elim (here n within before) [
      | inr job ↦ inr job
      | inl done ↦ inl (λ s below. elim (cases_lt s n) [
        | inl less ↦ before s less
        | inr above ↦ subst IsDone (let e : n ≡ s = omega (arith, below, above) in e) done
      ])
    ]
  ]

  pub no_dead_end : HasNoDeadEnd case core
  no_dead_end t chunk drawn open_job = elim (up_to (suc t) drawn) [
    | inr job ↦ job
    | inl done ↦ let settled_here = done t (omega arith) chunk in absurd cc
  ]
