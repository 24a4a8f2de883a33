-- The serial execution is a run of the machine: all tickets are taken, and then ticket by ticket each read job and each write
-- job runs, chunk by chunk. It reaches each serial state of each chunk.
use Rattle.std.proofs.Common.{◌≡◌, ℕ, zero, suc, ◌+◌, ◌<◌, ◌≤◌, eqb, ltb, Bool, true, false, cond, not, List, [], ◌∷◌, ◌++◌, length, take, get_or, refl, sym, ap, ◌∙◌, subst, inl, inr, arith}
use Rattle.std.specs.Prelude.{All, Ok, Err, Result, filter}
use Rattle.std.specs.List.{range_with_len, list_any, flat_map}
use Rattle.std.proofs.lemmas.Bool.{cases_lt, eq-eqb, lt-ltb}
use Rattle.std.proofs.lemmas.List.{take_more, take_all}
use Rattle.std.proofs.lemmas.List.Elements.{All-filter}
use Rattle.std.proofs.lemmas.List.FromFn.{get_or-range_with_len, length-range_with_len}
use Rattle.std.proofs.lemmas.List.Sums.{sum_by-append}
use Rattle.edit_terms.specs.declared.clip.Source.{Source}
use Rattle.edit_terms.specs.declared.event.Event.{Event}
use Rattle.edit_terms.specs.declared.event.Event.TheVariants.{Draw, Read, Write}
use Rattle.edit_terms.specs.Area.{Area, chunks, is_world_box}
use Rattle.run_terms.specs.Workload.{Workload}
use Rattle.run_terms.specs.Order.{IsLegalOrder, turns_of, lines_of, source_of, step_of_command, step_of_ticket}
use Rattle.run_terms.specs.Limits.{IsWithinLimits}
use Rattle.run_terms.specs.Access.{is_chunk_of_box, chunks_of_boxes, boxes_read_by, boxes_written_by, with_edits_taken, chunks_read}
use Rattle.run_terms.proofs.FoldLemmas.{clip_earlier}
use Rattle.run_terms.proofs.Tickets.{turns_of-cons}
use Rattle.access_laws.specs.Locality.{is_among}
use Rattle.access_laws.proofs.Parts.{same_number}
use Rattle.access_laws.proofs.Stays.{turns_of-take}
use Rattle.core_laws.specs.ChunkState.{ChunkState, opening_state}
use Rattle.core_laws.specs.WriteJob.{chunk_written}
use Rattle.core_laws.specs.Core.{Core, opening_core, reads_chunk, writes_chunk, is_settled, has_turn, are_reads_done, is_clipboard_there, is_enabled, handed_to, chunk_read, with_chunk, after_event, run_from}
use Rattle.core_laws.specs.NextJob.{IsNextRead, IsNextWrite, IsOneEvent, ReadsAreEvents, WritesAreEvents}
use Rattle.core_laws.specs.Serial.{tickets_below, serial_chunk, IsSerialChunk, KeepsTaken}
use Rattle.core_laws.proofs.Commuting.{read_enabled, write_enabled}
use Rattle.core_laws.proofs.DeadEnds.{IsDone, all_pass, turn, clipboard_there}
use Rattle.core_laws.proofs.OneChunk.{serial-settled, state_before_read, state_before_write}
use Rattle.core_laws.proofs.Reached.{IsReadReady, IsWriteReady}
use Rattle.core_laws.proofs.SerialSteps.{serial-same, read-serial}
use Rattle.core_laws.proofs.Tickets.{of_among, among_listed, among_below}
use Rattle.core_laws.proofs.WriteStep.{write_step}

-- ---- numbers

not_below : (a b : ℕ) → b ≤ a → ltb a b ≡ false
not_below a b h = grind (arith)

next_below : (a n : ℕ) → eqb a n ≡ false → ltb a n ≡ ltb a (suc n)
next_below a n h = elim (cases_lt a n) [
  | inl less ↦ lt-ltb a n less ∙ sym (lt-ltb a (suc n) (omega (arith, less)))
  | inr above ↦ elim (cases_lt n a) [
    | inl more ↦ not_below a n above ∙ sym (not_below a (suc n) (omega (arith, more)))
    | inr same ↦ let e : a ≡ n = omega (arith, above, same) in let never : eqb a n ≡ true = eq-eqb a n e in absurd cc
  ]
]

-- a state that goes over from one form to another, number by number
module _ (form : Bool → ℕ → ChunkState) (n : ℕ) where
  own_form : form (ltb n n) n ≡ form false n
  own_form = ap (λ (b : Bool). form b n) (not_below n n (omega arith))

  -- the n-th is set
  set_next : (state : ChunkState) → state ≡ form true n → (c : ℕ) → cond (eqb c n) state (form (ltb c n) c) ≡ form (ltb c (suc n)) c
  set_next state is c = by_test (eqb c n) refl
    where
      by_test : (b : Bool) → eqb c n ≡ b → cond b state (form (ltb c n) c) ≡ form (ltb c (suc n)) c
      by_test true same =
          let here = same_number c n same in
          is ∙ ap (λ (k : ℕ). form true k) (sym here) ∙ ap (λ (b : Bool). form b c) (sym (lt-ltb c (suc n) (omega (arith, here))))
      by_test false other = ap (λ (b : Bool). form b c) (next_below c n other)

  -- the n-th has both forms
  keep_next : form false n ≡ form true n → (c : ℕ) → form (ltb c n) c ≡ form (ltb c (suc n)) c
  keep_next same c = by_test (eqb c n) refl
    where
      by_test : (b : Bool) → eqb c n ≡ b → form (ltb c n) c ≡ form (ltb c (suc n)) c
      by_test true is =
          let here = same_number c n is in
          ap (λ (b : Bool). form b c) (not_below c n (omega (arith, here))) ∙ subst (λ (k : ℕ). form false k ≡ form true k) (sym here) same
          ∙ ap (λ (b : Bool). form b c) (sym (lt-ltb c (suc n) (omega (arith, here))))
      by_test false other = ap (λ (b : Bool). form b c) (next_below c n other)

-- ---- chunks that are accessed

chunk_of_boxes-below : (area : Area) (boxes : List Area) (chunk : ℕ) → is_among (chunks_of_boxes area boxes) chunk ≡ true → chunk < chunks area
chunk_of_boxes-below area boxes chunk among =
    of_among (λ k. k < chunks area) (chunks_of_boxes area boxes) chunk
    (All-filter (λ k. list_any (is_chunk_of_box area k) boxes) (λ k. k < chunks area) (range_with_len 0 (chunks area)) (λ k d inside.
    (let less : k < chunks area = omega (arith, inside, length-range_with_len 0 (chunks area)) in omega (arith, less, get_or-range_with_len 0 (chunks area) k d less)))) among

-- ---- runs in pieces

module _ (case : Workload) (keeps : Source → Bool) where
  -- some events lead from one core to the other
  pub record Reaches (core next : Core) : Type 0 where
    pub events : List Event
    pub run : (number : ℕ) → run_from case keeps core number events ≡ Ok next

  abbrev value_or : Core → Result Core ℕ → Core
  value_or core (Ok c) = c
  value_or core (Err number) = core

  joined : (mid last : Core) (ys : List Event) → ((number : ℕ) → run_from case keeps mid number ys ≡ Ok last) → (xs : List Event) (core : Core) (number : ℕ)
      → run_from case keeps core number xs ≡ Ok mid → run_from case keeps core number (xs ++ ys) ≡ Ok last
  joined mid last ys then_on [] core number is = ap (λ (c : Core). run_from case keeps c number ys) (ap (value_or core) is) ∙ then_on number
  joined mid last ys then_on (event ∷ xs) core number is = by_test (is_enabled case core event) (joined mid last ys then_on xs (after_event case keeps core event) (number + 1)) is
    where
      by_test : (b : Bool) → (run_from case keeps (after_event case keeps core event) (number + 1) xs ≡ Ok mid → run_from case keeps (after_event case keeps core event) (number + 1) (xs ++ ys) ≡ Ok last)
          → cond b (run_from case keeps (after_event case keeps core event) (number + 1) xs) (Err number) ≡ Ok mid → cond b (run_from case keeps (after_event case keeps core event) (number + 1) (xs ++ ys)) (Err number) ≡ Ok last
      by_test true rest end = rest end
      by_test false rest end = absurd cc

  then_reaches : (core mid last : Core) → Reaches core mid → Reaches mid last → Reaches core last
  then_reaches core mid last first second = record { events = first.events ++ second.events; run = λ number. joined mid last second.events second.run first.events core number (first.run number) }

  same_reaches : (core next : Core) → core ≡ next → Reaches core next
  same_reaches core next same = record { events = []; run = λ number. ap (λ (c : Core). Ok c) same }

  event_reaches : (core next : Core) (event : Event) → is_enabled case core event ≡ true → after_event case keeps core event ≡ next → Reaches core next
  event_reaches core next event enabled leads = record {
    events = event ∷ [];
    run = λ number. ap (λ (b : Bool). cond b (run_from case keeps (after_event case keeps core event) (number + 1) []) (Err number)) enabled ∙ ap (λ (c : Core). Ok c) leads;
  }

  -- step by step
  up_to : (core_at : ℕ → Core) (bound : ℕ) → ((n : ℕ) → n < bound → Reaches (core_at n) (core_at (suc n))) → (n : ℕ) → n ≤ bound → Reaches (core_at 0) (core_at n)
  up_to core_at bound step zero within = same_reaches (core_at 0) (core_at 0) refl
  up_to core_at bound step (suc n) within = then_reaches (core_at 0) (core_at n) (core_at (suc n)) (up_to core_at bound step n (omega (arith, within))) (step n within)

-- ---- the serial run

module _ (case : Workload) (limits : IsWithinLimits case) (fits : is_world_box case.opening.area ≡ true) (keeps : Source → Bool) (taken : KeepsTaken case keeps) (order : List ℕ)
    (legal : IsLegalOrder case.scripts order) where
  abbrev serial : ℕ → ℕ → ℕ → ChunkState
  serial chunk r w = serial_chunk case keeps order chunk r w

  abbrev all_chunks : ℕ
  all_chunks = chunks case.opening.area

  -- after so many tickets are taken, and nothing else
  abbrev drawn_core : ℕ → Core
  drawn_core n = record { order = take n order; chunks = opening_state case.opening }

  -- after all jobs of so many tickets; with the next one's read jobs on the first chunks; and with its write jobs there
  abbrev base_core : ℕ → Core
  base_core t = record { order = order; chunks = λ c. serial c t t }

  abbrev read_form : ℕ → Bool → ℕ → ChunkState
  read_form t b c = serial c (cond b (suc t) t) t

  abbrev write_form : ℕ → Bool → ℕ → ChunkState
  write_form t b c = serial c (suc t) (cond b (suc t) t)

  abbrev read_core : ℕ → ℕ → Core
  read_core t n = record { order = order; chunks = λ c. read_form t (ltb c n) c }

  abbrev mid_core : ℕ → Core
  mid_core t = record { order = order; chunks = λ c. serial c (suc t) t }

  abbrev write_core : ℕ → ℕ → Core
  write_core t n = record { order = order; chunks = λ c. write_form t (ltb c n) c }

  draw_step : (n : ℕ) → n < length order → Reaches case keeps (drawn_core n) (drawn_core (suc n))
  draw_step n below =
      let p = get_or order n 0 in
      let longer : take (suc n) order ≡ take n order ++ p ∷ [] = ap (λ (k : ℕ). take k order) (let e : suc n ≡ n + 1 = omega arith in e) ∙ take_more order n 0 below in
      let count : turns_of p (take n order ++ p ∷ []) ≡ turns_of p (take n order) + turns_of p (p ∷ []) = sum_by-append (λ (q : ℕ). cond (eqb q p) 1 0) (take n order) (p ∷ []) in
      let one : turns_of p (p ∷ []) ≡ 1 + turns_of p [] = turns_of-cons p p [] ∙ ap (λ (b : Bool). cond b 1 0 + turns_of p []) (eq-eqb p p refl) in
      let all : turns_of p (take (suc n) order) ≡ turns_of p (take n order ++ p ∷ []) = ap (turns_of p) longer in
      let few : turns_of p (take n order) < length (lines_of case.scripts p) = omega (arith, all, count, one, turns_of-take order p (suc n), legal.within p) in
      event_reaches case keeps (drawn_core n) (drawn_core (suc n)) (Draw p) (lt-ltb (turns_of p (take n order)) (length (lines_of case.scripts p)) few)
      (let back = sym longer in λ i. record { order = back i; chunks = opening_state case.opening })

  module _ (t : ℕ) (drawn : t < length order) where
    -- nothing of a ticket among those below it
    not_among : (test : ℕ → Bool) → is_among (filter test (tickets_below t)) t ≡ false
    not_among test = by_test (is_among (filter test (tickets_below t)) t) refl
      where
        by_test : (b : Bool) → is_among (filter test (tickets_below t)) t ≡ b → b ≡ false
        by_test false is = refl
        by_test true is = let low = (among_listed test t t is).below in absurd (omega (arith, low))

    -- a chunk that the ticket doesn't read, or write, has no further state
    no_read : (c : ℕ) → reads_chunk case order c t ≡ false → serial c t t ≡ serial c (suc t) t
    no_read c none =
        serial-same case limits fits keeps order c t t (suc t) t (omega arith) (omega arith) (λ k low high. ap (reads_chunk case order c) (let e : k ≡ t = omega (arith, low, high) in e) ∙ none)
        (λ k low high. absurd (omega (arith, low, high)))

    no_write : (c : ℕ) → writes_chunk case order c t ≡ false → serial c (suc t) t ≡ serial c (suc t) (suc t)
    no_write c none =
        serial-same case limits fits keeps order c (suc t) t (suc t) (suc t) (omega arith) (omega arith) (λ k low high. absurd (omega (arith, low, high)))
        (λ k low high. ap (writes_chunk case order c) (let e : k ≡ t = omega (arith, low, high) in e) ∙ none)

    past : (c : ℕ) (boxes : List Area) → all_chunks ≤ c → is_among (chunks_of_boxes case.opening.area boxes) c ≡ false
    past c boxes above = by_test (is_among (chunks_of_boxes case.opening.area boxes) c) refl
      where
        by_test : (b : Bool) → is_among (chunks_of_boxes case.opening.area boxes) c ≡ b → b ≡ false
        by_test false is = refl
        by_test true is = let low = chunk_of_boxes-below case.opening.area boxes c is in absurd (omega (arith, low, above))

    -- in the states between, smaller tickets are done
    settled_at : (c r w s : ℕ) → t ≤ r → t ≤ w → s < t → is_settled case order c (serial c r w) s ≡ true
    settled_at c r w s more further less = serial-settled case keeps order c r w s (omega (arith, more, less)) (omega (arith, further, less))

    rises : (b : Bool) → t ≤ cond b (suc t) t
    rises true = omega arith
    rises false = omega arith

    ends : (b : Bool) → cond b (suc t) t ≤ suc t
    ends true = omega arith
    ends false = omega arith

    -- ---- the read jobs

    read_ready_at : (core : Core) → core.order ≡ order → (n : ℕ) → core.chunks n ≡ serial n t t → ((s : ℕ) → s < t → IsDone case core s) → reads_chunk case order n t ≡ true → IsReadReady case core t n
    read_ready_at core same n here before accessed = record {
      drawn = subst (λ (o : List ℕ). t < length o) (sym same) drawn;
      accessed = ap (λ (o : List ℕ). reads_chunk case o n t) same ∙ accessed;
      undone = ap (λ (state : ChunkState). is_among state.reads t) here ∙ not_among (reads_chunk case order n);
      turn = turn case core t (subst (λ (o : List ℕ). t < length o) (sym same) drawn) before n;
    }

    read_step : (n : ℕ) → Reaches case keeps (read_core t n) (read_core t (suc n))
    read_step n = by_test (reads_chunk case order n t) refl
      where
        by_test : (b : Bool) → reads_chunk case order n t ≡ b → Reaches case keeps (read_core t n) (read_core t (suc n))
        by_test false none =
            let each = keep_next (read_form t) n (no_read n none) in
            same_reaches case keeps (read_core t n) (read_core t (suc n)) (λ i. record { order = order; chunks = λ c. each c i })
        by_test true accessed =
            let core = read_core t n in
            let here = own_form (read_form t) n in
            let ready = read_ready_at core refl n here (λ s less c. settled_at c (cond (ltb c n) (suc t) t) t s (rises (ltb c n)) (omega arith) less) accessed in
            let each = set_next (read_form t) n (chunk_read case (source_of order t) t n (core.chunks n)) (ap (chunk_read case (source_of order t) t n) here ∙ read-serial case limits fits keeps order n t accessed) in
            event_reaches case keeps core (read_core t (suc n)) (Read t n) (read_enabled case core t n ready) (λ i. record { order = order; chunks = λ c. each c i })

    all_read : Reaches case keeps (base_core t) (mid_core t)
    all_read =
        let start = λ (c : ℕ). ap (λ (b : Bool). read_form t b c) (sym (not_below c 0 (omega arith))) in
        let end = λ (c : ℕ). at_end c in
        then_reaches case keeps (base_core t) (read_core t 0) (mid_core t) (same_reaches case keeps (base_core t) (read_core t 0) (λ i. record { order = order; chunks = λ c. start c i }))
        (then_reaches case keeps (read_core t 0) (read_core t all_chunks) (mid_core t) (up_to case keeps (read_core t) all_chunks (λ n below. read_step n) all_chunks (omega arith))
        (same_reaches case keeps (read_core t all_chunks) (mid_core t) (λ i. record { order = order; chunks = λ c. end c i })))
      where
        at_end : (c : ℕ) → read_form t (ltb c all_chunks) c ≡ serial c (suc t) t
        at_end c = elim (cases_lt c all_chunks) [
          | inl below ↦ ap (λ (b : Bool). read_form t b c) (lt-ltb c all_chunks below)
          | inr above ↦ ap (λ (b : Bool). read_form t b c) (not_below c all_chunks above) ∙ no_read c (past c (boxes_read_by (step_of_ticket case order t)) above)
        ]

    -- ---- the write jobs

    serial_at : (n c : ℕ) → IsSerialChunk case keeps order c ((write_core t n).chunks c)
    serial_at n c =
        let low = rises (ltb c n) in
        record { read = suc t; written = cond (ltb c n) (suc t) t; least = ends (ltb c n); most = omega (arith, low); drawn = drawn; same = refl }

    write_ready_at : (n m : ℕ) → (write_core t n).chunks m ≡ serial m (suc t) t → writes_chunk case order m t ≡ true → IsWriteReady case (write_core t n) t m
    write_ready_at n m here accessed =
        let core = write_core t n in
        let before = λ (s : ℕ) (less : s < t) (c : ℕ). settled_at c (suc t) (cond (ltb c n) (suc t) t) s (omega arith) (rises (ltb c n)) less in
        record {
          drawn = drawn;
          accessed = accessed;
          undone = ap (λ (state : ChunkState). is_among state.writes t) here ∙ not_among (writes_chunk case order m);
          turn = turn case core t drawn before m;
          read = all_pass (λ c. is_among (core.chunks c).reads t) (chunks_read case order t) (λ c among. among_below (reads_chunk case order c) (suc t) t (omega arith) among);
          copied = clipboard_there case core t drawn before (step_of_ticket case order t) (clip_earlier case order t);
        }

    leads_to : (n m : ℕ) (here : (write_core t n).chunks m ≡ serial m (suc t) t) → writes_chunk case order m t ≡ true
        → chunk_written case keeps (source_of order t) t m (handed_to case (write_core t n) (source_of order t)) ((write_core t n).chunks m) ≡ serial m (suc t) (suc t)
    leads_to n m here accessed =
        let ready = write_ready_at n m here accessed in
        ap (chunk_written case keeps (source_of order t) t m (handed_to case (write_core t n) (source_of order t))) here
        ∙ write_step case limits fits keeps taken (write_core t n) (serial_at n) t drawn ready.read ready.copied m accessed

    write_job : (n : ℕ) → Reaches case keeps (write_core t n) (write_core t (suc n))
    write_job n = by_test (writes_chunk case order n t) refl
      where
        by_test : (b : Bool) → writes_chunk case order n t ≡ b → Reaches case keeps (write_core t n) (write_core t (suc n))
        by_test false none =
            let each = keep_next (write_form t) n (no_write n none) in
            same_reaches case keeps (write_core t n) (write_core t (suc n)) (λ i. record { order = order; chunks = λ c. each c i })
        by_test true accessed =
            let core = write_core t n in
            let here = own_form (write_form t) n in
            let each = set_next (write_form t) n (chunk_written case keeps (source_of order t) t n (handed_to case core (source_of order t)) (core.chunks n)) (leads_to n n here accessed) in
            event_reaches case keeps core (write_core t (suc n)) (Write t n) (write_enabled case core t n (write_ready_at n n here accessed)) (λ i. record { order = order; chunks = λ c. each c i })

    written_from : mid_core t ≡ write_core t 0
    written_from = let start = λ (c : ℕ). ap (λ (b : Bool). write_form t b c) (sym (not_below c 0 (omega arith))) in λ i. record { order = order; chunks = λ c. start c i }

    all_written : Reaches case keeps (mid_core t) (base_core (suc t))
    all_written =
        let end = λ (c : ℕ). at_end c in
        then_reaches case keeps (mid_core t) (write_core t 0) (base_core (suc t)) (same_reaches case keeps (mid_core t) (write_core t 0) written_from)
        (then_reaches case keeps (write_core t 0) (write_core t all_chunks) (base_core (suc t)) (up_to case keeps (write_core t) all_chunks (λ n below. write_job n) all_chunks (omega arith))
        (same_reaches case keeps (write_core t all_chunks) (base_core (suc t)) (λ i. record { order = order; chunks = λ c. end c i })))
      where
        at_end : (c : ℕ) → write_form t (ltb c all_chunks) c ≡ serial c (suc t) (suc t)
        at_end c = elim (cases_lt c all_chunks) [
          | inl below ↦ ap (λ (b : Bool). write_form t b c) (lt-ltb c all_chunks below)
          | inr above ↦
              ap (λ (b : Bool). write_form t b c) (not_below c all_chunks above)
              ∙ no_write c (past c (flat_map (λ n. boxes_written_by case.opening.area (step_of_command case (record (source_of order t) { step = n }))) (with_edits_taken case (source_of order t))) above)
        ]

  -- ---- the whole

  pub base_reached : (t : ℕ) → t ≤ length order → Reaches case keeps (opening_core case) (base_core t)
  base_reached t within =
      let whole : take (length order) order ≡ order = take_all (length order) order (omega arith) in
      then_reaches case keeps (opening_core case) (drawn_core (length order)) (base_core t) (up_to case keeps drawn_core (length order) draw_step (length order) (omega arith))
      (then_reaches case keeps (drawn_core (length order)) (base_core 0) (base_core t)
      (same_reaches case keeps (drawn_core (length order)) (base_core 0) (λ i. record { order = whole i; chunks = opening_state case.opening }))
      (up_to case keeps base_core (length order) (λ s below. then_reaches case keeps (base_core s) (mid_core s) (base_core (suc s)) (all_read s below) (all_written s below)) t within))

  pub reads_are_events : ReadsAreEvents case keeps order
  reads_are_events chunk t state h next =
      let here : serial chunk t t ≡ state = sym (state_before_read case limits fits keeps order chunk state h t next.accessed next.undone next.turn) in
      let reached = base_reached t (let drawn = next.drawn in omega (arith, drawn)) in
      let core = base_core t in
      record {
        events = reached.events;
        core = core;
        run = reached.run 0;
        tickets = refl;
        before = here;
        enabled = read_enabled case core t chunk (read_ready_at t next.drawn core refl chunk refl (λ s less c. settled_at t next.drawn c t t s (omega arith) (omega arith) less) next.accessed);
        leads =
            ap (λ (b : Bool). cond b (chunk_read case (source_of order t) t chunk (serial chunk t t)) (serial chunk t t)) (eq-eqb chunk chunk refl)
            ∙ read-serial case limits fits keeps order chunk t next.accessed;
      }

  pub writes_are_events : WritesAreEvents case keeps order
  writes_are_events chunk t state h next =
      let drawn = next.drawn in
      let core = write_core t 0 in
      let same : (write_core t 0).chunks chunk ≡ serial chunk (suc t) t = ap (λ (b : Bool). write_form t b chunk) (not_below chunk 0 (omega arith)) in
      let here = same ∙ sym (state_before_write case limits fits keeps order chunk state h t next.accessed next.undone next.turn next.read) in
      let reached =
      then_reaches case keeps (opening_core case) (base_core t) core (base_reached t (omega (arith, drawn)))
      (then_reaches case keeps (base_core t) (mid_core t) core (all_read t drawn) (same_reaches case keeps (mid_core t) core (written_from t drawn))) in
      record {
        events = reached.events;
        core = core;
        run = reached.run 0;
        tickets = refl;
        before = here;
        enabled = write_enabled case core t chunk (write_ready_at t drawn 0 chunk same next.accessed);
        leads =
            ap (λ (b : Bool). cond b (chunk_written case keeps (source_of order t) t chunk (handed_to case core (source_of order t)) (core.chunks chunk)) (core.chunks chunk)) (eq-eqb chunk chunk refl)
            ∙ leads_to t drawn 0 chunk same next.accessed;
      }
