-- Each event that is enabled leads from a serial core to a serial core; so whatever events come, only these are reached.
use Rattle.std.proofs.Common.{◌≡◌, ℕ, suc, ◌+◌, ◌<◌, ◌≤◌, eqb, ltb, Bool, true, false, cond, not, ◌&&◌, List, [], ◌∷◌, ◌++◌, length, map, get_or, refl, sym, ap, ◌∙◌, subst, inl, inr, arith}
use Rattle.std.specs.Prelude.{filter, Result, Ok, Err}
use Rattle.std.proofs.lemmas.Bool.{cases_lt}
use Rattle.std.proofs.lemmas.List.{length-append}
use Rattle.std.proofs.lemmas.List.Elements.{All-nil, All-push, recursion_from_All}
use Rattle.std.proofs.lemmas.List.Sums.{sum_by-append}
use Rattle.edit_terms.specs.declared.clip.Source.{Source}
use Rattle.edit_terms.specs.declared.event.Event.{Event}
use Rattle.edit_terms.specs.declared.event.Event.TheVariants.{Draw, Read, Write}
use Rattle.edit_terms.specs.declared.script.Script.{Script}
use Rattle.edit_terms.specs.Area.{is_world_box}
use Rattle.edit_terms.specs.World.{World}
use Rattle.edit_terms.proofs.AreaLemmas.{and_both}
use Rattle.run_terms.specs.Workload.{Workload}
use Rattle.run_terms.specs.Order.{IsLegalOrder, turns_of, lines_of, source_of, step_of_ticket}
use Rattle.run_terms.specs.Access.{chunk_part, chunks_read, chunks_read_by, chunks_written_by}
use Rattle.run_terms.specs.Change.{changes_between}
use Rattle.run_terms.specs.Limits.{IsWithinLimits}
use Rattle.run_terms.proofs.Lists.{map-agrees}
use Rattle.run_terms.proofs.OrderLemmas.{lines_of-past}
use Rattle.run_terms.proofs.Tickets.{turns_of-cons}
use Rattle.run_terms.proofs.PrefixLemmas.{source_of-append, world_after-append}
use Rattle.access_laws.specs.Locality.{is_among}
use Rattle.access_laws.proofs.Parts.{same_number}
use Rattle.core_laws.specs.ChunkState.{ChunkState, captured_part, changes_in_chunk}
use Rattle.core_laws.specs.WriteJob.{chunk_written}
use Rattle.core_laws.specs.Core.{Core, opening_core, reads_chunk, writes_chunk, has_turn, are_reads_done, is_clipboard_there, is_read_enabled, is_write_enabled, is_enabled, handed_to, chunk_read, with_chunk, after_event, run_from}
use Rattle.core_laws.specs.Serial.{tickets_below, captured_by, recorded_by, is_kept, serial_chunk, IsSerialChunk, KeepsTaken, IsSerialCore, ReachesSerialCores}
use Rattle.core_laws.proofs.Parts.{all_among}
use Rattle.core_laws.proofs.OneChunk.{state_before_read, state_before_write}
use Rattle.core_laws.proofs.SerialSteps.{read-serial}
use Rattle.core_laws.proofs.Tickets.{tickets_are_below, filter-agrees, IsListed, all_listed, among_listed, among_below}
use Rattle.core_laws.proofs.WriteStep.{write_step}

pub is_false : (b : Bool) → not b ≡ true → b ≡ false
is_false true h = absurd cc
is_false false h = refl

below_is : (a b : ℕ) → ltb a b ≡ true → a < b
below_is a b h = grind (arith)

-- ---- what an enabled job meets

pub record IsReadReady (case : Workload) (core : Core) (t chunk : ℕ) : Type 0 where
  pub drawn : t < length core.order
  pub accessed : reads_chunk case core.order chunk t ≡ true
  pub undone : is_among (core.chunks chunk).reads t ≡ false
  pub turn : has_turn case core.order chunk (core.chunks chunk) t ≡ true

pub record IsWriteReady (case : Workload) (core : Core) (t chunk : ℕ) : Type 0 where
  pub drawn : t < length core.order
  pub accessed : writes_chunk case core.order chunk t ≡ true
  pub undone : is_among (core.chunks chunk).writes t ≡ false
  pub turn : has_turn case core.order chunk (core.chunks chunk) t ≡ true
  pub read : are_reads_done case core t ≡ true
  pub copied : is_clipboard_there case core (step_of_ticket case core.order t) ≡ true

pub read_ready : (case : Workload) (core : Core) (t chunk : ℕ) → is_read_enabled case core t chunk ≡ true → IsReadReady case core t chunk
read_ready case core t chunk h =
    let a = ltb t (length core.order) in
    let b = reads_chunk case core.order chunk t in
    let c = not (is_among (core.chunks chunk).reads t) in
    let d = has_turn case core.order chunk (core.chunks chunk) t in
    let three = and_both (a && b && c) d h in
    let two = and_both (a && b) c three.0 in
    let one = and_both a b two.0 in
    record { drawn = below_is t (length core.order) one.0; accessed = one.1; undone = is_false (is_among (core.chunks chunk).reads t) two.1; turn = three.1 }

pub write_ready : (case : Workload) (core : Core) (t chunk : ℕ) → is_write_enabled case core t chunk ≡ true → IsWriteReady case core t chunk
write_ready case core t chunk h =
    let a = ltb t (length core.order) in
    let b = writes_chunk case core.order chunk t in
    let c = not (is_among (core.chunks chunk).writes t) in
    let d = has_turn case core.order chunk (core.chunks chunk) t in
    let e = are_reads_done case core t in
    let f = is_clipboard_there case core (step_of_ticket case core.order t) in
    let five = and_both (a && b && c && d && e) f h in
    let four = and_both (a && b && c && d) e five.0 in
    let three = and_both (a && b && c) d four.0 in
    let two = and_both (a && b) c three.0 in
    let one = and_both a b two.0 in
    record {
      drawn = below_is t (length core.order) one.0;
      accessed = one.1;
      undone = is_false (is_among (core.chunks chunk).writes t) two.1;
      turn = three.1;
      read = four.1;
      copied = five.1;
    }

-- ---- one more entry

pub legal-append : (scripts : List Script) (order : List ℕ) (p : ℕ) → IsLegalOrder scripts order → turns_of p order < length (lines_of scripts p) → IsLegalOrder scripts (order ++ p ∷ [])
legal-append scripts order p legal few = record {
  players = All-push (λ q. q < length scripts) order p legal.players is_player;
  within = λ player. (let count = sum_by-append (λ (q : ℕ). cond (eqb q player) 1 0) order (p ∷ []) in by_test player (eqb p player) refl count);
}
  where
    is_player : p < length scripts
    is_player = elim (cases_lt p (length scripts)) [
      | inl below ↦ below
      | inr past ↦ let none : length (lines_of scripts p) ≡ 0 = ap length (lines_of-past scripts p past) in absurd (omega (arith, few, none))
    ]

    by_test : (player : ℕ) (b : Bool) → eqb p player ≡ b → turns_of player (order ++ p ∷ []) ≡ turns_of player order + turns_of player (p ∷ []) → turns_of player (order ++ p ∷ []) ≤ length (lines_of scripts player)
    by_test player true is count =
        let one : turns_of player (p ∷ []) ≡ 1 + turns_of player [] = turns_of-cons player p [] ∙ ap (λ (b : Bool). cond b 1 0 + turns_of player []) is in
        let same : p ≡ player = same_number p player is in
        let more : turns_of player order < length (lines_of scripts player) = subst (λ (q : ℕ). turns_of q order < length (lines_of scripts q)) same few in
        omega (arith, count, one, more)
    by_test player false is count =
        let one : turns_of player (p ∷ []) ≡ 0 + turns_of player [] = turns_of-cons player p [] ∙ ap (λ (b : Bool). cond b 1 0 + turns_of player []) is in
        omega (arith, count, one, legal.within player)

abbrev value_or : Core → Result Core ℕ → Core
value_or core (Ok c) = c
value_or core (Err number) = core

-- ---- a longer order

module _ (case : Workload) (keeps : Source → Bool) (order more : List ℕ) (chunk : ℕ) where
  abbrev longer : List ℕ
  longer = order ++ more

  filtered_alike : (p q : ℕ → Bool) (n : ℕ) → n ≤ length order → ((t : ℕ) → t < length order → p t ≡ q t) → filter p (tickets_below n) ≡ filter q (tickets_below n)
  filtered_alike p q n within same = filter-agrees p q (tickets_below n) (λ k d inside. same (get_or (tickets_below n) k d) (omega (arith, within, tickets_are_below n k d inside)))

  -- the serial states of the first tickets are the same under a longer order
  pub serial-append : (r w : ℕ) → r ≤ length order → w ≤ length order → serial_chunk case keeps longer chunk r w ≡ serial_chunk case keeps order chunk r w
  serial-append r w read_in write_in =
      let source = λ (t : ℕ) (below : t < length order). source_of-append order more t below in
      let world = λ (t : ℕ) (within : t ≤ length order). world_after-append case order more t within in
      let read = filtered_alike (reads_chunk case longer chunk) (reads_chunk case order chunk) r read_in (λ t below. ap (λ (id : Source). is_among (chunks_read_by case id) chunk) (source t below)) in
      let written = filtered_alike (writes_chunk case longer chunk) (writes_chunk case order chunk) w write_in (λ t below. ap (λ (id : Source). is_among (chunks_written_by case id) chunk) (source t below)) in
      let kept = filtered_alike (is_kept case keeps longer chunk) (is_kept case keeps order chunk) w write_in (λ t below. ap (λ (id : Source). is_among (chunks_written_by case id) chunk && keeps id) (source t below)) in
      let parts : map (captured_by case longer chunk) (filter (reads_chunk case longer chunk) (tickets_below r)) ≡ map (captured_by case order chunk) (filter (reads_chunk case order chunk) (tickets_below r)) =
      ap (map (captured_by case longer chunk)) read
      ∙ listed_alike (captured_by case longer chunk) (captured_by case order chunk) (reads_chunk case order chunk) r read_in (λ t below. (let s = source t below in let v = world t (omega (arith, below)) in
      λ i. captured_part case (s i) chunk (chunk_part (v i) chunk))) in
      let records : map (recorded_by case longer chunk) (filter (is_kept case keeps longer chunk) (tickets_below w)) ≡ map (recorded_by case order chunk) (filter (is_kept case keeps order chunk) (tickets_below w)) =
      ap (map (recorded_by case longer chunk)) kept
      ∙ listed_alike (recorded_by case longer chunk) (recorded_by case order chunk) (is_kept case keeps order chunk) w write_in (λ t below. (let s = source t below in let old = world t (omega (arith, below)) in let new = world (suc t) below in
      λ i. record { source = s i; changes = changes_in_chunk case.opening.area chunk (changes_between (old i) (new i)) })) in
      let cells = ap (λ (v : World). chunk_part v chunk) (world w write_in) in
      λ i. record { reads = read i; writes = written i; cells = cells i; parts = parts i; kept = records i }
    where
      listed_alike : {X : Type 0} (f g : ℕ → X) (test : ℕ → Bool) (n : ℕ) → n ≤ length order → ((t : ℕ) → t < length order → f t ≡ g t) → map f (filter test (tickets_below n)) ≡ map g (filter test (tickets_below n))
      listed_alike f g test n within same =
          map-agrees f g (IsListed test n) (λ t h. same t (omega (arith, within, h.below))) (filter test (tickets_below n)) (recursion_from_All (IsListed test n) (filter test (tickets_below n)) (all_listed test n))

  pub serial_chunk-longer : (state : ChunkState) → IsSerialChunk case keeps order chunk state → IsSerialChunk case keeps longer chunk state
  serial_chunk-longer state h = record {
    read = h.read;
    written = h.written;
    least = h.least;
    most = h.most;
    drawn = omega (arith, h.drawn, length-append order more);
    same = h.same ∙ sym (serial-append h.read h.written h.drawn (omega (arith, h.least, h.drawn)));
  }

-- ---- each event

module _ (case : Workload) (limits : IsWithinLimits case) (fits : is_world_box case.opening.area ≡ true) (keeps : Source → Bool) (taken : KeepsTaken case keeps) (core : Core)
    (serial : (chunk : ℕ) → IsSerialChunk case keeps core.order chunk (core.chunks chunk)) where
  abbrev order : List ℕ
  order = core.order

  before_read : (t chunk : ℕ) → IsReadReady case core t chunk → core.chunks chunk ≡ serial_chunk case keeps order chunk t t
  before_read t chunk ready = state_before_read case limits fits keeps order chunk (core.chunks chunk) (serial chunk) t ready.accessed ready.undone ready.turn

  before_write : (t chunk : ℕ) → IsWriteReady case core t chunk → core.chunks chunk ≡ serial_chunk case keeps order chunk (suc t) t
  before_write t chunk ready =
      state_before_write case limits fits keeps order chunk (core.chunks chunk) (serial chunk) t ready.accessed ready.undone ready.turn
      (λ accessed. all_among (λ c. is_among (core.chunks c).reads t) (chunks_read case order t) chunk ready.read accessed)

  -- another state of one chunk leaves those of the others
  one_chunk : (chunk : ℕ) (state : ChunkState) → IsSerialChunk case keeps order chunk state → (c : ℕ) → IsSerialChunk case keeps order c ((with_chunk chunk state core).chunks c)
  one_chunk chunk state h c = by_test (eqb c chunk) refl
    where
      by_test : (b : Bool) → eqb c chunk ≡ b → IsSerialChunk case keeps order c (cond b state (core.chunks c))
      by_test true is = subst (λ (k : ℕ). IsSerialChunk case keeps order k state) (sym (same_number c chunk is)) h
      by_test false is = serial c

  after_read : (t chunk : ℕ) → IsReadReady case core t chunk → IsSerialChunk case keeps order chunk (chunk_read case (source_of order t) t chunk (core.chunks chunk))
  after_read t chunk ready = record {
    read = suc t;
    written = t;
    least = omega arith;
    most = omega arith;
    drawn = ready.drawn;
    same = ap (chunk_read case (source_of order t) t chunk) (before_read t chunk ready) ∙ read-serial case limits fits keeps order chunk t ready.accessed;
  }

  after_write : (t chunk : ℕ) → IsWriteReady case core t chunk
      → IsSerialChunk case keeps order chunk (chunk_written case keeps (source_of order t) t chunk (handed_to case core (source_of order t)) (core.chunks chunk))
  after_write t chunk ready = record {
    read = suc t;
    written = suc t;
    least = omega arith;
    most = omega arith;
    drawn = ready.drawn;
    same =
        ap (chunk_written case keeps (source_of order t) t chunk (handed_to case core (source_of order t))) (before_write t chunk ready)
        ∙ write_step case limits fits keeps taken core serial t ready.drawn ready.read ready.copied chunk ready.accessed;
  }

  -- each enabled event leads on
  pub event_step : (event : Event) → is_enabled case core event ≡ true → (c : ℕ) → IsSerialChunk case keeps (after_event case keeps core event).order c ((after_event case keeps core event).chunks c)
  event_step (Draw player) enabled c = serial_chunk-longer case keeps order (player ∷ []) c (core.chunks c) (serial c)
  event_step (Read t chunk) enabled c = one_chunk chunk (chunk_read case (source_of order t) t chunk (core.chunks chunk)) (after_read t chunk (read_ready case core t chunk enabled)) c
  event_step (Write t chunk) enabled c =
      one_chunk chunk (chunk_written case keeps (source_of order t) t chunk (handed_to case core (source_of order t)) (core.chunks chunk)) (after_write t chunk (write_ready case core t chunk enabled)) c

  legal_step : IsLegalOrder case.scripts order → (event : Event) → is_enabled case core event ≡ true → IsLegalOrder case.scripts (after_event case keeps core event).order
  legal_step legal (Draw player) enabled = legal-append case.scripts order player legal (below_is (turns_of player order) (length (lines_of case.scripts player)) enabled)
  legal_step legal (Read t chunk) enabled = legal
  legal_step legal (Write t chunk) enabled = legal

-- ---- all events

module _ (case : Workload) (limits : IsWithinLimits case) (fits : is_world_box case.opening.area ≡ true) (keeps : Source → Bool) (taken : KeepsTaken case keeps) where
  opening_serial : IsSerialCore case keeps (opening_core case)
  opening_serial = record {
    legal = record { players = All-nil (λ p. p < length case.scripts); within = λ player. omega arith };
    chunks = λ chunk. record { read = 0; written = 0; least = omega arith; most = omega arith; drawn = omega arith; same = refl };
  }

  run_serial : (core : Core) → IsSerialCore case keeps core → (number : ℕ) (events : List Event) (last : Core) → run_from case keeps core number events ≡ Ok last → IsSerialCore case keeps last
  run_serial core h number [] last is = subst (IsSerialCore case keeps) (ap (value_or core) is) h
  run_serial core h number (event ∷ events) last is =
      by_test (is_enabled case core event) refl (λ enabled.
      run_serial (after_event case keeps core event) (record { legal = legal_step case limits fits keeps taken core h.chunks h.legal event enabled; chunks = event_step case limits fits keeps taken core h.chunks event enabled }) (number + 1) events last) is
    where
      by_test : (b : Bool) → is_enabled case core event ≡ b → (is_enabled case core event ≡ true → run_from case keeps (after_event case keeps core event) (number + 1) events ≡ Ok last → IsSerialCore case keeps last)
          → cond b (run_from case keeps (after_event case keeps core event) (number + 1) events) (Err number) ≡ Ok last → IsSerialCore case keeps last
      by_test true is on end = on is end
      by_test false is on end = absurd cc

  pub reaches_serial_cores : ReachesSerialCores case keeps
  reaches_serial_cores events core is = run_serial (opening_core case) opening_serial 0 events core is
