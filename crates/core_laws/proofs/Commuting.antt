-- Events commute: a job on one chunk leaves the other chunks, and of its own takes nothing away that a job elsewhere reads.
use Rattle.std.proofs.Common.{◌≡◌, ℕ, ◌<◌, eqb, Bool, true, false, cond, not, ◌&&◌, ◌||◌, List, [], ◌∷◌, ◌++◌, length, take, get_or, Option, Some, None, refl, sym, ap, ◌∙◌, subst, arith}
use Rattle.std.specs.Prelude.{All, IfSome, flat_map}
use Rattle.std.specs.List.{list_all, find}
use Rattle.std.specs.Option.{option_map_or}
use Rattle.std.specs.Cmp.Derive.{both_true}
use Rattle.std.proofs.lemmas.Bool.{eq-eqb, lt-ltb}
use Rattle.std.proofs.lemmas.List.{length-append}
use Rattle.std.proofs.lemmas.List.Concat.{flat_map-cons}
use Rattle.std.proofs.lemmas.List.Elements.{All-head, All-tail}
use Rattle.std.proofs.lemmas.Option.{IfSome_then}
use Rattle.edit_terms.specs.declared.clip.Clip.{Clip}
use Rattle.edit_terms.specs.declared.clip.Source.{Source}
use Rattle.edit_terms.specs.declared.event.Event.{Event}
use Rattle.edit_terms.specs.declared.event.Event.TheVariants.{Draw, Read, Write}
use Rattle.edit_terms.specs.declared.step.Step.{Step}
use Rattle.edit_terms.specs.declared.step.Step.TheVariants.{Settled, Job, Refused}
use Rattle.run_terms.specs.Workload.{Workload}
use Rattle.run_terms.specs.Order.{turns_of, lines_of, player_of, command_number, source_of, ticket_of, step_of_command, step_of_ticket}
use Rattle.run_terms.specs.Access.{chunks_read, chunks_read_by, chunks_written_by, is_accessed, previous_access}
use Rattle.run_terms.specs.Needs.{needs_clipboard}
use Rattle.run_terms.proofs.Earlier.{clip_of, IsEarlier, step_is_of_earlier}
use Rattle.run_terms.proofs.PrefixLemmas.{ticket_from-append, source_of-append}
use Rattle.run_terms.proofs.Tickets.{ticket_of-source_of, ticket_from-earlier}
use Rattle.access_laws.specs.Locality.{is_among}
use Rattle.access_laws.proofs.Chunks.{or_first, or_second}
use Rattle.access_laws.proofs.Parts.{same_number}
use Rattle.access_laws.proofs.Stays.{ticket_is_of, source_of_ticket, turns_of-take}
use Rattle.core_laws.specs.ChunkState.{Captured, ChunkState, is_same_source, part_of, captured_part}
use Rattle.core_laws.specs.WriteJob.{Handed, chunk_written}
use Rattle.core_laws.specs.Core.{Core, reads_chunk, writes_chunk, is_settled, has_turn, are_reads_done, is_clipboard_there, is_read_enabled, is_write_enabled, is_enabled, cells_captured, cells_copied, handed_to, chunk_read, with_chunk, after_event}
use Rattle.core_laws.specs.Exchange.{is_elsewhere, IsExchange, EventsExchange}
use Rattle.core_laws.specs.Progress.{is_job}
use Rattle.core_laws.specs.Serial.{tickets_below}
use Rattle.core_laws.proofs.DeadEnds.{all_pass}
use Rattle.core_laws.proofs.Parts.{all_among}
use Rattle.core_laws.proofs.Reached.{IsReadReady, IsWriteReady, read_ready, write_ready}
use Rattle.core_laws.proofs.Tickets.{same_source-is, tickets_are_below, LastIs, last_is}

-- ---- lists

joined_agrees : {X : Type 0} (f g : ℕ → List X) (ks : List ℕ) → ((k : ℕ) → is_among ks k ≡ true → f k ≡ g k) → flat_map f ks ≡ flat_map g ks
joined_agrees f g [] same = refl
joined_agrees f g (k ∷ ks) same =
    let here = same k (or_first (eqb k k) (is_among ks k) (eq-eqb k k refl)) in
    let later = joined_agrees f g ks (λ m among. same m (or_second (eqb k m) (is_among ks m) among)) in
    flat_map-cons f k ks ∙ (λ i. here i ++ later i) ∙ sym (flat_map-cons g k ks)

find_agrees : (p q : ℕ → Bool) (ks : List ℕ) → All (λ k. p k ≡ q k) ks → find p ks ≡ find q ks
find_agrees p q [] all = refl
find_agrees p q (k ∷ ks) all =
    let here = All-head (λ m. p m ≡ q m) k ks all in
    let later = find_agrees p q ks (All-tail (λ m. p m ≡ q m) k ks all) in
    λ i. cond (here i) (Some k) (later i)

not_same : (a b : ℕ) → not (eqb a b) ≡ true → eqb a b ≡ false
not_same a b h = by_test (eqb a b) h
  where
    by_test : (c : Bool) → not c ≡ true → c ≡ false
    by_test true h = absurd cc
    by_test false h = refl

-- ---- from what a job needs back to that it is enabled

pub read_enabled : (case : Workload) (core : Core) (t chunk : ℕ) → IsReadReady case core t chunk → is_read_enabled case core t chunk ≡ true
read_enabled case core t chunk h = both_true (both_true (both_true (lt-ltb t (length core.order) h.drawn) h.accessed) (ap not h.undone)) h.turn

pub write_enabled : (case : Workload) (core : Core) (t chunk : ℕ) → IsWriteReady case core t chunk → is_write_enabled case core t chunk ≡ true
write_enabled case core t chunk h =
    both_true (both_true (both_true (both_true (both_true (lt-ltb t (length core.order) h.drawn) h.accessed) (ap not h.undone)) h.turn) h.read) h.copied

-- ---- the clipboard's copy has a ticket

-- of a command id whose ticket is below another
record IsDrawn (order : List ℕ) (t : ℕ) (id : Source) : Type 0 where
  below : ticket_of order id < t
  few : id.step < turns_of id.player order
  named : source_of order (ticket_of order id) ≡ id

is_drawn : (order : List ℕ) (t : ℕ) (id : Source) → IsEarlier (player_of order t) (command_number order t) id → IsDrawn order t id
is_drawn order t id earlier =
    let before : id.step < turns_of id.player (take t order) = subst (λ (p : ℕ). id.step < turns_of p (take t order)) (sym earlier.own) earlier.step in
    let few : id.step < turns_of id.player order = omega (arith, before, turns_of-take order id.player t) in
    record {
      below = ticket_from-earlier order id.player id.step t before;
      few = few;
      named = source_of_ticket order id.player id.step (ticket_of order id) (ticket_is_of order id.player id.step few);
    }

clip_is_drawn : (case : Workload) (order : List ℕ) (t : ℕ) → IfSome (clip_of (step_of_ticket case order t)) (λ c. IsDrawn order t c.source)
clip_is_drawn case order t =
    IfSome_then (clip_of (step_of_ticket case order t)) (step_is_of_earlier (player_of order t) case.depth (lines_of case.scripts (player_of order t)) (command_number order t)).clip (λ c earlier. is_drawn order t c.source earlier)

-- ---- another state of one chunk

module _ (case : Workload) (keeps : Source → Bool) (core : Core) where
  abbrev order : List ℕ
  order = core.order

  -- A state of a chunk that has all its done read jobs, and what they captured.
  pub record IsGrown (chunk : ℕ) (state : ChunkState) : Type 0 where
    pub reads : (t : ℕ) → is_among (core.chunks chunk).reads t ≡ true → is_among state.reads t ≡ true
    pub parts : (t : ℕ) → t < length order → is_among (core.chunks chunk).reads t ≡ true → part_of state.parts (source_of order t) ≡ part_of (core.chunks chunk).parts (source_of order t)

  grown_by_read : (t chunk : ℕ) → IsReadReady case core t chunk → IsGrown chunk (chunk_read case (source_of order t) t chunk (core.chunks chunk))
  grown_by_read t chunk ready = record {
    reads = λ s done. or_second (eqb t s) (is_among (core.chunks chunk).reads s) done;
    parts = λ s drawn done. by_test s drawn done (is_same_source (source_of order t) (source_of order s)) refl;
  }
    where
      by_test : (s : ℕ) → s < length order → is_among (core.chunks chunk).reads s ≡ true → (b : Bool) → is_same_source (source_of order t) (source_of order s) ≡ b
          → cond (is_same_source (source_of order t) (source_of order s)) (Some (captured_part case (source_of order t) chunk (core.chunks chunk).cells)) (part_of (core.chunks chunk).parts (source_of order s)) ≡ part_of (core.chunks chunk).parts (source_of order s)
      by_test s drawn done true is =
          let one : t ≡ s = sym (ticket_of-source_of order t ready.drawn) ∙ ap (ticket_of order) (same_source-is (source_of order t) (source_of order s) is) ∙ ticket_of-source_of order s drawn in
          let never : is_among (core.chunks chunk).reads t ≡ true = ap (is_among (core.chunks chunk).reads) one ∙ done in
          let undone = ready.undone in
          absurd cc
      by_test s drawn done false is =
          ap (λ (b : Bool). cond b (Some (captured_part case (source_of order t) chunk (core.chunks chunk).cells)) (part_of (core.chunks chunk).parts (source_of order s))) is

  grown_by_write : (t chunk : ℕ) (handed : Handed) → IsGrown chunk (chunk_written case keeps (source_of order t) t chunk handed (core.chunks chunk))
  grown_by_write t chunk handed = record { reads = λ s done. done; parts = λ s drawn done. refl }

  module _ (other : ℕ) (state : ChunkState) (grown : IsGrown other state) where
    abbrev next : Core
    next = with_chunk other state core

    -- the other chunks stay
    chunk_stays : (chunk : ℕ) → eqb chunk other ≡ false → next.chunks chunk ≡ core.chunks chunk
    chunk_stays chunk apart = ap (λ (b : Bool). cond b state (core.chunks chunk)) apart

    still_read : (t chunk : ℕ) → is_among (core.chunks chunk).reads t ≡ true → is_among (next.chunks chunk).reads t ≡ true
    still_read t chunk done = by_test (eqb chunk other) refl
      where
        by_test : (b : Bool) → eqb chunk other ≡ b → is_among (cond b state (core.chunks chunk)).reads t ≡ true
        by_test true is = grown.reads t (ap (λ (c : ℕ). is_among (core.chunks c).reads t) (sym (same_number chunk other is)) ∙ done)
        by_test false is = done

    reads_stay : (t : ℕ) → are_reads_done case core t ≡ true → are_reads_done case next t ≡ true
    reads_stay t done =
        all_pass (λ c. is_among (next.chunks c).reads t) (chunks_read case order t) (λ c among. still_read t c (all_among (λ k. is_among (core.chunks k).reads t) (chunks_read case order t) c done among))

    clipboard_stays : (step : Step) → is_clipboard_there case core step ≡ true → is_clipboard_there case next step ≡ true
    clipboard_stays Settled there = refl
    clipboard_stays (Refused refusal) there = refl
    clipboard_stays (Job spec) there = by_need (needs_clipboard spec.work) spec.clip there
      where
        by_need : (b : Bool) (clip : Option Clip) → (not b || option_map_or (λ c. are_reads_done case core (ticket_of order c.source)) clip true) ≡ true
            → (not b || option_map_or (λ c. are_reads_done case next (ticket_of order c.source)) clip true) ≡ true
        by_need false clip h = refl
        by_need true None h = refl
        by_need true (Some c) h = reads_stay (ticket_of order c.source) h

    -- what a ticket captured stays once its reads are done
    captured_stays : (t : ℕ) → t < length order → are_reads_done case core t ≡ true → cells_captured case next (source_of order t) ≡ cells_captured case core (source_of order t)
    captured_stays t drawn done =
        let cells = λ (o : Option Captured). option_map_or (λ (part : Captured). part.cells) o [] in
        joined_agrees (λ chunk. cells (part_of (next.chunks chunk).parts (source_of order t))) (λ chunk. cells (part_of (core.chunks chunk).parts (source_of order t))) (chunks_read_by case (source_of order t)) (λ c among.
        ap cells (by_test c (all_among (λ k. is_among (core.chunks k).reads t) (chunks_read case order t) c done among) (eqb c other) refl))
      where
        by_test : (c : ℕ) → is_among (core.chunks c).reads t ≡ true → (b : Bool) → eqb c other ≡ b → part_of (cond b state (core.chunks c)).parts (source_of order t) ≡ part_of (core.chunks c).parts (source_of order t)
        by_test c read true is =
            let here = same_number c other is in
            grown.parts t drawn (ap (λ (k : ℕ). is_among (core.chunks k).reads t) (sym here) ∙ read) ∙ ap (λ (k : ℕ). part_of (core.chunks k).parts (source_of order t)) (sym here)
        by_test c read false is = refl

    copied_stays : (t : ℕ) → t < length order → (step : Step) → is_clipboard_there case core step ≡ true → IfSome (clip_of step) (λ c. IsDrawn order t c.source) → cells_copied case next step ≡ cells_copied case core step
    copied_stays t drawn Settled there clip = refl
    copied_stays t drawn (Refused refusal) there clip = refl
    copied_stays t drawn (Job spec) there clip = by_need (needs_clipboard spec.work) spec.clip there clip
      where
        by_need : (b : Bool) (o : Option Clip) → (not b || option_map_or (λ c. are_reads_done case core (ticket_of order c.source)) o true) ≡ true → IfSome o (λ c. IsDrawn order t c.source)
            → cond b (option_map_or (λ c. cells_captured case next c.source) o []) [] ≡ cond b (option_map_or (λ c. cells_captured case core c.source) o []) []
        by_need false o h is = refl
        by_need true None h is = refl
        by_need true (Some c) h is =
            let low = is.below in
            ap (cells_captured case next) (sym is.named) ∙ captured_stays (ticket_of order c.source) (omega (arith, low, drawn)) h ∙ ap (cells_captured case core) is.named

    handed_stays : (t chunk : ℕ) → IsWriteReady case core t chunk → handed_to case next (source_of order t) ≡ handed_to case core (source_of order t)
    handed_stays t chunk ready =
        let own = captured_stays t ready.drawn ready.read in
        let copied = copied_stays t ready.drawn (step_of_ticket case order t) ready.copied (clip_is_drawn case order t) in
        λ i. record { own = own i; copied = copied i }

  -- A job on a chunk, and that no grown state of another chunk hinders or changes it.
  record IsJobAt (event : Event) (chunk : ℕ) : Type 0 where
    state : ChunkState
    after : after_event case keeps core event ≡ with_chunk chunk state core
    grown : IsGrown chunk state
    enabled : (other : ℕ) (s : ChunkState) → IsGrown other s → eqb chunk other ≡ false → is_enabled case (with_chunk other s core) event ≡ true
    alike : (other : ℕ) (s : ChunkState) → IsGrown other s → eqb chunk other ≡ false → after_event case keeps (with_chunk other s core) event ≡ with_chunk chunk state (with_chunk other s core)

  read_at : (t chunk : ℕ) → IsReadReady case core t chunk → IsJobAt (Read t chunk) chunk
  read_at t chunk ready = record {
    state = chunk_read case (source_of order t) t chunk (core.chunks chunk);
    after = refl;
    grown = grown_by_read t chunk ready;
    enabled = λ other s grown apart. (let stays = chunk_stays other s grown chunk apart in
        read_enabled case (with_chunk other s core) t chunk (record {
          drawn = ready.drawn;
          accessed = ready.accessed;
          undone = ap (λ (here : ChunkState). is_among here.reads t) stays ∙ ready.undone;
          turn = ap (λ (here : ChunkState). has_turn case order chunk here t) stays ∙ ready.turn;
        }));
    alike = λ other s grown apart. (let stays = chunk_stays other s grown chunk apart in
        ap (λ (here : ChunkState). with_chunk chunk (chunk_read case (source_of order t) t chunk here) (with_chunk other s core)) stays);
  }

  write_at : (t chunk : ℕ) → IsWriteReady case core t chunk → IsJobAt (Write t chunk) chunk
  write_at t chunk ready = record {
    state = chunk_written case keeps (source_of order t) t chunk (handed_to case core (source_of order t)) (core.chunks chunk);
    after = refl;
    grown = grown_by_write t chunk (handed_to case core (source_of order t));
    enabled = λ other s grown apart. (let stays = chunk_stays other s grown chunk apart in
        write_enabled case (with_chunk other s core) t chunk (record {
          drawn = ready.drawn;
          accessed = ready.accessed;
          undone = ap (λ (here : ChunkState). is_among here.writes t) stays ∙ ready.undone;
          turn = ap (λ (here : ChunkState). has_turn case order chunk here t) stays ∙ ready.turn;
          read = reads_stay other s grown t ready.read;
          copied = clipboard_stays other s grown (step_of_ticket case order t) ready.copied;
        }));
    alike = λ other s grown apart. (let stays = chunk_stays other s grown chunk apart in
        let handed = handed_stays other s grown t chunk ready in
        λ i. with_chunk chunk (chunk_written case keeps (source_of order t) t chunk (handed i) (stays i)) (with_chunk other s core));
  }

  -- two chunks may be set in either order
  set_both : (c d : ℕ) (s u : ChunkState) → eqb c d ≡ false → with_chunk d u (with_chunk c s core) ≡ with_chunk c s (with_chunk d u core)
  set_both c d s u apart = let each = λ (k : ℕ). by_test k (eqb k d) refl (eqb k c) refl in λ i. record { order = order; chunks = λ k. each k i }
    where
      by_test : (k : ℕ) (a : Bool) → eqb k d ≡ a → (b : Bool) → eqb k c ≡ b → cond (eqb k d) u (cond (eqb k c) s (core.chunks k)) ≡ cond (eqb k c) s (cond (eqb k d) u (core.chunks k))
      by_test k true at_d true at_c =
          let one : c ≡ d = sym (same_number k c at_c) ∙ same_number k d at_d in
          let never : eqb c d ≡ true = eq-eqb c d one in
          absurd cc
      by_test k true at_d false at_c =
          ap (λ (b : Bool). cond b u (cond (eqb k c) s (core.chunks k))) at_d ∙ sym (ap (λ (b : Bool). cond b s (cond (eqb k d) u (core.chunks k))) at_c ∙ ap (λ (b : Bool). cond b u (core.chunks k)) at_d)
      by_test k false at_d b at_c =
          ap (λ (e : Bool). cond e u (cond (eqb k c) s (core.chunks k))) at_d ∙ sym (ap (λ (e : Bool). cond (eqb k c) s (cond e u (core.chunks k))) at_d)

  -- two jobs on different chunks
  jobs_exchange : (a b : Event) (c d : ℕ) → eqb c d ≡ false → eqb d c ≡ false → IsJobAt a c → IsJobAt b d → IsExchange case keeps core a b
  jobs_exchange a b c d apart back at_c at_d = record {
    then_second = ap (λ (next : Core). is_enabled case next b) at_c.after ∙ at_d.enabled c at_c.state at_c.grown back;
    then_first = ap (λ (next : Core). is_enabled case next a) at_d.after ∙ at_c.enabled d at_d.state at_d.grown apart;
    same =
        ap (λ (next : Core). after_event case keeps next b) at_c.after ∙ at_d.alike c at_c.state at_c.grown back ∙ set_both c d at_c.state at_d.state apart
        ∙ sym (ap (λ (next : Core). after_event case keeps next a) at_d.after ∙ at_c.alike d at_d.state at_d.grown apart);
  }

  -- ---- a ticket more

  module _ (player : ℕ) where
    abbrev longer : List ℕ
    longer = order ++ player ∷ []

    abbrev more : Core
    more = record core { order = longer }

    drawn_still : (t : ℕ) → t < length order → t < length longer
    drawn_still t drawn = omega (arith, drawn, length-append order (player ∷ []))

    module _ (t : ℕ) (drawn : t < length order) where
      source_still : source_of longer t ≡ source_of order t
      source_still = source_of-append order (player ∷ []) t drawn

      reads_still : (chunk : ℕ) → reads_chunk case longer chunk t ≡ reads_chunk case order chunk t
      reads_still chunk = ap (λ (id : Source). is_among (chunks_read_by case id) chunk) source_still

      writes_still : (chunk : ℕ) → writes_chunk case longer chunk t ≡ writes_chunk case order chunk t
      writes_still chunk = ap (λ (id : Source). is_among (chunks_written_by case id) chunk) source_still

      settled_still : (chunk : ℕ) (here : ChunkState) → is_settled case longer chunk here t ≡ is_settled case order chunk here t
      settled_still chunk here =
          let reads = reads_still chunk in
          let writes = writes_still chunk in
          λ i. (not (reads i) || is_among here.reads t) && (not (writes i) || is_among here.writes t)

      done_still : are_reads_done case more t ≡ are_reads_done case core t
      done_still = ap (λ (id : Source). list_all (λ chunk. is_among (core.chunks chunk).reads t) (chunks_read_by case id)) source_still

    turn_still : (t : ℕ) → t < length order → (chunk : ℕ) (here : ChunkState) → has_turn case longer chunk here t ≡ has_turn case order chunk here t
    turn_still t drawn chunk here =
        ap (λ (o : Option ℕ). option_map_or (is_settled case longer chunk here) o true)
        (find_agrees (is_accessed case longer chunk) (is_accessed case order chunk) (tickets_below t) (λ k d inside. (let low = tickets_are_below t k d inside in accessed_still (get_or (tickets_below t) k d) (omega (arith, low, drawn)))))
        ∙ by_last (previous_access case order t chunk) (last_is (is_accessed case order chunk) t)
      where
        accessed_still : (s : ℕ) → s < length order → is_accessed case longer chunk s ≡ is_accessed case order chunk s
        accessed_still s below = let reads = reads_still s below chunk in let writes = writes_still s below chunk in λ i. reads i || writes i

        by_last : (o : Option ℕ) → LastIs (is_accessed case order chunk) t o → option_map_or (is_settled case longer chunk here) o true ≡ option_map_or (is_settled case order chunk here) o true
        by_last None none = refl
        by_last (Some p) last = let low = last.below in settled_still p (omega (arith, low, drawn)) chunk here

    clipboard_still : (t : ℕ) → t < length order → (step : Step) → IfSome (clip_of step) (λ c. IsDrawn order t c.source) → is_clipboard_there case more step ≡ is_clipboard_there case core step
    clipboard_still t drawn Settled clip = refl
    clipboard_still t drawn (Refused refusal) clip = refl
    clipboard_still t drawn (Job spec) clip = ap (λ (b : Bool). not (needs_clipboard spec.work) || b) (by_clip spec.clip clip)
      where
        by_clip : (o : Option Clip) → IfSome o (λ c. IsDrawn order t c.source)
            → option_map_or (λ c. are_reads_done case more (ticket_of longer c.source)) o true ≡ option_map_or (λ c. are_reads_done case core (ticket_of order c.source)) o true
        by_clip None is = refl
        by_clip (Some c) is =
            let low = is.below in
            ap (are_reads_done case more) (ticket_from-append order (player ∷ []) c.source.player c.source.step is.few) ∙ done_still (ticket_of order c.source) (omega (arith, low, drawn))

    read_still : (t chunk : ℕ) → IsReadReady case core t chunk → is_read_enabled case more t chunk ≡ true
    read_still t chunk ready =
        read_enabled case more t chunk (record {
          drawn = drawn_still t ready.drawn;
          accessed = reads_still t ready.drawn chunk ∙ ready.accessed;
          undone = ready.undone;
          turn = turn_still t ready.drawn chunk (core.chunks chunk) ∙ ready.turn;
        })

    write_still : (t chunk : ℕ) → IsWriteReady case core t chunk → is_write_enabled case more t chunk ≡ true
    write_still t chunk ready =
        write_enabled case more t chunk (record {
          drawn = drawn_still t ready.drawn;
          accessed = writes_still t ready.drawn chunk ∙ ready.accessed;
          undone = ready.undone;
          turn = turn_still t ready.drawn chunk (core.chunks chunk) ∙ ready.turn;
          read = done_still t ready.drawn ∙ ready.read;
          copied =
              ap (λ (id : Source). is_clipboard_there case more (step_of_command case id)) (source_still t ready.drawn)
              ∙ clipboard_still t ready.drawn (step_of_ticket case order t) (clip_is_drawn case order t) ∙ ready.copied;
        })

    -- a read or write job under the longer order leads to the same chunks
    read_same : (t chunk : ℕ) → t < length order → after_event case keeps more (Read t chunk) ≡ record (after_event case keeps core (Read t chunk)) { order = longer }
    read_same t chunk drawn = ap (λ (id : Source). with_chunk chunk (chunk_read case id t chunk (core.chunks chunk)) more) (source_still t drawn)

    write_same : (t chunk : ℕ) → t < length order → after_event case keeps more (Write t chunk) ≡ record (after_event case keeps core (Write t chunk)) { order = longer }
    write_same t chunk drawn = ap (λ (id : Source). with_chunk chunk (chunk_written case keeps id t chunk (handed_to case core id) (core.chunks chunk)) more) (source_still t drawn)

  flip : (a b : Event) → IsExchange case keeps core a b → IsExchange case keeps core b a
  flip a b h = record { then_second = h.then_first; then_first = h.then_second; same = sym h.same }

  draw_exchange : (player : ℕ) (b : Event) → is_job b ≡ true → is_enabled case core (Draw player) ≡ true → is_enabled case core b ≡ true → IsExchange case keeps core (Draw player) b
  draw_exchange player (Draw other) job enabled ready = absurd cc
  draw_exchange player (Read t chunk) job enabled ready =
      let h = read_ready case core t chunk ready in
      record { then_second = read_still player t chunk h; then_first = enabled; same = read_same player t chunk h.drawn }
  draw_exchange player (Write t chunk) job enabled ready =
      let h = write_ready case core t chunk ready in
      record { then_second = write_still player t chunk h; then_first = enabled; same = write_same player t chunk h.drawn }

  backwards : (c d : ℕ) → eqb c d ≡ false → eqb d c ≡ false
  backwards c d apart = by_test (eqb d c) refl
    where
      by_test : (b : Bool) → eqb d c ≡ b → b ≡ false
      by_test false is = refl
      by_test true is = let one : c ≡ d = sym (same_number d c is) in let never : eqb c d ≡ true = eq-eqb c d one in absurd cc

  job_exchange : (a : Event) (c : ℕ) → IsJobAt a c → is_enabled case core a ≡ true → is_job a ≡ true → (b : Event) → is_elsewhere c b ≡ true → is_enabled case core b ≡ true → IsExchange case keeps core a b
  job_exchange a c at_c enabled job (Draw player) apart ready = flip (Draw player) a (draw_exchange player a job ready enabled)
  job_exchange a c at_c enabled job (Read t d) apart ready =
      jobs_exchange a (Read t d) c d (not_same c d apart) (backwards c d (not_same c d apart)) at_c (read_at t d (read_ready case core t d ready))
  job_exchange a c at_c enabled job (Write t d) apart ready =
      jobs_exchange a (Write t d) c d (not_same c d apart) (backwards c d (not_same c d apart)) at_c (write_at t d (write_ready case core t d ready))

  pub events_exchange : EventsExchange case keeps core
  events_exchange (Draw player) b apart first second = draw_exchange player b apart first second
  events_exchange (Read t c) b apart first second = job_exchange (Read t c) c (read_at t c (read_ready case core t c first)) first refl b apart second
  events_exchange (Write t c) b apart first second = job_exchange (Write t c) c (write_at t c (write_ready case core t c first)) first refl b apart second
