-- Reading a palette's entries, one after another.
use Rattle.std.proofs.Common.{◌≡◌, ℕ, suc, ◌+◌, ◌<◌, ◌≤◌, ℤ, List, [], ◌∷◌, ◌++◌, length, drop, get_or, Result, Ok, Err, refl, sym, ap, ◌∙◌, append_assoc, drop-cons, arith}
use Rattle.std.proofs.lemmas.List.{append-nil, drop_all}
use Rattle.edit_terms.specs.StateText.{State}
use Rattle.nbt_tags.specs.declared.tag.Named.{Named}
use Rattle.sponge_schematic.specs.declared.fault.WorldFault.{WorldFault}
use Rattle.sponge_schematic.specs.Fields.{◌>>=◌}
use Rattle.sponge_schematic.specs.Palette.{Entries, entry_at, with_entry_first, entries_from}
use Rattle.sponge_schematic.specs.Answers.{Fails}
use Rattle.sponge_schematic.proofs.Chain.{Fails-bind, Fails-along}

-- the entries that were read before, and those that are still read
abbrev pub after : List ℤ → List State → Result Entries WorldFault → Result Entries WorldFault
after numbers states read = read >>= λ e. Ok (record { numbers = numbers ++ e.numbers; states = states ++ e.states })

after-first : (numbers : List ℤ) (states : List State) (number : ℤ) (state : State) (read : Result Entries WorldFault)
    → after numbers states (read >>= λ e. Ok (with_entry_first (number, state) e)) ≡ after (numbers ++ number ∷ []) (states ++ state ∷ []) read
after-first numbers states number state (Ok e) =
    let p = sym (append_assoc numbers (number ∷ []) e.numbers) in
    let q = sym (append_assoc states (state ∷ []) e.states) in
    λ i. Ok (record { numbers = p i; states = q i })
after-first numbers states number state (Err fault) = refl

-- the entries from a place on are the one at the place and those behind it
entries-step : (row : List Named) (i : ℕ) (d : Named) → i < length row
    → entries_from i (drop i row) ≡ (entry_at i (get_or row i d) >>= λ first. entries_from (i + 1) (drop (i + 1) row) >>= λ others. Ok (with_entry_first first others))
unfolding entries_from
entries-step row i d lt =
    let next : suc i ≡ i + 1 = omega arith in
    ap (entries_from i) (drop-cons row i d lt)
    ∙ ap (λ (k : ℕ). entry_at i (get_or row i d) >>= λ first. entries_from (i + 1) (drop k row) >>= λ others. Ok (with_entry_first first others)) next

module _ (row : List Named) (i : ℕ) (d : Named) (numbers : List ℤ) (states : List State) (total : Result Entries WorldFault) (so_far : after numbers states (entries_from i (drop i row)) ≡ total) where
  pub goes_on : (number : ℤ) (state : State) → i < length row → entry_at i (get_or row i d) ≡ Ok (number, state)
      → after (numbers ++ number ∷ []) (states ++ state ∷ []) (entries_from (i + 1) (drop (i + 1) row)) ≡ total
  goes_on number state lt read =
      sym (after-first numbers states number state (entries_from (i + 1) (drop (i + 1) row)))
      ∙ ap (λ r. after numbers states (r >>= λ first. entries_from (i + 1) (drop (i + 1) row) >>= λ others. Ok (with_entry_first first others))) (sym read)
      ∙ ap (after numbers states) (sym (entries-step row i d lt)) ∙ so_far

  pub ends : (fault : WorldFault) → i < length row → Fails fault (entry_at i (get_or row i d)) → Fails fault total
  ends fault lt h =
      Fails-along fault _ total (ap (after numbers states) (sym (entries-step row i d lt)) ∙ so_far)
      (Fails-bind fault _ _ (Fails-bind fault (entry_at i (get_or row i d)) (λ first. entries_from (i + 1) (drop (i + 1) row) >>= λ others. Ok (with_entry_first first others)) h))

pub is_done : (row : List Named) (i : ℕ) (numbers : List ℤ) (states : List State) (total : Result Entries WorldFault) → after numbers states (entries_from i (drop i row)) ≡ total
    → length row ≤ i → total ≡ Ok (record { numbers = numbers; states = states })
unfolding entries_from
is_done row i numbers states total so_far le =
    let p = append-nil numbers in
    let q = append-nil states in
    sym so_far ∙ ap (λ (rest : List Named). after numbers states (entries_from i rest)) (drop_all i row le) ∙ (λ j. Ok (record { numbers = p j; states = q j }))
