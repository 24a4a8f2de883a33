-- Reading the cells of block data, one after another.
use Rattle.std.proofs.Common.{◌≡◌, ℕ, suc, ◌+◌, ◌-◌, ◌<◌, ◌≤◌, ℤ, List, [], ◌∷◌, ◌++◌, length, Result, Ok, Err, refl, sym, ap, ◌∙◌, append_assoc, arith}
use Rattle.std.proofs.lemmas.List.{append-nil}
use Rattle.sponge_schematic.specs.declared.fault.WorldFault.{WorldFault}
use Rattle.sponge_schematic.specs.Fields.{◌>>=◌}
use Rattle.sponge_schematic.specs.BlockData.{cell_at, cells_from, all_read, cells_in}
use Rattle.sponge_schematic.specs.Answers.{Fails}
use Rattle.sponge_schematic.proofs.Chain.{Fails-bind, Fails-along}

-- what is read where these cells were read before, and the last bytes are checked
abbrev pub after : List ℕ → Result (List ℕ × List ℕ) WorldFault → Result (List ℕ) WorldFault
after cells read = read >>= λ others. all_read (cells ++ others.0, others.1)

after-first : (cells : List ℕ) (place : ℕ) (read : Result (List ℕ × List ℕ) WorldFault)
    → after cells (read >>= λ others. Ok (place ∷ others.0, others.1)) ≡ after (cells ++ place ∷ []) read
after-first cells place (Ok others) = ap (λ (front : List ℕ). all_read (front, others.1)) (sym (append_assoc cells (place ∷ []) others.0))
after-first cells place (Err fault) = refl

module _ (numbers : List ℤ) (size count cell : ℕ) (bytes cells : List ℕ) (total : Result (List ℕ) WorldFault) (so_far : after cells (cells_from numbers size cell (count - cell) bytes) ≡ total) where
  cells-step : cell < count → cells_from numbers size cell (count - cell) bytes
      ≡ (cell_at numbers size cell bytes >>= λ first. cells_from numbers size (cell + 1) (count - (cell + 1)) first.1 >>= λ others. Ok (first.0 ∷ others.0, others.1))
  unfolding cells_from
  cells-step lt = let e : count - cell ≡ suc (count - (cell + 1)) = omega arith in ap (λ (n : ℕ). cells_from numbers size cell n bytes) e

  pub goes_on : (place : ℕ) (rest new : List ℕ) → new ≡ cells ++ place ∷ [] → cell < count → cell_at numbers size cell bytes ≡ Ok (place, rest)
      → after new (cells_from numbers size (cell + 1) (count - (cell + 1)) rest) ≡ total
  goes_on place rest new e lt read =
      ap (λ (front : List ℕ). after front (cells_from numbers size (cell + 1) (count - (cell + 1)) rest)) e
      ∙ sym (after-first cells place (cells_from numbers size (cell + 1) (count - (cell + 1)) rest))
      ∙ ap (λ r. after cells (r >>= λ first. cells_from numbers size (cell + 1) (count - (cell + 1)) first.1 >>= λ others. Ok (first.0 ∷ others.0, others.1))) (sym read)
      ∙ ap (after cells) (sym (cells-step lt)) ∙ so_far

  pub ends : (fault : WorldFault) → cell < count → Fails fault (cell_at numbers size cell bytes) → Fails fault total
  ends fault lt h =
      Fails-along fault _ total (ap (after cells) (sym (cells-step lt)) ∙ so_far)
      (Fails-bind fault _ (λ others. all_read (cells ++ others.0, others.1))
      (Fails-bind fault (cell_at numbers size cell bytes) (λ first. cells_from numbers size (cell + 1) (count - (cell + 1)) first.1 >>= λ others. Ok (first.0 ∷ others.0, others.1)) h))

  pub is_done : count ≤ cell → all_read (cells, bytes) ≡ total
  unfolding cells_from
  is_done le =
      let e : count - cell ≡ 0 = omega arith in
      ap (λ (front : List ℕ). all_read (front, bytes)) (sym (append-nil cells)) ∙ ap (λ (n : ℕ). after cells (cells_from numbers size cell n bytes)) (sym e) ∙ so_far

pub begins : (numbers : List ℤ) (volume : ℕ) (bytes cells : List ℕ) → cells ≡ [] → after cells (cells_from numbers (length bytes) 0 (volume - 0) bytes) ≡ cells_in numbers volume bytes
unfolding cells_in
begins numbers volume bytes cells empty =
    let e : volume - 0 ≡ volume = omega arith in
    ap (λ (front : List ℕ). after front (cells_from numbers (length bytes) 0 (volume - 0) bytes)) empty
    ∙ ap (λ (n : ℕ). after [] (cells_from numbers (length bytes) 0 n bytes)) e
