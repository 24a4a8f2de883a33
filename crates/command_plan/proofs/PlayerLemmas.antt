-- What a player's resolved commands access is what the definitions say of them.
use Rattle.std.proofs.Common.{◌≡◌, ℕ, ◌+◌, ◌-◌, ◌*◌, ◌<◌, ◌≤◌, Bool, ◌||◌, List, [], ◌∷◌, ◌++◌, length, get_or, refl, sym, ◌∙◌, ap, subst, arith}
use Rattle.std.specs.Prelude.{All, filter, flat_map}
use Rattle.std.specs.List.{list_any, range_with_len}
use Rattle.std.proofs.lemmas.List.{length-map}
use Rattle.std.proofs.lemmas.List.Elements.{All-cons, All-head, All-tail}
use Rattle.std.proofs.lemmas.List.FromFn.{length-range_with_len, get_or-map-range_with_len}
use Rattle.std.proofs.lemmas.List.Folds.{list_any-append}
use Rattle.edit_terms.specs.declared.script.Line.{Line}
use Rattle.edit_terms.specs.declared.step.Step.{Step}
use Rattle.edit_terms.specs.declared.step.Step.TheVariants.{Settled}
use Rattle.edit_terms.specs.Area.{Area, chunks, columns}
use Rattle.run_terms.specs.Access.{is_chunk_of_box, boxes_read_by, boxes_written_by, chunks_of_boxes}
use Rattle.run_terms.specs.Fold.{edits_taken_by}
use Rattle.run_terms.specs.Session.{step_of_line}
use Rattle.run_terms.proofs.Earlier.{step_is_of_earlier}
use Rattle.command_plan.specs.declared.footprint.Footprint.{Footprint}
use Rattle.command_plan.specs.ResolvedScripts.{footprint_at, step_at, edits_at, reads_at, writes_at, jobs_at, is_written, IsSound, IsResolved}
use Rattle.command_plan.specs.Rectangles.{chunk_grid_of, is_in_set}
use Rattle.command_plan.proofs.RunLemmas.{filter_agrees}

-- some block of what these commands write by themselves lies in a chunk
any_of_boxes : (test : Area → Bool) (boxes : ℕ → List Area) (commands : List ℕ) → list_any test (flat_map boxes commands) ≡ list_any (λ n. list_any test (boxes n)) commands
any_of_boxes test boxes [] = refl
any_of_boxes test boxes (n ∷ ns) = list_any-append test (boxes n) (flat_map boxes ns) ∙ ap (λ (b : Bool). list_any test (boxes n) || b) (any_of_boxes test boxes ns)

any_agrees : (p q : ℕ → Bool) (P : ℕ → Type 0) → ((n : ℕ) → P n → p n ≡ q n) → (ns : List ℕ) → All P ns → list_any p ns ≡ list_any q ns
any_agrees p q P same [] all = refl
any_agrees p q P same (n ∷ ns) all =
    ap (λ (b : Bool). b || list_any p ns) (same n (All-head P n ns all)) ∙ ap (λ (b : Bool). q n || b) (any_agrees p q P same ns (All-tail P n ns all))

module _ (area : Area) (player depth : ℕ) (lines : List Line) (steps : List Step) (fs : List Footprint) (is : IsResolved area player depth lines (length lines) steps fs) where
  pub count : length steps ≡ length lines
  count = ap (λ (ss : List Step). length ss) is.steps_are ∙ length-map (range_with_len 0 (length lines)) (step_of_line player depth lines) ∙ length-range_with_len 0 (length lines)

  pub step_is : (n : ℕ) → n < length lines → step_at steps n ≡ step_of_line player depth lines n
  step_is n within =
      ap (λ (ss : List Step). get_or ss n Settled) is.steps_are ∙ get_or-map-range_with_len (step_of_line player depth lines) 0 (length lines) n n Settled within (omega arith)

  earlier : (n : ℕ) → n < length lines → All (λ edit. edit < n) (edits_at steps n)
  earlier n within = subst (λ (s : Step). All (λ edit. edit < n) (edits_taken_by s)) (sym (step_is n within)) (step_is_of_earlier player depth lines n).taken

  pub sound : IsSound (chunk_grid_of area) steps fs
  sound =
      let many = is.many in
      record {
        many = is.many ∙ sym count;
        inside = record {
          reads = λ n below. (is.each n (omega (arith, below, many))).reads.inside;
          writes = λ n below. (is.each n (omega (arith, below, many))).writes.inside;
        };
        earlier = λ n below. earlier n (omega (arith, below, count));
      }

  pub reads_are : (n : ℕ) → n < length lines → reads_at (chunk_grid_of area) fs n ≡ chunks_of_boxes area (boxes_read_by (step_of_line player depth lines n))
  reads_are n within =
      filter_agrees (is_in_set (columns area.least.x area.width) (footprint_at fs n).reads) (λ chunk. list_any (is_chunk_of_box area chunk) (boxes_read_by (step_of_line player depth lines n))) 0 (chunks area)
      (λ chunk low high. sym ((is.each n within).reads.exact chunk))

  pub writes_are : (n : ℕ) → n < length lines → writes_at (chunk_grid_of area) steps fs n
      ≡ chunks_of_boxes area (flat_map (λ m. boxes_written_by area (step_of_line player depth lines m)) (n ∷ edits_taken_by (step_of_line player depth lines n)))
  writes_are n within =
      let own = step_of_line player depth lines n in
      let boxes = λ (m : ℕ). boxes_written_by area (step_of_line player depth lines m) in
      let commands = n ∷ edits_taken_by own in
      let all : All (λ m. m < length lines) commands = All-cons (λ m. m < length lines) n (edits_taken_by own) within
      (λ k d below. let e = (step_is_of_earlier player depth lines n).taken k d below in omega (arith, e, within)) in
      ap (λ (s : Step). filter (is_written (columns area.least.x area.width) fs (n ∷ edits_taken_by s)) (range_with_len 0 (chunks area))) (step_is n within)
      ∙ filter_agrees (is_written (columns area.least.x area.width) fs commands) (λ chunk. list_any (is_chunk_of_box area chunk) (flat_map boxes commands)) 0 (chunks area)
      (λ chunk low high.
      any_agrees (λ m. is_in_set (columns area.least.x area.width) (footprint_at fs m).writes chunk) (λ m. list_any (is_chunk_of_box area chunk) (boxes m)) (λ m. m < length lines)
      (λ m below. sym ((is.each m below).writes.exact chunk)) commands all
      ∙ sym (any_of_boxes (is_chunk_of_box area chunk) boxes commands))

  pub jobs_are : (n : ℕ) → n < length lines → jobs_at (chunk_grid_of area) steps fs n
      ≡ length (chunks_of_boxes area (boxes_read_by (step_of_line player depth lines n)))
      + length (chunks_of_boxes area (flat_map (λ m. boxes_written_by area (step_of_line player depth lines m)) (n ∷ edits_taken_by (step_of_line player depth lines n))))
  jobs_are n within =
      ap (λ (ns : List ℕ). length ns + length (writes_at (chunk_grid_of area) steps fs n)) (reads_are n within)
      ∙ ap (λ (ns : List ℕ). length (chunks_of_boxes area (boxes_read_by (step_of_line player depth lines n))) + length ns) (writes_are n within)
