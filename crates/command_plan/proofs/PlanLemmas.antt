-- The plan of the players' scripts is the plan of the workload.
use Rattle.std.proofs.Common.{◌≡◌, ℕ, zero, suc, ◌+◌, ◌-◌, ◌<◌, ◌≤◌, eqb, ◌⊎◌, inl, inr, Bool, ◌||◌, List, [], ◌∷◌, ◌++◌, length, map, get_or, refl, sym, ◌∙◌, ap, subst, arith}
use Rattle.std.specs.Prelude.{sum_by}
use Rattle.std.specs.List.{list_any, range_with_len}
use Rattle.std.proofs.lemmas.Bool.{cases_lt}
use Rattle.std.proofs.lemmas.List.{length-append, get_or_append_left, get_or_push}
use Rattle.std.proofs.lemmas.List.FromFn.{sum_by-map-range_with_len_more}
use Rattle.std.proofs.Math.Seq.{get_or-append_seam}
use Rattle.edit_terms.specs.declared.step.Step.{Step}
use Rattle.run_terms.specs.Access.{records_changes, accesses_of_player, accesses_of}
use Rattle.run_terms.specs.Fold.{edits_taken_by}
use Rattle.run_terms.specs.Order.{lines_of}
use Rattle.run_terms.specs.Session.{step_of_line}
use Rattle.run_terms.specs.Workload.{Workload}
use Rattle.run_terms.proofs.Lists.{map-range_agrees}
use Rattle.command_plan.specs.declared.resolved_script.ResolvedScript.{ResolvedScript}
use Rattle.command_plan.specs.ResolvedScripts.{edits_at, keeps_at, jobs_at, IsSound}
use Rattle.command_plan.specs.Plan.{planned_of, planned_by, plan_of, jobs_of_command, jobs_of_player, jobs_of}
use Rattle.command_plan.specs.PlannedScripts.{planned_at}
use Rattle.command_plan.specs.Players.{IsResolvedScript, AreResolvedScripts}
use Rattle.command_plan.specs.Rectangles.{chunk_grid_of}
use Rattle.command_plan.proofs.PlayerLemmas.{count, sound, step_is, reads_are, writes_are, jobs_are}
use Rattle.command_plan.proofs.WriteLemmas.{sum_more}

any_range_agrees : (p q : ℕ → Bool) (a n : ℕ) → ((k : ℕ) → a ≤ k → k < a + n → p k ≡ q k) → list_any p (range_with_len a n) ≡ list_any q (range_with_len a n)
any_range_agrees p q a zero same = refl
any_range_agrees p q a (suc n) same =
    ap (λ (b : Bool). b || list_any p (range_with_len (a + 1) n)) (same a (omega arith) (omega arith))
    ∙ ap (λ (b : Bool). q a || b) (any_range_agrees p q (a + 1) n (λ k low high. same k (omega (arith, low)) (omega (arith, high))))

sum_range_agrees : (f g : ℕ → ℕ) (n : ℕ) → ((k : ℕ) → k < n → f k ≡ g k) → sum_by f (range_with_len 0 n) ≡ sum_by g (range_with_len 0 n)
sum_range_agrees f g zero same = refl
sum_range_agrees f g (suc n) same =
    let next : suc n ≡ n + 1 = omega arith in
    let earlier = sum_range_agrees f g n (λ k below. same k (omega (arith, below))) in
    let last = same n (omega arith) in
    ap (λ (m : ℕ). sum_by f (range_with_len 0 m)) next
    ∙ sum_more f n
    ∙ ap (λ (m : ℕ). m + f n) earlier
    ∙ ap (λ (m : ℕ). sum_by g (range_with_len 0 n) + m) last
    ∙ sym (sum_more g n)
    ∙ ap (λ (m : ℕ). sum_by g (range_with_len 0 m)) (sym next)

module _ (case : Workload) (player : ℕ) (script : ResolvedScript) (is : IsResolvedScript case player script) where
  pub script_sound : IsSound (chunk_grid_of case.opening.area) script.steps.items script.footprints.items
  script_sound = sound case.opening.area player case.depth (lines_of case.scripts player) script.steps.items script.footprints.items is.resolved

  pub script_count : length script.steps.items ≡ length (lines_of case.scripts player)
  script_count = count case.opening.area player case.depth (lines_of case.scripts player) script.steps.items script.footprints.items is.resolved

  pub script_jobs : sum_by (jobs_at (chunk_grid_of case.opening.area) script.steps.items script.footprints.items) (range_with_len 0 (length script.steps.items)) ≡ accesses_of_player case player
  script_jobs =
      ap (λ (n : ℕ). sum_by (jobs_at (chunk_grid_of case.opening.area) script.steps.items script.footprints.items) (range_with_len 0 n)) script_count
      ∙ sum_range_agrees _ _ (length (lines_of case.scripts player)) (jobs_are case.opening.area player case.depth (lines_of case.scripts player) script.steps.items script.footprints.items is.resolved)

  keeps_are : (n : ℕ) → keeps_at script.steps.items n ≡ records_changes case (record { player = player; step = n })
  keeps_are n =
      ap (λ (m : ℕ). list_any (λ k. list_any (λ edit. eqb edit n) (edits_at script.steps.items k)) (range_with_len (n + 1) (m - (n + 1)))) script_count
      ∙ any_range_agrees (λ k. list_any (λ edit. eqb edit n) (edits_at script.steps.items k))
      (λ k. list_any (λ edit. eqb edit n) (edits_taken_by (step_of_line player case.depth (lines_of case.scripts player) k)))
      (n + 1) (length (lines_of case.scripts player) - (n + 1))
      (λ k low high. ap (λ (s : Step). list_any (λ edit. eqb edit n) (edits_taken_by s))
      (step_is case.opening.area player case.depth (lines_of case.scripts player) script.steps.items script.footprints.items is.resolved k (omega (arith, low, high))))

  planned_is : (n : ℕ) → n < length (lines_of case.scripts player)
      → planned_at (chunk_grid_of case.opening.area) script.steps.items script.footprints.items n ≡ planned_of case (record { player = player; step = n })
  planned_is n within =
      let steps = step_is case.opening.area player case.depth (lines_of case.scripts player) script.steps.items script.footprints.items is.resolved n within in
      let reads = reads_are case.opening.area player case.depth (lines_of case.scripts player) script.steps.items script.footprints.items is.resolved n within in
      let writes = writes_are case.opening.area player case.depth (lines_of case.scripts player) script.steps.items script.footprints.items is.resolved n within in
      let keeps = keeps_are n in
      λ i. record { step = steps i; reads = reads i; writes = writes i; keeps = keeps i }

  pub script_planned : map (planned_at (chunk_grid_of case.opening.area) script.steps.items script.footprints.items) (range_with_len 0 (length script.steps.items)) ≡ planned_by case player
  script_planned =
      ap (λ (n : ℕ). map (planned_at (chunk_grid_of case.opening.area) script.steps.items script.footprints.items) (range_with_len 0 n)) script_count
      ∙ map-range_agrees (planned_at (chunk_grid_of case.opening.area) script.steps.items script.footprints.items) (λ n. planned_of case (record { player = player; step = n })) 0
      (length (lines_of case.scripts player)) (length (lines_of case.scripts player)) (omega arith) planned_is

-- ---- how many accesses

sum_of_map : {X : Type 0} (f : X → ℕ) (g : ℕ → X) (n : ℕ) → sum_by f (map g (range_with_len 0 n)) ≡ sum_by (λ k. f (g k)) (range_with_len 0 n)
sum_of_map f g zero = refl
sum_of_map f g (suc n) =
    let next : suc n ≡ n + 1 = omega arith in
    ap (λ (m : ℕ). sum_by f (map g (range_with_len 0 m))) next
    ∙ sum_by-map-range_with_len_more f g 0 n n (omega arith)
    ∙ ap (λ (m : ℕ). m + f (g n)) (sum_of_map f g n)
    ∙ sym (sum_more (λ k. f (g k)) n)
    ∙ ap (λ (m : ℕ). sum_by (λ k. f (g k)) (range_with_len 0 m)) (sym next)

-- the accesses of the plan are those of the workload
pub plan_jobs : (case : Workload) → jobs_of (plan_of case) ≡ accesses_of case
plan_jobs case =
    sum_of_map jobs_of_player (planned_by case) (length case.scripts)
    ∙ sum_range_agrees (λ p. jobs_of_player (planned_by case p)) (accesses_of_player case) (length case.scripts)
    (λ p below. sum_of_map jobs_of_command (λ n. planned_of case (record { player = p; step = n })) (length (lines_of case.scripts p)))

-- ---- the scripts of all players

pub scripts_more : (case : Workload) (k : ℕ) (script : ResolvedScript) (scripts more : List ResolvedScript) → AreResolvedScripts case k scripts → IsResolvedScript case k script → more ≡ scripts ++ script ∷ [] → AreResolvedScripts case (k + 1) more
scripts_more case k script scripts more are is same =
    subst (λ (cs : List ResolvedScript). AreResolvedScripts case (k + 1) cs) (sym same) (record {
      many = length-append scripts (script ∷ []) ∙ ap (λ (n : ℕ). n + 1) are.many;
      each = λ player d below. by_place player d below (cases_lt player k);
    })
  where
    by_place : (player : ℕ) (d : ResolvedScript) → player < k + 1 → (player < k) ⊎ (k ≤ player) → IsResolvedScript case player (get_or (scripts ++ script ∷ []) player d)
    by_place player d below (inl earlier) =
        let many = are.many in
        subst (λ (c : ResolvedScript). IsResolvedScript case player c) (sym (get_or_append_left scripts (script ∷ []) d player (omega (arith, earlier, many)))) (are.each player d earlier)
    by_place player d below (inr last) =
        let many = are.many in
        let here : player ≡ k = omega (arith, below, last) in
        subst (λ (c : ResolvedScript). IsResolvedScript case player c) (sym (get_or_push scripts script d player (omega (arith, many, here)))) (subst (λ (p : ℕ). IsResolvedScript case p script) (sym here) is)

-- a script that is taken from the list of all
pub record IsKnown (case : Workload) (count k : ℕ) (script : ResolvedScript) : Type 0 where
  pub below : k < count
  pub is : IsResolvedScript case k script

pub script_known : (case : Workload) (count : ℕ) (scripts front : List ResolvedScript) (script : ResolvedScript) (rest : List ResolvedScript) → AreResolvedScripts case count scripts → scripts ≡ front ++ (script ∷ rest) → IsKnown case count (length front) script
script_known case count scripts front script rest are parts =
    let many = are.many in
    let long : length scripts ≡ length front + length (script ∷ rest) = ap (λ (cs : List ResolvedScript). length cs) parts ∙ length-append front (script ∷ rest) in
    let below : length front < count = omega (arith, many, long) in
    let at : get_or scripts (length front) script ≡ script = ap (λ (cs : List ResolvedScript). get_or cs (length front) script) parts ∙ get_or-append_seam front script rest script in
    record { below = below; is = subst (λ (d : ResolvedScript). IsResolvedScript case (length front) d) at (are.each (length front) script below) }
