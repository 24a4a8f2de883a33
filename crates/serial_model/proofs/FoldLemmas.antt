-- A ticket more: the acting player, the other players, and the world.
use Rattle.std.proofs.Common.{◌≡◌, ℕ, suc, ◌+◌, ◌<◌, ◌≤◌, eqb, Bool, true, false, cond, List, [], ◌∷◌, ◌++◌, length, map, take, get_or, set, Option, Some, None, refl, sym, ap, ◌∙◌, subst, inl, inr, arith}
use Rattle.std.specs.Prelude.{All, IfSome, slice_get}
use Rattle.std.specs.Option.{option_map_or, unwrap_or}
use Rattle.std.specs.List.{range_with_len}
use Rattle.std.proofs.lemmas.Bool.{cases_lt, eq-eqb, eqb-true, false≢true}
use Rattle.std.proofs.lemmas.List.{length_push, get_or_append_left, get_or_at, get_or-set_same, get_or-set_other, length-map, length-set, length-take-le}
use Rattle.std.proofs.lemmas.List.Elements.{All-push, All-weaker, recursion_from_All}
use Rattle.std.proofs.lemmas.List.FromFn.{map-range_with_len_more}
use Rattle.std.proofs.lemmas.Option.{IfSome_then, slice_get_within}
use Rattle.edit_terms.specs.declared.clip.Clip.{Clip}
use Rattle.edit_terms.specs.declared.clip.Source.{Source}
use Rattle.edit_terms.specs.declared.outcome.Reply.{Reply}
use Rattle.edit_terms.specs.declared.script.Command.{Command}
use Rattle.edit_terms.specs.declared.script.Line.{Line}
use Rattle.edit_terms.specs.declared.step.Refusal.{Refusal}
use Rattle.edit_terms.specs.declared.step.Spec.{Spec}
use Rattle.edit_terms.specs.declared.step.Work.{Work}
use Rattle.edit_terms.specs.declared.step.Step.{Step}
use Rattle.edit_terms.specs.declared.step.Step.TheVariants.{Settled, Job, Refused}
use Rattle.edit_terms.specs.Area.{Area}
use Rattle.edit_terms.specs.Clipboard.{CopiedBlocks, clipboard_of, no_blocks}
use Rattle.edit_terms.specs.World.{World}
use Rattle.run_terms.specs.Session.{Session, session_after, step_of_line, resolved_command, after_command, refusal_of, work_of, job_of}
use Rattle.run_terms.specs.Limits.{is_command_within}
use Rattle.run_terms.specs.SessionLimits.{IsSessionWithin}
use Rattle.run_terms.specs.Workload.{Workload}
use Rattle.run_terms.specs.Order.{lines_of, turns_of, player_of, ticket_of, step_of_command, step_of_ticket, AreTicketsNamed}
use Rattle.run_terms.specs.Change.{Change, changes_between}
use Rattle.run_terms.specs.Effect.{Task, world_with, world_after_step}
use Rattle.run_terms.specs.Fold.{edits_taken, edits_taken_by, clipboard_of_edit, taken_changes, task_of, world_after, changes_of}
use Rattle.run_terms.specs.Reply.{reply_to, reply_of}
use Rattle.run_terms.proofs.Lists.{map-agrees}
use Rattle.run_terms.proofs.Earlier.{clip_of, session_has_taken, step_is_of_earlier}
use Rattle.run_terms.proofs.FoldLemmas.{follows_from_earlier}
use Rattle.run_terms.proofs.SessionLimitLemmas.{session_within}
use Rattle.plain_terms.specs.Shown.{IsNumbered, world_shown}
use Rattle.world_canvas.specs.declared.cell_change.CellChange.{CellChange}
use Rattle.world_canvas.specs.Canvas.{Painting, IsGrown, shown}
use Rattle.world_canvas.specs.Changes.{AreChangesNamed, AreChangesIn, change_shown, changes_shown}
use Rattle.world_canvas.specs.Restoring.{changes_taken}
use Rattle.world_canvas.proofs.GrowthLemmas.{grown_numbered, grown_world, grown_named, grown_changes}
use Rattle.serial_model.specs.declared.player.Player.{Player}
use Rattle.serial_model.specs.Copying.{is_copying, IsOfCopy}
use Rattle.serial_model.specs.Recorded.{Record, IsRecord, task_recorded}
use Rattle.serial_model.specs.Acted.{IsActed}
use Rattle.serial_model.specs.Folded.{session_at, IsCopied, IsPlayerAt, IsFolded}
use Rattle.serial_model.proofs.ClipboardLemmas.{clip_after}
use Rattle.serial_model.proofs.OrderLemmas.{turns_more, turns_same, source_is, ticket_is, legal_more, step_is, session_more}

-- ---- contents keep their numbers

module _ (case : Workload) (order : List ℕ) (old new : Painting) (grown : IsGrown old.kinds new.kinds) (area : new.area ≡ old.area) where
  record_stays : (r : Record) → IsRecord old r → IsRecord new r
  record_stays r h = record {
    copied = IfSome_then r.copied h.copied (λ cells n. subst (λ (a : Area). IsNumbered a new.kinds cells) (sym area) (grown_numbered old.area old.kinds new.kinds cells grown n));
    named = All-weaker (λ cs. AreChangesNamed old.kinds cs) (λ cs. AreChangesNamed new.kinds cs) (λ cs n. grown_named old.kinds new.kinds cs grown n) r.changes h.named;
    within = subst (λ (a : Area). All (λ cs. AreChangesIn a cs) r.changes) (sym area) h.within;
  }

  world_stays : (cells : List ℕ) → IsNumbered old.area old.kinds cells → world_shown new.area new.kinds cells ≡ world_shown old.area old.kinds cells
  world_stays cells n = ap (λ (a : Area). world_shown a new.kinds cells) area ∙ grown_world old.area old.kinds new.kinds cells grown n

  copy_stays : (r : Record) → IsRecord old r → (clip : Clip) → IsCopied case order old r.copied clip → IsCopied case order new r.copied clip
  copy_stays r h clip c = record {
    cells = c.cells;
    is = c.is;
    shows = world_stays c.cells (subst (λ (o : Option (List ℕ)). IfSome o (λ cells. IsNumbered old.area old.kinds cells)) c.is h.copied) ∙ c.shows;
  }

  changes_stay : (r : Record) → IsRecord old r → (n : ℕ) → n < length r.changes → changes_shown new.kinds (get_or r.changes n []) ≡ changes_shown old.kinds (get_or r.changes n [])
  changes_stay r h n within = grown_changes old.kinds new.kinds (get_or r.changes n []) grown (h.named n [] within)

  -- a player who doesn't act stays
  player_stays : (ticket number : ℕ) (player : Player) → IsPlayerAt case order ticket old number player → session_at case order (suc ticket) number ≡ session_at case order ticket number
      → IsPlayerAt case order (suc ticket) new number player
  player_stays ticket number player h same = record {
    session = h.session ∙ sym same;
    within = h.within;
    clip = IfSome_then player.session.clip h.clip (λ clip c. copy_stays player.recorded h.recorded clip c);
    counted = h.counted;
    changes = λ n below. changes_stay player.recorded h.recorded n (omega (arith, below, h.counted)) ∙ h.changes n below;
    recorded = record_stays player.recorded h.recorded;
  }

-- ---- what a job reads beside the world is what is recorded

clip_carried : (P : Clip → Type 0) (s : Session) (command : Command) → IfSome s.clip P → IfSome (clip_of (resolved_command s command)) P
clip_carried P s command h = by_parts (refusal_of s command) (work_of s command)
  where
    by_parts : (refusal : Option Refusal) (found : Option Work) → IfSome (clip_of (option_map_or Refused refusal (option_map_or (job_of s) found Settled))) P
    by_parts (Some r) found = tt
    by_parts None None = tt
    by_parts None (Some work) = h

module _ (case : Workload) (order : List ℕ) (ticket number : ℕ) (p : Painting) (player : Player) (at : IsPlayerAt case order ticket p number player) (is : player_of order ticket ≡ number) where
  copied_same : (clip : Option Clip) → IfSome clip (IsCopied case order p player.recorded.copied)
      → option_map_or (λ c. clipboard_of c (world_shown p.area p.kinds (unwrap_or player.recorded.copied p.cells))) clip no_blocks ≡ clipboard_of_edit order (world_after case order) clip
  copied_same None h = refl
  copied_same (Some c) h =
      ap (λ (o : Option (List ℕ)). clipboard_of c (world_shown p.area p.kinds (unwrap_or o p.cells))) h.is
      ∙ ap (λ (w : World). clipboard_of c w) h.shows

  taken_same : (edits : List ℕ) → All (λ n. n < player.session.number) edits → changes_taken p.kinds player.recorded.changes edits ≡ taken_changes order (world_after case order) (player_of order ticket) edits
  taken_same edits below =
      map-agrees (λ n. changes_shown p.kinds (get_or player.recorded.changes n [])) (λ n. changes_of case order (ticket_of order (record { player = number; step = n }))) (λ n. n < player.session.number)
      at.changes edits (recursion_from_All (λ n. n < player.session.number) edits below)
      ∙ ap (λ (q : ℕ). taken_changes order (world_after case order) q edits) (sym is)

  task_same : (spec : Spec) → IfSome spec.clip (IsCopied case order p player.recorded.copied) → All (λ n. n < player.session.number) (edits_taken spec.work)
      → task_recorded p player.recorded case.seed ticket spec ≡ task_of case order ticket (world_after case order) spec
  task_same spec clip edits =
      ap (λ (copied : CopiedBlocks). record { spec = spec; seed = case.seed; ticket = ticket; copied = copied; taken = changes_taken p.kinds player.recorded.changes (edits_taken spec.work) }) (copied_same spec.clip clip)
      ∙ ap (λ (taken : List (List Change)). record { spec = spec; seed = case.seed; ticket = ticket; copied = clipboard_of_edit order (world_after case order) spec.clip; taken = taken }) (taken_same (edits_taken spec.work) edits)

  world_same : (step : Step) → IfSome (clip_of step) (IsCopied case order p player.recorded.copied) → All (λ n. n < player.session.number) (edits_taken_by step) → (w : World)
      → world_after_step (task_recorded p player.recorded case.seed ticket) step w ≡ world_after_step (task_of case order ticket (world_after case order)) step w
  world_same Settled clip edits w = refl
  world_same (Refused refusal) clip edits w = refl
  world_same (Job spec) clip edits w = ap (λ (task : Task). world_with task w) (task_same spec clip edits)

-- ---- a ticket more

module _ (case : Workload) (order : List ℕ) (ticket number : ℕ) (within : ticket < length order) (is : get_or order ticket 0 ≡ number) (named : AreTicketsNamed order)
    (old new : Painting) (before after : Player) (line : Line) (reply : Reply)
    (at : IsPlayerAt case order ticket old number before)
    (there : slice_get (lines_of case.scripts number) before.session.number ≡ Some line)
    (world : shown old ≡ world_after case order ticket)
    (acted : IsActed case.seed ticket old new before after line.command reply) where
  abbrev lines : List Line
  lines = lines_of case.scripts number

  abbrev turns : ℕ
  turns = turns_of number (take ticket order)

  -- the session has taken as many commands as the player had turns
  number_is : turns ≤ length lines → before.session.number ≡ turns
  number_is few =
      ap (λ (s : Session). s.number) at.session ∙ (session_has_taken number case.depth (take turns lines)).number ∙ length-take-le turns lines few

  module _ (few : turns ≤ length lines) where
    line_there : slice_get lines turns ≡ Some line
    line_there = subst (λ (n : ℕ). slice_get lines n ≡ Some line) (number_is few) there

    command_is : resolved_command before.session line.command ≡ step_of_ticket case order ticket
    command_is =
        ap (λ (s : Session). resolved_command s line.command) at.session
        ∙ sym (step_is number case.depth lines turns line line_there)
        ∙ ap (step_of_command case) (sym (source_is order ticket number within is))

    edits_earlier : All (λ n. n < before.session.number) (edits_taken_by (resolved_command before.session line.command))
    edits_earlier =
        subst (λ (step : Step). All (λ n. n < before.session.number) (edits_taken_by step)) (step_is number case.depth lines turns line line_there ∙ ap (λ (s : Session). resolved_command s line.command) (sym at.session))
        (subst (λ (m : ℕ). All (λ n. n < m) (edits_taken_by (step_of_line number case.depth lines turns))) (sym (number_is few)) (step_is_of_earlier number case.depth lines turns).taken)

    world_is : shown new ≡ world_after case order (suc ticket)
    world_is =
        acted.carried.world
        ∙ world_same case order ticket number old before at is (resolved_command before.session line.command) (clip_carried (IsCopied case order old before.recorded.copied) before.session line.command at.clip) edits_earlier (shown old)
        ∙ ap (λ (step : Step). world_after_step (task_of case order ticket (world_after case order)) step (shown old)) command_is
        ∙ ap (λ (w : World). world_after_step (task_of case order ticket (world_after case order)) (step_of_ticket case order ticket) w) world
        ∙ sym (follows_from_earlier case order ticket)

    changes_are : changes_shown new.kinds acted.changes ≡ changes_of case order ticket
    changes_are =
        acted.carried.changes ∙ ap (λ (w : World). changes_between w (shown new)) world ∙ ap (λ (w : World). changes_between (world_after case order ticket) w) world_is

    reply_is : reply ≡ reply_of case order ticket
    reply_is =
        acted.replied
        ∙ ap (λ (n : ℕ). reply_to (resolved_command before.session line.command) n) (sym (length-map acted.changes (change_shown new.kinds)) ∙ ap (λ (cs : List Change). length cs) changes_are)
        ∙ ap (λ (step : Step). reply_to step (length (changes_of case order ticket))) command_is

    ticket_named : ticket_of order (record { player = number; step = before.session.number }) ≡ ticket
    ticket_named = ap (λ (n : ℕ). ticket_of order (record { player = number; step = n })) (number_is few) ∙ ticket_is order ticket number within is named

    session_is : after.session ≡ session_at case order (suc ticket) number
    session_is =
        acted.session ∙ ap (λ (s : Session). after_command s line.command) at.session
        ∙ sym (session_more number case.depth lines turns line line_there)
        ∙ ap (λ (n : ℕ). session_after number case.depth (take n lines)) (sym (turns_more order ticket number within is))

    lines_left : turns < length lines
    lines_left = slice_get_within lines turns line line_there

    number_more : after.session.number ≡ suc before.session.number
    number_more =
        ap (λ (s : Session). s.number) session_is
        ∙ (session_has_taken number case.depth (take (turns_of number (take (suc ticket) order)) lines)).number
        ∙ ap (λ (n : ℕ). length (take n lines)) (turns_more order ticket number within is)
        ∙ length-take-le (suc turns) lines (omega (arith, lines_left))
        ∙ ap suc (sym (number_is few))

    own : before.session.player ≡ number
    own = ap (λ (s : Session). s.player) at.session ∙ (session_has_taken number case.depth (take turns lines)).remembers.own

    module _ (numbered : IsNumbered old.area old.kinds old.cells) (command : is_command_within line.command ≡ true) where
      copied_record : (copying : Bool) → IfSome (cond copying (Some old.cells) before.recorded.copied) (λ cells. IsNumbered new.area new.kinds cells)
      copied_record true = subst (λ (a : Area). IsNumbered a new.kinds old.cells) (sym acted.carried.area) (grown_numbered old.area old.kinds new.kinds old.cells acted.carried.grown numbered)
      copied_record false = (record_stays case order old new acted.carried.grown acted.carried.area before.recorded at.recorded).copied

      record_is : IsRecord new after.recorded
      record_is =
          let stays = record_stays case order old new acted.carried.grown acted.carried.area before.recorded at.recorded in
          let inside : AreChangesIn new.area acted.changes = subst (λ (a : Area). AreChangesIn a acted.changes) (sym acted.carried.area) acted.carried.within in
          record {
            copied = subst (λ (o : Option (List ℕ)). IfSome o (λ cells. IsNumbered new.area new.kinds cells)) (sym acted.copied) (copied_record (is_copying (resolved_command before.session line.command)));
            named = subst (λ (css : List (List CellChange)). All (λ cs. AreChangesNamed new.kinds cs) css) (sym acted.recorded) (All-push (λ (cs : List CellChange). AreChangesNamed new.kinds cs) before.recorded.changes acted.changes stays.named acted.carried.named);
            within = subst (λ (css : List (List CellChange)). All (λ cs. AreChangesIn new.area cs) css) (sym acted.recorded) (All-push (λ (cs : List CellChange). AreChangesIn new.area cs) before.recorded.changes acted.changes stays.within inside);
          }

      copy_is : (copying : Bool) (clip : Clip) → IsOfCopy before.session copying clip → IsCopied case order new (cond copying (Some old.cells) before.recorded.copied) clip
      copy_is true clip source = record {
        cells = old.cells;
        is = refl;
        shows = world_stays case order old new acted.carried.grown acted.carried.area old.cells numbered
            ∙ world
            ∙ ap (world_after case order) (sym (ap (ticket_of order) source ∙ ap (λ (p : ℕ). ticket_of order (record { player = p; step = before.session.number })) own ∙ ticket_named));
      }
      copy_is false clip same =
          let earlier : IsCopied case order old before.recorded.copied same.old = subst (λ (o : Option Clip). IfSome o (IsCopied case order old before.recorded.copied)) same.is at.clip in
          let stays = copy_stays case order old new acted.carried.grown acted.carried.area before.recorded at.recorded same.old earlier in
          record { cells = stays.cells; is = stays.is; shows = stays.shows ∙ ap (λ (id : Source). world_after case order (ticket_of order id)) (sym same.source) }

      clip_is : IfSome after.session.clip (IsCopied case order new after.recorded.copied)
      clip_is =
          let copying = is_copying (resolved_command before.session line.command) in
          subst (λ (o : Option (List ℕ)). IfSome after.session.clip (IsCopied case order new o)) (sym acted.copied)
          (subst (λ (s : Session). IfSome s.clip (IsCopied case order new (cond copying (Some old.cells) before.recorded.copied))) (sym acted.session)
          (IfSome_then (after_command before.session line.command).clip (clip_after before.session line.command) (copy_is copying)))

      changes_at : (n : ℕ) → n < suc before.session.number → changes_shown new.kinds (get_or after.recorded.changes n []) ≡ changes_of case order (ticket_of order (record { player = number; step = n }))
      changes_at n below = ap (λ (css : List (List CellChange)). changes_shown new.kinds (get_or css n [])) acted.recorded ∙ elim (cases_lt n before.session.number) [
        | inl earlier ↦
            ap (λ (cs : List CellChange). changes_shown new.kinds cs) (get_or_append_left before.recorded.changes (acted.changes ∷ []) [] n (omega (arith, earlier, at.counted)))
            ∙ changes_stay case order old new acted.carried.grown acted.carried.area before.recorded at.recorded n (omega (arith, earlier, at.counted)) ∙ at.changes n earlier
        | inr past ↦
            let last : n ≡ before.session.number = omega (arith, below, past) in
            ap (λ (cs : List CellChange). changes_shown new.kinds cs) (get_or_at before.recorded.changes acted.changes [] [] n (omega (arith, last, at.counted)))
            ∙ changes_are ∙ ap (changes_of case order) (sym (ap (λ (m : ℕ). ticket_of order (record { player = number; step = m })) last ∙ ticket_named))
      ]

      -- the acting player
      pub player_goes_on : IsPlayerAt case order (suc ticket) new number after
      player_goes_on = record {
        session = session_is;
        within = subst (λ (s : Session). IsSessionWithin s) (sym acted.session) (session_within before.session at.within line.command command);
        clip = clip_is;
        counted = ap (λ (css : List (List CellChange)). length css) acted.recorded ∙ omega (arith, length_push before.recorded.changes acted.changes, at.counted, number_more);
        changes = λ n below. changes_at n (omega (arith, below, number_more));
        recorded = record_is;
      }

      -- all players
      module _ (players : List Player) (all : (n : ℕ) (d : Player) → n < length case.scripts → IsPlayerAt case order ticket old n (get_or players n d)) (known : number < length players) where
        one : (n : ℕ) (d : Player) → n < length case.scripts → (same : Bool) → eqb n number ≡ same → IsPlayerAt case order (suc ticket) new n (get_or (set players number after) n d)
        one n d inside true e =
            let is_him : n ≡ number = eqb-true n number e in
            subst (λ (m : ℕ). IsPlayerAt case order (suc ticket) new m (get_or (set players number after) m d)) (sym is_him)
            (subst (λ (q : Player). IsPlayerAt case order (suc ticket) new number q) (sym (get_or-set_same players number after d known)) player_goes_on)
        one n d inside false e =
            let other : n ≡ number → ⊥ = λ s. false≢true (sym e ∙ eq-eqb n number s) in
            subst (λ (q : Player). IsPlayerAt case order (suc ticket) new n q) (sym (get_or-set_other players number n after d other))
            (player_stays case order old new acted.carried.grown acted.carried.area ticket n (get_or players n d) (all n d inside)
            (ap (λ (m : ℕ). session_after n case.depth (take m (lines_of case.scripts n))) (turns_same order ticket number within is n (λ s. other (sym s)))))

-- A ticket more of an order.
pub folds_on : (case : Workload) (order : List ℕ) (ticket number : ℕ) (old new : Painting) (players : List Player) (after : Player) (replies : List Reply) (line : Line) (reply : Reply) (d : Player)
    → AreTicketsNamed order → ticket < length order → get_or order ticket 0 ≡ number → number < length case.scripts
    → IsFolded case order ticket old players replies → IsNumbered old.area old.kinds old.cells
    → slice_get (lines_of case.scripts number) (get_or players number d).session.number ≡ Some line → is_command_within line.command ≡ true
    → IsActed case.seed ticket old new (get_or players number d) after line.command reply
    → IsFolded case order (suc ticket) new (set players number after) (replies ++ reply ∷ [])
folds_on case order ticket number old new players after replies line reply d named within is known h numbered there command acted =
    let at = h.each number d known in
    let few = h.legal.within number in
    let before = get_or players number d in
    let next : suc ticket ≡ ticket + 1 = omega arith in
    record {
      legal = legal_more order ticket number within is case.scripts h.legal known (lines_left case order ticket number within is named old new before after line reply at there h.world acted few);
      world = world_is case order ticket number within is named old new before after line reply at there h.world acted few;
      replies = ap (λ (rs : List Reply). rs ++ reply ∷ []) h.replies
          ∙ ap (λ (r : Reply). map (reply_of case order) (range_with_len 0 ticket) ++ r ∷ []) (reply_is case order ticket number within is named old new before after line reply at there h.world acted few)
          ∙ sym (ap (λ (n : ℕ). map (reply_of case order) (range_with_len 0 n)) next ∙ map-range_with_len_more (reply_of case order) 0 ticket ticket (omega arith));
      count = length-set players number after ∙ h.count;
      each = λ n e inside. one case order ticket number within is named old new before after line reply at there h.world acted few numbered command players h.each (omega (arith, known, h.count)) n e inside (eqb n number) refl;
    }
