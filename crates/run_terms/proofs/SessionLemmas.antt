-- What sessions keep: histories stay within their depth, and a refused command changes nothing.
use Rattle.std.proofs.Common.{◌≡◌, ℕ, suc, ◌-◌, ◌<◌, ◌≤◌, List, [], ◌∷◌, ◌++◌, length, take, drop, Option, Some, None, refl, sym, ap, subst, arith}
use Rattle.std.specs.Prelude.{All, fold}
use Rattle.std.specs.Option.{option_map_or}
use Rattle.std.proofs.lemmas.List.{length-take, length-drop}
use Rattle.std.proofs.lemmas.List.Elements.{All-nil, All-push, All-take, All-drop}
use Rattle.edit_terms.specs.declared.script.Command.{Command}
use Rattle.edit_terms.specs.declared.script.Command.TheVariants.{Pos1, Pos2, Place, Sel, Block, Copy, Cut, Rotate, Flip, Gmask, Undo, Redo}
use Rattle.edit_terms.specs.declared.script.Line.{Line}
use Rattle.edit_terms.specs.declared.step.Refusal.{Refusal}
use Rattle.run_terms.specs.Session.{Session, opening_session, entered, refusal_of, with_copy, with_command, counted, after_command, session_after, IsHistory, ChangesOnlyTheCount}
use Rattle.run_terms.proofs.Lists.{All-below_more}

-- a refused command changes nothing but the count
pub refused_changes_the_count : (s : Session) (command : Command) (refusal : Refusal) → refusal_of s command ≡ Some refusal → ChangesOnlyTheCount s command
refused_changes_the_count s command refusal is = ap (λ (r : Option Refusal). counted (option_map_or (λ x. s) r (with_command s command))) is

-- a session with another history, or the same, after one more command
pub record Keeps (s t : Session) : Type 0 where
  pub number : t.number ≡ s.number
  pub earlier : All (λ n. n < suc s.number) t.edits
  pub within : length t.edits ≤ t.depth
  pub among : t.cursor ≤ length t.edits

entered_keeps : (s t : Session) → IsHistory s → t.number ≡ s.number → t.edits ≡ s.edits → Keeps s (entered t)
entered_keeps s t h same edits =
    let old : All (λ n. n < suc s.number) t.edits = subst (λ (xs : List ℕ). All (λ n. n < suc s.number) xs) (sym edits) (All-below_more s.number s.edits h.earlier) in
    let kept = take t.cursor t.edits in
    let all = kept ++ t.number ∷ [] in
    let own : t.number < suc s.number = omega (arith, same) in
    record {
      number = same;
      earlier = All-drop (λ n. n < suc s.number) (length all - t.depth) all (All-push (λ n. n < suc s.number) kept t.number (All-take (λ n. n < suc s.number) t.cursor t.edits old) own);
      within = omega (arith, length-drop (length all - t.depth) all);
      among = omega arith;
    }

with_command_keeps : (s : Session) (command : Command) → IsHistory s → Keeps s (with_command s command)
with_command_keeps s (Pos1 at) h = record { number = refl; earlier = All-below_more s.number s.edits h.earlier; within = h.within; among = h.among }
with_command_keeps s (Pos2 at) h = record { number = refl; earlier = All-below_more s.number s.edits h.earlier; within = h.within; among = h.among }
with_command_keeps s (Place at) h = record { number = refl; earlier = All-below_more s.number s.edits h.earlier; within = h.within; among = h.among }
with_command_keeps s (Sel kind) h = record { number = refl; earlier = All-below_more s.number s.edits h.earlier; within = h.within; among = h.among }
with_command_keeps s (Gmask mask) h = record { number = refl; earlier = All-below_more s.number s.edits h.earlier; within = h.within; among = h.among }
with_command_keeps s (Block at state) h = record { number = refl; earlier = All-below_more s.number s.edits h.earlier; within = h.within; among = h.among }
with_command_keeps s Copy h = record { number = refl; earlier = All-below_more s.number s.edits h.earlier; within = h.within; among = h.among }
with_command_keeps s (Rotate quarters) h = record { number = refl; earlier = All-below_more s.number s.edits h.earlier; within = h.within; among = h.among }
with_command_keeps s (Flip to) h = record { number = refl; earlier = All-below_more s.number s.edits h.earlier; within = h.within; among = h.among }
with_command_keeps s (Undo count) h = record { number = refl; earlier = All-below_more s.number s.edits h.earlier; within = h.within; among = omega (arith, h.among) }
with_command_keeps s (Redo count) h = record {
  number = refl;
  earlier = All-below_more s.number s.edits h.earlier;
  within = h.within;
  among = omega (arith, h.among, length-take count (drop s.cursor s.edits), length-drop s.cursor s.edits);
}
with_command_keeps s Cut h = entered_keeps s (with_copy s) h refl refl
with_command_keeps s command h = entered_keeps s s h refl refl

by_refusal : (s t : Session) (refusal : Option Refusal) → IsHistory s → Keeps s t → IsHistory (counted (option_map_or (λ r. s) refusal t))
by_refusal s t None h k = record { earlier = λ i d inside. omega (arith, k.earlier i d inside, k.number); within = k.within; among = k.among }
by_refusal s t (Some refusal) h k = record { earlier = λ i d inside. omega (arith, h.earlier i d inside); within = h.within; among = h.among }

folded : (s : Session) (lines : List Line) → IsHistory s → IsHistory (fold (λ t line. after_command t line.command) s lines)
folded s [] h = h
folded s (line ∷ lines) h = folded (after_command s line.command) lines (by_refusal s (with_command s line.command) (refusal_of s line.command) h (with_command_keeps s line.command h))

-- histories stay within their depth
pub history_of_session : (player depth : ℕ) (lines : List Line) → IsHistory (session_after player depth lines)
history_of_session player depth lines =
    folded (opening_session player depth) lines (record { earlier = All-nil (λ n. n < 0); within = omega arith; among = omega arith })
