use Rattle.std.proofs.Common.{◌≡◌, ℕ, Global, suc, ◌<◌, ◌+◌, ◌∷◌, [], ◌++◌, true, false, List, Option, length, map, get_or, ap, sym, subst, ◌∙◌, arith}
use Rattle.std.specs.Prelude.{All}
use Rattle.std.specs.String.{string_bytes}
use Rattle.std.proofs.lemmas.List.{length-append, length-map}
use Rattle.std.proofs.lemmas.List.Elements.{All-push}
use Rattle.edit_terms.specs.declared.script.Script.{Script}
use Rattle.run_ports.specs.Store.{Files}
use Rattle.run_terms.specs.Limits.{IsScriptWithin}
use Rattle.command_syntax.specs.Player.{is_player_name}
use Rattle.edit_top.specs.declared.status.Status.{Status}
use Rattle.edit_top.specs.declared.status.Status.TheVariants.{OutOfMemory}
use Rattle.edit_top.specs.Reading.{HasScript, has_player, AreScripts, IsOfScript, IsScriptCause, StopsAtScript}
use Rattle.edit_top.proofs.Saving.{later_then}
use Rattle.edit_top.proofs.Scripts.{name_at, read_then, within_then, stops_at, err_is}
use Rattle.edit_top.proofs.loading.load_scripts.Goals as goal

pub returns-in_err-script-clause-cause : goal.returns-in_err-script-clause-cause
returns-in_err-script-clause-cause g c =
    let names : List (List ℕ) = map string_bytes c.args.names.now in
    let before = g.F.Shelf.seen c.args.shelf.now in
    let mid = g.F.Shelf.seen c.loop-name.shelf in
    let after = g.F.Shelf.seen c.load_script.new.shelf in
    let scripts : List Script = c.loop-name.scripts.items in
    let status : Status = c.in_err-script.field-0.0 in
    let inside : length scripts < length names = omega (arith, c.loop-name.invariant.count, c.loop-name-test.true, length-map c.args.names.now (string_bytes {Z = Global})) in
    let named : get_or names (length scripts) [] ≡ c.as_str.result.now =
    ap (λ (n : ℕ). get_or names n []) c.loop-name.invariant.count ∙ name_at string_bytes c.args.names.now c.loop-name.name-index c.name-item.result c.loop-name-test.true c.name-item.is ∙ sym c.as_str.ensures.value in
    let number : IsOfScript (suc (length scripts)) status = subst (λ (ss : List Script). IsOfScript (suc (length ss)) status) c.deref.ensures.value c.in_err-script.ensures.number in
    let cause : IsScriptCause c.as_str.result.now scripts mid after status =
    subst (λ (ss : List Script). IsScriptCause c.as_str.result.now ss mid after status) c.deref.ensures.value c.in_err-script.ensures.cause in
    err_is c.from_residual.result (StopsAtScript names before after) status c.from_residual.ensures.1
    (stops_at names before mid after scripts c.as_str.result.now status c.loop-name.invariant.read inside named number c.loop-name.invariant.later c.loop-name.invariant.stays cause)

pub returns-in_err-push-clause-cause : goal.returns-in_err-push-clause-cause
returns-in_err-push-clause-cause g c =
    let names : List (List ℕ) = map string_bytes c.args.names.now in
    let before = g.F.Shelf.seen c.args.shelf.now in
    let mid = g.F.Shelf.seen c.loop-name.shelf in
    let after = g.F.Shelf.seen c.load_script.new.shelf in
    let scripts : List Script = c.loop-name.scripts.items in
    let inside : length scripts < length names = omega (arith, c.loop-name.invariant.count, c.loop-name-test.true, length-map c.args.names.now (string_bytes {Z = Global})) in
    let named : get_or names (length scripts) [] ≡ c.as_str.result.now =
    ap (λ (n : ℕ). get_or names n []) c.loop-name.invariant.count ∙ name_at string_bytes c.args.names.now c.loop-name.name-index c.name-item.result c.loop-name-test.true c.name-item.is ∙ sym c.as_str.ensures.value in
    err_is c.from_residual-in_err-push.result (StopsAtScript names before after) OutOfMemory c.from_residual-in_err-push.ensures.1
    (stops_at names before mid after scripts c.as_str.result.now OutOfMemory c.loop-name.invariant.read inside named tt c.loop-name.invariant.later c.loop-name.invariant.stays tt)

pub loop-name-preserved : goal.loop-name-preserved
loop-name-preserved g c =
    let names : List (List ℕ) = map string_bytes c.args.names.now in
    let before = g.F.Shelf.seen c.args.shelf.now in
    let mid = g.F.Shelf.seen c.loop-name.shelf in
    let after = g.F.Shelf.seen c.load_script.new.shelf in
    let scripts : List Script = c.loop-name.scripts.items in
    let script : Script = c.in_ok-script.script in
    let items : c.push.new.self.items ≡ scripts ++ script ∷ [] = c.in_ok-push.ensures.items in
    let named : get_or names (length scripts) [] ≡ c.as_str.result.now =
    ap (λ (n : ℕ). get_or names n []) c.loop-name.invariant.count ∙ name_at string_bytes c.args.names.now c.loop-name.name-index c.name-item.result c.loop-name-test.true c.name-item.is ∙ sym c.as_str.ensures.value in
    let has : HasScript before.files (get_or names (length scripts) []) script =
    subst (λ (n : List ℕ). HasScript before.files n script) (sym named) (subst (λ (f : Option Files). HasScript f c.as_str.result.now script) c.loop-name.invariant.stays c.in_ok-script.ensures.script) in
    let new : has_player scripts script.player ≡ false = subst (λ (ss : List Script). has_player ss script.player ≡ false) c.deref.ensures.value c.in_ok-script.ensures.new in
    record {
      count = ap length items ∙ length-append scripts (script ∷ []) ∙ ap (λ (n : ℕ). n + 1) c.loop-name.invariant.count;
      read = subst (λ (ss : List Script). AreScripts before.files names ss) (sym items) (read_then before.files names scripts script c.loop-name.invariant.read has new);
      within = subst (λ (ss : List Script). All IsScriptWithin ss) (sym items) (within_then scripts script c.loop-name.invariant.within c.in_ok-script.ensures.within);
      named = subst (λ (ss : List Script). All (λ (s : Script). is_player_name s.player ≡ true) ss) (sym items)
          (All-push (λ (s : Script). is_player_name s.player ≡ true) scripts script c.loop-name.invariant.named c.in_ok-script.ensures.named);
      stays = c.in_ok-script.ensures.stays ∙ c.loop-name.invariant.stays;
      later = later_then before mid after c.loop-name.invariant.later c.in_ok-script.ensures.later;
    }
