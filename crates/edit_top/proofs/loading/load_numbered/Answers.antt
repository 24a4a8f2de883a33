use Rattle.std.proofs.Common.{List, ℕ, sym, subst}
use Rattle.command_syntax.specs.Read.{IsScriptFault}
use Rattle.command_syntax.specs.Script.{script_of_bytes}
use Rattle.edit_top.specs.declared.status.Status.{Status}
use Rattle.edit_top.specs.Reading.{IsLoadCause}
use Rattle.edit_top.proofs.ReadNames.{named_by_bytes}
use Rattle.edit_top.proofs.Scripts.{refusal_stops}
use Rattle.edit_top.proofs.loading.load_numbered.Goals as goal

pub returns-in-Ok-read_script-clause-named : goal.returns-in-Ok-read_script-clause-named
returns-in-Ok-read_script-clause-named g c = named_by_bytes c.deref.result.now c.in-Ok-read_script.script c.in-Ok-read_script.ensures.read

pub returns-clause-cause : goal.returns-clause-cause
returns-clause-cause g c =
    let before = g.F.Shelf.seen c.args.shelf.now in
    let after = g.F.Shelf.seen c.load.new.self in
    let fault : IsScriptFault (script_of_bytes c.in-Ok.bytes.items) c.in-Err.fault = subst (λ (bytes : List ℕ). IsScriptFault (script_of_bytes bytes) c.in-Err.fault) c.deref.ensures.value c.in-Err.ensures.fault in
    subst (λ (s : Status). IsLoadCause c.args.name.now before after s) (sym c.refusal.ensures)
    (refusal_stops c.args.number c.args.name.now c.in-Ok.bytes.items before after c.in-Err.fault c.in-Ok.ensures.bytes c.in-Ok.ensures.within fault)
