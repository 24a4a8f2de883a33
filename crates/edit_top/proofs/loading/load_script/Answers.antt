use Rattle.edit_top.specs.Reading.{IsScriptCause}
use Rattle.edit_top.proofs.Scripts.{stops_run, err_is}
use Rattle.edit_top.proofs.loading.load_script.Goals as goal

pub returns-in_err-script-clause-cause : goal.returns-in_err-script-clause-cause
returns-in_err-script-clause-cause g c =
    let before = g.F.Shelf.seen c.args.shelf.now in
    let after = g.F.Shelf.seen c.load_numbered.new.shelf in
    err_is c.from_residual.result (IsScriptCause c.args.name.now c.args.earlier.now before after) c.in_err-script.field-0.0 c.from_residual.ensures.1
    (stops_run c.args.name.now c.args.earlier.now before after c.in_err-script.field-0.0 c.in_err-script.ensures.cause)
