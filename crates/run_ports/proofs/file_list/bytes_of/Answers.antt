use Rattle.std.proofs.Common.{sym}
use Rattle.std.specs.Str.{bytes_eq}
use Rattle.run_ports.proofs.Listed.{lookup_at, lookup_none}
use Rattle.run_ports.proofs.file_list.bytes_of.Goals as goal

pub returns-in_err-place : goal.returns-in_err-place
returns-in_err-place c =
    let missing = lookup_none (bytes_eq c.args.name.now) c.args.files.now (sym c.in_err-place.ensures) in cc

pub returns : goal.returns
returns c =
    let found = lookup_at (bytes_eq c.args.name.now) c.args.files.now c.in_ok-place.place c.index-files-place.result (sym c.in_ok-place.ensures) in
    cc
