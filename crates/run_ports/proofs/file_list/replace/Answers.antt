use Rattle.std.proofs.Common.{sym, ◌∙◌, ap, set, refl}
use Rattle.std.specs.Str.{bytes_eq}
use Rattle.run_ports.specs.FileList.{listed, first_files}
use Rattle.run_ports.proofs.Listed.{listed-set, lookup_at, lookup_none, first_files-set_value}
use Rattle.run_ports.proofs.file_list.replace.Goals as goal

pub returns-in-Some : goal.returns-in-Some
returns-in-Some c =
    let files = c.args.files.now.items in
    let test = bytes_eq c.args.name.now in
    let place = rw c.deref.ensures.value at (sym c.in-Some.ensures) in
    let held = c.index_mut.result.now in
    let set_is = ap (λ file. listed (set files c.in-Some.place (file.0, c.args.bytes))) c.index_mut.ensures.value ∙ listed-set test files c.in-Some.place held c.args.bytes place in
    record {
      written = λ there. ap first_files set_is ∙ first_files-set_value (listed files) c.args.name.now c.args.bytes.items there;
      dropped = λ none. cc (rw (lookup_at test files c.in-Some.place held place) at none);
    }

pub returns-in_default : goal.returns-in_default
returns-in_default c =
    let place = rw c.deref.ensures.value at (sym c.in_default.ensures) in
    record {
      written = λ there. cc (rw (lookup_none (bytes_eq c.args.name.now) c.args.files.now.items place) at there);
      dropped = λ _. refl;
    }
