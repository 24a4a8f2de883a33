use Rattle.std.proofs.Common.{◌≡◌, ℕ, List, [], ◌∷◌, refl}
use Rattle.edit_top.proofs.ScriptFaults.{pieces_printed}
use Rattle.edit_top.proofs.script_fault.print_words.Goals as goal

pub returns : goal.returns
returns g c =
    let put : List (List ℕ) = c.args.words.now ∷ [] in
    let pieces : List (List ℕ) = c.args.words.now ∷ [] in
    let same : put ≡ pieces = refl in
    pieces_printed (g.K.Sink.seen c.args.out.now) (g.K.Sink.seen c.print_message.new.out) c.args.name.now put pieces c.as_slice.result.now c.as_slice-2.result.now c.as_slice-3.result.now
    c.as_slice.ensures c.as_slice-2.ensures c.as_slice-3.ensures same c.print_message.ensures
