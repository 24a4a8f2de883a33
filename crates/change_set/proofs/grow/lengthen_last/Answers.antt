use Rattle.std.proofs.Common.{◌≡◌, ◌+◌, ◌-◌, ◌<◌, length, ap, arith}
use Rattle.std.proofs.lemmas.Option.{slice_get_read}
use Rattle.change_set.proofs.ContentLemmas.{set_last_run}
use Rattle.change_set.proofs.grow.lengthen_last.Goals as goal

pub returns : goal.returns
returns c =
    let runs = c.args.runs.now.items in
    let run = c.index_mut-run.result.now in
    let long = ap length c.as_slice.ensures.value in
    let some = c.requires.some in
    let k = length c.as_slice.result.now - 1 in
    let last : k + 1 ≡ length runs = omega (arith, long, some) in
    let below : k < length runs = omega (arith, last) in
    set_last_run runs k c.args.more run last (slice_get_read runs (length runs) k run (λ i. length runs) below c.index_mut-run.ensures.value)
