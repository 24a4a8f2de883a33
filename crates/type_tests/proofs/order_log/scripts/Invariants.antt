use Rattle.std.proofs.Common.{◌≡◌, length}
use Rattle.std.specs.Prelude.{All}
use Rattle.edit_terms.specs.declared.script.Script.{Script}
use Rattle.type_tests.proofs.order_log.scripts.Given as goal

abbrev pub invariant-loop-player : goal.invariant-loop-player
invariant-loop-player l = record {
  count : length l.scripts.items ≡ l._player;
  each : All (λ (script : Script). length script.lines ≡ l.commands) l.scripts.items;
}
