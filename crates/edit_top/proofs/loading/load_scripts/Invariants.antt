use Rattle.std.proofs.Common.{◌≡◌, true, length, map, string_bytes, All}
use Rattle.run_ports.specs.Store.{IsLater}
use Rattle.run_terms.specs.Limits.{IsScriptWithin}
use Rattle.command_syntax.specs.Player.{is_player_name}
use Rattle.edit_top.specs.Reading.{AreScripts}
use Rattle.edit_top.proofs.loading.load_scripts.Given as goal

-- the scripts of the names passed are read
abbrev pub invariant-loop-name : goal.invariant-loop-name
invariant-loop-name g l = record {
  count : length l.scripts.items ≡ l.name-index;
  read : AreScripts (g.F.Shelf.seen l.fn.shelf).files (map string_bytes l.names) l.scripts.items;
  within : All IsScriptWithin l.scripts.items;
  named : All (λ script. is_player_name script.player ≡ true) l.scripts.items;
  stays : (g.F.Shelf.seen l.shelf).files ≡ (g.F.Shelf.seen l.fn.shelf).files;
  later : IsLater (g.F.Shelf.seen l.fn.shelf) (g.F.Shelf.seen l.shelf);
}
