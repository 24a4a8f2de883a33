-- Which log a value belongs to: its table of words, and the case of its run.
use Rattle.std.specs.Prelude.{[], pos}
use Rattle.atomic_table.specs.Seated.{TableId}
use Rattle.edit_terms.specs.declared.script.Case.{Case}

pub record Identity : Type 0 where
  pub table : TableId
  pub case : Case

-- what a name says until a call picks its members: the table of no log, and a case without a script
abbrev pub no_table : TableId
no_table = record { words = 0; slots = 0; views_name = 0; atom = 0; block = 0; offset = 0; slot_names = [] }

abbrev pub no_case : Case
no_case = record {
  opening = record { area = record { least = record { x = pos 0; y = pos 0; z = pos 0 }; width = 0; height = 0; length = 0 }; kinds = []; cells = []; entities = [] };
  scripts = [];
  seed = 0;
  depth = 0;
}
