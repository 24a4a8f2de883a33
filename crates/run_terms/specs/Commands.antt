-- Which commands are edits, and which need a selection, a placement position or a clipboard.
use Rattle.std.specs.Prelude.{Bool, true, false}
use Rattle.std.specs.List.{list_any}
use Rattle.edit_terms.specs.declared.pattern.Value.{Value}
use Rattle.edit_terms.specs.declared.pattern.Value.TheVariants.{Clipboard}
use Rattle.edit_terms.specs.declared.pattern.Entry.{Entry}
use Rattle.edit_terms.specs.declared.pattern.Pattern.{Pattern}
use Rattle.edit_terms.specs.declared.script.Command.{Command}
use Rattle.edit_terms.specs.declared.script.Command.TheVariants.{Set, Walls, Faces, Replace, Sphere, Cyl, Stack, Move, Copy, Cut, Paste, Rotate, Flip, Undo, Redo}

-- a command on the selection
abbrev pub is_on_selection : Command → Bool
is_on_selection (Set pattern) = true
is_on_selection (Walls pattern) = true
is_on_selection (Faces pattern) = true
is_on_selection (Replace mask pattern) = true
is_on_selection (Stack count to) = true
is_on_selection (Move count to) = true
is_on_selection Copy = true
is_on_selection Cut = true
is_on_selection _ = false

-- a command at the placement position
abbrev pub is_at_place : Command → Bool
is_at_place (Sphere pattern radius hollow) = true
is_at_place (Cyl pattern radius height hollow) = true
is_at_place Copy = true
is_at_place Cut = true
is_at_place (Paste skip_air) = true
is_at_place _ = false

-- An edit: it enters the history, and the global mask limits it.
abbrev pub is_edit : Command → Bool
is_edit (Set pattern) = true
is_edit (Walls pattern) = true
is_edit (Faces pattern) = true
is_edit (Replace mask pattern) = true
is_edit (Sphere pattern radius hollow) = true
is_edit (Cyl pattern radius height hollow) = true
is_edit (Stack count to) = true
is_edit (Move count to) = true
is_edit Cut = true
is_edit (Paste skip_air) = true
is_edit _ = false

abbrev pub is_clipboard : Value → Bool
is_clipboard Clipboard = true
is_clipboard _ = false

-- some entry of the pattern is the clipboard
abbrev pub names_clipboard : Pattern → Bool
names_clipboard pattern = list_any (λ (e : Entry). is_clipboard e.value) pattern.entries

-- a command that reads or turns the clipboard
abbrev pub is_on_clipboard : Command → Bool
is_on_clipboard (Set pattern) = names_clipboard pattern
is_on_clipboard (Walls pattern) = names_clipboard pattern
is_on_clipboard (Faces pattern) = names_clipboard pattern
is_on_clipboard (Replace mask pattern) = names_clipboard pattern
is_on_clipboard (Sphere pattern radius hollow) = names_clipboard pattern
is_on_clipboard (Cyl pattern radius height hollow) = names_clipboard pattern
is_on_clipboard (Paste skip_air) = true
is_on_clipboard (Rotate quarters) = true
is_on_clipboard (Flip to) = true
is_on_clipboard _ = false

abbrev pub is_undo : Command → Bool
is_undo (Undo count) = true
is_undo _ = false

abbrev pub is_redo : Command → Bool
is_redo (Redo count) = true
is_redo _ = false
