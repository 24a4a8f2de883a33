-- The commands: which words each has, and what they say.
use Rattle.std.specs.Prelude.{ℕ, Bool, true, false, if◌then◌else◌, List, [], ◌∷◌, Option, Some, None, Result, Err, codes, bytes_eq}
use Rattle.std.specs.Option.{option_or}
use Rattle.edit_terms.specs.declared.script.Command.{Command}
use Rattle.edit_terms.specs.declared.script.Command.TheVariants.{Pos1, Pos2, Place, Sel, Block, Set, Walls, Faces, Replace, Sphere, Cyl, Stack, Move, Copy, Cut, Paste, Rotate, Flip, Gmask, Undo, Redo}
use Rattle.command_syntax.specs.declared.verb.Verb.{Verb}
use Rattle.command_syntax.specs.declared.verb.Verb.TheVariants as verbs
use Rattle.command_syntax.specs.declared.fault.LineFault.{LineFault}
use Rattle.command_syntax.specs.declared.fault.LineFault.TheVariants.{UnknownCommand}
use Rattle.term_text.specs.Verdict.{verdict_map, verdict_then, both, all_three}
use Rattle.command_syntax.specs.Arguments.{no_word, optional_word, optional_and_one, two_and_optional, of_one, of_two, if_any}
use Rattle.command_syntax.specs.Number.{count_of, radius_of, height_of, quarters_of}
use Rattle.command_syntax.specs.Position.{position_of}
use Rattle.command_syntax.specs.Choice.{direction_of, kind_of, skip_air_of}
use Rattle.command_syntax.specs.Term.{mask_of, pattern_of, state_of, existing}
use Rattle.command_syntax.specs.Words.{words_of}

-- the selection's positions and shape, the place, and a single block
abbrev pub placing_verb : List ℕ → Option Verb
placing_verb word =
    if bytes_eq word (codes "//pos1") then Some verbs.Pos1
    else (if bytes_eq word (codes "//pos2") then Some verbs.Pos2
    else (if bytes_eq word (codes "//sel") then Some verbs.Sel
    else (if bytes_eq word (codes "at") then Some verbs.Place
    else (if bytes_eq word (codes "block") then Some verbs.Block
    else None))))

-- what fills the selection
abbrev pub filling_verb : List ℕ → Option Verb
filling_verb word =
    if bytes_eq word (codes "//set") then Some verbs.Set
    else (if bytes_eq word (codes "//walls") then Some verbs.Walls
    else (if bytes_eq word (codes "//faces") then Some verbs.Faces
    else (if bytes_eq word (codes "//replace") then Some verbs.Replace
    else None)))

-- what fills a ball or an upright cylinder; h is for hollow
abbrev pub shape_verb : List ℕ → Option Verb
shape_verb word =
    if bytes_eq word (codes "//sphere") then Some verbs.Sphere
    else (if bytes_eq word (codes "//hsphere") then Some verbs.HollowSphere
    else (if bytes_eq word (codes "//cyl") then Some verbs.Cyl
    else (if bytes_eq word (codes "//hcyl") then Some verbs.HollowCyl
    else None)))

-- what repeats or moves the selection, or copies it to the clipboard and back
abbrev pub copying_verb : List ℕ → Option Verb
copying_verb word =
    if bytes_eq word (codes "//stack") then Some verbs.Stack
    else (if bytes_eq word (codes "//move") then Some verbs.Move
    else (if bytes_eq word (codes "//copy") then Some verbs.Copy
    else (if bytes_eq word (codes "//cut") then Some verbs.Cut
    else (if bytes_eq word (codes "//paste") then Some verbs.Paste
    else None))))

-- what turns the clipboard, and what concerns all edits
abbrev pub session_verb : List ℕ → Option Verb
session_verb word =
    if bytes_eq word (codes "//rotate") then Some verbs.Rotate
    else (if bytes_eq word (codes "//flip") then Some verbs.Flip
    else (if bytes_eq word (codes "//gmask") then Some verbs.Gmask
    else (if bytes_eq word (codes "//undo") then Some verbs.Undo
    else (if bytes_eq word (codes "//redo") then Some verbs.Redo
    else None))))

-- which command a line's first word begins
abbrev pub verb_of : List ℕ → Option Verb
verb_of word =
    option_or (placing_verb word) (option_or (filling_verb word) (option_or (shape_verb word) (option_or (copying_verb word) (session_verb word))))

-- a ball round the place
abbrev pub sphere : Bool → List (List ℕ) → Result Command LineFault
sphere hollow words = of_two (λ pattern radius. Sphere pattern radius hollow) pattern_of radius_of words

-- an upright cylinder on the place, of height 1 where none is named
abbrev pub cylinder : Bool → List (List ℕ) → Result Command LineFault
cylinder hollow words = verdict_then (λ w. all_three (λ pattern radius height. Cyl pattern radius height hollow) (pattern_of w.0) (radius_of w.1) (if_any 1 height_of w.2)) (two_and_optional words)

-- The command of these words behind its own: how many there are, and what each of them is.
abbrev pub command_with : Verb → List (List ℕ) → Result Command LineFault
command_with verbs.Pos1 words = verdict_map Pos1 (of_one position_of words)
command_with verbs.Pos2 words = verdict_map Pos2 (of_one position_of words)
command_with verbs.Place words = verdict_map Place (of_one position_of words)
command_with verbs.Sel words = verdict_map Sel (of_one kind_of words)
command_with verbs.Block words = of_two Block position_of state_of words
command_with verbs.Set words = verdict_map Set (of_one pattern_of words)
command_with verbs.Walls words = verdict_map Walls (of_one pattern_of words)
command_with verbs.Faces words = verdict_map Faces (of_one pattern_of words)
command_with verbs.Replace words = verdict_then (λ w. both Replace (if_any existing mask_of w.0) (pattern_of w.1)) (optional_and_one words)
command_with verbs.Sphere words = sphere false words
command_with verbs.HollowSphere words = sphere true words
command_with verbs.Cyl words = cylinder false words
command_with verbs.HollowCyl words = cylinder true words
command_with verbs.Stack words = of_two Stack count_of direction_of words
command_with verbs.Move words = of_two Move count_of direction_of words
command_with verbs.Copy words = no_word Copy words
command_with verbs.Cut words = no_word Cut words
command_with verbs.Paste words = verdict_map Paste (verdict_then (if_any false skip_air_of) (optional_word words))
command_with verbs.Rotate words = verdict_map Rotate (of_one quarters_of words)
command_with verbs.Flip words = verdict_map Flip (of_one direction_of words)
command_with verbs.Gmask words = verdict_map Gmask (verdict_then (if_any None (λ word. verdict_map Some (mask_of word))) (optional_word words))
command_with verbs.Undo words = verdict_map Undo (verdict_then (if_any 1 count_of) (optional_word words))
command_with verbs.Redo words = verdict_map Redo (verdict_then (if_any 1 count_of) (optional_word words))

-- the command that begins with this word, if one does
abbrev pub command_by : Option Verb → List (List ℕ) → Result Command LineFault
command_by None words = Err UnknownCommand
command_by (Some verb) words = command_with verb words

-- the command of a line's words; a line that isn't skipped has one
abbrev pub command_from : List (List ℕ) → Result Command LineFault
command_from [] = Err UnknownCommand
command_from (word ∷ words) = command_by (verb_of word) words

-- The command of a line, or its first fault.
abbrev pub command_of : List ℕ → Result Command LineFault
command_of line = verdict_then command_from (words_of line)
