-- The exit status of each ending, and the message that a refusal prints.
use Rattle.std.specs.Prelude.{ℕ, zero, suc, List, [], ◌++◌, get_or, codes, decimal}
use Rattle.edit_top.specs.declared.status.Status.{Status}
use Rattle.edit_top.specs.declared.status.Status.TheVariants.{Done, Usage, ReadFault, TooLong, WorldRefused, ScriptRefused, DuplicatePlayer, TooManyJobs, SaveFault, PrintFault, OutOfMemory}
use Rattle.edit_top.specs.Words.{FileNames}
use Rattle.edit_top.specs.WorldFaultText.{world_text, world_line}
use Rattle.edit_top.specs.ScriptFaultText.{script_text, script_line}

abbrev pub code_of : Status → ℕ
code_of Done = 0
code_of Usage = 2
code_of (ReadFault file) = 3
code_of (TooLong file) = 4
code_of (WorldRefused fault) = 5
code_of (ScriptRefused script fault) = 6
code_of (DuplicatePlayer script) = 7
code_of (TooManyJobs jobs) = 8
code_of SaveFault = 9
code_of PrintFault = 10
code_of OutOfMemory = 11

-- the name of a file by its number: the world is 0, and the scripts count from 1
abbrev pub file_name : FileNames → ℕ → List ℕ
file_name names zero = names.world
file_name names (suc script) = get_or names.scripts script []

-- the message of an ending under these names; nothing after a whole text or a failing print
abbrev pub fault_text : FileNames → Status → List ℕ
fault_text names Done = []
fault_text names Usage = codes "fault: usage: run WORLD OUT SEED WORKERS DEPTH SCRIPT\n"
fault_text names (ReadFault file) = codes "fault: cannot read " ++ file_name names file ++ codes "\n"
fault_text names (TooLong file) = codes "fault: too long: " ++ file_name names file ++ codes "\n"
fault_text names (WorldRefused fault) = world_line (world_text fault)
fault_text names (ScriptRefused script fault) = script_line (file_name names script) (script_text fault)
fault_text names (DuplicatePlayer script) = codes "fault: script " ++ file_name names script ++ codes ": player already used\n"
fault_text names (TooManyJobs jobs) = codes "fault: too many jobs: " ++ decimal jobs ++ codes "\n"
fault_text names SaveFault = codes "fault: cannot save " ++ names.out ++ codes "\n"
fault_text names PrintFault = []
fault_text names OutOfMemory = codes "fault: memory\n"

-- the message where the words aren't of the form
abbrev pub usage_text : List ℕ
usage_text = codes "fault: usage: run WORLD OUT SEED WORKERS DEPTH SCRIPT\n"
