use Rattle.std.specs.Prelude.{ℕ, List, map, String, Vec}
use Rattle.std.specs.Global.{Global}
use Rattle.std.specs.String.{string_bytes}
use Rattle.std.specs.Str.{bytes_eq}
use Rattle.std.specs.Map.{lookup}
use Rattle.run_ports.specs.Store.{Files}

-- the name and the bytes of each file of a list
abbrev pub listed : List (String Global × Vec ℕ Global) → List (List ℕ × List ℕ)
listed files = map (λ file. (string_bytes file.0, file.1.items)) files

-- the files that a list stands for: the first entry of a name is the file
abbrev pub first_files : List (List ℕ × List ℕ) → Files
first_files list = λ name. lookup (bytes_eq name) list
