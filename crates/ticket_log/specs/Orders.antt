-- What the calls of the log speak of, beside the words for serial orders (`run_terms/specs/Order.antt`): which
-- cases a log has room for, and the longer of two orders.
use Rattle.std.specs.Prelude.{ℕ, ◌≤◌, nat_lt, if◌then◌else◌, List, length, All}
use Rattle.edit_terms.specs.declared.script.Case.{Case}

-- 1 to 64 scripts of at most 10,000 commands each: at most 640,000 tickets
pub record IsLoggable (case : Case) : Type 0 where
  pub some : 1 ≤ length case.scripts
  pub scripts : length case.scripts ≤ 64
  pub lines : All (λ script. length script.lines ≤ 10000) case.scripts

-- the longer of two orders, the first where both are as long
abbrev pub longer : List ℕ → List ℕ → List ℕ
longer a b = if nat_lt (length a) (length b) then b else a
