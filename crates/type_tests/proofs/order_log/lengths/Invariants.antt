use Rattle.type_tests.proofs.order_log.lengths.Given as goal

-- the log that was just made
abbrev pub ghosts-both_lengths : goal.ghosts-both_lengths
ghosts-both_lengths g a = record { table = a.blank.table; case = a.blank.case }
