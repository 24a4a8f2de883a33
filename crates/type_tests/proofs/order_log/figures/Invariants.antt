use Rattle.type_tests.proofs.order_log.figures.Given as goal

-- the log that was just made
abbrev pub ghosts-three_draws : goal.ghosts-three_draws
ghosts-three_draws a = record { table = a.blank.table; case = a.blank.case }
