use Rattle.std.proofs.Common.{◌≡◌, ◌+◌, false, option_map, drop}
use Rattle.term_text.specs.Pieces.{place_from}
use Rattle.term_text.proofs.pieces.first_outside.Given as goal

-- the first separator is the first of what is left
abbrev pub invariant-loop-at : goal.invariant-loop-at
invariant-loop-at l = place_from false l.separator l.text ≡ option_map (λ n. n + l.at) (place_from l.inside l.separator (drop l.at l.text))
