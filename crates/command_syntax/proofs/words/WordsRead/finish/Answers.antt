use Rattle.std.proofs.Common.{ap}
use Rattle.std.specs.Prelude.{[], option_map}
use Rattle.command_syntax.proofs.Quoting.{ended}
use Rattle.command_syntax.proofs.words.WordsRead.finish.Goals as goal

pub returns : goal.returns
returns c = ended _ _ _ _ (c.in_ok-end_word.ensures.words []) (ap (option_map (λ word. word.items)) c.in_ok-end_word.ensures.ended)
