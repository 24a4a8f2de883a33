use Rattle.edit_top.proofs.DrillTexts.{one_text}
use Rattle.edit_top.proofs.text_laws.drill_text_is_unique.Goals as goal

pub returns : goal.returns
returns c = one_text
