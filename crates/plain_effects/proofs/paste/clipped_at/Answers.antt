use Rattle.plain_effects.proofs.PasteLemmas.{had_there}
use Rattle.plain_effects.proofs.paste.clipped_at.Goals as goal

pub returns : goal.returns
returns c = had_there c.args.clip.now c.args.earlier.now _ _ _ c.in_ok-content.content c.new.ensures c.relative_to-relative.ensures c.in_ok-content.ensures
