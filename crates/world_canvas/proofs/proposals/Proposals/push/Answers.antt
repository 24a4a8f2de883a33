use Rattle.std.proofs.Common.{List, [], ◌∷◌, ◌++◌, ap, sym, subst, ◌∙◌}
use Rattle.world_canvas.specs.declared.proposals.NumberedProposal.{NumberedProposal}
use Rattle.world_canvas.specs.Proposals.{Proposal, proposals_shown, AreNamed}
use Rattle.world_canvas.proofs.ProposalLemmas.{pushed, pushed_named}
use Rattle.world_canvas.proofs.proposals.Proposals.push.Goals as goal

pub invariant_of-self-2 : goal.invariant_of-self-2
invariant_of-self-2 c =
    subst (λ (ps : List NumberedProposal). AreNamed c.number.new.self ps) (sym (c.in_ok-push.ensures.items ∙ ap (λ (ps : List NumberedProposal). ps ++ record { index = c.args.index; number = c.in_ok-number.number } ∷ []) c.in_ok-try_reserve.ensures.items))
    (pushed_named c.self.inside.kinds c.number.new.self c.self.inside.items.items c.args.index c.in_ok-number.number c.args.content c.in_ok-number.ensures.kept c.self.invariant c.in_ok-number.ensures.named)

pub returns-clause-added : goal.returns-clause-added
returns-clause-added c =
    ap (proposals_shown c.number.new.self) (c.in_ok-push.ensures.items ∙ ap (λ (ps : List NumberedProposal). ps ++ record { index = c.args.index; number = c.in_ok-number.number } ∷ []) c.in_ok-try_reserve.ensures.items)
    ∙ pushed c.self.inside.kinds c.number.new.self c.self.inside.items.items c.args.index c.in_ok-number.number c.args.content c.in_ok-number.ensures.kept c.self.invariant c.in_ok-number.ensures.named
    ∙ ap (λ (ps : List Proposal). ps ++ record { index = c.args.index; content = c.args.content } ∷ []) c.self.view_is
