use Rattle.std.proofs.Common.{◌≡◌, ℕ, ◌≤◌, rules, List, length, sym, ap, subst, ◌∙◌, arith}
use Rattle.std.proofs.lemmas.List.{length-map}
use Rattle.chunk_sections.specs.Section.{kind_of, section_words}
use Rattle.chunk_sections.proofs.SectionLemmas.{section_words-few}
use Rattle.chunk_sections.proofs.section.Section.words.Goals as goal

pub returns-clause-few : goal.returns-clause-few
returns-clause-few c =
    let long = sym (ap length c.self.view_is) ∙ length-map c.self.inside.cells.numbers (kind_of c.self.inside.palette) in
    let few = section_words-few c.args.self.now (omega (arith, long, c.self.invariant.few)) in
    let same : c.words.result.now ≡ section_words c.args.self.now = search rules in
    subst (λ (ws : List ℕ). length ws ≤ 4096) (sym same) few
