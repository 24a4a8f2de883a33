use Rattle.std.proofs.Common.{◌++◌, ◌∷◌, [], ℕ, List, sym, ap, ◌∙◌}
use Rattle.std.proofs.lemmas.Result.{on_ok_weaker}
use Rattle.nbt_tags.specs.declared.tag.Tag.{Tag}
use Rattle.nbt_tags.specs.declared.tag.Named.{Named}
use Rattle.nbt_tags.specs.Written.{array_bytes, written_payload, written_row}
use Rattle.nbt_tags.proofs.WrittenTags.{payload_List, payload_Compound}
use Rattle.nbt_tags.proofs.write.+put.Goals as goal

pub put_payload-returns-in-List : goal.put_payload-returns-in-List
put_payload-returns-in-List t c =
    let element = c.in-List.element in
    let same = ap (λ (items : List Tag). element ∷ array_bytes written_payload items) c.as_slice-in-List.ensures
    ∙ sym (payload_List element c.in-List.items) ∙ ap (λ (tag : Tag). written_payload tag) (sym c.in-List.is) in
    on_ok_weaker c.put_list.result (λ e. e ∙ ap (λ (part : List ℕ). c.args.out.now.items ++ part) same) c.put_list.ensures

pub put_payload-returns-in-Compound : goal.put_payload-returns-in-Compound
put_payload-returns-in-Compound t c =
    let same = ap (λ (row : List Named). written_row row ++ 0 ∷ []) c.as_slice-in-Compound.ensures
    ∙ sym (payload_Compound c.in-Compound.row) ∙ ap (λ (tag : Tag). written_payload tag) (sym c.in-Compound.is) in
    on_ok_weaker c.put_compound.result (λ e. e ∙ ap (λ (part : List ℕ). c.args.out.now.items ++ part) same) c.put_compound.ensures
