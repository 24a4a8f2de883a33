-- What the limits of a resolved command say of its job: few noise leaves, few copies, and a clipboard from the map.
use Rattle.std.proofs.Common.{◌≡◌, ℕ, ◌+◌, ◌≤◌, true, ◌&&◌, List, [], ◌∷◌, Option, Some, None, refl, sym, ap, ◌∙◌, arith}
use Rattle.std.specs.Prelude.{IfSome, nat_le, sum_by}
use Rattle.std.specs.List.{list_all}
use Rattle.std.proofs.lemmas.Bool.{and_parts, leb-true}
use Rattle.std.proofs.lemmas.List.Sums.{sum_by-cons}
use Rattle.edit_terms.specs.declared.clip.Clip.{Clip}
use Rattle.edit_terms.specs.declared.mask.Mask.{Mask}
use Rattle.edit_terms.specs.declared.mask.Term.{Term}
use Rattle.edit_terms.specs.declared.step.Spec.{Spec}
use Rattle.edit_terms.specs.declared.step.Work.{Work}
use Rattle.edit_terms.specs.declared.step.Work.TheVariants.{Fill, Stack, Move}
use Rattle.clipboard_transform.specs.Bounds.{IsOnMap}
use Rattle.clipboard_transform.proofs.MapLemmas.{on_map}
use Rattle.edit_terms.specs.Mask.{noise_leaves}
use Rattle.plain_effects.specs.Jobs.{mask_of, copies_of, HasFewNoise, HasFewCopies}
use Rattle.plain_terms.specs.Numbering.{noise_count, mask_noise}
use Rattle.run_terms.specs.Limits.{is_count, is_leaf_within, is_mask_within, is_optional_mask_within, is_pattern_within}
use Rattle.run_terms.specs.SessionLimits.{is_selection_within, is_region_within, is_work_within, IsClipWithin, IsSpecWithin}
use Rattle.run_terms.proofs.LimitLemmas.{not_above}

noise_is_sum : (terms : List Term) → noise_count terms ≡ sum_by (λ (t : Term). noise_leaves t.leaf) terms
noise_is_sum [] = refl
noise_is_sum (t ∷ terms) = ap (λ (n : ℕ). noise_leaves t.leaf + n) (noise_is_sum terms) ∙ sym (sum_by-cons (λ (u : Term). noise_leaves u.leaf) t terms)

few_noise : (mask : Option Mask) → is_optional_mask_within mask ≡ true → mask_noise mask ≤ 4
few_noise None h = omega arith
few_noise (Some mask) h =
    let noise = sum_by (λ (t : Term). noise_leaves t.leaf) mask.terms in
    let few = leb-true noise 4 (and_parts (nat_le noise 4) (list_all (λ (t : Term). is_leaf_within t.leaf) mask.terms) h).0 in
    omega (arith, few, noise_is_sum mask.terms)

own_noise : (work : Work) → is_work_within work ≡ true → mask_noise (mask_of work) ≤ 4
own_noise (Fill region mask pattern) h =
    few_noise mask (and_parts (is_region_within region) (is_optional_mask_within mask) (and_parts (is_region_within region && is_optional_mask_within mask) (is_pattern_within pattern) h).0).1
own_noise work h = omega arith

own_copies : (work : Work) → is_work_within work ≡ true → copies_of work ≤ 1000
own_copies (Stack from count to) h = not_above 1 1000 count (and_parts (is_selection_within from) (is_count count) h).1
own_copies (Move from count to) h = not_above 1 1000 count (and_parts (is_selection_within from) (is_count count) h).1
own_copies work h = omega arith

own_origin : (clip : Option Clip) → IfSome clip IsClipWithin → IfSome clip (λ c. IsOnMap c.origin)
own_origin None h = tt
own_origin (Some clip) h = on_map clip.origin h.origin

pub few_noise_leaves : (spec : Spec) → IsSpecWithin spec → HasFewNoise spec
few_noise_leaves spec h = record { mask = own_noise spec.work h.work; global = few_noise spec.global h.global }

pub few_copies : (spec : Spec) → IsSpecWithin spec → HasFewCopies spec.work
few_copies spec h = own_copies spec.work h.work

pub copied_on_map : (spec : Spec) → IsSpecWithin spec → IfSome spec.clip (λ c. IsOnMap c.origin)
copied_on_map spec h = own_origin spec.clip h.clip
