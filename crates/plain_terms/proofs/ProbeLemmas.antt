-- One sign more before a leaf.
use Rattle.std.proofs.Common.{◌≡◌, ℕ, ◌+◌, ◌<◌, Bool, true, false, List, ◌∷◌, length, get_or, drop, ℤ, pos, negsuc, ◌+ℤ◌, ◌-ℤ◌, ◌≤ℤ◌, refl, sym, ap, ◌∙◌, subst, arith}
use Rattle.std.specs.Prelude.{not, suc}
use Rattle.std.proofs.lemmas.Int.{ints}
use Rattle.std.proofs.Math.Seq.{drop-cons}
use Rattle.std.proofs.lemmas.List.{drop_all}
use Rattle.edit_terms.specs.declared.pos.Pos.{Pos}
use Rattle.edit_terms.specs.declared.mask.Sign.{Sign}
use Rattle.edit_terms.specs.declared.mask.Sign.TheVariants.{Not, Below, Above}
use Rattle.edit_terms.specs.declared.mask.Leaf.{Leaf}
use Rattle.edit_terms.specs.Mask.{Scene, signs_hold}
use Rattle.plain_terms.specs.declared.probe.Probe.{Probe}
use Rattle.plain_terms.specs.Probes.{at_height, probe_after, answered, IsProbe, IsProbeSoFar}

answered-not : (b answer : Bool) → answered b (not answer) ≡ answered (not b) answer
answered-not true true = refl
answered-not true false = refl
answered-not false answer = refl

-- one sign is taken from those that are left
step : (sign : Sign) (rest : List Sign) (p : Pos) (s : Probe) (leaf : Leaf) (number : ℕ) (scene : Scene)
    → answered s.is_negated (signs_hold (sign ∷ rest) leaf number scene (at_height p s.height)) ≡ answered (probe_after sign s).is_negated (signs_hold rest leaf number scene (at_height p (probe_after sign s).height))
step Not rest p s leaf number scene = answered-not s.is_negated (signs_hold rest leaf number scene (at_height p s.height))
step Below rest p s leaf number scene = refl
step Above rest p s leaf number scene = refl

low_after : (sign : Sign) (s : Probe) (count : ℕ) → (negsuc 2147483647 -ℤ pos count) ≤ℤ s.height → (negsuc 2147483647 -ℤ pos (count + 1)) ≤ℤ (probe_after sign s).height
low_after Not s count low = omega (arith, ints, low)
low_after Below s count low = omega (arith, ints, low)
low_after Above s count low = omega (arith, ints, low)

high_after : (sign : Sign) (s : Probe) (count : ℕ) → s.height ≤ℤ (pos 2147483648 +ℤ pos count) → (probe_after sign s).height ≤ℤ (pos 2147483648 +ℤ pos (count + 1))
high_after Not s count high = omega (arith, ints, high)
high_after Below s count high = omega (arith, ints, high)
high_after Above s count high = omega (arith, ints, high)

one_more : (signs : List Sign) (count : ℕ) (p : Pos) (s : Probe) (sign : Sign) → IsProbeSoFar signs count p s → count < length signs → sign ≡ get_or signs count sign
    → IsProbeSoFar signs (count + 1) p (probe_after sign s)
one_more signs count p s sign so_far within is =
    let next : suc count ≡ count + 1 = omega arith in
    record {
      same = λ leaf number scene.
          so_far.same leaf number scene
          ∙ ap (λ (left : List Sign). answered s.is_negated (signs_hold left leaf number scene (at_height p s.height))) (drop-cons signs count sign within)
          ∙ ap (λ (first : Sign). answered s.is_negated (signs_hold (first ∷ drop (suc count) signs) leaf number scene (at_height p s.height))) (sym is)
          ∙ step sign (drop (suc count) signs) p s leaf number scene
          ∙ ap (λ (n : ℕ). answered (probe_after sign s).is_negated (signs_hold (drop n signs) leaf number scene (at_height p (probe_after sign s).height))) next;
      low = low_after sign s count so_far.low;
      high = high_after sign s count so_far.high;
    }

pub probe_more : (signs : List Sign) (count : ℕ) (p : Pos) (s after : Probe) (sign : Sign) → after ≡ probe_after sign s → IsProbeSoFar signs count p s → count < length signs → sign ≡ get_or signs count sign
    → IsProbeSoFar signs (count + 1) p after
probe_more signs count p s after sign done so_far within is = subst (IsProbeSoFar signs (count + 1) p) (sym done) (one_more signs count p s sign so_far within is)

-- before the first sign
pub probe_start : (signs : List Sign) (p : Pos) (s : Probe) → s.is_negated ≡ false → s.height ≡ p.y → negsuc 2147483647 ≤ℤ s.height → s.height ≤ℤ pos 2147483648 → IsProbeSoFar signs 0 p s
probe_start signs p s upright height low high = record {
  same = λ leaf number scene.
      sym (ap (λ (b : Bool). answered b (signs_hold signs leaf number scene (at_height p s.height))) upright
      ∙ ap (λ (h : ℤ). signs_hold signs leaf number scene (at_height p h)) height);
  low = omega (arith, ints, low);
  high = omega (arith, ints, high);
}

-- at the end no sign is left
pub probe_done : (signs : List Sign) (count : ℕ) (p : Pos) (s : Probe) → IsProbeSoFar signs count p s → count ≡ length signs → IsProbe signs p s
probe_done signs count p s so_far all = record {
  same = λ leaf number scene.
      so_far.same leaf number scene
      ∙ ap (λ (left : List Sign). answered s.is_negated (signs_hold left leaf number scene (at_height p s.height))) (drop_all count signs (omega (arith, all)));
}
