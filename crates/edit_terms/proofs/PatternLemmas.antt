-- Which entry a pattern's random word chooses: always one of its own, and of one entry that one.
use Rattle.std.proofs.Common.{◌≡◌, ℕ, ◌+◌, ◌*◌, ◌^◌, ◌<◌, true, false, cond, ltb, suc, List, [], ◌∷◌, length, Option, Some, None, refl, subst, sym, ap, ◌∙◌, arith}
use Rattle.std.specs.Prelude.{sum_by, is_some, IfSome, All, Contains}
use Rattle.std.specs.Option.{option_map_or}
use Rattle.std.proofs.lemmas.List.Sums.{sum_by-cons}
use Rattle.std.proofs.Math.Nat.{mul_comm}
use Rattle.std.proofs.lemmas.Bool.{lt-ltb}
use Rattle.std.proofs.lemmas.Nat.{mod_below}
use Rattle.std.proofs.Math.Nat.{mul-lt-mul_of_pos_right}
use Rattle.rand_chacha.specs.Block.{block_word}
use Rattle.edit_terms.specs.declared.pos.Pos.{Pos}
use Rattle.edit_terms.specs.declared.pattern.Entry.{Entry}
use Rattle.edit_terms.specs.declared.pattern.Pattern.{Pattern}
use Rattle.edit_terms.specs.Draw.{draw_word, pattern_use}
use Rattle.edit_terms.specs.Pattern.{chosen_from, chosen_entry, placed, pattern_value}
use Rattle.edit_terms.specs.World.{BlockContent}
use Rattle.edit_terms.specs.Clipboard.{CopiedBlocks}

-- a word has 32 bits
pub draw_word-below : (seed ticket use_number : ℕ) (p : Pos) → draw_word seed ticket use_number p < 2 ^ 32
unfolding block_word
draw_word-below seed ticket use_number p = mod_below _ (2 ^ 32) (omega arith)

-- the only entry is chosen by each word
pub chosen_entry-one : (word : ℕ) (e : Entry) → word < 2 ^ 32 → 0 < e.weight → chosen_entry word (e ∷ []) ≡ Some e
chosen_entry-one word e below some =
    let times : word * e.weight < 2 ^ 32 * e.weight = mul-lt-mul_of_pos_right below some in
    let less : word * (0 + e.weight) < (0 + e.weight) * 2 ^ 32 = omega (arith, times) in
    let test : ltb (word * (0 + e.weight)) ((0 + e.weight) * 2 ^ 32) ≡ true = lt-ltb (word * (0 + e.weight)) ((0 + e.weight) * 2 ^ 32) less in
    rw test refl

pub pattern_value-one : (pattern : Pattern) (e : Entry) (copied : CopiedBlocks) (seed ticket : ℕ) (p : Pos) (old : BlockContent) → pattern.entries ≡ e ∷ [] → 0 < e.weight → pattern_value pattern copied seed ticket p old ≡ placed copied p e.value old
pattern_value-one pattern e copied seed ticket p old only some =
    ap (λ (es : List Entry). option_map_or (λ f. placed copied p f.value old) (chosen_entry (draw_word seed ticket pattern_use p) es) old) only
    ∙ ap (λ (o : Option Entry). option_map_or (λ f. placed copied p f.value old) o old) (chosen_entry-one (draw_word seed ticket pattern_use p) e (draw_word-below seed ticket pattern_use p) some)

-- below the last running sum some entry is chosen
some_from : (word total sum : ℕ) (e : Entry) (es : List Entry) → sum + sum_by (λ (f : Entry). f.weight) (e ∷ es) ≡ total → word * total < total * 2 ^ 32 → is_some (chosen_from word total sum (e ∷ es)) ≡ true
some_from word total sum e [] sums below =
    let all : sum_by (λ (f : Entry). f.weight) (e ∷ []) ≡ e.weight + 0 = sum_by-cons (λ (f : Entry). f.weight) e [] in
    let last : sum + e.weight ≡ total = omega (arith, sums, all) in
    let less : word * total < (sum + e.weight) * 2 ^ 32 = subst (λ n. word * total < n * 2 ^ 32) (sym last) below in
    ap (λ b. is_some (cond b (Some e) None)) (lt-ltb (word * total) ((sum + e.weight) * 2 ^ 32) less)
some_from word total sum e (f ∷ es) sums below =
    let all : sum_by (λ (g : Entry). g.weight) (e ∷ f ∷ es) ≡ e.weight + sum_by (λ (g : Entry). g.weight) (f ∷ es) = sum_by-cons (λ (g : Entry). g.weight) e (f ∷ es) in
    let rest : sum + e.weight + sum_by (λ (g : Entry). g.weight) (f ∷ es) ≡ total = omega (arith, sums, all) in
    elim (ltb (word * total) ((sum + e.weight) * 2 ^ 32)) as (λ b. is_some (cond b (Some e) (chosen_from word total (sum + e.weight) (f ∷ es))) ≡ true) [
      | true ↦ refl
      | false ↦ some_from word total (sum + e.weight) f es rest below
    ]

-- a word of 32 bits chooses an entry where there is one and weights are positive
pub chosen_entry-some : (word : ℕ) (entries : List Entry) → word < 2 ^ 32 → 0 < length entries → All (λ e. 0 < e.weight) entries → is_some (chosen_entry word entries) ≡ true
chosen_entry-some word [] below some weights = absurd (omega (arith, some))
chosen_entry-some word (e ∷ es) below some weights =
    let first : 0 < e.weight = weights 0 e (omega arith) in
    let all : sum_by (λ (f : Entry). f.weight) (e ∷ es) ≡ e.weight + sum_by (λ (f : Entry). f.weight) es = sum_by-cons (λ (f : Entry). f.weight) e es in
    let total : 0 < sum_by (λ (f : Entry). f.weight) (e ∷ es) = omega (arith, all, first) in
    let times : word * sum_by (λ (f : Entry). f.weight) (e ∷ es) < 2 ^ 32 * sum_by (λ (f : Entry). f.weight) (e ∷ es) = mul-lt-mul_of_pos_right below total in
    let turned : 2 ^ 32 * sum_by (λ (f : Entry). f.weight) (e ∷ es) ≡ sum_by (λ (f : Entry). f.weight) (e ∷ es) * 2 ^ 32 = mul_comm (2 ^ 32) (sum_by (λ (f : Entry). f.weight) (e ∷ es)) in
    some_from word (sum_by (λ (f : Entry). f.weight) (e ∷ es)) 0 e es (omega arith) (subst (λ n. word * sum_by (λ (f : Entry). f.weight) (e ∷ es) < n) turned times)

-- the entry that is chosen stands at a place of the list
pub chosen_among : (word total sum : ℕ) (es : List Entry) → IfSome (chosen_from word total sum es) (Contains es)
chosen_among word total sum [] = tt
chosen_among word total sum (e ∷ es) =
    elim (ltb (word * total) ((sum + e.weight) * 2 ^ 32)) as (λ b. IfSome (cond b (Some e) (chosen_from word total (sum + e.weight) es)) (Contains (e ∷ es))) [
      | true ↦ (0, omega arith, refl)
      | false ↦ later (chosen_from word total (sum + e.weight) es) (chosen_among word total (sum + e.weight) es)
    ]
  where
    later : (o : Option Entry) → IfSome o (Contains es) → IfSome o (Contains (e ∷ es))
    later None h = tt
    later (Some f) h = let within = h.1 in (suc h.0, omega (arith, within), h.2)
