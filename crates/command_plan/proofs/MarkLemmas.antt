-- What is marked, row by row and command by command.
use Rattle.std.proofs.Common.{◌≡◌, ℕ, zero, suc, cond, ◌+◌, ◌-◌, ◌*◌, ◌/◌, ◌%◌, ◌<◌, ◌≤◌, ◌⊎◌, inl, inr, Bool, true, false, ◌&&◌, ◌||◌, List, [], ◌∷◌, ◌++◌, length, take, get_or, refl, sym, ◌∙◌, ap, subst, arith}
use Rattle.std.specs.Prelude.{nat_le, nat_lt, count_by, filter}
use Rattle.std.specs.List.{list_any, range_with_len}
use Rattle.std.proofs.Math.Seq.{take-length}
use Rattle.std.proofs.lemmas.List.Sums.{count_by_more_yes, count_by_more_no, count_by-le-length}
use Rattle.std.proofs.Math.Nat.{mul-le-mul}
use Rattle.std.proofs.lemmas.Bool.{cases_lt}
use Rattle.std.proofs.lemmas.Bool.Decides.{nat_tests}
use Rattle.std.proofs.lemmas.List.{take_more, length-append}
use Rattle.std.proofs.lemmas.List.Folds.{list_any-append}
use Rattle.std.proofs.lemmas.Nat.{div-add-mod', mod_below}
use Rattle.command_plan.specs.declared.footprint.Footprint.{Footprint}
use Rattle.command_plan.specs.declared.rectangle.Run.{Run}
use Rattle.command_plan.specs.Rectangles.{covers, is_in_set, IsRunWithin}
use Rattle.command_plan.specs.ResolvedScripts.{is_written, footprint_at, marked}
use Rattle.command_plan.proofs.ListingLemmas.{filter_more}

pub or_again : (a b c : Bool) → ((a || b) || c) ≡ (a || (b || c))
or_again true b c = refl
or_again false b c = refl

pub or_end : (b : Bool) → (b || false) ≡ b
or_end true = refl
or_end false = refl

-- one row more, by plain numbers: of a chunk the column m and the row q, of the rectangle the columns xf to xt and the
-- rows from zf on, and the row that is marked with the index at which it begins
row_here : (xf xt zf row q m k start : ℕ) → zf ≤ row → q ≡ row → k ≡ start + m
    → ((nat_le xf m && nat_lt m xt) && (nat_le zf q && nat_lt q (row + 1))) ≡ (((nat_le xf m && nat_lt m xt) && (nat_le zf q && nat_lt q row)) || (nat_le (xf + start) k && nat_lt k (xt + start)))
row_here xf xt zf row q m k start a b c = grind (arith, nat_tests)

row_earlier : (xf xt zf row q m k start : ℕ) → q < row → k < start
    → ((nat_le xf m && nat_lt m xt) && (nat_le zf q && nat_lt q (row + 1))) ≡ (((nat_le xf m && nat_lt m xt) && (nat_le zf q && nat_lt q row)) || (nat_le (xf + start) k && nat_lt k (xt + start)))
row_earlier xf xt zf row q m k start a b = grind (arith, nat_tests)

row_later : (xf xt zf row q m k start : ℕ) → row < q → xt + start ≤ k
    → ((nat_le xf m && nat_lt m xt) && (nat_le zf q && nat_lt q (row + 1))) ≡ (((nat_le xf m && nat_lt m xt) && (nat_le zf q && nat_lt q row)) || (nat_le (xf + start) k && nat_lt k (xt + start)))
row_later xf xt zf row q m k start a b = grind (arith, nat_tests)

pub row_more : (columns : ℕ) (x : Run) (zf row k : ℕ) → 0 < columns → IsRunWithin x columns → zf ≤ row
    → covers columns (record { x = x; z = record { from = zf; to = row + 1 } }) k
    ≡ (covers columns (record { x = x; z = record { from = zf; to = row } }) k || (nat_le (x.from + row * columns) k && nat_lt k (x.to + row * columns)))
row_more columns x zf row k some within from =
    let q = k / columns in let m = k % columns in
    let whole : q * columns + m ≡ k = div-add-mod' k columns in
    let rest : m < columns = mod_below k columns some in
    let end = within.within in
    elim (cases_lt q row) as (λ _. covers columns (record { x = x; z = record { from = zf; to = row + 1 } }) k
    ≡ (covers columns (record { x = x; z = record { from = zf; to = row } }) k || (nat_le (x.from + row * columns) k && nat_lt k (x.to + row * columns)))) [
      | inl earlier ↦
          let above : (q + 1) * columns ≤ row * columns = mul-le-mul (omega (arith, earlier)) (omega arith) in
          let next : (q + 1) * columns ≡ q * columns + columns = omega arith in
          row_earlier x.from x.to zf row q m k (row * columns) earlier (omega (arith, above, next, whole, rest))
      | inr not_earlier ↦ elim (cases_lt row q) as (λ _. covers columns (record { x = x; z = record { from = zf; to = row + 1 } }) k
          ≡ (covers columns (record { x = x; z = record { from = zf; to = row } }) k || (nat_le (x.from + row * columns) k && nat_lt k (x.to + row * columns)))) [
            | inl later ↦
                let above : (row + 1) * columns ≤ q * columns = mul-le-mul (omega (arith, later)) (omega arith) in
                let next : (row + 1) * columns ≡ row * columns + columns = omega arith in
                row_later x.from x.to zf row q m k (row * columns) later (omega (arith, above, next, whole, end))
            | inr not_later ↦
                let same : q ≡ row = omega (arith, not_earlier, not_later) in
                let place : k ≡ row * columns + m = subst (λ (n : ℕ). k ≡ n * columns + m) same (sym whole) in
                row_here x.from x.to zf row q m k (row * columns) from same place
          ]
    ]

-- ---- tests over lists

pub any_more : {X : Type 0} (test : X → Bool) (xs : List X) (i : ℕ) (d : X) → i < length xs → list_any test (take (i + 1) xs) ≡ (list_any test (take i xs) || test (get_or xs i d))
any_more test xs i d within =
    ap (list_any test) (take_more xs i d within)
    ∙ list_any-append test (take i xs) (get_or xs i d ∷ [])
    ∙ ap (λ (b : Bool). list_any test (take i xs) || b) (or_end (test (get_or xs i d)))

-- a command more
pub written_more : (columns : ℕ) (fs : List Footprint) (commands : List ℕ) (i k : ℕ) (old mid new : Bool) → i < length commands
    → mid ≡ (old || is_written columns fs (take i commands) k) → new ≡ (mid || is_in_set columns (footprint_at fs (get_or commands i 0)).writes k)
    → new ≡ (old || is_written columns fs (take (i + 1) commands) k)
written_more columns fs commands i k old mid new within earlier here =
    here
    ∙ ap (λ (b : Bool). b || is_in_set columns (footprint_at fs (get_or commands i 0)).writes k) earlier
    ∙ or_again old (is_written columns fs (take i commands) k) (is_in_set columns (footprint_at fs (get_or commands i 0)).writes k)
    ∙ ap (λ (b : Bool). old || b) (sym (any_more (λ n. is_in_set columns (footprint_at fs n).writes k) commands i 0 within))

-- ---- how many are marked

count_step : (marks : List Bool) (n : ℕ) (b : Bool) → n < length marks → get_or marks n false ≡ b
    → count_by (λ mark. mark) (take (n + 1) marks) ≡ count_by (λ mark. mark) (take n marks) + length (cond b (n ∷ []) [])
count_step marks n true within is = count_by_more_yes (λ mark. mark) marks n false within is
count_step marks n false within is = count_by_more_no (λ mark. mark) marks n false within is ∙ omega arith

marked_below : (marks : List Bool) (n : ℕ) → n ≤ length marks → count_by (λ mark. mark) (take n marks) ≡ length (filter (λ k. get_or marks k false) (range_with_len 0 n))
marked_below marks zero within = refl
marked_below marks (suc n) within =
    let next : suc n ≡ n + 1 = omega arith in
    let earlier = marked_below marks n (omega (arith, within)) in
    ap (λ (m : ℕ). count_by (λ mark. mark) (take m marks)) next
    ∙ count_step marks n (get_or marks n false) (omega (arith, within)) refl
    ∙ ap (λ (m : ℕ). m + length (cond (get_or marks n false) (n ∷ []) [])) earlier
    ∙ sym (length-append (filter (λ k. get_or marks k false) (range_with_len 0 n)) (cond (get_or marks n false) (n ∷ []) []))
    ∙ ap (λ (ns : List ℕ). length ns) (sym (filter_more (λ k. get_or marks k false) 0 n n (omega arith)))
    ∙ ap (λ (m : ℕ). length (filter (λ k. get_or marks k false) (range_with_len 0 m))) (sym next)

pub marked_counted : (marks : List Bool) → count_by (λ mark. mark) marks ≡ length (marked marks)
marked_counted marks = ap (λ (ms : List Bool). count_by (λ mark. mark) ms) (sym (take-length marks)) ∙ marked_below marks (length marks) (omega arith)

pub few_marked : (marks : List Bool) → count_by (λ mark. mark) marks ≤ length marks
few_marked marks = count_by-le-length (λ mark. mark) marks
