-- Tickets and command ids name each other.
use Rattle.std.proofs.Common.{◌≡◌, ℕ, zero, suc, ◌+◌, ◌<◌, eqb, cond, Bool, true, false, List, [], ◌∷◌, take, get_or, refl, sym, ap, ◌∙◌, subst, arith}
use Rattle.std.proofs.lemmas.Bool.{eq-eqb}
use Rattle.std.proofs.lemmas.List.Sums.{sum_by-cons}
use Rattle.run_terms.specs.Order.{turns_of, ticket_from, AreTicketsNamed}

-- one more entry at the front counts where it is the player's
pub turns_of-cons : (player p : ℕ) (ps : List ℕ) → turns_of player (p ∷ ps) ≡ cond (eqb p player) 1 0 + turns_of player ps
turns_of-cons player p ps = sum_by-cons (λ (q : ℕ). cond (eqb q player) 1 0) p ps

-- a command that the player had before a ticket has an earlier ticket
behind : (ps : List ℕ) (player step : ℕ) (mine : Bool) (t : ℕ) → step < cond mine 1 0 + turns_of player (take t ps)
    → ((n : ℕ) → n < turns_of player (take t ps) → ticket_from ps player n < t) → (p : ℕ) → eqb p player ≡ mine → ticket_from (p ∷ ps) player step < suc t
behind ps player zero true t within later p is = subst (λ (b : Bool). cond b 0 (suc (ticket_from ps player zero)) < suc t) (sym is) (omega arith)
behind ps player zero false t within later p is =
    let below : ticket_from ps player zero < t = later zero (omega (arith, within)) in
    subst (λ (b : Bool). cond b 0 (suc (ticket_from ps player zero)) < suc t) (sym is) (omega (arith, below))
behind ps player (suc step) true t within later p is =
    let below : ticket_from ps player step < t = later step (omega (arith, within)) in
    subst (λ (b : Bool). suc (ticket_from ps player (cond b step (suc step))) < suc t) (sym is) (omega (arith, below))
behind ps player (suc step) false t within later p is =
    let below : ticket_from ps player (suc step) < t = later (suc step) (omega (arith, within)) in
    subst (λ (b : Bool). suc (ticket_from ps player (cond b step (suc step))) < suc t) (sym is) (omega (arith, below))

pub ticket_from-earlier : (order : List ℕ) (player step t : ℕ) → step < turns_of player (take t order) → ticket_from order player step < t
ticket_from-earlier order player step zero within = absurd (omega (arith, within))
ticket_from-earlier [] player step (suc t) within = absurd (omega (arith, within))
ticket_from-earlier (p ∷ ps) player step (suc t) within =
    behind ps player step (eqb p player) t (omega (arith, within, turns_of-cons player p (take t ps))) (λ n below. ticket_from-earlier ps player n t below) p refl

-- a ticket is that of its command id
named_behind : (ps : List ℕ) (player n t : ℕ) (mine : Bool) → ticket_from ps player n ≡ t → (p : ℕ) → eqb p player ≡ mine → ticket_from (p ∷ ps) player (cond mine 1 0 + n) ≡ suc t
named_behind ps player n t true same p is =
    let e : 1 + n ≡ suc n = omega arith in
    ap (λ (m : ℕ). ticket_from (p ∷ ps) player m) e ∙ ap (λ (b : Bool). suc (ticket_from ps player (cond b n (suc n)))) is ∙ ap suc same
named_behind ps player zero t false same p is = ap (λ (b : Bool). cond b 0 (suc (ticket_from ps player zero))) is ∙ ap suc same
named_behind ps player (suc n) t false same p is =
    let e : 0 + suc n ≡ suc n = omega arith in
    ap (λ (m : ℕ). ticket_from (p ∷ ps) player m) e ∙ ap (λ (b : Bool). suc (ticket_from ps player (cond b n (suc n)))) is ∙ ap suc same

pub ticket_of-source_of : (order : List ℕ) → AreTicketsNamed order
ticket_of-source_of [] t within = absurd (omega (arith, within))
ticket_of-source_of (p ∷ ps) zero within = ap (λ (b : Bool). cond b 0 (suc (ticket_from ps p zero))) (eq-eqb p p refl)
ticket_of-source_of (p ∷ ps) (suc t) within =
    let player : ℕ = get_or ps t 0 in
    ap (λ (n : ℕ). ticket_from (p ∷ ps) player n) (turns_of-cons player p (take t ps))
    ∙ named_behind ps player (turns_of player (take t ps)) t (eqb p player) (ticket_of-source_of ps t (omega (arith, within))) p refl
