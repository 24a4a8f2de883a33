-- A player's name has no space and no line feed, and tells its player from the others.
use Rattle.std.proofs.Common.{◌≡◌, ℕ, zero, suc, ◌<◌, Bool, true, false, eqb, List, [], ◌∷◌, length, take, get_or, Option, refl, sym, ap, ◌∙◌, arith}
use Rattle.std.specs.Prelude.{All, ◌&&◌, bytes_eq}
use Rattle.std.specs.List.{list_any, list_all}
use Rattle.std.specs.Option.{option_map_or}
use Rattle.std.proofs.lemmas.Bool.{ne_eqb}
use Rattle.std.proofs.lemmas.List.{get_or-take, length-take-le, get_or_default}
use Rattle.std.proofs.lemmas.List.Elements.{All-weaker, All-nil, All-head, All-tail}
use Rattle.std.proofs.lemmas.List.Folds.{list_any_at}
use Rattle.std.proofs.lemmas.List.Sums.{AllPass-from_list_all, position_or_len_is}
use Rattle.std.proofs.lemmas.Option.{slice_get_read}
use Rattle.std.proofs.lemmas.Slice.Eq.{bytes_eq-Decides}
use Rattle.edit_terms.specs.declared.script.Script.{Script}
use Rattle.run_terms.specs.Limits.{is_one_of}
use Rattle.command_syntax.specs.Player.{is_name_byte, is_player_name}
use Rattle.edit_top.specs.Reading.{has_player}
use Rattle.edit_top.specs.RunText.{name_of}
use Rattle.edit_top.specs.ShownOrder.{AreNamed, player_of_name}
use Rattle.edit_top.proofs.Pieces.{IsWithout}

second_true : (a b : Bool) → (a && b) ≡ true → b ≡ true
second_true true b e = e
second_true false b e = absurd cc

-- a byte that no name has
name_without : (byte : ℕ) → is_name_byte byte ≡ false → (name : List ℕ) → is_player_name name ≡ true → IsWithout byte name
name_without byte apart name is =
    let each = AllPass-from_list_all is_name_byte name (second_true (is_one_of 1 16 (length name)) (list_all is_name_byte name) is) in
    All-weaker (λ b. is_name_byte b ≡ true) (λ b. eqb b byte ≡ false) other name each
  where
    other : (b : ℕ) → is_name_byte b ≡ true → eqb b byte ≡ false
    other b stands = ne_eqb b byte (λ same. let both : true ≡ false = sym stands ∙ ap is_name_byte same ∙ apart in absurd cc)

-- nor has what stands as the name of a number
pub name_of_without : (byte : ℕ) → is_name_byte byte ≡ false → (scripts : List Script) → All (λ script. is_player_name script.player ≡ true) scripts → (player : ℕ) → IsWithout byte (name_of scripts player)
name_of_without byte apart [] named player = All-nil (λ b. eqb b byte ≡ false)
name_of_without byte apart (s ∷ ss) named zero = name_without byte apart s.player (All-head (λ script. is_player_name script.player ≡ true) s ss named)
name_of_without byte apart (s ∷ ss) named (suc player) = name_of_without byte apart ss (All-tail (λ script. is_player_name script.player ≡ true) s ss named) player

-- where no element passes, each fails
module _ {X : Type 0} (test : X → Bool) (xs : List X) where
  fails_by : (b : Bool) (i : ℕ) (d : X) → list_any test xs ≡ false → i < length xs → test (get_or xs i d) ≡ b → b ≡ false
  fails_by true i d none within is = sym (list_any_at test xs i d within is) ∙ none
  fails_by false i d none within is = refl

  fails_each : (i : ℕ) (d : X) → list_any test xs ≡ false → i < length xs → test (get_or xs i d) ≡ false
  fails_each i d none within = fails_by (test (get_or xs i d)) i d none within refl

-- the first script of a player's name, where no earlier one has it
first_of_name : (scripts : List Script) (p : ℕ) (d : Script) → p < length scripts → has_player (take p scripts) (get_or scripts p d).player ≡ false → player_of_name scripts (get_or scripts p d).player ≡ p
first_of_name scripts p d within new =
    let name = (get_or scripts p d).player in
    let test = λ (s : Script). bytes_eq s.player name in
    position_or_len_is test scripts p d (omega (arith, within))
    (λ k below.
    let inside : k < length (take p scripts) = omega (arith, below, length-take-le p scripts (omega (arith, within))) in
    ap test (sym (get_or-take p scripts k d below)) ∙ fails_each test (take p scripts) k d new inside)
    (λ _. (bytes_eq-Decides name name).1 refl)

-- the name that stands at a number
name_of-read : (scripts : List Script) (p : ℕ) (d : Script) → p < length scripts → name_of scripts p ≡ (get_or scripts p d).player
name_of-read scripts p d within =
    let there = get_or_default scripts p d (get_or scripts p d) within in
    ap (λ (o : Option Script). option_map_or (λ s. s.player) o []) (slice_get_read scripts (length scripts) p (get_or scripts p d) refl within there)

-- a player is found by its name
pub player_of_name-name_of : (scripts : List Script) → AreNamed scripts → (p : ℕ) → p < length scripts → player_of_name scripts (name_of scripts p) ≡ p
player_of_name-name_of [] are p within = absurd (omega (arith, within))
player_of_name-name_of (s ∷ ss) are p within =
    ap (player_of_name (s ∷ ss)) (name_of-read (s ∷ ss) p s within) ∙ first_of_name (s ∷ ss) p s within (are.distinct p s within)
