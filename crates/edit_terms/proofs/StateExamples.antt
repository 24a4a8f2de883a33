-- Worked examples of state texts, each by computation.
use Rattle.std.proofs.Common.{◌≡◌, refl, [], ◌∷◌, Some}
use Rattle.std.specs.Prelude.{codes}
use Rattle.edit_terms.specs.StateText.{BadName, BadProperty, RepeatedKey, TooManyProperties, state_of_text, state_text_fault, written_state}

keys_in_any_order : state_of_text (codes "oak_stairs[half=top,facing=east]") ≡ Some (record {
  name = codes "minecraft:oak_stairs";
  properties = (codes "facing", codes "east") ∷ (codes "half", codes "top") ∷ [];
})
keys_in_any_order = refl

written_with_namespace_and_sorted : written_state (record {
  name = codes "minecraft:oak_stairs";
  properties = (codes "facing", codes "east") ∷ (codes "half", codes "top") ∷ [];
}) ≡ codes "minecraft:oak_stairs[facing=east,half=top]"
written_with_namespace_and_sorted = refl

empty_brackets : state_of_text (codes "stone[]") ≡ Some (record { name = codes "minecraft:stone"; properties = [] })
empty_brackets = refl

name_comes_first : state_text_fault (codes "Stone[a=") ≡ Some BadName
name_comes_first = refl

no_second_bracket : state_text_fault (codes "stone[a=b]]") ≡ Some BadProperty
no_second_bracket = refl

text_behind_brackets : state_text_fault (codes "stone[a=b]c") ≡ Some BadProperty
text_behind_brackets = refl

from_the_left : state_text_fault (codes "stone[a=b,a=c,d]") ≡ Some RepeatedKey
from_the_left = refl

trailing_comma : state_text_fault (codes "stone[a=b,]") ≡ Some BadProperty
trailing_comma = refl

the_seventeenth : state_text_fault (codes "stone[a=0,b=0,c=0,d=0,e=0,f=0,g=0,h=0,i=0,j=0,k=0,l=0,m=0,n=0,o=0,p=0,q=0,r]") ≡ Some TooManyProperties
the_seventeenth = refl
