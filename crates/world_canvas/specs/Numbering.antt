-- Contents by their numbers.
use Rattle.std.specs.Prelude.{◌≡◌, ℕ, ◌<◌, List, length, get_or}
use Rattle.edit_terms.specs.World.{BlockContent, air_content}

-- the number names the content
pub record IsName (kinds : List BlockContent) (n : ℕ) (content : BlockContent) : Type 0 where
  pub within : n < length kinds
  pub is : get_or kinds n air_content ≡ content

-- each number names the content at its place
abbrev pub AreNames : List BlockContent → List ℕ → List BlockContent → Type 0
AreNames kinds numbers contents = (k : ℕ) → k < length numbers → IsName kinds (get_or numbers k 0) (get_or contents k air_content)

-- there is a number for each content, and it names it
pub record AreNumbersOf (kinds : List BlockContent) (contents : List BlockContent) (numbers : List ℕ) : Type 0 where
  pub long : length numbers ≡ length contents
  pub each : AreNames kinds numbers contents
