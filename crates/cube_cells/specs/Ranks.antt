-- Ranks of the texts of a dimension: their places in the order of texts (this project's choice).
use Rattle.std.specs.Prelude.{◌≡◌, ◌<◌, ◌≤◌, ◌/◌, ◌%◌, ℕ, false, nat_lt, List, [], ◌∷◌, length, get_or, map, if◌then◌else◌}
use Rattle.std.specs.Cmp.Lexicographic.{slice_cmp}
use Rattle.std.specs.List.{AllZip}
use Rattle.std.specs.Ordering.{nat_cmp, is_lt}

-- these are ranks of texts: they compare as the texts do
pub record AreRanks (texts : List (List ℕ)) (ranks : List ℕ) : Type 0 where
  pub same_length : length ranks ≡ length texts
  pub below : (a : ℕ) → a < length texts → get_or ranks a 0 < length texts
  pub order : (a b : ℕ) → a < length texts → b < length texts
      → nat_cmp (get_or ranks a 0) (get_or ranks b 0) ≡ slice_cmp nat_cmp (get_or texts a []) (get_or texts b [])

-- the rank of a code: that of a text, or the code itself for null and ALL
abbrev pub rank_of : List ℕ → ℕ → ℕ
rank_of ranks code = if nat_lt code (length ranks) then get_or ranks code 0 else code

-- the ranks of codes, dimension by dimension, and past the last the codes
abbrev pub ranks_of : List (List ℕ) → List ℕ → List ℕ
ranks_of [] codes = codes
ranks_of (ranks ∷ others) [] = []
ranks_of (ranks ∷ others) (code ∷ codes) = rank_of ranks code ∷ ranks_of others codes

-- these are ranks of the texts of each dimension
abbrev pub AreAllRanks : List (List (List ℕ)) → List (List ℕ) → Type 0
AreAllRanks dictionaries ranks = AllZip AreRanks dictionaries ranks

-- the texts at these places stand in order, and each place of a text is there
pub record AreInOrder (texts : List (List ℕ)) (places : List ℕ) : Type 0 where
  pub same_length : length places ≡ length texts
  pub below : (i : ℕ) → i < length places → get_or places i 0 < length texts
  pub each : (a : ℕ) → a < length texts → (i : ℕ) × (i < length places) × (get_or places i 0 ≡ a)
  pub apart : (i j : ℕ) → i < j → j < length places → get_or places i 0 ≡ get_or places j 0 → ⊥
  pub ordered : (i j : ℕ) → i ≤ j → j < length places
      → is_lt (slice_cmp nat_cmp (get_or texts (get_or places j 0) []) (get_or texts (get_or places i 0) [])) ≡ false

-- the texts at places, in the order of these
abbrev pub texts_at : List (List ℕ) → List ℕ → List (List ℕ)
texts_at texts places = map (λ place. get_or texts place []) places

-- ranks lead back to the first so many of some places, from each to its place
pub record LeadBack (count : ℕ) (places ranks : List ℕ) : Type 0 where
  pub same_length : length ranks ≡ length places
  pub back : (j : ℕ) → j < count → get_or places (get_or ranks (get_or places j 0) 0) 0 ≡ get_or places j 0
  pub below : (j : ℕ) → j < count → get_or ranks (get_or places j 0) 0 < count

-- the numbers of 32 bits in words of 64, two in each, the higher half first
abbrev pub halves : List ℕ → List ℕ
halves [] = []
halves (word ∷ words) = word / 4294967296 ∷ word % 4294967296 ∷ halves words
