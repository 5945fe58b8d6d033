-- Codes that become ranks: the texts of each dimension are put in their order (this project's choice).
use Rattle.std.specs.Prelude.{◌≡◌, ◌<◌, ℕ, List, [], length, get_or, map}
use Rattle.std.specs.List.{AllZip}
use Rattle.cube_cells.specs.BottomUp.{AreSortedTexts}
use Rattle.cube_cells.specs.Codes.{Dictionaries}
use Rattle.cube_cells.specs.Coded.{CodedCells}
use Rattle.cube_cells.specs.Ranks.{ranks_of}
use Rattle.cube_cells.specs.declared.cube.codes.Codes.{Codes}
use Rattle.cube_cells.specs.declared.cube.ranks.RankedTexts.{RankedTexts}

-- the texts are these in their order, and the rank of a code leads to the text that it stood for
pub record IsRanking (old : List (List ℕ)) (ranked : RankedTexts) : Type 0 where
  pub sorted : AreSortedTexts ranked.texts
  pub long : length ranked.texts ≡ length old
  pub same_length : length ranked.ranks ≡ length old
  pub below : (code : ℕ) → code < length old → get_or ranked.ranks code 0 < length old
  pub same : (code : ℕ) → code < length old
      → get_or ranked.texts (get_or ranked.ranks code 0) [] ≡ get_or old code []

-- the same in each dimension
abbrev pub AreRankings : Dictionaries → List RankedTexts → Type 0
AreRankings old ranked = AllZip IsRanking old ranked

-- the texts of each dimension in their order
abbrev pub ranked_dictionaries : List RankedTexts → Dictionaries
ranked_dictionaries ranked = map (λ one. one.texts) ranked

-- codes by their ranks
abbrev pub ranked_codes : List RankedTexts → Codes → Codes
ranked_codes ranked codes = record { codes = ranks_of (map (λ one. one.ranks) ranked) codes.codes }

-- cells by the ranks of their codes
abbrev pub ranked_cells : List RankedTexts → CodedCells → CodedCells
ranked_cells ranked cells = map (λ cell. (ranked_codes ranked cell.0, cell.1)) cells
