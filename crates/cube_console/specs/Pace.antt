-- When the progress line is written, and how fast lines are taken (this project's choice).
use Rattle.std.specs.Prelude.{◌≤◌, ◌*◌, ◌/◌, ◌==◌, if◌then◌else◌, ℕ, Option, None, Some, IfSome}

-- the line is due: it waited half a second, and stood a fifth of a second where it was written before
abbrev pub IsDue : ℕ → Option ℕ → Type 0
IsDue waited stood = (500 ≤ waited) × IfSome stood (λ millis. 200 ≤ millis)

-- lines a second, rounded down; none where no time went by
abbrev pub rate_of : ℕ → ℕ → Option ℕ
rate_of lines millis = if millis == 0 then None else Some (lines * 1000 / millis)
