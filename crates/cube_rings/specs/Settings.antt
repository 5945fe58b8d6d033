-- The settings of a build in threads (this project's choice).
use Rattle.std.specs.Prelude.{◌≤◌, ℕ}

-- the room of each link in lots, the number of builders,
-- and the most threads that work side by side once the feeds have ended
pub record SettingsView : Type 0 where
  pub capacity : ℕ
  pub builders : ℕ
  pub threads : ℕ

-- lawful settings: 1 to 65536 lots, 1 to 8 builders, and 1 to 16 threads
pub record AreSettings (capacity builders threads : ℕ) : Type 0 where
  pub some_capacity : 1 ≤ capacity
  pub most_capacity : capacity ≤ 65536
  pub some_builders : 1 ≤ builders
  pub most_builders : builders ≤ 8
  pub some_threads : 1 ≤ threads
  pub most_threads : threads ≤ 16
