-- A roster gives every row one column, and no column twice. Assumes nothing.
use Rattle.std.specs.Prelude.{◌≡◌, ℕ, ◌<◌, List, length, ◌≢◌, slice_index}
use Rattle.std.specs.List.{AllByRecursion}

pub record Roster (n : ℕ) (columns : List ℕ) : Type 0 where
  pub every_row : length columns ≡ n
  pub column_there : AllByRecursion (λ c. c < n) columns
  pub none_twice : (i j : ℕ) → i < j → j < n → slice_index columns i ≢ slice_index columns j
