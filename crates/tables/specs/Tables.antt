-- A table of costs, and what a roster costs in it. Assumes nothing.
use Rattle.std.specs.Prelude.{◌≡◌, ℕ, suc, ◌+◌, ◌*◌, ◌≤◌, true, List, [], ◌∷◌, length, slice_index_or}
use Rattle.costs.specs.Kinds.{Operations, composed}
use Rattle.tables.specs.Rosters.{Roster}

-- the table of n columns that lies row by row in a list, by the place of a row and a column; where the list is too short, a cell counts as empty
abbrev pub grid : {C : Type 0} → Operations C → ℕ → List C → ℕ → ℕ → C
grid o n cells row column = slice_index_or cells (row * n + column) o.empty

-- the list has all cells of n rows and n columns; those behind them are in surplus
abbrev pub Whole : {C : Type 0} → ℕ → List C → Type 0
Whole n cells = n * n ≤ length cells

-- the cells in the given columns of a row and the rows below it
abbrev pub chosen_from : {C : Type 0} → (ℕ → ℕ → C) → ℕ → List ℕ → List C
chosen_from t row [] = []
chosen_from t row (column ∷ columns) = t row column ∷ chosen_from t (suc row) columns

-- the cells that a roster chooses
abbrev pub chosen : {C : Type 0} → (ℕ → ℕ → C) → List ℕ → List C
chosen t columns = chosen_from t 0 columns

-- a roster costs what its cells come to
abbrev pub roster_cost : {C : Type 0} → Operations C → (ℕ → ℕ → C) → List ℕ → C
roster_cost o t columns = composed o (chosen t columns)

-- a roster that costs no more than any other
pub record Cheapest {C : Type 0} (o : Operations C) (n : ℕ) (t : ℕ → ℕ → C) (columns : List ℕ) : Type 0 where
  pub is_roster : Roster n columns
  pub none_cheaper : (others : List ℕ) → Roster n others → o.at_most (roster_cost o t columns) (roster_cost o t others) ≡ true
