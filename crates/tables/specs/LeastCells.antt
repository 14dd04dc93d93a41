-- The least cell in a set of rows and a set of columns. Assumes nothing.
use Rattle.std.specs.Prelude.{◌≡◌, ℕ, ◌<◌, true, ◌&&◌, Some, None, Option, ◌≢◌, if◌then◌else◌}
use Rattle.costs.specs.Kinds.{Operations}
use Rattle.tables.specs.Steps.{in_set, AtMostInside}
use Rattle.tables.specs.declared.values.Least.{Least}
use Rattle.tables.specs.declared.values.Sets.{Sets}

-- no cell lies in both sets
abbrev pub NoneInside : ℕ → Sets → Type 0
NoneInside n sets = (r c : ℕ) → r < n → c < n → in_set sets.rows r ≡ true → in_set sets.columns c ≢ true

-- a cell in both sets, with its row and column
pub record CellInside {C : Type 0} (n : ℕ) (t : ℕ → ℕ → C) (sets : Sets) (cell : Least C) : Type 0 where
  pub row_there : cell.row < n
  pub column_there : cell.column < n
  pub in_rows : in_set sets.rows cell.row ≡ true
  pub in_columns : in_set sets.columns cell.column ≡ true
  pub amount_is : cell.amount ≡ t cell.row cell.column

-- one that is at most every cell there
pub record LeastInside {C : Type 0} (o : Operations C) (n : ℕ) (t : ℕ → ℕ → C) (sets : Sets) (least : Least C) : Type 0 where
  pub inside : CellInside n t sets least
  pub at_most_all : AtMostInside o n t sets least.amount

-- the lesser of the least cell so far and one cell more; of equal ones the earlier
abbrev pub lesser : {C : Type 0} → Operations C → Option (Least C) → Least C → Option (Least C)
lesser o None cell = Some cell
lesser o (Some least) cell = if o.at_most least.amount cell.amount then Some least else Some cell

-- the same, where a cell counts only if it lies in both sets
abbrev pub with_cell : {C : Type 0} → Operations C → Sets → Option (Least C) → Least C → Option (Least C)
with_cell o sets least cell = if in_set sets.rows cell.row && in_set sets.columns cell.column then lesser o least cell else least
