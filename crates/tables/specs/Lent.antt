-- What a table over lent cells stands for. Assumes nothing.
use Rattle.std.specs.Prelude.{ℕ, List}
use Rattle.costs.specs.Kinds.{Operations}
use Rattle.costs.specs.Wide.{widened}
use Rattle.costs.specs.declared.values.Widened.{Widened}
use Rattle.tables.specs.Tables.{grid}
use Rattle.tables.specs.declared.table.Table.{Table}

-- the number of its rows and columns
abbrev pub side : {C : Type 0} → Table C → ℕ
side t = t.size.n

-- all cells that it was lent, those in surplus too
abbrev pub cells_of : {C : Type 0} → Table C → List (Widened C)
cells_of t = t.cells.now

-- what stands in each row and column
abbrev pub at : {C : Type 0} → Operations C → Table C → ℕ → ℕ → Widened C
at o t = grid (widened o) (side t) (cells_of t)
