use Rattle.tables.specs.Tables.{grid}
use Rattle.tables.proofs.LeastCells.{Sofar}
use Rattle.tables.proofs.cells.least_cell.Given as goal

abbrev pub invariant-loop-row : goal.invariant-loop-row
invariant-loop-row g l =
    let o = g.C.CostKind.operations in
    Sofar o l.size.n (grid o l.size.n l.cells) l.sets l.column l.row l.least

abbrev pub invariant-loop-column : goal.invariant-loop-column
invariant-loop-column g l =
    let o = g.C.CostKind.operations in
    Sofar o l.size.n (grid o l.size.n l.cells) l.sets l.column 0 l.least
