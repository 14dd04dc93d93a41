use Rattle.std.proofs.Common.{arith}
use Rattle.tables.specs.Tables.{grid}
use Rattle.tables.proofs.LeastCells.{sofar_row}
use Rattle.tables.proofs.cells.least_cell.Goals as goal

pub loop-row-preserved : goal.loop-row-preserved
loop-row-preserved g c =
    let o = g.C.CostKind.operations in
    let n = c.args.size.n in
    rw (c.with_cell-least.ensures, c.cell_at-amount.ensures)
    (sofar_row g.met.C.CostKind.lawful n (grid o n c.args.cells.now) c.args.sets c.loop-column.column c.loop-row.row (omega arith) (omega arith) c.loop-row.least c.loop-row.invariant)
