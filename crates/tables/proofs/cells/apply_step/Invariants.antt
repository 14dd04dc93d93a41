use Rattle.std.proofs.Common.{ltb}
use Rattle.tables.proofs.Stepping.{Partway}
use Rattle.tables.proofs.cells.apply_step.Given as goal

-- the places before this one are done
abbrev pub invariant-loop-place : goal.invariant-loop-place
invariant-loop-place g l = Partway g.C.CostKind.operations l.fn.size.n l.step l.initial.cell-items (λ k. ltb k l.place) l.cell-items
