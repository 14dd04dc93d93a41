use Rattle.std.proofs.Common.{◌≡◌, map, take}
use Rattle.costs.specs.Wide.{widened}
use Rattle.tables.specs.Lent.{side, cells_of}
use Rattle.tables.specs.Steps.{stepped_all, wide, is_forbidden}
use Rattle.tables.proofs.table.Table.apply_all.Given as goal

abbrev pub invariant-loop-step : goal.invariant-loop-step
invariant-loop-step g l = record {
  lent : l.self.cells.ghost_name ≡ l.initial.self.cells.ghost_name;
  size : l.self.size ≡ l.initial.self.size;
  cells : cells_of l.self ≡ stepped_all (widened g.K.CostKind.operations) (side l.initial.self) (map wide (take l.step-index l.steps)) (cells_of l.initial.self);
  forbidden : map is_forbidden (cells_of l.self) ≡ map is_forbidden (cells_of l.initial.self);
}
