use Rattle.std.proofs.Common.{rules}
use Rattle.costs.proofs.Rows.{cost_of}
use Rattle.desk.proofs.weigh.weigh_table.Goals as goal

pub returns-clause-answer : goal.returns-clause-answer
returns-clause-answer g c = record {
  whole = search rules;
  roster = search rules;
  cost = cost_of g.K.CostKind.operations g.K.PlainKind.means g.met.K.PlainKind.row_means _ _ c.cost.ensures;
}
