use Rattle.tables.specs.Lent.{side, cells_of}
use Rattle.tables.proofs.Stepping.{none_settled}
use Rattle.tables.proofs.table.Table.first_not_absorbed.Goals as goal

pub returns-clause-cheapest : goal.returns-clause-cheapest
returns-clause-cheapest g c =
    none_settled g.met.K.CostKind.lawful (side c.args.self.now) (cells_of c.args.self.now) c.args.z c.args.roster.now c.first_not_absorbed.result c.first_not_absorbed.ensures
