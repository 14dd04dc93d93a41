use Rattle.tables.proofs.Orders.{absorbed_when}
use Rattle.tables.proofs.steps.absorbs.Goals as goal

pub returns : goal.returns
returns g c = rw (c.at_most.ensures, c.compose.ensures) (absorbed_when g.met.C.CostKind.lawful c.args.z c.args.cell)
