use Rattle.std.proofs.Common.{◌≡◌, arith}
use Rattle.std.proofs.lemmas.Grind.{common_steps}
use Rattle.costs.specs.Kinds.{composed}
use Rattle.costs.specs.Wide.{widened}
use Rattle.costs.proofs.Rows.{cost_of}
use Rattle.costs.proofs.composition.plain_cost.Goals as goal

-- found by `grind`, so that the cells may be handed on in any form that means them all
pub returns : goal.returns
returns g c =
    let o = g.K.CostKind.operations in
    let whole : c.compose_all.result ≡ composed (widened o) c.args.cells.now = grind (arith, common_steps) in
    cost_of o g.K.PlainKind.means g.met.K.PlainKind.row_means _ _ whole
