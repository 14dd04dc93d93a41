use Rattle.std.proofs.Common.{◌∙◌}
use Rattle.costs.proofs.Fronts.{over_zeros}
use Rattle.costs.proofs.bytes.first_bytes.Goals as goal

pub returns : goal.returns
returns g c = c.put.ensures ∙ over_zeros c.args.bytes.now g.row.N
