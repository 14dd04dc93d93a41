use Rattle.std.proofs.Common.{◌≡◌, ◌∙◌, rules}
use Rattle.std.specs.List.{fold}
use Rattle.costs.proofs.Rows.{composed_fold}
use Rattle.costs.proofs.composition.compose_all.Goals as goal

pub returns : goal.returns
returns g c =
    let o = g.K.CostKind.operations in
    let folded : c.fold.result ≡ fold o.compose c.empty.result c.args.costs.now = search rules in
    folded ∙ composed_fold g.met.K.CostKind.lawful _ _ c.empty.ensures
