use Rattle.std.proofs.Common.{rules, ◌∙◌}
use borrow.Author.Tests.{tests}
use Rattle.std.proofs.lemmas.Iterator.{YieldsList-from_slice, YieldsList-from_map}
use Rattle.std.proofs.lemmas.Iterator.Consumers.{YieldsList-at, fold_from_yields_List}
use Rattle.tables.specs.Steps.{taken}
use Rattle.costs.proofs.Rows.{composed_fold}
use Rattle.tables.proofs.steps.value.Goals as goal

pub returns : goal.returns
returns g c =
    let o = g.K.CostKind.operations in
    fold_from_yields_List _ o.compose _ _ c.fold.ensures.ran
    (YieldsList-from_map _ (taken o c.args.size.n) (YieldsList-at c.map.ensures.source (YieldsList-from_slice c.args.steps.now (cc))) c.map.ensures.closure (λ x r q k. search (rules, tests)))
    (λ a x b q k. search (rules, tests))
    ∙ composed_fold g.met.K.CostKind.lawful _ _ c.empty.ensures
