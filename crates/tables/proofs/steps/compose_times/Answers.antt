use Rattle.std.proofs.Common.{rules, refl, ap, ◌∙◌, arith}
use borrow.Author.Tests.{tests}
use Rattle.std.proofs.lemmas.Iterator.{YieldsList-from_range}
use Rattle.std.proofs.lemmas.Iterator.Consumers.{fold_from_yields_List}
use Rattle.std.proofs.lemmas.List.FromFn.{length-range_with_len}
use Rattle.tables.specs.Steps.{times}
use Rattle.tables.proofs.Worths.{folded_times}
use Rattle.tables.proofs.steps.compose_times.Goals as goal

pub returns : goal.returns
returns g c =
    let o = g.K.CostKind.operations in
    fold_from_yields_List _ (λ all _. o.compose all c.args.cost) _ _ c.fold.ensures.ran (YieldsList-from_range 0 c.args.count c.args.count refl (omega arith)) (λ a x b q k. search (rules, tests))
    ∙ folded_times g.met.K.CostKind.lawful c.args.cost _ _ c.empty.ensures
    ∙ ap (λ k. times o k c.args.cost) (length-range_with_len 0 c.args.count)
