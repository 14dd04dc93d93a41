use Rattle.std.proofs.Common.{rules, ◌∙◌, ap}
use borrow.Author.Tests.{tests}
use Rattle.std.proofs.lemmas.Iterator.{YieldsList-from_map}
use Rattle.std.proofs.lemmas.Iterator.Consumers.{YieldsList-at, fold_from_yields_List}
use Rattle.costs.specs.Kinds.{composed}
use Rattle.tables.specs.Tables.{grid}
use Rattle.tables.proofs.Chosen.{cells_chosen}
use Rattle.tables.proofs.Seats.{seats_yielded}
use Rattle.costs.proofs.Rows.{composed_fold}
use Rattle.tables.proofs.cells.roster_cost.Goals as goal

pub returns : goal.returns
returns g c =
    let o = g.C.CostKind.operations in
    let t = grid o c.args.size.n c.args.cells.now in
    let seats = seats_yielded c.args.roster.now c.enumerate.ensures.source c.iter.ensures.rest c.enumerate.ensures.count in
    fold_from_yields_List _ o.compose _ _ c.fold.ensures.ran
    (YieldsList-from_map _ (λ p. t p.0 p.1) (YieldsList-at c.map.ensures.source seats) c.map.ensures.closure (λ x r q k. search (rules, tests)))
    (λ a x b q k. search (rules, tests))
    ∙ composed_fold g.met.C.CostKind.lawful _ _ c.empty.ensures
    ∙ ap (composed o) (cells_chosen t 0 c.args.roster.now)
