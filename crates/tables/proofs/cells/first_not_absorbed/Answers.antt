use Rattle.std.proofs.Common.{rules}
use borrow.Author.Tests.{tests}
use Rattle.std.proofs.lemmas.Iterator.{IsFirst-from_position}
use Rattle.tables.specs.Tables.{grid}
use Rattle.tables.proofs.Chosen.{AbsorbedAt, first_not_absorbed}
use Rattle.tables.proofs.Seats.{seats_yielded}
use Rattle.tables.proofs.cells.first_not_absorbed.Goals as goal

pub returns : goal.returns
returns g c =
    let o = g.C.CostKind.operations in
    let t = grid o c.args.size.n c.args.cells.now in
    first_not_absorbed t o c.args.z c.args.roster.now _
    (IsFirst-from_position _ _ _ (λ p. AbsorbedAt t o c.args.z p → ⊥) (AbsorbedAt t o c.args.z) c.position.ensures.ran
    (seats_yielded c.args.roster.now c.enumerate.ensures.source c.iter.ensures.rest c.enumerate.ensures.count)
    (λ x q k. search (rules, tests)) (λ x q k. search (rules, tests)))
