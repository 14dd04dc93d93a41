use Rattle.std.proofs.Common.{rules, eqb}
use borrow.Author.Tests.{tests}
use Rattle.std.proofs.lemmas.Iterator.{cases_from_all}
use Rattle.std.proofs.lemmas.List.Elements.{contains_decides, Contains-from_at, Decides-contains}
use Rattle.std.proofs.lemmas.Bool.Decides.{not_from_Decides, Decides-eqb}
use Rattle.tables.proofs.Seats.{Fresh, Stale, roster_decided, seats_yielded}
use Rattle.tables.proofs.rosters.is_roster.Goals as goal

pub returns-then-columns-n : goal.returns-then-columns-n
returns-then-columns-n c =
    let n = c.args.n in
    let columns = c.args.columns.now in
    let seats = seats_yielded columns c.enumerate.ensures.source c.iter.ensures.rest c.enumerate.ensures.count in
    roster_decided n columns c.if-columns-n.true c.all.result
    (cases_from_all _ _ _ (Fresh n columns) (Stale n columns) c.all.ensures.ran seats
    (λ x q k. search (rules, tests, contains_decides eqb Decides-eqb, Decides-contains, not_from_Decides))
    (λ x q k. search (rules, tests, contains_decides eqb Decides-eqb, Contains-from_at)))
