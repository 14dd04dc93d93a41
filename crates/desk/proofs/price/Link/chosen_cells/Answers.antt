use Rattle.std.proofs.Common.{◌<◌, length, ap, rules, arith}
use Rattle.std.proofs.lemmas.Iterator.{YieldsList-from_slice, YieldsList-from_zip, YieldsList-from_map, items_from_collect}
use Rattle.std.proofs.lemmas.Iterator.Adapters.{serves_from_places}
use Rattle.std.proofs.lemmas.Iterator.Consumers.{YieldsList-at}
use Rattle.desk.proofs.Links.{column_below, pair_cell, chosen_pairs}
use Rattle.desk.proofs.price.Link.chosen_cells.Goals as goal

pub collect-requires-clause-can : goal.collect-requires-clause-can
collect-requires-clause-can g c =
    let link = c.args.self in
    let pairs = YieldsList-at c.map.ensures.source (YieldsList-from_zip (YieldsList-from_slice link.earlier.now cc) (YieldsList-from_slice link.roster.now cc)) in
    let later = ap (λ f. length f.0.now) c.map.ensures.closure in (
      (tt, tt),
      serves_from_places pairs (λ x q k. search rules) (λ x k within at.
          let below : x.1.now < length c.map.result.f.0.now = omega (arith, later, column_below link.earlier.now link.roster.now (length link.later.now) k (x.0.now, x.1.now) c.requires.roster.column_there within at) in
          grind arith),
    )

pub returns : goal.returns
returns g c =
    let link = c.args.self in
    let w = g.K.WrittenKind.written in
    let pairs = YieldsList-at c.map.ensures.source (YieldsList-from_zip (YieldsList-from_slice link.earlier.now cc) (YieldsList-from_slice link.roster.now cc)) in
    rw (← chosen_pairs w link.later.now link.earlier.now link.roster.now c.requires.rows)
    (items_from_collect _ c.collect.ensures.ran (YieldsList-from_map _ (pair_cell w link.later.now) pairs c.map.ensures.closure (λ x r q k. search rules)))
