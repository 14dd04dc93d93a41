use Rattle.std.proofs.Common.{◌*◌, min, length, ltb, ap, ◌∙◌, arith}
use Rattle.std.proofs.lemmas.Bool.{lt-ltb}
use Rattle.tables.proofs.Stepping.{partway_made}
use Rattle.tables.proofs.cells.apply_step.Goals as goal

pub returns : goal.returns
returns g c =
    partway_made g.C.CostKind.operations c.args.size.n c.args.step c.args.cells.now c.min-end.result (λ k. ltb k c.loop-place.place) c.loop-place.cell-items
    (c.min-end.ensures ∙ ap (λ n. min (n * n) (length c.args.cells.now)) c.rows-n.ensures) c.loop-place.invariant
    (λ k within there. lt-ltb k c.loop-place.place (omega (arith, c.loop-place-test.false)))
