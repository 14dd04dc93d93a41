use Rattle.std.proofs.Common.{◌∙◌, ap₂, take_all}
use Rattle.costs.specs.Wide.{widened}
use Rattle.tables.specs.Lent.{side, cells_of}
use Rattle.tables.specs.Steps.{stepped, wide}
use Rattle.tables.proofs.Stepping.{stepped_more, steps_lower}
use Rattle.tables.proofs.table.Table.apply_all.Goals as goal

pub loop-step-preserved : goal.loop-step-preserved
loop-step-preserved g c =
    let old = c.loop-step.invariant in
    let made = c.apply.ensures in
    let s = c.step-item.result in record {
      lent = made.lent ∙ old.lent;
      size = made.size ∙ old.size;
      cells = made.cells ∙ ap₂ (λ size cells. stepped (widened g.K.CostKind.operations) size.n (wide s) cells) old.size old.cells
          ∙ stepped_more g.K.CostKind.operations (side c.args.self.now) c.args.steps.now c.loop-step.step-index s (cells_of c.args.self.now) c.loop-step-test.true c.step-item.is;
      forbidden = made.forbidden ∙ old.forbidden;
    }

pub returns-clause-rosters : goal.returns-clause-rosters
returns-clause-rosters g c =
    rw (c.loop-step.invariant.cells, take_all c.loop-step.step-index c.args.steps.now c.loop-step-test.false)
    (steps_lower g.met.K.CostKind.lawful (side c.args.self.now) (cells_of c.args.self.now) c.args.steps.now)
