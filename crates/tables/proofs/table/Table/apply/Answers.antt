use Rattle.tables.specs.Lent.{side, cells_of}
use Rattle.tables.proofs.Stepping.{step_made, step_lowers, forbidden_kept}
use Rattle.tables.proofs.table.Table.apply.Goals as goal

pub returns-clause-made : goal.returns-clause-made
returns-clause-made g c =
    rw (c.apply_step.ensures, c.widened.ensures) (step_made g.met.K.CostKind.lawful (side c.args.self.now) (cells_of c.args.self.now) c.args.step)

pub returns-clause-rosters : goal.returns-clause-rosters
returns-clause-rosters g c =
    rw (c.apply_step.ensures, c.widened.ensures) (step_lowers g.met.K.CostKind.lawful (side c.args.self.now) (cells_of c.args.self.now) c.args.step)

pub returns-clause-forbidden : goal.returns-clause-forbidden
returns-clause-forbidden g c =
    rw (c.apply_step.ensures, c.widened.ensures) (forbidden_kept g.K.CostKind.operations (side c.args.self.now) c.args.step (cells_of c.args.self.now))
