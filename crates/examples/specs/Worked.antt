-- The worked examples that are proved, in one statement. Assumes nothing.
use Rattle.std.specs.Prelude.{◌≡◌, List, [], ◌∷◌, ℕ, ◌-◌, ◌^◌, min}
use Rattle.std.proofs.Common.{arith}
use Rattle.costs.specs.Classes.{class_operations, class_written}
use Rattle.costs.specs.Gauge.{rest_minutes, shortage_of, gauged}
use Rattle.costs.specs.Totals.{total_operations, total_written}
use Rattle.costs.specs.Worsts.{worst_operations, worst_written}
use Rattle.costs.specs.declared.values.Class.{Class}
use Rattle.costs.specs.declared.values.Duty.{Duty}
use Rattle.costs.specs.declared.values.Total.{Total}
use Rattle.costs.specs.Wide.{widened}
use Rattle.costs.specs.declared.values.Widened.{Widened}
use Rattle.costs.specs.declared.values.Widened.TheVariants.{Allowed, Forbidden}
use Rattle.costs.specs.declared.values.Worst.{Worst}
use Rattle.tables.specs.Promises.{Reached, Settled}
use Rattle.tables.specs.Steps.{Admissible, value, AllAbsorbed, wide}
use Rattle.tables.specs.Tables.{grid}
use Rattle.tables.specs.declared.values.Step.{Step}

-- costs by their numbers; `min` only shows that every number fits
abbrev pub total : ℕ → Total
total m = record { minutes = min m (2 ^ 64 - 1); fits = omega arith }

abbrev pub worst : ℕ → Worst
worst m = record { minutes = min m (2 ^ 32 - 1); fits = omega arith }

abbrev pub class : ℕ → ℕ → Class
class k m = record { class = min k (2 ^ 8 - 1); minutes = min m (2 ^ 64 - 1); byte = omega arith; fits = omega arith }

abbrev pub duty : ℕ → ℕ → Duty
duty start finish = record { start = start; finish = finish }

-- a table of two rows and two columns, all allowed
abbrev pub two_rows : {C : Type 0} → C → C → C → C → List (Widened C)
two_rows a b c d = Allowed a ∷ Allowed b ∷ Allowed c ∷ Allowed d ∷ []

abbrev pub threes : List (Widened Total)
threes = two_rows (total 3) (total 3) (total 3) (total 3)

-- a step on both rows and both columns
abbrev pub step_by_three : Step Total
step_by_three = record { sets = record { rows = 3; columns = 3 }; amount = total 3 }

-- rows 0 5 and 4 8 in total, and two steps: on row 1 and both columns, then on both rows and column 1
abbrev pub eights : List (Widened Total)
eights = two_rows (total 0) (total 5) (total 4) (total 8)

abbrev pub settling : List (Step Total)
settling = record { sets = record { rows = 2; columns = 3 }; amount = total 4 } ∷ record { sets = record { rows = 3; columns = 2 }; amount = total 4 } ∷ []

pub record Worked : Type 0 where
  -- 1:9 composed with 2:1 is 2:1
  pub higher_class : class_operations.compose (class 1 9) (class 2 1) ≡ class 2 1
  -- the rest from 4 to 9 is 5 in total, and 9 in worst
  pub rest_in_total : total_operations.rest (total 4) (total 9) ≡ total 5
  pub rest_in_worst : worst_operations.rest (worst 4) (worst 9) ≡ worst 9
  -- the rest from 1:30 to 1:50 is 1:20
  pub rest_in_class : class_operations.rest (class 1 30) (class 1 50) ≡ class 1 20
  -- after a finish at 1200, a start at 360 leaves 600 minutes of rest, and a shortage of 120
  pub rest_of_600 : (s f : ℕ) → rest_minutes (duty s 1200) (duty 360 f) ≡ 600
  pub shortage_of_120 : (s f : ℕ) → shortage_of (rest_minutes (duty s 1200) (duty 360 f)) ≡ 120
  -- after a finish at 1201 it is forbidden, in every kind
  pub forbidden_in_total : (s f : ℕ) → gauged total_written (duty s 1201) (duty 360 f) ≡ Forbidden
  pub forbidden_in_worst : (s f : ℕ) → gauged worst_written (duty s 1201) (duty 360 f) ≡ Forbidden
  pub forbidden_in_class : (s f : ℕ) → gauged class_written (duty s 1201) (duty 360 f) ≡ Forbidden
  -- rows 3 3 and 3 3 in total: the step on all rows and columns with amount 3 may be made, and its value is 6
  pub threes_admissible : Admissible (widened total_operations) 2 (grid (widened total_operations) 2 threes) (wide step_by_three)
  pub threes_value : value total_operations 2 (step_by_three ∷ []) ≡ total 6
  -- rows 0 5 and 4 8 in total: roster 0 1 costs 8, and no roster costs less
  pub settled_in_total : Settled total_operations 2 eights (total 8) (0 ∷ 1 ∷ [])
  -- two steps that may be made one after the other leave rows 0 1 and 0 0 of it, and their value is 8
  pub reached_in_total : Reached total_operations 2 eights settling (two_rows (total 0) (total 1) (total 0) (total 0)) (total 8)
  -- in what they leave, both cells of roster 0 1 are absorbed by 8
  pub absorbed_in_total : AllAbsorbed (widened total_operations) (grid (widened total_operations) 2 (two_rows (total 0) (total 1) (total 0) (total 0))) (Allowed (total 8)) (0 ∷ 1 ∷ [])
  -- rows 0 5 and 4 8 in worst: roster 1 0 costs 5, and no roster costs less
  pub settled_in_worst : Settled worst_operations 2 (two_rows (worst 0) (worst 5) (worst 4) (worst 8)) (worst 5) (1 ∷ 0 ∷ [])
  -- rows 0:0 1:50 and 1:30 2:1 in class: roster 1 0 costs 1:80, and no roster costs less
  pub settled_in_class : Settled class_operations 2 (two_rows (class 0 0) (class 1 50) (class 1 30) (class 2 1)) (class 1 80) (1 ∷ 0 ∷ [])
