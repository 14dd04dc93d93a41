-- What steps mean for the rosters of a table. Assumes nothing.
use Rattle.std.specs.Prelude.{◌≡◌, ℕ, ◌*◌, ◌<◌, ◌≤◌, List, map, slice_index_or}
use Rattle.costs.specs.Kinds.{Operations}
use Rattle.costs.specs.Wide.{widened}
use Rattle.costs.specs.declared.values.Widened.{Widened}
use Rattle.costs.specs.declared.values.Widened.TheVariants.{Allowed}
use Rattle.tables.specs.Rosters.{Roster}
use Rattle.tables.specs.Steps.{in_set, changed, stepped_all, Admissible, AllAdmissible, taken, value, wide}
use Rattle.tables.specs.Tables.{grid, Whole, roster_cost, Cheapest}
use Rattle.tables.specs.declared.values.Step.{Step}

module _ {C : Type 0} (o : Operations C) (n : ℕ) where
  -- what a roster costs in these cells
  abbrev pub cost_in : List (Widened C) → List ℕ → Widened C
  cost_in cells columns = roster_cost (widened o) (grid (widened o) n cells) columns

  -- a step was made: each cell of the table has become what the rule says for its row and column, and cells in surplus stay
  pub record StepMade (before : List (Widened C)) (s : Step C) (after : List (Widened C)) : Type 0 where
    pub each : Whole n before → (r c : ℕ) → r < n → c < n → grid (widened o) n after r c ≡ changed (widened o) (Allowed s.amount) (in_set s.sets.rows r) (in_set s.sets.columns c) (grid (widened o) n before r c)
    pub surplus : (k : ℕ) (d : Widened C) → n * n ≤ k → slice_index_or after k d ≡ slice_index_or before k d

  -- every roster, whichever it is, costs so much more before than after
  abbrev pub Lowered : List (Widened C) → C → List (Widened C) → Type 0
  Lowered before less after = (columns : List ℕ) → Roster n columns → cost_in before columns ≡ (widened o).compose (Allowed less) (cost_in after columns)

  -- a step that may be made takes its amount, as often as its excess says, off every roster
  abbrev pub StepLowers : List (Widened C) → Step C → List (Widened C) → Type 0
  StepLowers before s after = Whole n before → Admissible (widened o) n (grid (widened o) n before) (wide s) → Lowered before (taken o n s) after

  -- steps that may be made one after the other take their value off
  abbrev pub StepsLower : List (Widened C) → List (Step C) → List (Widened C) → Type 0
  StepsLower before steps after = Whole n before → AllAdmissible (widened o) n before (map wide steps) → Lowered before (value o n steps) after

  -- these cells are what steps that may be made one after the other leave of a first table, and z is the value of the steps
  pub record Reached (first : List (Widened C)) (steps : List (Step C)) (cells : List (Widened C)) (z : C) : Type 0 where
    pub whole : Whole n first
    pub admissible : AllAdmissible (widened o) n first (map wide steps)
    pub left : cells ≡ stepped_all (widened o) n (map wide steps) first
    pub value_is : z ≡ value o n steps

  -- a roster that costs z in a table, where no roster costs less
  pub record Settled (first : List (Widened C)) (z : C) (columns : List ℕ) : Type 0 where
    pub costs_value : cost_in first columns ≡ Allowed z
    pub cheapest : Cheapest (widened o) n (grid (widened o) n first) columns

  -- wherever the cells were reached from, a roster of theirs is settled in the first table
  abbrev pub SettledWhereReached : List (Widened C) → C → List ℕ → Type 0
  SettledWhereReached cells z columns = (first : List (Widened C)) (steps : List (Step C)) → Reached first steps cells z → Roster n columns → Settled first z columns
