-- What a row of cells costs, in whole numbers. Assumes nothing.
use Rattle.std.specs.Prelude.{◌≡◌, ℕ, ◌*◌, ◌≤◌, max, true, List, [], ◌∷◌, map, length, sum_by, ◌==◌, if◌then◌else◌}
use Rattle.std.specs.List.{AllByRecursion}
use Rattle.costs.specs.Classes.{class_written}
use Rattle.costs.specs.Totals.{held, total_written}
use Rattle.costs.specs.declared.values.Class.{Class}
use Rattle.costs.specs.declared.values.Total.{Total}
use Rattle.costs.specs.declared.values.Widened.{Widened}
use Rattle.costs.specs.declared.values.Widened.TheVariants.{Allowed, Forbidden}
use Rattle.costs.specs.declared.values.Worst.{Worst}

abbrev pub SomeForbidden : {C : Type 0} → List (Widened C) → Type 0
SomeForbidden [] = ⊥
SomeForbidden (Allowed c ∷ cells) = SomeForbidden cells
SomeForbidden (Forbidden ∷ cells) = Unit {0}

-- r is what the cells cost: forbidden if one of them is, else a cost that `Means` ties to the costs in them
pub record CostOf {C : Type 0} (Means : List C → C → Type 0) (cells : List (Widened C)) (r : Widened C) : Type 0 where
  pub forbidden : SomeForbidden cells → r ≡ Forbidden
  pub allowed : (cs : List C) → cells ≡ map Allowed cs → (c : C) × (r ≡ Allowed c) × Means cs c

-- a rota has at most 14 links of 32 rows, and so many cells are chosen in it
abbrev pub rota_cells : ℕ
rota_cells = 14 * 32

-- the sum of the minutes, held at 2^64 - 1; in a rota's cells no sum comes near that
pub record Sum (ts : List Total) (t : Total) : Type 0 where
  pub minutes_held : t.minutes ≡ held (sum_by (λ x. x.minutes) ts)
  pub minutes_plain : length ts ≤ rota_cells → AllByRecursion (λ x. total_written.may_stand x ≡ true) ts → t.minutes ≡ sum_by (λ x. x.minutes) ts

abbrev pub highest : List ℕ → ℕ
highest [] = 0
highest (n ∷ ns) = max n (highest ns)

-- the highest of the minutes
abbrev pub Highest : List Worst → Worst → Type 0
Highest ws w = w.minutes ≡ highest (map (λ x. x.minutes) ws)

-- the minutes of the costs of one class
abbrev pub minutes_in : ℕ → List Class → ℕ
minutes_in k cs = sum_by (λ x. if x.class == k then x.minutes else 0) cs

-- the highest class, with the minutes of its costs, held as a sum is
pub record HighestClass (cs : List Class) (c : Class) : Type 0 where
  pub class_is : c.class ≡ highest (map (λ x. x.class) cs)
  pub minutes_held : c.minutes ≡ held (minutes_in c.class cs)
  pub minutes_plain : length cs ≤ rota_cells → AllByRecursion (λ x. class_written.may_stand x ≡ true) cs → c.minutes ≡ minutes_in c.class cs
