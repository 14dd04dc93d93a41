-- Steps (the admissible transformations of Burkard, Hahn and Zimmermann 1977): which may be made, and what they make of cells. Assumes nothing.
use Rattle.std.specs.Prelude.{◌≡◌, ℕ, zero, suc, ◌+◌, ◌-◌, ◌*◌, ◌/◌, ◌%◌, ◌^◌, ◌<◌, ◌≤◌, Bool, true, false, List, [], ◌∷◌, map, length, take, ◌==◌, count_ones, nat_lt, slice_index, if◌then◌else◌}
use Rattle.std.specs.List.{AllByRecursion}
use Rattle.costs.specs.Kinds.{Operations, composed}
use Rattle.costs.specs.declared.values.Widened.{Widened}
use Rattle.costs.specs.declared.values.Widened.TheVariants.{Allowed, Forbidden}
use Rattle.tables.specs.Tables.{grid, chosen}
use Rattle.tables.specs.declared.values.Sets.{Sets}
use Rattle.tables.specs.declared.values.Step.{Step}

-- whether a mask's set has row or column r: the bit of worth 2^r is 1
abbrev pub in_set : ℕ → ℕ → Bool
in_set mask r = mask / 2 ^ r % 2 == 1

-- the rows and the columns of a step, less n; 0 where they are no more than n
abbrev pub excess : {C : Type 0} → ℕ → Step C → ℕ
excess n s = count_ones s.sets.rows + count_ones s.sets.columns - n

-- what a cell becomes: the rest in both sets, the composition in neither, and in one of them what it was
abbrev pub changed : {C : Type 0} → Operations C → C → Bool → Bool → C → C
changed o amount true true b = o.rest amount b
changed o amount true false b = b
changed o amount false true b = b
changed o amount false false b = o.compose amount b

-- the same by a cell's place in a table of n columns; cells in surplus stay
abbrev pub changed_at : {C : Type 0} → Operations C → ℕ → Step C → ℕ → C → C
changed_at o n s place b = if nat_lt place (n * n) then changed o s.amount (in_set s.sets.rows (place / n)) (in_set s.sets.columns (place % n)) b else b

abbrev pub stepped_from : {C : Type 0} → Operations C → ℕ → Step C → ℕ → List C → List C
stepped_from o n s place [] = []
stepped_from o n s place (b ∷ cells) = changed_at o n s place b ∷ stepped_from o n s (suc place) cells

-- the cells after a step
abbrev pub stepped : {C : Type 0} → Operations C → ℕ → Step C → List C → List C
stepped o n s cells = stepped_from o n s 0 cells

-- and after one step after the other
abbrev pub stepped_all : {C : Type 0} → Operations C → ℕ → List (Step C) → List C → List C
stepped_all o n [] cells = cells
stepped_all o n (s ∷ steps) cells = stepped_all o n steps (stepped o n s cells)

-- the amount is at most every cell in both sets
abbrev pub AtMostInside : {C : Type 0} → Operations C → ℕ → (ℕ → ℕ → C) → Sets → C → Type 0
AtMostInside o n t sets amount = (r c : ℕ) → r < n → c < n → in_set sets.rows r ≡ true → in_set sets.columns c ≡ true → o.at_most amount (t r c) ≡ true

-- a step that may be made: its sets lie in the table, its excess is at least 1, and its amount is at most every cell in both sets
pub record Admissible {C : Type 0} (o : Operations C) (n : ℕ) (t : ℕ → ℕ → C) (s : Step C) : Type 0 where
  pub rows_there : s.sets.rows < 2 ^ n
  pub columns_there : s.sets.columns < 2 ^ n
  pub some_excess : 1 ≤ excess n s
  pub amount_fits : AtMostInside o n t s.sets s.amount

-- steps that may be made one after the other
abbrev pub AllAdmissible : {C : Type 0} → Operations C → ℕ → List C → List (Step C) → Type 0
AllAdmissible o n cells [] = Unit {0}
AllAdmissible o n cells (s ∷ steps) = Admissible o n (grid o n cells) s × AllAdmissible o n (stepped o n s cells) steps

-- a cost composed so many times
abbrev pub times : {C : Type 0} → Operations C → ℕ → C → C
times o zero c = o.empty
times o (suc k) c = o.compose c (times o k c)

-- what a step takes off every roster: its amount, as many times as its excess says
abbrev pub taken : {C : Type 0} → Operations C → ℕ → Step C → C
taken o n s = times o (excess n s) s.amount

-- the value of a list of steps
abbrev pub value : {C : Type 0} → Operations C → ℕ → List (Step C) → C
value o n steps = composed o (map (taken o n) steps)

-- a cell that adds nothing to the value z
abbrev pub Absorbed : {C : Type 0} → Operations C → C → C → Type 0
Absorbed o z b = o.compose z b ≡ z

-- every cell of a roster is absorbed
abbrev pub AllAbsorbed : {C : Type 0} → Operations C → (ℕ → ℕ → C) → C → List ℕ → Type 0
AllAbsorbed o t z columns = AllByRecursion (Absorbed o z) (chosen t columns)

-- the first row whose cell is not
pub record FirstNotAbsorbed {C : Type 0} (o : Operations C) (t : ℕ → ℕ → C) (z : C) (columns : List ℕ) (row : ℕ) : Type 0 where
  pub row_there : row < length columns
  pub absorbed_before : AllAbsorbed o t z (take row columns)
  pub not_absorbed : Absorbed o z (t row (slice_index columns row)) → ⊥

-- a step by an allowed amount, on a table of cells that may be forbidden
abbrev pub wide : {C : Type 0} → Step C → Step (Widened C)
wide s = record { sets = s.sets; amount = Allowed s.amount }

abbrev pub is_forbidden : {C : Type 0} → Widened C → Bool
is_forbidden (Allowed c) = false
is_forbidden Forbidden = true
