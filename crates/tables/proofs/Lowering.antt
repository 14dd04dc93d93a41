-- A step takes the same off every roster. There is no cancelling in a kind, so both costs of a roster are split into amounts and a residue.
-- Assumes nothing.
use Rattle.std.proofs.Common.{◌≡◌, ℕ, zero, suc, count_ones, ◌+◌, ◌-◌, ◌^◌, ◌<◌, ◌≤◌, Bool, true, false, cond, List, [], ◌∷◌, length, sum_by, sym, refl, ap, ◌∙◌, subst, ap₂, arith}
use Rattle.std.specs.Int.{bit_at}
use Rattle.std.specs.List.{AllByRecursion}
use Rattle.std.proofs.lemmas.List.Sums.{sum_by-cons}
use Rattle.std.proofs.lemmas.Bool.Decides.{nat_tests}
use Rattle.costs.specs.Kinds.{Operations, Laws, composed}
use Rattle.tables.specs.Rosters.{Roster}
use Rattle.tables.specs.Steps.{in_set, excess, changed, Admissible, times, taken}
use Rattle.tables.specs.Tables.{chosen_from, roster_cost}
use Rattle.tables.specs.declared.values.Step.{Step}
use Rattle.tables.proofs.Counts.{below, bit_small, bits_are_ones, columns_counted}
use Rattle.tables.proofs.Orders.{swap_first, exchange}
use Rattle.tables.proofs.Worths.{times_add}

-- how many rows in both sets, with one row more
abbrev more_in : Bool → Bool → ℕ → ℕ
more_in true true k = suc k
more_in true false k = k
more_in false true k = k
more_in false false k = k

-- and in neither
abbrev more_out : Bool → Bool → ℕ → ℕ
more_out true true k = k
more_out true false k = k
more_out false true k = k
more_out false false k = suc k

-- f summed over so many numbers from r on
abbrev from : (ℕ → ℕ) → ℕ → ℕ → ℕ
from f r zero = 0
from f r (suc k) = f r + from f (suc r) k

from_below : (f : ℕ → ℕ) (r k m : ℕ) → r + k ≡ m → below f r + from f r k ≡ below f m
from_below f r zero m e = let here : r ≡ m = omega arith in subst (λ x. below f r + 0 ≡ below f x) here (omega arith)
from_below f r (suc k) m e = omega (arith, from_below f (suc r) k m (omega arith))

module _ (rows columns : ℕ) where
  -- the rows from r on whose cells lie in both sets
  abbrev inside : ℕ → List ℕ → ℕ
  inside r [] = 0
  inside r (c ∷ cs) = more_in (in_set rows r) (in_set columns c) (inside (suc r) cs)

  abbrev outside : ℕ → List ℕ → ℕ
  outside r [] = 0
  outside r (c ∷ cs) = more_out (in_set rows r) (in_set columns c) (outside (suc r) cs)

  one_row : (x y p q : ℕ) (i j : Bool) → cond i 1 0 ≡ x → cond j 1 0 ≡ y → more_in i j p + 1 + q ≡ x + y + more_out i j q + p
  one_row x y p q true true a b = omega arith
  one_row x y p q true false a b = omega arith
  one_row x y p q false true a b = omega arith
  one_row x y p q false false a b = omega arith

  as_bit : (mask r : ℕ) → cond (in_set mask r) 1 0 ≡ bit_at mask r
  as_bit mask r = grind (arith, nat_tests, bit_small mask r)

  -- a row in both sets counts once more than a row in one of them, and a row in neither once less
  rows_counted : (r : ℕ) (cs : List ℕ) → inside r cs + length cs ≡ from (bit_at rows) r (length cs) + sum_by (bit_at columns) cs + outside r cs
  rows_counted r [] = refl
  rows_counted r (c ∷ cs) =
      omega (arith, rows_counted (suc r) cs, sum_by-cons (bit_at columns) c cs, one_row (bit_at rows r) (bit_at columns c) (inside (suc r) cs) (outside (suc r) cs) (in_set rows r) (in_set columns c) (as_bit rows r) (as_bit columns c))

  -- a roster uses in both sets more cells than in neither, by the excess
  more_inside : (n : ℕ) (cs : List ℕ) → Roster n cs → rows < 2 ^ n → columns < 2 ^ n → n ≤ count_ones rows + count_ones columns → inside 0 cs ≡ (count_ones rows + count_ones columns - n) + outside 0 cs
  more_inside n cs roster rows_there columns_there enough =
      let whole = roster.every_row in
      let rows_met : from (bit_at rows) 0 (length cs) ≡ count_ones rows = omega (arith, from_below (bit_at rows) 0 (length cs) n (omega arith), bits_are_ones n rows rows_there) in
      let columns_met : sum_by (bit_at columns) cs ≡ count_ones columns = columns_counted n columns cs columns_there whole roster.column_there (λ i j lt up e. roster.none_twice i j lt (omega arith) e) in
      omega (arith, rows_counted 0 cs, rows_met, columns_met)

module _ {C : Type 0} {o : Operations C} (laws : Laws o) (a : C) where
  -- what is left of a cell once the amounts are taken out
  abbrev left : Bool → Bool → C → C
  left true true b = o.rest a b
  left true false b = b
  left false true b = b
  left false false b = b

  row_before : (i j : Bool) (b : C) (k : ℕ) (r : C) → (i ≡ true → j ≡ true → o.at_most a b ≡ true) → o.compose b (o.compose (times o k a) r) ≡ o.compose (times o (more_in i j k) a) (o.compose (left i j b) r)
  row_before true true b k r fits = ap (λ x. o.compose x (o.compose (times o k a) r)) (sym (laws.rest_completes a b (fits refl refl))) ∙ exchange laws a (o.rest a b) (times o k a) r
  row_before true false b k r fits = swap_first laws b (times o k a) r
  row_before false true b k r fits = swap_first laws b (times o k a) r
  row_before false false b k r fits = swap_first laws b (times o k a) r

  row_after : (i j : Bool) (b : C) (k : ℕ) (r : C) → o.compose (changed o a i j b) (o.compose (times o k a) r) ≡ o.compose (times o (more_out i j k) a) (o.compose (left i j b) r)
  row_after true true b k r = swap_first laws (o.rest a b) (times o k a) r
  row_after true false b k r = swap_first laws b (times o k a) r
  row_after false true b k r = swap_first laws b (times o k a) r
  row_after false false b k r = exchange laws a b (times o k a) r

module _ {C : Type 0} {o : Operations C} (laws : Laws o) (n : ℕ) (s : Step C) (t u : ℕ → ℕ → C) where
  abbrev I : ℕ → Bool
  I r = in_set s.sets.rows r

  abbrev J : ℕ → Bool
  J c = in_set s.sets.columns c

  abbrev residue : ℕ → List ℕ → C
  residue r [] = o.empty
  residue r (c ∷ cs) = o.compose (left laws s.amount (I r) (J c) (t r c)) (residue (suc r) cs)

  cost_before : (admissible : Admissible o n t s) (r : ℕ) (cs : List ℕ) → r + length cs ≤ n → AllByRecursion (λ c. c < n) cs → composed o (chosen_from t r cs) ≡ o.compose (times o (inside s.sets.rows s.sets.columns r cs) s.amount) (residue r cs)
  cost_before admissible r [] within there = sym (laws.empty_neutral o.empty)
  cost_before admissible r (c ∷ cs) within there =
      ap (o.compose (t r c)) (cost_before admissible (suc r) cs (omega arith) there.1)
      ∙ row_before laws s.amount (I r) (J c) (t r c) (inside s.sets.rows s.sets.columns (suc r) cs) (residue (suc r) cs) (λ i j. admissible.amount_fits r c (omega arith) there.0 i j)

  cost_after : ((r c : ℕ) → r < n → c < n → u r c ≡ changed o s.amount (I r) (J c) (t r c)) → (r : ℕ) (cs : List ℕ) → r + length cs ≤ n → AllByRecursion (λ c. c < n) cs → composed o (chosen_from u r cs) ≡ o.compose (times o (outside s.sets.rows s.sets.columns r cs) s.amount) (residue r cs)
  cost_after change r [] within there = sym (laws.empty_neutral o.empty)
  cost_after change r (c ∷ cs) within there =
      ap₂ o.compose (change r c (omega arith) there.0) (cost_after change (suc r) cs (omega arith) there.1)
      ∙ row_after laws s.amount (I r) (J c) (t r c) (outside s.sets.rows s.sets.columns (suc r) cs) (residue (suc r) cs)

  -- the cost before is the amount, as often as the excess says, composed with the cost after
  pub lowered : Admissible o n t s → ((r c : ℕ) → r < n → c < n → u r c ≡ changed o s.amount (I r) (J c) (t r c)) → (columns : List ℕ) → Roster n columns → roster_cost o t columns ≡ o.compose (taken o n s) (roster_cost o u columns)
  lowered admissible change columns roster =
      let p = inside s.sets.rows s.sets.columns 0 columns in
      let q = outside s.sets.rows s.sets.columns 0 columns in
      let a = s.amount in
      let within : 0 + length columns ≤ n = omega (arith, roster.every_row) in
      let count : p ≡ excess n s + q = more_inside s.sets.rows s.sets.columns n columns roster admissible.rows_there admissible.columns_there (omega (arith, admissible.some_excess)) in
      cost_before admissible 0 columns within roster.column_there
      ∙ ap (λ k. o.compose (times o k a) (residue 0 columns)) count
      ∙ ap (λ x. o.compose x (residue 0 columns)) (times_add laws (excess n s) q a)
      ∙ laws.compose_associates (times o (excess n s) a) (times o q a) (residue 0 columns)
      ∙ ap (o.compose (taken o n s)) (sym (cost_after change 0 columns within roster.column_there))
