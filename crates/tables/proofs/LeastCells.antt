-- The least cell, found column after column, and in each of them row after row. Assumes nothing.
use Rattle.std.proofs.Common.{◌≡◌, ℕ, ◌+◌, ◌<◌, ◌≤◌, Bool, true, false, cond, ◌&&◌, Some, None, Option, sym, refl, ◌∙◌, ⊎_elim, arith, below_more, MatchOption}
use Rattle.std.proofs.lemmas.Bool.{false≢true}
use Rattle.costs.specs.Kinds.{Operations, Laws}
use Rattle.tables.specs.LeastCells.{NoneInside, CellInside, LeastInside, lesser, with_cell}
use Rattle.tables.specs.Steps.{in_set}
use Rattle.tables.specs.declared.values.Least.{Least}
use Rattle.tables.specs.declared.values.Sets.{Sets}

module _ (n : ℕ) (sets : Sets) where
  -- P holds of each row and column of both sets, up to a row of a column
  pub record Seen (P : ℕ → ℕ → Type 0) (column row : ℕ) : Type 0 where
    pub columns_before : (r c : ℕ) → r < n → c < column → in_set sets.rows r ≡ true → in_set sets.columns c ≡ true → P r c
    pub rows_before : (r : ℕ) → r < row → in_set sets.rows r ≡ true → in_set sets.columns column ≡ true → P r column

  seen_row : (P : ℕ → ℕ → Type 0) (column row : ℕ) → Seen P column row → (in_set sets.rows row ≡ true → in_set sets.columns column ≡ true → P row column) → Seen P column (row + 1)
  seen_row P column row seen here = record {
    columns_before = seen.columns_before;
    rows_before = below_more (λ r. in_set sets.rows r ≡ true → in_set sets.columns column ≡ true → P r column) row seen.rows_before here;
  }

  seen_column : (P : ℕ → ℕ → Type 0) (column row : ℕ) → n ≤ row → Seen P column row → Seen P (column + 1) 0
  seen_column P column row all seen = record {
    columns_before = λ r c there. below_more (λ x. in_set sets.rows r ≡ true → in_set sets.columns x ≡ true → P r x) column (λ x lt. seen.columns_before r x there lt) (seen.rows_before r (omega arith)) c;
    rows_before = λ r none. absurd (omega arith);
  }

module _ {C : Type 0} (o : Operations C) (n : ℕ) (t : ℕ → ℕ → C) (sets : Sets) where
  pub record Found (column row : ℕ) (least : Least C) : Type 0 where
    pub inside : CellInside n t sets least
    pub at_most_seen : Seen n sets (λ r c. o.at_most least.amount (t r c) ≡ true) column row

  -- what is known up to a row of a column
  abbrev pub Sofar : ℕ → ℕ → Option (Least C) → Type 0
  Sofar column row None = Seen n sets (λ _ _. ⊥) column row
  Sofar column row (Some least) = Found column row least

  -- one column more
  pub sofar_column : (column row : ℕ) → n ≤ row → (least : Option (Least C)) → Sofar column row least → Sofar (column + 1) 0 least
  sofar_column column row all None none = seen_column n sets (λ _ _. ⊥) column row all none
  sofar_column column row all (Some least) found = record {
    inside = found.inside;
    at_most_seen = seen_column n sets (λ r c. o.at_most least.amount (t r c) ≡ true) column row all found.at_most_seen;
  }

  pub sofar_all : (column row : ℕ) → n ≤ column → (least : Option (Least C)) → Sofar column row least → MatchOption least (NoneInside n sets) (LeastInside o n t sets)
  sofar_all column row all None none = λ r c row_there column_there. none.columns_before r c row_there (omega arith)
  sofar_all column row all (Some least) found = record {
    inside = found.inside;
    at_most_all = λ r c row_there column_there. found.at_most_seen.columns_before r c row_there (omega arith);
  }

module _ {C : Type 0} {o : Operations C} (laws : Laws o) (n : ℕ) (t : ℕ → ℕ → C) (sets : Sets) where
  -- one row more
  module _ (column row : ℕ) (column_there : column < n) (row_there : row < n) where
    abbrev In : Type 0
    In = (in_set sets.rows row ≡ true) × (in_set sets.columns column ≡ true)

    abbrev cell : Least C
    cell = record { amount = t row column; row = row; column = column }

    found_kept : (least : Least C) → Found o n t sets column row least → (In → o.at_most least.amount (t row column) ≡ true) → Found o n t sets column (row + 1) least
    found_kept least found here = record {
      inside = found.inside;
      at_most_seen = seen_row n sets (λ r c. o.at_most least.amount (t r c) ≡ true) column row found.at_most_seen (λ i j. here (i, j));
    }

    found_new : In → Seen n sets (λ r c. o.at_most (t row column) (t r c) ≡ true) column row → Found o n t sets column (row + 1) cell
    found_new both old = record {
      inside = record { row_there = row_there; column_there = column_there; in_rows = both.0; in_columns = both.1; amount_is = refl };
      at_most_seen = seen_row n sets (λ r c. o.at_most (t row column) (t r c) ≡ true) column row old (λ _ _. laws.at_most_reflexive _);
    }

    take_lesser : (least : Least C) (b : Bool) → o.at_most least.amount (t row column) ≡ b → In → Found o n t sets column row least → Sofar o n t sets column (row + 1) (cond b (Some least) (Some cell))
    take_lesser least true e both found = found_kept least found (λ _. e)
    take_lesser least false e both found =
        let lower : o.at_most (t row column) least.amount ≡ true = ⊎_elim (λ above. absurd (false≢true (sym e ∙ above))) (λ below. below) (laws.at_most_total least.amount (t row column)) in
        found_new both (record {
          columns_before = λ r c in_table lt i j. laws.at_most_transitive _ least.amount _ lower (found.at_most_seen.columns_before r c in_table lt i j);
          rows_before = λ r lt i j. laws.at_most_transitive _ least.amount _ lower (found.at_most_seen.rows_before r lt i j);
        })

    sofar_inside : (least : Option (Least C)) → In → Sofar o n t sets column row least → Sofar o n t sets column (row + 1) (lesser o least cell)
    sofar_inside None both none = found_new both (record {
      columns_before = λ r c in_table lt i j. absurd (none.columns_before r c in_table lt i j);
      rows_before = λ r lt i j. absurd (none.rows_before r lt i j);
    })
    sofar_inside (Some least) both found = take_lesser least (o.at_most least.amount (t row column)) refl both found

    sofar_outside : (least : Option (Least C)) → (In → ⊥) → Sofar o n t sets column row least → Sofar o n t sets column (row + 1) least
    sofar_outside None out none = seen_row n sets (λ _ _. ⊥) column row none (λ i j. out (i, j))
    sofar_outside (Some least) out found = found_kept least found (λ both. absurd (out both))

    by_sets : (i j : Bool) (least : Option (Least C)) → in_set sets.rows row ≡ i → in_set sets.columns column ≡ j → Sofar o n t sets column row least → Sofar o n t sets column (row + 1) (cond (i && j) (lesser o least cell) least)
    by_sets true true least i j old = sofar_inside least (i, j) old
    by_sets true false least i j old = sofar_outside least (λ both. false≢true (sym j ∙ both.1)) old
    by_sets false j least i is old = sofar_outside least (λ both. false≢true (sym i ∙ both.0)) old

    pub sofar_row : (least : Option (Least C)) → Sofar o n t sets column row least → Sofar o n t sets column (row + 1) (with_cell o sets least cell)
    sofar_row least old = by_sets (in_set sets.rows row) (in_set sets.columns column) least refl refl old
