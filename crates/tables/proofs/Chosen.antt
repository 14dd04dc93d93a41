-- The cells that a roster chooses, row by row. Assumes nothing.
use Rattle.std.proofs.Common.{◌≡◌, ℕ, zero, suc, ◌+◌, ◌<◌, Some, None, Option, MatchOption, take_all, zero-add, List, [], ◌∷◌, length, get_or, take, sym, refl, ap, ◌∙◌, subst, add-one, map, arith}
use Rattle.std.specs.List.{AllByRecursion, AllWithin, HoldsAt, enumerate_from}
use Rattle.std.proofs.lemmas.List.FromFn.{length-enumerate_from}
use Rattle.costs.specs.Kinds.{Operations}
use Rattle.tables.specs.Steps.{Absorbed, AllAbsorbed, FirstNotAbsorbed}
use Rattle.tables.specs.Tables.{chosen_from}
use Rattle.tables.proofs.Seats.{seat_at}

module _ {C : Type 0} (t : ℕ → ℕ → C) where
  -- the cells of the rows and columns that a roster gives one by one
  pub cells_chosen : (r : ℕ) (columns : List ℕ) → map (λ p. t p.0 p.1) (enumerate_from r columns) ≡ chosen_from t r columns
  cells_chosen r [] = refl
  cells_chosen r (c ∷ columns) = ap (λ l. t r c ∷ l) (rw add-one (cells_chosen (suc r) columns))

  -- P holds of the first i cells, where it holds of each
  chosen_below : (P : C → Type 0) (r : ℕ) (columns : List ℕ) (i : ℕ) → ((k m : ℕ) → r + k ≡ m → k < i → k < length columns → P (t m (get_or columns k 0))) → AllByRecursion P (chosen_from t r (take i columns))
  chosen_below P r columns zero each = tt
  chosen_below P r [] (suc i) each = tt
  chosen_below P r (c ∷ columns) (suc i) each =
      (each 0 r (omega arith) (omega arith) (omega arith), chosen_below P (suc r) columns i (λ k m e lt within. each (suc k) m (omega arith) (omega arith) (omega arith)))

  module _ (o : Operations C) (z : C) where
    abbrev pub AbsorbedAt : ℕ × ℕ → Type 0
    AbsorbedAt p = Absorbed o z (t p.0 p.1)

    absorbed_below : (columns : List ℕ) (i : ℕ) → AllWithin AbsorbedAt (enumerate_from 0 columns) 0 i → AllAbsorbed o t z (take i columns)
    absorbed_below columns i all =
        chosen_below (Absorbed o z) 0 columns i (λ k m e lt within. subst (λ r. AbsorbedAt (r, get_or columns k 0)) (sym (zero-add k) ∙ e) (subst AbsorbedAt (seat_at columns k within) (all k (0, 0) (omega arith) lt)))

    -- from what `position` answers at the rows and columns one by one
    pub first_not_absorbed : (columns : List ℕ) (found : Option ℕ) → MatchOption found (AllWithin AbsorbedAt (enumerate_from 0 columns) 0 (length (enumerate_from 0 columns))) (λ i. (i < length (enumerate_from 0 columns)) × HoldsAt (λ p. AbsorbedAt p → ⊥) (enumerate_from 0 columns) i × AllWithin AbsorbedAt (enumerate_from 0 columns) 0 i) → MatchOption found (AllAbsorbed o t z columns) (FirstNotAbsorbed o t z columns)
    first_not_absorbed columns None all = subst (AllAbsorbed o t z) (take_all _ columns (omega (arith, length-enumerate_from 0 columns))) (absorbed_below columns _ all)
    first_not_absorbed columns (Some i) first =
        let within : i < length columns = omega (arith, length-enumerate_from 0 columns, first.0) in record {
          row_there = within;
          absorbed_before = absorbed_below columns i first.2;
          not_absorbed = subst (λ p. AbsorbedAt p → ⊥) (seat_at columns i within) (first.1 (0, 0));
        }
