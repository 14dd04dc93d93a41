-- The cells that a roster chooses between two days, pair by pair. Assumes nothing.
use Rattle.std.proofs.Common.{◌≡◌, ℕ, suc, ◌<◌, List, [], ◌∷◌, length, map, get_or, refl, sym, ap, ◌∙◌, subst, arith}
use Rattle.std.proofs.ByRecursion.{All-get_or}
use Rattle.std.proofs.lemmas.Slice.Zip.{length-zip, get_or-zip}
use Rattle.std.specs.List.{AllByRecursion, zip}
use Rattle.costs.specs.Gauge.{gauged}
use Rattle.costs.specs.Written.{Written}
use Rattle.costs.specs.declared.values.Duty.{Duty}
use Rattle.costs.specs.declared.values.Widened.{Widened}
use Rattle.tables.specs.Tables.{chosen_from, chosen}
use Rattle.desk.specs.Prices.{no_duty, gauged_grid}

-- a pair's column is one of the roster's
pub column_below : (earlier : List Duty) (columns : List ℕ) (n k : ℕ) (pair : Duty × ℕ) → AllByRecursion (λ column. column < n) columns → k < length (zip earlier columns) → pair ≡ get_or (zip earlier columns) k pair → pair.1 < n
column_below earlier columns n k pair below within at =
    let long = length-zip earlier columns in
    let early : k < length earlier = omega arith in
    let rostered : k < length columns = omega arith in
    subst (λ column. column < n) (sym (ap (λ (p : Duty × ℕ). p.1) (at ∙ get_or-zip earlier columns k pair early rostered))) (All-get_or _ columns k pair.1 rostered below)

module _ {C : Type 0} (w : Written C) (later : List Duty) where
  -- the cell of an earlier duty and a later one's column
  abbrev pub pair_cell : Duty × ℕ → Widened C
  pair_cell pair = gauged w pair.0 (get_or later pair.1 no_duty)

  behind_first : (duty : Duty) (earlier : List Duty) (row : ℕ) (columns : List ℕ) → chosen_from (gauged_grid w (duty ∷ earlier) later) (suc row) columns ≡ chosen_from (gauged_grid w earlier later) row columns
  behind_first duty earlier row [] = refl
  behind_first duty earlier row (column ∷ columns) = ap (λ cells. gauged_grid w earlier later row column ∷ cells) (behind_first duty earlier (suc row) columns)

  pub chosen_pairs : (earlier : List Duty) (columns : List ℕ) → length earlier ≡ length columns → map pair_cell (zip earlier columns) ≡ chosen (gauged_grid w earlier later) columns
  chosen_pairs [] [] rows = refl
  chosen_pairs [] (column ∷ columns) rows = absurd (omega arith)
  chosen_pairs (duty ∷ earlier) [] rows = absurd (omega arith)
  chosen_pairs (duty ∷ earlier) (column ∷ columns) rows = ap (λ cells. pair_cell (duty, column) ∷ cells) (chosen_pairs earlier columns (omega arith) ∙ sym (behind_first duty earlier 0 columns))
