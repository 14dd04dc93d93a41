-- What is printed of a cell. Assumes nothing.
use Rattle.std.specs.Prelude.{ℕ, List, Some, codes, Option}
use Rattle.costs.specs.declared.values.Widened.{Widened}
use Rattle.costs.specs.declared.values.Widened.TheVariants.{Allowed, Forbidden}

abbrev pub shown_cell : {C : Type 0} → (C → Option (List ℕ)) → Widened C → Option (List ℕ)
shown_cell shown (Allowed c) = shown c
shown_cell shown Forbidden = Some (codes "forbidden")
