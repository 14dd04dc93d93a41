-- Costs composed one after the other, and many times. Assumes nothing.
use Rattle.std.proofs.Common.{◌≡◌, ℕ, zero, suc, ◌+◌, List, [], ◌∷◌, length, sym, ap, ◌∙◌, suc-add, zero-add}
use Rattle.std.specs.List.{fold}
use Rattle.costs.specs.Kinds.{Operations, Laws}
use Rattle.tables.specs.Steps.{times}
use Rattle.tables.proofs.Orders.{empty_right}

module _ {C : Type 0} {o : Operations C} (laws : Laws o) where
  -- a fold from empty on that composes the same cost for each of xs
  pub folded_times : (c a : C) (xs : List ℕ) → a ≡ o.empty → fold (λ b _. o.compose b c) a xs ≡ times o (length xs) c
  folded_times c a xs is = times_on a xs ∙ ap (λ x. o.compose x (times o (length xs) c)) is ∙ laws.empty_neutral (times o (length xs) c)
    where
      times_on : (a : C) (xs : List ℕ) → fold (λ b _. o.compose b c) a xs ≡ o.compose a (times o (length xs) c)
      times_on a [] = sym (empty_right laws a)
      times_on a (x ∷ xs) = times_on (o.compose a c) xs ∙ laws.compose_associates a c (times o (length xs) c)

  pub times_add : (j k : ℕ) (c : C) → times o (j + k) c ≡ o.compose (times o j c) (times o k c)
  times_add zero k c = ap (λ m. times o m c) (zero-add k) ∙ sym (laws.empty_neutral (times o k c))
  times_add (suc j) k c = ap (λ m. times o m c) (suc-add j k) ∙ ap (o.compose c) (times_add j k c) ∙ sym (laws.compose_associates c (times o j c) (times o k c))
