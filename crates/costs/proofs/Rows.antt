-- What a row of costs comes to, for any kind that keeps the laws. Assumes nothing.
use Rattle.std.proofs.Common.{◌≡◌, List, [], ◌∷◌, map, sym, refl, ap, ◌∙◌}
use Rattle.std.specs.List.{fold}
use Rattle.costs.specs.Kinds.{Operations, Laws, composed}
use Rattle.costs.specs.Plain.{SomeForbidden, CostOf}
use Rattle.costs.specs.Wide.{widened}
use Rattle.costs.specs.declared.values.Widened.{Widened}
use Rattle.costs.specs.declared.values.Widened.TheVariants.{Allowed, Forbidden}

module _ {C : Type 0} {o : Operations C} (laws : Laws o) where
  fold_from : (a : C) (cs : List C) → fold o.compose a cs ≡ o.compose a (composed o cs)
  fold_from a [] = sym (laws.compose_commutes a o.empty ∙ laws.empty_neutral a)
  fold_from a (c ∷ cs) = fold_from (o.compose a c) cs ∙ laws.compose_associates a c (composed o cs)

  -- composed one after the other, from the empty cost on
  pub composed_fold : (a : C) (cs : List C) → a ≡ o.empty → fold o.compose a cs ≡ composed o cs
  composed_fold a cs is = fold_from a cs ∙ ap (λ x. o.compose x (composed o cs)) is ∙ laws.empty_neutral (composed o cs)

module _ {C : Type 0} (o : Operations C) where
  forbidden_first : (w : Widened C) → (widened o).compose Forbidden w ≡ Forbidden
  forbidden_first (Allowed c) = refl
  forbidden_first Forbidden = refl

  pub composed_forbidden : (cells : List (Widened C)) → SomeForbidden cells → composed (widened o) cells ≡ Forbidden
  composed_forbidden [] h = absurd h
  composed_forbidden (Allowed c ∷ cells) h = ap ((widened o).compose (Allowed c)) (composed_forbidden cells h)
  composed_forbidden (Forbidden ∷ cells) h = forbidden_first (composed (widened o) cells)

  pub composed_allowed : (cs : List C) → composed (widened o) (map Allowed cs) ≡ Allowed (composed o cs)
  composed_allowed [] = refl
  composed_allowed (c ∷ cs) = ap ((widened o).compose (Allowed c)) (composed_allowed cs)

-- what a kind's row means settles what a row of its cells costs
pub cost_of : {C : Type 0} (o : Operations C) (Means : List C → C → Type 0) → ((cs : List C) → Means cs (composed o cs)) → (cells : List (Widened C)) (r : Widened C) → r ≡ composed (widened o) cells → CostOf Means cells r
cost_of o Means means cells r e = record {
  forbidden = λ some. e ∙ composed_forbidden o cells some;
  allowed = λ cs all. (composed o cs, e ∙ ap (composed (widened o)) all ∙ composed_allowed o cs, means cs);
}
