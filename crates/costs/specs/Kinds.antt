-- What a cost kind is: four operations, and the laws that they keep (Burkard, Hahn and Zimmermann 1977).
-- Assumes nothing.
use Rattle.std.specs.Prelude.{◌≡◌, Bool, true, false, ◌⊎◌, List, [], ◌∷◌}

pub record Operations (C : Type 0) : Type 0 where
  pub empty : C
  pub compose : C → C → C
  pub at_most : C → C → Bool
  -- what is left of the second cost after the first
  pub rest : C → C → C

pub record Laws {C : Type 0} (o : Operations C) : Type 0 where
  pub compose_commutes : (a b : C) → o.compose a b ≡ o.compose b a
  pub compose_associates : (a b c : C) → o.compose (o.compose a b) c ≡ o.compose a (o.compose b c)
  pub empty_neutral : (a : C) → o.compose o.empty a ≡ a
  pub at_most_reflexive : (a : C) → o.at_most a a ≡ true
  pub at_most_transitive : (a b c : C) → o.at_most a b ≡ true → o.at_most b c ≡ true → o.at_most a c ≡ true
  pub at_most_total : (a b : C) → (o.at_most a b ≡ true) ⊎ (o.at_most b a ≡ true)
  pub at_most_antisymmetric : (a b : C) → o.at_most a b ≡ true → o.at_most b a ≡ true → a ≡ b
  pub empty_least : (a : C) → o.at_most o.empty a ≡ true
  pub compose_keeps_at_most : (a b c : C) → o.at_most a b ≡ true → o.at_most (o.compose a c) (o.compose b c) ≡ true
  pub rest_completes : (a b : C) → o.at_most a b ≡ true → o.compose a (o.rest a b) ≡ b
  pub rest_otherwise_empty : (a b : C) → o.at_most a b ≡ false → o.rest a b ≡ o.empty

-- what a row of costs comes to
abbrev pub composed : {C : Type 0} → Operations C → List C → C
composed o [] = o.empty
composed o (c ∷ cs) = o.compose c (composed o cs)
