-- The widened kind keeps the laws of the kind that it widens. Assumes nothing.
use Rattle.std.specs.Prelude.{◌≡◌, true, false, ◌⊎◌, refl}
use Rattle.std.proofs.Common.{ap, true≢false, inl, inr}
use Rattle.std.proofs.lemmas.Bool.{false≢true}
use Rattle.costs.specs.Kinds.{Operations, Laws}
use Rattle.costs.specs.Wide.{widened}
use Rattle.costs.specs.declared.values.Widened.{Widened}
use Rattle.costs.specs.declared.values.Widened.TheVariants.{Allowed, Forbidden}

module _ {C : Type 0} {o : Operations C} (laws : Laws o) where
  commutes : (a b : Widened C) → (widened o).compose a b ≡ (widened o).compose b a
  commutes (Allowed a) (Allowed b) = ap Allowed (laws.compose_commutes a b)
  commutes (Allowed a) Forbidden = refl
  commutes Forbidden (Allowed b) = refl
  commutes Forbidden Forbidden = refl

  associates : (a b c : Widened C) → (widened o).compose ((widened o).compose a b) c ≡ (widened o).compose a ((widened o).compose b c)
  associates (Allowed a) (Allowed b) (Allowed c) = ap Allowed (laws.compose_associates a b c)
  associates (Allowed a) (Allowed b) Forbidden = refl
  associates (Allowed a) Forbidden (Allowed c) = refl
  associates (Allowed a) Forbidden Forbidden = refl
  associates Forbidden (Allowed b) (Allowed c) = refl
  associates Forbidden (Allowed b) Forbidden = refl
  associates Forbidden Forbidden (Allowed c) = refl
  associates Forbidden Forbidden Forbidden = refl

  neutral : (a : Widened C) → (widened o).compose (widened o).empty a ≡ a
  neutral (Allowed a) = ap Allowed (laws.empty_neutral a)
  neutral Forbidden = refl

  reflexive : (a : Widened C) → (widened o).at_most a a ≡ true
  reflexive (Allowed a) = laws.at_most_reflexive a
  reflexive Forbidden = refl

  transitive : (a b c : Widened C) → (widened o).at_most a b ≡ true → (widened o).at_most b c ≡ true → (widened o).at_most a c ≡ true
  transitive (Allowed a) (Allowed b) (Allowed c) p q = laws.at_most_transitive a b c p q
  transitive (Allowed a) (Allowed b) Forbidden p q = refl
  transitive (Allowed a) Forbidden Forbidden p q = refl
  transitive (Allowed a) Forbidden (Allowed c) p q = absurd (false≢true q)
  transitive Forbidden (Allowed b) c p q = absurd (false≢true p)
  transitive Forbidden Forbidden (Allowed c) p q = absurd (false≢true q)
  transitive Forbidden Forbidden Forbidden p q = refl

  total : (a b : Widened C) → ((widened o).at_most a b ≡ true) ⊎ ((widened o).at_most b a ≡ true)
  total (Allowed a) (Allowed b) = laws.at_most_total a b
  total (Allowed a) Forbidden = inl refl
  total Forbidden (Allowed b) = inr refl
  total Forbidden Forbidden = inl refl

  antisymmetric : (a b : Widened C) → (widened o).at_most a b ≡ true → (widened o).at_most b a ≡ true → a ≡ b
  antisymmetric (Allowed a) (Allowed b) p q = ap Allowed (laws.at_most_antisymmetric a b p q)
  antisymmetric (Allowed a) Forbidden p q = absurd (false≢true q)
  antisymmetric Forbidden (Allowed b) p q = absurd (false≢true p)
  antisymmetric Forbidden Forbidden p q = refl

  least : (a : Widened C) → (widened o).at_most (widened o).empty a ≡ true
  least (Allowed a) = laws.empty_least a
  least Forbidden = refl

  keeps : (a b c : Widened C) → (widened o).at_most a b ≡ true → (widened o).at_most ((widened o).compose a c) ((widened o).compose b c) ≡ true
  keeps (Allowed a) (Allowed b) (Allowed c) p = laws.compose_keeps_at_most a b c p
  keeps (Allowed a) (Allowed b) Forbidden p = refl
  keeps (Allowed a) Forbidden (Allowed c) p = refl
  keeps (Allowed a) Forbidden Forbidden p = refl
  keeps Forbidden (Allowed b) c p = absurd (false≢true p)
  keeps Forbidden Forbidden (Allowed c) p = refl
  keeps Forbidden Forbidden Forbidden p = refl

  completes : (a b : Widened C) → (widened o).at_most a b ≡ true → (widened o).compose a ((widened o).rest a b) ≡ b
  completes (Allowed a) (Allowed b) p = ap Allowed (laws.rest_completes a b p)
  completes (Allowed a) Forbidden p = refl
  completes Forbidden (Allowed b) p = absurd (false≢true p)
  completes Forbidden Forbidden p = refl

  otherwise : (a b : Widened C) → (widened o).at_most a b ≡ false → (widened o).rest a b ≡ (widened o).empty
  otherwise (Allowed a) (Allowed b) p = ap Allowed (laws.rest_otherwise_empty a b p)
  otherwise (Allowed a) Forbidden p = absurd (true≢false p)
  otherwise Forbidden (Allowed b) p = refl
  otherwise Forbidden Forbidden p = refl

  pub wide_laws : Laws (widened o)
  wide_laws = record {
    compose_commutes = commutes;
    compose_associates = associates;
    empty_neutral = neutral;
    at_most_reflexive = reflexive;
    at_most_transitive = transitive;
    at_most_total = total;
    at_most_antisymmetric = antisymmetric;
    empty_least = least;
    compose_keeps_at_most = keeps;
    rest_completes = completes;
    rest_otherwise_empty = otherwise;
  }
