-- What the laws of a kind say of composing and of "at most". Assumes nothing.
use Rattle.std.proofs.Common.{◌≡◌, true, List, [], ◌∷◌, Decides, sym, ap, ◌∙◌, subst}
use Rattle.std.specs.List.{AllByRecursion}
use Rattle.costs.specs.Kinds.{Operations, Laws, composed}
use Rattle.tables.specs.Steps.{Absorbed}

module _ {C : Type 0} {o : Operations C} (laws : Laws o) where
  pub empty_right : (a : C) → o.compose a o.empty ≡ a
  empty_right a = laws.compose_commutes a o.empty ∙ laws.empty_neutral a

  -- what is composed with a cost never lowers it
  pub at_most_composed : (a b : C) → o.at_most a (o.compose a b) ≡ true
  at_most_composed a b =
      subst (λ x. o.at_most x (o.compose a b) ≡ true) (laws.empty_neutral a)
      (subst (λ x. o.at_most (o.compose o.empty a) x ≡ true) (laws.compose_commutes b a) (laws.compose_keeps_at_most o.empty b a (laws.empty_least b)))

  -- so one comparison tells whether a cell is absorbed
  pub absorbed_when : (z b : C) → Decides (o.at_most (o.compose z b) z) (Absorbed o z b)
  absorbed_when z b = (
    λ most. laws.at_most_antisymmetric (o.compose z b) z most (at_most_composed z b),
    λ same. subst (λ x. o.at_most x z ≡ true) (sym same) (laws.at_most_reflexive z),
  )

  -- cells that are each absorbed are absorbed together
  pub absorbed_all : (z : C) (cells : List C) → AllByRecursion (Absorbed o z) cells → Absorbed o z (composed o cells)
  absorbed_all z [] h = empty_right z
  absorbed_all z (b ∷ cells) h = sym (laws.compose_associates z b (composed o cells)) ∙ ap (λ x. o.compose x (composed o cells)) h.0 ∙ absorbed_all z cells h.1

  -- the first two of three change places
  pub swap_first : (a b c : C) → o.compose a (o.compose b c) ≡ o.compose b (o.compose a c)
  swap_first a b c = sym (laws.compose_associates a b c) ∙ ap (λ x. o.compose x c) (laws.compose_commutes a b) ∙ laws.compose_associates b a c

  -- the middle two of four
  pub exchange : (a b c d : C) → o.compose (o.compose a b) (o.compose c d) ≡ o.compose (o.compose a c) (o.compose b d)
  exchange a b c d = laws.compose_associates a b (o.compose c d) ∙ ap (o.compose a) (swap_first b c d) ∙ sym (laws.compose_associates a c (o.compose b d))
