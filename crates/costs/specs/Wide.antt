-- Any kind, widened by the cost forbidden, which is greater than all others. Assumes nothing.
use Rattle.std.specs.Prelude.{Bool, true, false}
use Rattle.costs.specs.Kinds.{Operations}
use Rattle.costs.specs.declared.values.Widened.{Widened}
use Rattle.costs.specs.declared.values.Widened.TheVariants.{Allowed, Forbidden}

module _ {C : Type 0} (o : Operations C) where
  abbrev wide_compose : Widened C → Widened C → Widened C
  wide_compose (Allowed a) (Allowed b) = Allowed (o.compose a b)
  wide_compose (Allowed a) Forbidden = Forbidden
  wide_compose Forbidden (Allowed b) = Forbidden
  wide_compose Forbidden Forbidden = Forbidden

  abbrev wide_at_most : Widened C → Widened C → Bool
  wide_at_most (Allowed a) (Allowed b) = o.at_most a b
  wide_at_most (Allowed a) Forbidden = true
  wide_at_most Forbidden (Allowed b) = false
  wide_at_most Forbidden Forbidden = true

  abbrev wide_rest : Widened C → Widened C → Widened C
  wide_rest (Allowed a) (Allowed b) = Allowed (o.rest a b)
  wide_rest (Allowed a) Forbidden = Forbidden
  wide_rest Forbidden (Allowed b) = Allowed o.empty
  wide_rest Forbidden Forbidden = Allowed o.empty

  abbrev pub widened : Operations (Widened C)
  widened = record { empty = Allowed o.empty; compose = wide_compose; at_most = wide_at_most; rest = wide_rest }
