-- What a row of costs comes to in whole numbers: the sum, the highest, or the highest class with its minutes. Assumes nothing.
use Rattle.std.specs.Prelude.{◌≡◌, ℕ, ◌+◌, ◌<◌, ◌≤◌, max, List, [], ◌∷◌, map, length, sum_by, refl, ◌==◌, if◌then◌else◌}
use Rattle.std.specs.List.{AllByRecursion}
use Rattle.std.proofs.Common.{sym, ap, ◌∙◌, ⊎_elim, mul-le-mul_right, arith}
use Rattle.std.proofs.ByRecursion.{All-weaker, sum_by_le}
use Rattle.std.proofs.lemmas.List.Sums.{sum_by-cons}
use Rattle.std.proofs.lemmas.Bool.{cases_order}
use Rattle.std.proofs.lemmas.Bool.Decides.{nat_tests}
use Rattle.costs.specs.Kinds.{Operations, composed}
use Rattle.costs.specs.Plain.{rota_cells, Sum, highest, Highest, minutes_in, HighestClass}
use Rattle.costs.specs.Totals.{held, total_operations}
use Rattle.costs.specs.Worsts.{worst_operations}
use Rattle.costs.specs.Written.{cell_minutes}
use Rattle.costs.specs.declared.values.Class.{Class}
use Rattle.costs.specs.declared.values.Total.{Total}
use Rattle.costs.specs.declared.values.Worst.{Worst}

-- no sum of a rota's cells is held
plain : {X : Type 0} (f : X → ℕ) (xs : List X) → length xs ≤ rota_cells → AllByRecursion (λ x. f x ≤ cell_minutes) xs → held (sum_by f xs) ≡ sum_by f xs
plain f xs few small =
    let bound = sum_by_le f cell_minutes xs small in let few_times = mul-le-mul_right cell_minutes few in omega arith

sum_held : (ts : List Total) → (composed total_operations ts).minutes ≡ held (sum_by (λ x. x.minutes) ts)
sum_held [] = refl
sum_held (t ∷ ts) = omega (arith, sum_held ts, sum_by-cons (λ (x : Total). x.minutes) t ts)

pub total_means : (ts : List Total) → Sum ts (composed total_operations ts)
total_means ts = record {
  minutes_held = sum_held ts;
  minutes_plain = λ few stand. sum_held ts ∙ plain (λ x. x.minutes) ts few (All-weaker _ _ (λ x h. grind (arith, nat_tests)) ts stand);
}

pub worst_means : (ws : List Worst) → Highest ws (composed worst_operations ws)
worst_means [] = refl
worst_means (w ∷ ws) = ap (max w.minutes) (worst_means ws)

-- two costs of class come to the higher class with its minutes, and in equal classes to the minutes of both
pub record ClassFacts (o : Operations Class) : Type 0 where
  pub no_class : o.empty.class ≡ 0
  pub no_minutes : o.empty.minutes ≡ 0
  pub higher : (a b : Class) → (o.compose a b).class ≡ max a.class b.class
  pub first_alone : (a b : Class) → b.class < a.class → (o.compose a b).minutes ≡ a.minutes
  pub second_alone : (a b : Class) → a.class < b.class → (o.compose a b).minutes ≡ b.minutes
  pub together : (a b : Class) → a.class ≡ b.class → (o.compose a b).minutes ≡ held (a.minutes + b.minutes)

-- the minutes that a cost adds to those of class k
abbrev share : ℕ → Class → ℕ
share k c = if c.class == k then c.minutes else 0

-- no cost is of a class above the highest
none_above : (k : ℕ) (cs : List Class) → highest (map (λ x. x.class) cs) < k → minutes_in k cs ≡ 0
none_above k [] h = refl
none_above k (c ∷ cs) h =
    let rest = none_above k cs (omega arith) in
    let other : share k c ≡ 0 = grind (arith, nat_tests) in
    omega (arith, sum_by-cons (share k) c cs)

module _ (o : Operations Class) (facts : ClassFacts o) where
  -- m is what the row behind a has in the class that the two come to
  both_minutes : (a b : Class) (m : ℕ) → (b.class < a.class → m ≡ 0) → (a.class ≤ b.class → b.minutes ≡ held m) → (o.compose a b).minutes ≡ held (share (max a.class b.class) a + m)
  both_minutes a b m none some =
      let fits = a.fits in
      ⊎_elim
      (λ same. grind (arith, nat_tests, some (omega arith), facts.together a b same))
      (⊎_elim (λ below. grind (arith, nat_tests, some (omega arith), facts.second_alone a b below)) (λ above. grind (arith, nat_tests, none above, facts.first_alone a b above)))
      (cases_order a.class b.class)

  class_of : (cs : List Class) → (composed o cs).class ≡ highest (map (λ x. x.class) cs)
  class_of [] = facts.no_class
  class_of (c ∷ cs) = facts.higher c (composed o cs) ∙ ap (max c.class) (class_of cs)

  minutes_of : (cs : List Class) → (composed o cs).minutes ≡ held (minutes_in (composed o cs).class cs)
  minutes_of [] = facts.no_minutes
  minutes_of (c ∷ cs) =
      let rest = composed o cs in
      let k = max c.class rest.class in
      let none : rest.class < c.class → minutes_in k cs ≡ 0 = λ h. none_above k cs (omega (arith, class_of cs)) in
      let some : c.class ≤ rest.class → rest.minutes ≡ held (minutes_in k cs) = λ h. minutes_of cs ∙ ap (λ j. held (minutes_in j cs)) (omega arith) in
      both_minutes c rest (minutes_in k cs) none some ∙ ap held (sym (sum_by-cons (share k) c cs)) ∙ ap (λ j. held (minutes_in j (c ∷ cs))) (sym (facts.higher c rest))

  pub class_means : (cs : List Class) → HighestClass cs (composed o cs)
  class_means cs =
      let k = (composed o cs).class in
      record {
        class_is = class_of cs;
        minutes_held = minutes_of cs;
        minutes_plain = λ few stand. minutes_of cs ∙ plain (share k) cs few (All-weaker _ _ (λ x h. grind (arith, nat_tests)) cs stand);
      }
