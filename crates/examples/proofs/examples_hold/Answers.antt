use Rattle.std.proofs.Common.{◌≡◌, ℕ, ◌+◌, ◌-◌, count_ones, refl, sym, ap, ap₂, ◌∙◌, arith}
use Rattle.std.specs.Int.Count.{ones_step, ones-ones}
use Rattle.std.proofs.lemmas.Bool.{false≢true}
use Rattle.costs.specs.Classes.{class_operations}
use Rattle.costs.specs.Totals.{total_operations}
use Rattle.costs.specs.Wide.{widened}
use Rattle.costs.specs.Worsts.{worst_operations}
use Rattle.costs.specs.declared.values.Total.{Total}
use Rattle.costs.specs.declared.values.Widened.TheVariants.{Allowed}
use Rattle.costs.specs.Same.{same_total, same_worst, same_class}
use Rattle.tables.specs.Steps.{times}
use Rattle.tables.specs.Tables.{grid}
use Rattle.examples.specs.Worked.{total, worst, class, two_rows, eights}
use Rattle.examples.proofs.TwoRows.{of_four, cheapest_of_two}
use Rattle.examples.proofs.examples_hold.Goals as goal

one_member : count_ones 2 ≡ 1
one_member = omega (arith, ones_step 2, ones-ones 1)

two_members : count_ones 3 ≡ 2
two_members = ones-ones 2

-- a sum of amounts, each taken as often as its excess says
abbrev taken_twice : ℕ → ℕ → Total
taken_twice j k =
    total_operations.compose (times total_operations j (total 4)) (total_operations.compose (times total_operations k (total 4)) total_operations.empty)

same_rows : (a b c d a' b' c' d' : Total) → a.minutes ≡ a'.minutes → b.minutes ≡ b'.minutes → c.minutes ≡ c'.minutes → d.minutes ≡ d'.minutes → two_rows a b c d ≡ two_rows a' b' c' d'
same_rows a b c d a' b' c' d' p q r s =
    ap₂ (λ x y. two_rows x y c d) (same_total a a' p) (same_total b b' q) ∙ ap₂ (two_rows a' b') (same_total c c' r) (same_total d d' s)

pub returns : goal.returns
returns c = record {
  higher_class = same_class _ _ refl refl;
  rest_in_total = same_total _ _ refl;
  rest_in_worst = same_worst _ _ refl;
  rest_in_class = same_class _ _ refl refl;
  rest_of_600 = λ s f. refl;
  shortage_of_120 = λ s f. refl;
  forbidden_in_total = λ s f. refl;
  forbidden_in_worst = λ s f. refl;
  forbidden_in_class = λ s f. refl;
  threes_admissible = record {
    rows_there = omega arith;
    columns_there = omega arith;
    some_excess = omega (arith, two_members);
    amount_fits = of_four _ (λ _ _. refl) (λ _ _. refl) (λ _ _. refl) (λ _ _. refl);
  };
  threes_value = ap (λ m. total_operations.compose (times total_operations (m + m - 2) (total 3)) total_operations.empty) two_members ∙ same_total _ _ refl;
  settled_in_total = record {
    costs_value = ap Allowed (same_total _ _ refl);
    cheapest = cheapest_of_two (widened total_operations) (grid (widened total_operations) 2 eights) 0 1 (λ e. omega (arith, e)) (omega arith) (omega arith) refl refl;
  };
  reached_in_total = record {
    whole = omega arith;
    admissible = (
      record {
        rows_there = omega arith;
        columns_there = omega arith;
        some_excess = omega (arith, one_member, two_members);
        amount_fits = of_four _ (λ out _. absurd (false≢true out)) (λ out _. absurd (false≢true out)) (λ _ _. refl) (λ _ _. refl);
      },
      (
        record {
          rows_there = omega arith;
          columns_there = omega arith;
          some_excess = omega (arith, one_member, two_members);
          amount_fits = of_four _ (λ _ out. absurd (false≢true out)) (λ _ _. refl) (λ _ out. absurd (false≢true out)) (λ _ _. refl);
        },
        tt,
      ),
    );
    left = same_rows _ _ _ _ _ _ _ _ refl refl refl refl;
    value_is = same_total (total 8) (taken_twice 1 1) refl ∙ sym (ap₂ (λ x y. taken_twice (x + y - 2) (y + x - 2)) one_member two_members);
  };
  absorbed_in_total = (ap Allowed (same_total _ _ refl), (ap Allowed (same_total _ _ refl), tt));
  settled_in_worst = record {
    costs_value = ap Allowed (same_worst _ _ refl);
    cheapest = cheapest_of_two (widened worst_operations) (grid (widened worst_operations) 2 (two_rows (worst 0) (worst 5) (worst 4) (worst 8))) 1 0 (λ e. omega (arith, e)) (omega arith) (omega arith) refl refl;
  };
  settled_in_class = record {
    costs_value = ap Allowed (same_class _ _ refl refl);
    cheapest = cheapest_of_two (widened class_operations) (grid (widened class_operations) 2 (two_rows (class 0 0) (class 1 50) (class 1 30) (class 2 1))) 1 0 (λ e. omega (arith, e)) (omega arith) (omega arith) refl refl;
  };
}
