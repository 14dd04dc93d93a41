-- Total and worst keep the laws of a kind, and those of writing. Assumes nothing.
use Rattle.std.specs.Prelude.{refl}
use Rattle.std.proofs.Common.{arith}
use Rattle.std.proofs.lemmas.Bool.Decides.{nat_tests}
use Rattle.costs.specs.Kinds.{Laws}
use Rattle.costs.specs.NumberKinds.{number_laws, number_written}
use Rattle.costs.specs.Same.{same_total, same_worst}
use Rattle.costs.specs.Totals.{total_operations, total_written}
use Rattle.costs.specs.Worsts.{worst_operations, worst_written}
use Rattle.costs.specs.Written.{WrittenLaws}

pub total_laws : Laws total_operations
total_laws =
    number_laws (λ c. c.minutes) same_total total_operations (record {
      compares = λ a b. refl;
      empty_is = refl;
      commutes = λ a b. omega arith;
      associates = λ a b c. omega arith;
      neutral = λ a. omega arith;
      keeps = λ a b c h. omega arith;
      completes = λ a b h. grind (arith, nat_tests);
      otherwise = λ a b h. grind (arith, nat_tests);
    })

pub total_faithful : WrittenLaws total_written
total_faithful =
    number_written (λ c. c.minutes) same_total 8 1 _ _ (omega arith) (omega arith) (λ c. c.fits) (λ n h. record { minutes = n; fits = h }) (λ n h. refl)
    (λ m h. grind (arith, nat_tests))

pub worst_laws : Laws worst_operations
worst_laws =
    number_laws (λ c. c.minutes) same_worst worst_operations (record {
      compares = λ a b. refl;
      empty_is = refl;
      commutes = λ a b. omega arith;
      associates = λ a b c. omega arith;
      neutral = λ a. omega arith;
      keeps = λ a b c h. omega arith;
      completes = λ a b h. grind (arith, nat_tests);
      otherwise = λ a b h. grind (arith, nat_tests);
    })

pub worst_faithful : WrittenLaws worst_written
worst_faithful =
    number_written (λ c. c.minutes) same_worst 4 2 _ _ (omega arith) (omega arith) (λ c. c.fits) (λ n h. record { minutes = n; fits = h }) (λ n h. refl)
    (λ m h. grind (arith, nat_tests))
