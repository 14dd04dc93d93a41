-- A roster's columns meet a set of columns as often as the set has members. Assumes nothing.
use Rattle.std.proofs.Common.{◌≡◌, ℕ, zero, suc, count_ones, ◌+◌, ◌-◌, ◌/◌, ◌^◌, ◌<◌, ◌≤◌, cond, eqb, List, [], ◌∷◌, length, get_or, sum_by, sym, refl, ap, ◌∙◌, ⊎_elim, pow-suc, div-one, arith}
use Rattle.std.specs.List.{AllByRecursion}
use Rattle.std.specs.Int.{bit_at}
use Rattle.std.specs.Int.Count.{ones_step}
use Rattle.std.proofs.lemmas.Nat.{ones-le}
use Rattle.std.proofs.lemmas.Nat.Bits.{bit_at-suc}
use Rattle.std.proofs.ByRecursion.{All-from_get_or}
use Rattle.std.proofs.lemmas.List.Sums.{sum_by-cons}
use Rattle.std.proofs.lemmas.Bool.{cases_eq}
use Rattle.std.proofs.lemmas.Bool.Decides.{nat_tests, eqb_tells}

-- f summed over the numbers below n
abbrev pub below : (ℕ → ℕ) → ℕ → ℕ
below f zero = 0
below f (suc n) = f n + below f n

-- f, but 0 at x
abbrev without : (ℕ → ℕ) → ℕ → ℕ → ℕ
without f x y = cond (eqb y x) 0 (f y)

-- no number twice
abbrev pub Different : List ℕ → Type 0
Different xs = (i j : ℕ) → i < j → j < length xs → get_or xs i 0 ≡ get_or xs j 0 → ⊥

without_past : (f : ℕ → ℕ) (x n : ℕ) → n ≤ x → below (without f x) n ≡ below f n
without_past f x zero h = refl
without_past f x (suc n) h = grind (arith, nat_tests, without_past f x n (omega arith))

without_one : (f : ℕ → ℕ) (x n : ℕ) → x < n → below (without f x) n + f x ≡ below f n
without_one f x zero h = absurd (omega arith)
without_one f x (suc n) h =
    ⊎_elim
    (λ is. grind (arith, nat_tests, without_past f x n (omega arith)))
    (λ other. grind (arith, nat_tests, without_one f x n (omega arith)))
    (cases_eq n x)

sum_without : (f : ℕ → ℕ) (x : ℕ) (xs : List ℕ) → AllByRecursion (λ y. y ≡ x → ⊥) xs → sum_by (without f x) xs ≡ sum_by f xs
sum_without f x [] h = refl
sum_without f x (y ∷ xs) h =
    let here : without f x y ≡ f y = ⊎_elim (λ is. absurd (h.0 is.1)) (λ other. ap (λ b. cond b 0 (f y)) other.0) (eqb_tells y x) in
    omega (arith, here, sum_without f x xs h.1, sum_by-cons f y xs, sum_by-cons (without f x) y xs)

-- different numbers below n come to no more than all of them
different_sum : (f : ℕ → ℕ) (n : ℕ) (xs : List ℕ) → AllByRecursion (λ x. x < n) xs → Different xs → sum_by f xs ≤ below f n
different_sum f n [] there once = omega arith
different_sum f n (x ∷ xs) there once =
    let fresh : AllByRecursion (λ y. y ≡ x → ⊥) xs = All-from_get_or _ xs 0 (λ j within e. once 0 (suc j) (omega arith) (omega arith) (sym e)) in
    let others : sum_by (without f x) xs ≤ below (without f x) n = different_sum (without f x) n xs there.1 (λ i j lt up e. once (suc i) (suc j) (omega arith) (omega arith) e) in
    omega (arith, others, sum_without f x xs fresh, sum_by-cons f x xs, without_one f x n there.0)

-- f is 0 or 1
module _ (f : ℕ → ℕ) (small : (x : ℕ) → f x ≤ 1) where
  abbrev other : ℕ → ℕ
  other x = 1 - f x

  sum_both : (xs : List ℕ) → sum_by f xs + sum_by other xs ≡ length xs
  sum_both [] = refl
  sum_both (x ∷ xs) = omega (arith, small x, sum_both xs, sum_by-cons f x xs, sum_by-cons other x xs)

  below_both : (n : ℕ) → below f n + below other n ≡ n
  below_both zero = refl
  below_both (suc n) = omega (arith, small n, below_both n)

  -- n different numbers below n are all of them
  all_counted : (n : ℕ) (xs : List ℕ) → length xs ≡ n → AllByRecursion (λ x. x < n) xs → Different xs → sum_by f xs ≡ below f n
  all_counted n xs whole there once =
      omega (arith, sum_both xs, below_both n, different_sum f n xs there once, different_sum other n xs there once)

pub bit_small : (mask r : ℕ) → bit_at mask r ≤ 1
bit_small mask r = omega arith

below_first : (f : ℕ → ℕ) (n : ℕ) → below f (suc n) ≡ f 0 + below (λ r. f (suc r)) n
below_first f zero = refl
below_first f (suc n) = omega (arith, below_first f n)

below_same : (f g : ℕ → ℕ) → ((r : ℕ) → f r ≡ g r) → (n : ℕ) → below f n ≡ below g n
below_same f g same zero = refl
below_same f g same (suc n) = omega (arith, same n, below_same f g same n)

-- a mask's bits below n are counted by its ones, where it has no others
pub bits_are_ones : (n mask : ℕ) → mask < 2 ^ n → below (bit_at mask) n ≡ count_ones mask
bits_are_ones zero mask small = omega (arith, ones-le 0 mask small)
bits_are_ones (suc n) mask small =
    let half : mask / 2 < 2 ^ n = omega (arith, pow-suc 2 n) in
    omega (arith, below_first (bit_at mask) n, below_same (λ r. bit_at mask (suc r)) (bit_at (mask / 2)) (bit_at-suc mask) n, bits_are_ones n (mask / 2) half, ones_step mask, div-one mask)

-- a roster's columns meet a set of columns as often as it has members
pub columns_counted : (n mask : ℕ) (columns : List ℕ) → mask < 2 ^ n → length columns ≡ n → AllByRecursion (λ x. x < n) columns → Different columns → sum_by (bit_at mask) columns ≡ count_ones mask
columns_counted n mask columns small whole there once = all_counted (bit_at mask) (bit_small mask) n columns whole there once ∙ bits_are_ones n mask small
