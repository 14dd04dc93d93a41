-- Numbers and pairs of numbers as text. Assumes nothing.
use Rattle.std.proofs.Common.{◌≡◌, ℕ, suc, ◌^◌, ◌<◌, ◌≤◌, List, [], ◌∷◌, ◌++◌, None, Some, Option, refl, MatchOption, sym, ap, ◌∙◌, arith, pow_mono, Bor}
use Rattle.std.specs.Str.Iter.{LacksByte}
use Rattle.std.specs.Str.Parse.{AllDigits, IsNumeral, digits_value}
use Rattle.std.specs.Int.{IsInRange}
use Rattle.std.proofs.lemmas.Str.Parse.{not_in_digits, numerals_by_value, tells_digits}
use Rattle.std.proofs.lemmas.Str.Pattern.{IsSplitOnceResult, split_after}
use Rattle.words.specs.Words.{NumberText, PairText}

-- a number of fewer bits is one of 64
pub widen : {a : ℕ} {bs : List ℕ} {n : ℕ} → a ≤ 64 → NumberText a bs n → NumberText 64 bs n
widen few t = let more = pow_mono few in record { digits = t.digits; is = t.is; small = omega (arith, t.small) }

-- what stands before and behind the first c
same_cut : (c : ℕ) (xs ys us vs : List ℕ) → LacksByte c xs → LacksByte c us → xs ++ (c ∷ ys) ≡ us ++ (c ∷ vs) → (xs ≡ us) × (ys ≡ vs)
same_cut c [] ys [] vs free free_too e = (refl, cc)
same_cut c [] ys (u ∷ us) vs free free_too e = absurd (free_too 0 (omega arith) (cc))
same_cut c (x ∷ xs) ys [] vs free free_too e = absurd (free 0 (omega arith) (cc))
same_cut c (x ∷ xs) ys (u ∷ us) vs free free_too e =
    let head : x ≡ u = cc in
    let rest = same_cut c xs ys us vs (λ i h. free (suc i) (omega arith)) (λ i h. free_too (suc i) (omega arith)) (cc) in
    (cc, rest.1)

-- a pair around a byte that is no digit
module _ {between a b : ℕ} {bs : List ℕ} {m n : ℕ} (other : IsInRange 48 57 between → ⊥) (t : PairText between a b bs m n) where
  digits_lack : (ds : List ℕ) → IsNumeral 10 ds → LacksByte between ds
  digits_lack ds digits = not_in_digits (numerals_by_value (AllDigits 10) tells_digits) ds between digits.1 other

  -- a cut at the first such byte falls between the two numbers
  pub pair_cut : (r : Option (Bor (List ℕ) × Bor (List ℕ))) → IsSplitOnceResult between bs r → between < 128 → MatchOption r ⊥ (λ p. NumberText a p.0.now m × NumberText b p.1.now n)
  pair_cut None cut ascii = split_after between bs t.first_text t.second_text None cut ascii t.whole (digits_lack t.first_text t.first_is.digits)
  pair_cut (Some p) cut ascii =
      let same = split_after between bs t.first_text t.second_text (Some p) cut ascii t.whole (digits_lack t.first_text t.first_is.digits) in
      (rw same.0 t.first_is, rw same.1 t.second_is)

  -- the text of a pair is that of no other
  pub pair_one : {c d k l : ℕ} → PairText between c d bs k l → (m ≡ k) × (n ≡ l)
  pair_one u =
      let same = same_cut between t.first_text t.second_text u.first_text u.second_text (digits_lack t.first_text t.first_is.digits) (digits_lack u.first_text u.first_is.digits) (sym t.whole ∙ u.whole) in
      (sym t.first_is.is ∙ ap (digits_value 10) same.0 ∙ u.first_is.is, sym t.second_is.is ∙ ap (digits_value 10) same.1 ∙ u.second_is.is)

  -- so what is read from it is as small
  pub pair_small : {k l : ℕ} → PairText between 64 64 bs k l → (k < 2 ^ a) × (l < 2 ^ b)
  pair_small u = let one = pair_one u in (rw (← one.0) t.first_is.small, rw (← one.1) t.second_is.small)

pub pair_widen : {between a b : ℕ} {bs : List ℕ} {m n : ℕ} → a ≤ 64 → b ≤ 64 → PairText between a b bs m n → PairText between 64 64 bs m n
pair_widen few few_too t = record {
  first_text = t.first_text;
  second_text = t.second_text;
  whole = t.whole;
  first_is = widen few t.first_is;
  second_is = widen few_too t.second_is;
}
