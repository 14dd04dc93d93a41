-- What is written to and read from the front of a slice. Assumes nothing.
use Rattle.std.proofs.Common.{◌≡◌, ℕ, zero, suc, ◌+◌, ◌<◌, List, [], ◌∷◌, ◌++◌, length, get_or, min, take, drop, replicate, refl, subst, Fits, w8, sym, ap, ◌∙◌, arith, length-drop, drop-cons}
use Rattle.std.proofs.lemmas.List.{nil_from_length}
use Rattle.costs.specs.Bytes.{first_bytes, over}

-- what has room, and behind it what was there
pub over_front : (bs out : List ℕ) (room : ℕ) → room ≡ min (length bs) (length out) → take room bs ++ drop room out ≡ over bs out
over_front [] out zero e = refl
over_front [] out (suc room) e = absurd (omega arith)
over_front (b ∷ bs) [] zero e = refl
over_front (b ∷ bs) [] (suc room) e = absurd (omega arith)
over_front (b ∷ bs) (x ∷ out) zero e = absurd (omega arith)
over_front (b ∷ bs) (x ∷ out) (suc room) e = ap (λ l. b ∷ l) (over_front bs out room (omega arith))

-- written over zeros, a missing byte is 0
pub over_zeros : (bs : List ℕ) (k : ℕ) → over bs (replicate k 0) ≡ first_bytes k bs
over_zeros [] zero = refl
over_zeros [] (suc k) = ap (λ l. 0 ∷ l) (over_zeros [] k)
over_zeros (b ∷ bs) zero = refl
over_zeros (b ∷ bs) (suc k) = ap (λ l. b ∷ l) (over_zeros bs k)

pub length_front : (k : ℕ) (bs : List ℕ) → length (first_bytes k bs) ≡ k
length_front zero bs = refl
length_front (suc k) [] = ap suc (length_front k [])
length_front (suc k) (b ∷ bs) = ap suc (length_front k bs)

-- whose elements are bytes
abbrev pub Small : List ℕ → Type 0
Small bs = (i : ℕ) → get_or bs i 0 < 256

small_first : (k : ℕ) (bs : List ℕ) → Small bs → Small (first_bytes k bs)
small_first zero bs small i = omega arith
small_first (suc k) [] small zero = omega arith
small_first (suc k) [] small (suc i) = small_first k [] small i
small_first (suc k) (b ∷ bs) small zero = small zero
small_first (suc k) (b ∷ bs) small (suc i) = small_first k bs (λ j. small (suc j)) i

-- k bytes that were read from the front
pub small_front : (k : ℕ) (bs front : List ℕ) → ((i : ℕ) → Fits w8 (get_or bs i 0)) → front ≡ first_bytes k bs → Small front
small_front k bs front fits e = subst Small (sym e) (small_first k bs (λ i. omega (arith, fits i)))

-- k elements one by one, from the i-th on
abbrev pub one_by_one : List ℕ → ℕ → ℕ → List ℕ
one_by_one xs zero i = []
one_by_one xs (suc k) i = get_or xs i 0 ∷ one_by_one xs k (suc i)

pub as_one_by_one : (xs : List ℕ) (k i : ℕ) → length xs ≡ i + k → drop i xs ≡ one_by_one xs k i
as_one_by_one xs zero i e = nil_from_length (drop i xs) (omega (arith, length-drop i xs))
as_one_by_one xs (suc k) i e = drop-cons xs i 0 (omega arith) ∙ ap (λ l. get_or xs i 0 ∷ l) (as_one_by_one xs k (suc i) (omega arith))
