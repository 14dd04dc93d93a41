-- Numbers and the bytes that spell them, the highest first. Assumes nothing.
use Rattle.std.specs.Prelude.{◌≡◌, ℕ, zero, suc, ◌+◌, ◌*◌, ◌/◌, ◌%◌, ◌^◌, ◌<◌, List, [], ◌∷◌, length, refl}
use Rattle.std.proofs.Common.{sym, ap, ◌∙◌, div-one, mod-lt, mod-eq_of_lt, arith}
use Rattle.std.proofs.Math.Nat.{pow-succ'}
use Rattle.std.proofs.Math.Arith.{digits_div, digits_mod, mod-mul}
use Rattle.std.proofs.lemmas.Nat.{be_bytes_4, be_bytes_8}
use Rattle.std.specs.Int.{from_be_bytes, bytes_high_first, w32, w64}
use Rattle.costs.specs.Bytes.{big_endian}
use Rattle.costs.specs.BigEndian.{power_positive}
use Rattle.costs.proofs.Fronts.{Small}

low_of : (k n : ℕ) → big_endian k (n % 256 ^ k) ≡ bytes_high_first k n
unfolding big_endian
low_of zero n = refl
low_of (suc zero) n = ap (λ b. b ∷ []) (div-one (n % 256))
low_of (suc (suc k)) n =
    let p = 256 ^ suc k in
    let q = n / p % 256 in
    let small = mod-lt n (power_positive (suc k)) in
    let cut : n % 256 ^ suc (suc k) ≡ q * p + n % p = ap (λ d. n % d) (pow-succ' 256 (suc k)) ∙ mod-mul n (omega arith) (power_positive (suc k)) in
    rw (cut, digits_div q small, digits_mod q small) (ap (λ l. q ∷ l) (low_of (suc k) n))

-- the same bytes, each taken out of the whole number
pub big_endian_low : (k n : ℕ) → n < 256 ^ k → big_endian k n ≡ bytes_high_first k n
big_endian_low k n h = ap (big_endian k) (sym (mod-eq_of_lt h)) ∙ low_of k n

-- the number that eight bytes spell, and that which four do
pub spelt_by_eight : (bs : List ℕ) (n : ℕ) → length bs ≡ 8 → Small bs → n ≡ from_be_bytes w64 bs → n < 2 ^ 64 → big_endian 8 n ≡ bs
spelt_by_eight bs n eight small spelt fits = big_endian_low 8 n fits ∙ be_bytes_8 bs n eight small spelt

pub spelt_by_four : (bs : List ℕ) (n : ℕ) → length bs ≡ 4 → Small bs → n ≡ from_be_bytes w32 bs → n < 2 ^ 32 → big_endian 4 n ≡ bs
spelt_by_four bs n four small spelt fits = big_endian_low 4 n fits ∙ be_bytes_4 bs n four small spelt
