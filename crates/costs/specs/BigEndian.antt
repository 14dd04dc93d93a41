-- A number below 256^k and its k bytes, the highest first, go to and fro. Assumes nothing.
use Rattle.std.specs.Prelude.{◌≡◌, ℕ, zero, suc, ◌+◌, ◌*◌, ◌/◌, ◌%◌, ◌^◌, ◌<◌, List, [], ◌∷◌, length, refl}
use Rattle.std.proofs.Common.{sym, ap, ◌∙◌, div-add-mod', div-lt_iff_lt-mul, mod-lt, arith}
use Rattle.std.proofs.Math.Nat.{pow-succ', one-le-pow}
use Rattle.std.proofs.Math.Arith.{digits_lt, digits_div, digits_mod}
use Rattle.std.specs.List.{AllByRecursion}
use Rattle.costs.specs.Bytes.{big_endian, Body}

pub power_positive : (k : ℕ) → 0 < 256 ^ k
power_positive k = one-le-pow k 256 (omega arith)

pub big_endian_length : (k n : ℕ) → length (big_endian k n) ≡ k
unfolding big_endian
big_endian_length zero n = refl
big_endian_length (suc k) n = ap suc (big_endian_length k (n % 256 ^ k))

pub big_endian_bytes : (k n : ℕ) → n < 256 ^ k → AllByRecursion (λ b. b < 256) (big_endian k n)
unfolding big_endian
big_endian_bytes zero n h = tt
big_endian_bytes (suc k) n h =
    ((div-lt_iff_lt-mul {y = 256} (power_positive k)).1 (rw pow-succ' at h), big_endian_bytes k (n % 256 ^ k) (mod-lt n (power_positive k)))

pub big_endian_body : (k n : ℕ) → n < 256 ^ k → Body k (big_endian k n)
big_endian_body k n h = (big_endian_length k n, big_endian_bytes k n h)

-- no two numbers have the same bytes
pub big_endian_same : (k m n : ℕ) → m < 256 ^ k → n < 256 ^ k → big_endian k m ≡ big_endian k n → m ≡ n
unfolding big_endian
big_endian_same zero m n hm hn e = omega arith
big_endian_same (suc k) m n hm hn e =
    let heads : m / 256 ^ k ≡ n / 256 ^ k = cc in
    let tails : big_endian k (m % 256 ^ k) ≡ big_endian k (n % 256 ^ k) = cc in
    let lows = big_endian_same k (m % 256 ^ k) (n % 256 ^ k) (mod-lt m (power_positive k)) (mod-lt n (power_positive k)) tails in
    sym (div-add-mod' m (256 ^ k)) ∙ ap (λ q. q * 256 ^ k + m % 256 ^ k) heads ∙ ap (λ r. n / 256 ^ k * 256 ^ k + r) lows ∙ div-add-mod' n (256 ^ k)

-- any k bytes are those of some number
pub big_endian_every : (k : ℕ) (bs : List ℕ) → Body k bs → (n : ℕ) × (n < 256 ^ k) × (big_endian k n ≡ bs)
unfolding big_endian
big_endian_every zero [] h = (0, omega arith, refl)
big_endian_every zero (b ∷ bs) h = absurd (omega (arith, h.0))
big_endian_every (suc k) [] h = absurd (omega (arith, h.0))
big_endian_every (suc k) (b ∷ bs) h =
    let low = big_endian_every k bs (omega (arith, h.0), h.1.1) in (
      b * 256 ^ k + low.0,
      rw pow-succ' (digits_lt h.1.0 low.1),
      rw (digits_div b low.1, digits_mod b low.1) (ap (λ l. b ∷ l) low.2),
    )
