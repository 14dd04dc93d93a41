-- Numbers and bodies as bytes. Assumes nothing.
use Rattle.std.specs.Prelude.{◌≡◌, ℕ, zero, suc, ◌/◌, ◌%◌, ◌^◌, ◌<◌, List, [], ◌∷◌, length}
use Rattle.std.specs.List.{AllByRecursion}

-- n in k bytes, the highest first
unfoldable pub big_endian : ℕ → ℕ → List ℕ
big_endian zero n = []
big_endian (suc k) n = (n / 256 ^ k) ∷ big_endian k (n % 256 ^ k)

-- k bytes
abbrev pub Body : ℕ → List ℕ → Type 0
Body k bs = (length bs ≡ k) × AllByRecursion (λ b. b < 256) bs

-- the first k bytes, where a missing one counts as 0
abbrev pub first_bytes : ℕ → List ℕ → List ℕ
first_bytes zero bs = []
first_bytes (suc k) [] = 0 ∷ first_bytes k []
first_bytes (suc k) (b ∷ bs) = b ∷ first_bytes k bs

-- what a buffer holds after bs was written to its front: all of bs that has room, and behind it what was there
abbrev pub over : List ℕ → List ℕ → List ℕ
over [] out = out
over (b ∷ bs) [] = []
over (b ∷ bs) (x ∷ out) = b ∷ over bs out
