-- Costs with equal numbers are equal. Assumes nothing.
use Rattle.std.specs.Prelude.{◌≡◌, ℕ, ◌^◌, ◌<◌}
use Rattle.std.proofs.Math.Path.{PathP}
-- from the logic's own modules, since the library has no word for it
use mathlib.Core.HLevel.{is_prop→PathP}
use Rattle.std.proofs.Math.Bridge.{le_prop}
use Rattle.costs.specs.declared.values.Total.{Total}
use Rattle.costs.specs.declared.values.Worst.{Worst}
use Rattle.costs.specs.declared.values.Class.{Class}

-- the bound that a cost carries has one proof, so it goes along with its number
abbrev bound : {m n : ℕ} (most : ℕ) (p : m ≡ n) (h : m < most) (k : n < most) → PathP (λ i. p i < most) h k
bound most p h k = is_prop→PathP (λ i. p i < most) (λ i. le_prop) h k

pub same_total : (a b : Total) → a.minutes ≡ b.minutes → a ≡ b
same_total a b p = λ i. record { minutes = p i; fits = bound (2 ^ 64) p a.fits b.fits i }

pub same_worst : (a b : Worst) → a.minutes ≡ b.minutes → a ≡ b
same_worst a b p = λ i. record { minutes = p i; fits = bound (2 ^ 32) p a.fits b.fits i }

pub same_class : (a b : Class) → a.class ≡ b.class → a.minutes ≡ b.minutes → a ≡ b
same_class a b p q = λ i. record { class = p i; minutes = q i; byte = bound (2 ^ 8) p a.byte b.byte i; fits = bound (2 ^ 64) q a.fits b.fits i }
