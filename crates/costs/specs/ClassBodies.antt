-- The bodies of class: each is the writing of one cost. Assumes nothing.
use Rattle.std.specs.Prelude.{◌≡◌, ℕ, List, [], ◌∷◌}
use Rattle.std.proofs.Common.{ap, arith}
use Rattle.std.proofs.lemmas.Bool.Decides.{nat_tests}
use Rattle.costs.specs.Bytes.{big_endian, Body}
use Rattle.costs.specs.Classes.{class_written}
use Rattle.costs.specs.declared.values.Class.{Class}
use Rattle.costs.specs.BigEndian.{big_endian_body, big_endian_same, big_endian_every}
use Rattle.costs.specs.Same.{same_class}
use Rattle.costs.specs.Written.{WrittenLaws}
use Rattle.costs.specs.WrittenLaws.{written_laws}

has_size : (c : Class) → Body 9 (class_written.body c)
has_size c = let minutes = big_endian_body 8 c.minutes c.fits in (omega (arith, minutes.0), (c.byte, minutes.1))

same : (c d : Class) → class_written.body c ≡ class_written.body d → c ≡ d
same c d e =
    let classes : c.class ≡ d.class = cc in
    let bytes : big_endian 8 c.minutes ≡ big_endian 8 d.minutes = cc in
    same_class c d classes (big_endian_same 8 c.minutes d.minutes c.fits d.fits bytes)

every : (bs : List ℕ) → Body 9 bs → (c : Class) × (class_written.body c ≡ bs)
every [] h = absurd (omega (arith, h.0))
every (b ∷ bs) h =
    let found = big_endian_every 8 bs (omega (arith, h.0), h.1.1) in
    (record { class = b; minutes = found.0; byte = h.1.0; fits = found.1 }, ap (λ l. b ∷ l) found.2)

pub class_faithful : WrittenLaws class_written
class_faithful = written_laws class_written (omega arith) (omega arith) has_size same every (λ m h. grind (arith, nat_tests))
