use Rattle.std.proofs.Common.{arith}
use Rattle.std.proofs.lemmas.Bool.Decides.{nat_tests}
use Rattle.std.proofs.lemmas.Nat.Bits.{bit_at_above}
use Rattle.tables.proofs.steps.in_set.Goals as goal

pub returns-else-i-lt-MASK_BITS : goal.returns-else-i-lt-MASK_BITS
returns-else-i-lt-MASK_BITS c = grind (arith, nat_tests, bit_at_above c.args.mask 32 c.args.i c.ranges.mask.fits c.if-i-lt-MASK_BITS.false)
