use Rattle.std.proofs.Common.{◌∙◌, ap, length}
use Rattle.costs.proofs.BigEndian.{spelt_by_four}
use Rattle.costs.proofs.Fronts.{length_front, small_front}
use Rattle.costs.proofs.bytes.number_32.Goals as goal

pub returns-clause-digits : goal.returns-clause-digits
returns-clause-digits c =
    let bytes = c.args.bytes.now in
    let front = c.bytes_from.ensures in
    spelt_by_four c.bytes_from.result _ (ap length front ∙ length_front 4 bytes) (small_front 4 bytes c.bytes_from.result c.type_inv.bytes front) c.from_be_bytes.ensures c.from_be_bytes.type_inv ∙ front
