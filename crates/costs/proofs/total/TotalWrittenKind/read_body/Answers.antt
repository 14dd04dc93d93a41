use Rattle.std.proofs.Common.{◌∙◌, ap, length}
use Rattle.costs.proofs.BigEndian.{spelt_by_eight}
use Rattle.costs.proofs.Fronts.{length_front, small_front}
use Rattle.costs.proofs.total.TotalWrittenKind.read_body.Goals as goal

pub returns : goal.returns
returns c =
    let bytes = c.args.bytes.now in
    let front = c.bytes_from.ensures in
    spelt_by_eight c.bytes_from.result _ (ap length front ∙ length_front 8 bytes) (small_front 8 bytes c.bytes_from.result c.type_inv.bytes front) c.from_be_bytes.ensures c.from_be_bytes.type_inv ∙ front
