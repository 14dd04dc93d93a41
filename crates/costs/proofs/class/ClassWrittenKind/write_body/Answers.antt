use Rattle.std.proofs.Common.{◌∷◌, sym, ap, ◌∙◌}
use Rattle.costs.specs.Bytes.{over}
use Rattle.costs.proofs.BigEndian.{big_endian_low}
use Rattle.costs.proofs.Fronts.{one_by_one}
use Rattle.costs.proofs.class.ClassWrittenKind.write_body.Goals as goal

pub returns : goal.returns
returns c =
    let self = c.args.self in
    let bytes = ap (λ l. one_by_one l 8 0) c.to_be_bytes.ensures ∙ sym (big_endian_low 8 self.minutes self.fits) in
    c.put.ensures ∙ ap (λ l. over (self.class ∷ l) c.args.out.now) bytes
