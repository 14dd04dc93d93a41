use Rattle.std.proofs.Common.{sym, ap, ◌∙◌}
use Rattle.costs.specs.Bytes.{over}
use Rattle.costs.proofs.BigEndian.{big_endian_low}
use Rattle.costs.proofs.total.TotalWrittenKind.write_body.Goals as goal

pub returns : goal.returns
returns c =
    let bytes = c.to_be_bytes.ensures ∙ sym (big_endian_low 8 c.args.self.minutes c.args.self.fits) in
    c.put.ensures ∙ ap (λ l. over l c.args.out.now) bytes
