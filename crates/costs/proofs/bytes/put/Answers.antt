use Rattle.std.proofs.Common.{◌++◌, drop, ap, ◌∙◌}
use Rattle.costs.proofs.Fronts.{over_front}
use Rattle.costs.proofs.bytes.put.Goals as goal

pub returns : goal.returns
returns c =
    let room = c.min-room.result in
    ap (λ l. l ++ drop room c.args.out.now) c.copy_from_slice.ensures.after ∙ over_front c.args.bytes.now c.args.out.now room c.min-room.ensures
