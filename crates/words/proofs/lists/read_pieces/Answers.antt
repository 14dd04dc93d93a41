use Rattle.std.proofs.Common.{vec_items}
use Rattle.words.proofs.Pieces.{texts_more}
use Rattle.words.proofs.lists.read_pieces.Goals as goal

pub loop-part-preserved : goal.loop-part-preserved
loop-part-preserved g c = rw c.in_ok-push.ensures.items (texts_more g.T.Item.text c.args.parts.now c.loop-part.part-index (vec_items c.loop-part.list) _ c.loop-part-test.true c.loop-part.invariant (rw c.in_ok-ok_or.ensures.ok_part at c.read.ensures))
