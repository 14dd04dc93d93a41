use Rattle.std.proofs.Common.{take, vec_items}
use Rattle.words.specs.Words.{Texts}
use Rattle.words.proofs.Pieces.{behind}
use Rattle.words.proofs.lists.read_pieces.Given as goal

abbrev pub invariant-loop-part : goal.invariant-loop-part
invariant-loop-part g l = Texts g.T.Item.text (behind (take l.part-index l.parts)) (vec_items l.list)
