use Rattle.std.proofs.Common.{rules}
use Rattle.words.proofs.Pieces.{cut_at_commas}
use Rattle.words.proofs.lists.pieces.Goals as goal

pub returns : goal.returns
returns c = cut_at_commas _ _ (search rules) (search rules) (search rules)
