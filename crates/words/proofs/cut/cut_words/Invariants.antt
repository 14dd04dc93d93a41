use Rattle.std.proofs.Common.{vec_items}
use Rattle.std.specs.Str.Iter.{split_whitespace_rest}
use Rattle.words.proofs.Pieces.{behind}
use Rattle.words.proofs.Sofar.{WordsSofar}
use Rattle.words.proofs.cut.cut_words.Given as goal

abbrev pub invariant-loop-word : goal.invariant-loop-word
invariant-loop-word l = WordsSofar l.line (split_whitespace_rest l.word-iterator) (behind (vec_items l.words))
