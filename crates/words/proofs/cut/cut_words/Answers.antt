use Rattle.std.proofs.Common.{is_ok, vec_items, ap}
use Rattle.std.specs.Str.Iter.{split_whitespace_rest}
use Rattle.std.proofs.ResultArms.{chosen}
use Rattle.words.proofs.Sofar.{words_push, words_all, first_word}
use Rattle.words.proofs.cut.cut_words.Goals as goal

pub loop-word-preserved : goal.loop-word-preserved
loop-word-preserved c =
    let old = vec_items c.loop-word.words in
    let word = c.in-Some.word in
    words_push c.args.line.now _ (split_whitespace_rest c.next.new.self) old (vec_items c.push.new.self) word
    (chosen _ _ _ _ c.push.ensures.items (ap is_ok c.in_ok-push.was)) c.loop-word.invariant (first_word _ _ _ c.in-Some.ensures.steps)

pub returns : goal.returns
returns c = words_all _ _ _ c.loop-word.invariant c.in-None.ensures.steps.1
