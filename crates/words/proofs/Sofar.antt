-- The words of a line, found one by one. Assumes nothing.
use Rattle.std.proofs.Common.{◌≡◌, ℕ, ◌<◌, List, [], ◌∷◌, ◌++◌, length, sym, ap, ◌∙◌, subst, append_assoc, append-nil, Bor}
use Rattle.std.specs.Char.{is_whitespace, is_not_whitespace}
use Rattle.std.specs.Str.{NoCharPasses, EmptyOrStartsWithPassing}
use Rattle.std.proofs.lemmas.List.{map_push}
use Rattle.words.specs.Words.{FirstWord, WordsOf}
use Rattle.words.proofs.Pieces.{behind}

-- the words found are the first of the line's, and those of rest come behind them
abbrev pub WordsSofar : List ℕ → List ℕ → List (List ℕ) → Type 0
WordsSofar line rest found = (ws : List (List ℕ)) → WordsOf rest ws → WordsOf line (found ++ ws)

words_more : (line rest next w : List ℕ) (found : List (List ℕ)) → WordsSofar line rest found → FirstWord rest w next → WordsSofar line next (found ++ (w ∷ []))
words_more line rest next w found sofar first = λ ws h. subst (WordsOf line) (sym (append_assoc found (w ∷ []) ws)) (sofar (w ∷ ws) (next, first, h))

pub words_all : (line rest : List ℕ) (found : List (List ℕ)) → WordsSofar line rest found → WordsOf rest [] → WordsOf line found
words_all line rest found sofar none = subst (WordsOf line) (append-nil found) (sofar [] none)

-- what `split_whitespace` says of a word
pub first_word : (line w rest : List ℕ) → (gap : List ℕ) × (line ≡ gap ++ (w ++ rest)) × (0 < length w) × NoCharPasses is_not_whitespace gap × NoCharPasses is_whitespace w × ((more : List ℕ) × EmptyOrStartsWithPassing is_whitespace rest more) → FirstWord line w rest
first_word line w rest cut = record { blanks = cut.0; cut = cut.1; some = cut.2; blank = cut.3; solid = cut.4; ends = cut.5 }

-- a word found goes behind the others
pub words_push : (line rest next : List ℕ) (old new : List (Bor (List ℕ))) (w : Bor (List ℕ)) → new ≡ old ++ (w ∷ []) → WordsSofar line rest (behind old) → FirstWord rest w.now next → WordsSofar line next (behind new)
words_push line rest next old new w pushed sofar first =
    subst (WordsSofar line next) (sym (ap behind pushed ∙ map_push (λ x. x.now) old w)) (words_more line rest next w.now (behind old) sofar first)
