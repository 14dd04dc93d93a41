-- The words of a request, as references and as texts. Assumes nothing.
use Rattle.std.proofs.Common.{◌≡◌, ℕ, ◌+◌, ◌<◌, List, [], ◌∷◌, length, get_or, drop, refl, ap, ◌∙◌, arith, Bor}
use Rattle.words.proofs.Pieces.{nowhere, behind, length-behind}

pub first_and_others : (parts : List (Bor (List ℕ))) → 0 < length parts → behind parts ≡ (get_or parts 0 nowhere).now ∷ behind (drop 1 parts)
first_and_others [] h = absurd (omega arith)
first_and_others (p ∷ parts) h = refl

length-others : (parts : List (Bor (List ℕ))) → 0 < length parts → length (behind (drop 1 parts)) + 1 ≡ length parts
length-others [] h = absurd (omega arith)
length-others (p ∷ parts) h = omega (arith, length-behind parts)

five_words : (parts : List (Bor (List ℕ))) → length parts ≡ 5 → behind parts ≡ (get_or parts 0 nowhere).now ∷ (get_or parts 1 nowhere).now ∷ (get_or parts 2 nowhere).now ∷ (get_or parts 3 nowhere).now ∷ (get_or parts 4 nowhere).now ∷ []
five_words [] h = absurd (omega arith)
five_words (a ∷ []) h = absurd (omega arith)
five_words (a ∷ b ∷ []) h = absurd (omega arith)
five_words (a ∷ b ∷ c ∷ []) h = absurd (omega arith)
five_words (a ∷ b ∷ c ∷ d ∷ []) h = absurd (omega arith)
five_words (a ∷ b ∷ c ∷ d ∷ e ∷ []) h = refl
five_words (a ∷ b ∷ c ∷ d ∷ e ∷ f ∷ parts) h = absurd (omega arith)

-- the word at a place
abbrev pub word : List (Bor (List ℕ)) → ℕ → List ℕ
word parts i = (get_or parts i nowhere).now

-- a request by its first word, with four more
pub five_of : (parts : List (Bor (List ℕ))) (name : List ℕ) → word parts 0 ≡ name → length parts ≡ 5 → behind parts ≡ name ∷ word parts 1 ∷ word parts 2 ∷ word parts 3 ∷ word parts 4 ∷ []
five_of parts name is five = five_words parts five ∙ ap (λ w. w ∷ word parts 1 ∷ word parts 2 ∷ word parts 3 ∷ word parts 4 ∷ []) is

-- and with more or fewer
pub not_five_of : (parts : List (Bor (List ℕ))) (name : List ℕ) → word parts 0 ≡ name → 0 < length parts → (length parts ≡ 5 → ⊥) → (others : List (List ℕ)) × (behind parts ≡ name ∷ others) × (length others ≡ 4 → ⊥)
not_five_of parts name is some other =
    let others = behind (drop 1 parts) in (others, first_and_others parts some ∙ ap (λ w. w ∷ others) is, λ four. other (omega (arith, length-others parts some)))
