-- The pieces of a word, and what they list. Assumes nothing.
use Rattle.std.proofs.Common.{◌≡◌, ℕ, ◌+◌, ◌<◌, List, [], ◌∷◌, ◌++◌, map, length, get_or, take, Ok, Err, IfOk, Result, Vec, vec_items, vec_len, subst, arith, Bor}
use Rattle.std.specs.Str.Iter.{LacksByte}
use Rattle.std.specs.List.{join_with_byte, AllWithin}
use Rattle.std.proofs.ByRecursion.{all_from_every, All-map}
use Rattle.std.proofs.lemmas.List.{map_more, length-map}
use Rattle.words.specs.Words.{CutAtCommas, Texts}

-- one piece more, with its item
texts_push : {X : Type 0} (Text : List ℕ → X → Type 0) (pieces : List (List ℕ)) (xs : List X) (p : List ℕ) (x : X) → Texts Text pieces xs → Text p x → Texts Text (pieces ++ (p ∷ [])) (xs ++ (x ∷ []))
texts_push Text [] [] p x sofar here = (here, tt)
texts_push Text [] (y ∷ xs) p x sofar here = absurd sofar
texts_push Text (q ∷ pieces) [] p x sofar here = absurd sofar
texts_push Text (q ∷ pieces) (y ∷ xs) p x sofar here = (sofar.0, texts_push Text pieces xs p x sofar.1 here)

-- stands where there is no piece
abbrev pub nowhere : Bor (List ℕ)
nowhere = record { ref_ptr = (0, 0); now = [] }

-- the text behind each reference
abbrev pub behind : List (Bor (List ℕ)) → List (List ℕ)
behind parts = map (λ x. x.now) parts

pub length-behind : (parts : List (Bor (List ℕ))) → length (behind parts) ≡ length parts
length-behind parts = length-map parts (λ x. x.now)

-- a loop's step: the piece at i is the text of x
pub texts_more : {X : Type 0} (Text : List ℕ → X → Type 0) (parts : List (Bor (List ℕ))) (i : ℕ) (xs : List X) (x : X) → i < length parts → Texts Text (behind (take i parts)) xs → Text (get_or parts i nowhere).now x → Texts Text (behind (take (i + 1) parts)) (xs ++ (x ∷ []))
texts_more Text parts i xs x within sofar here = rw (map_more (λ (p : Bor (List ℕ)). p.now) parts i nowhere within) (texts_push Text (behind (take i parts)) xs (get_or parts i nowhere).now x sofar here)

-- what `split` says of the pieces that are collected, in one
pub cut_at_commas : {Z E : Type 0} (word : List ℕ) (r : Result (Vec (Bor (List ℕ)) Z) E) → IfOk r (λ v. 0 < vec_len v) → IfOk r (λ v. word ≡ join_with_byte 44 (behind (vec_items v))) → IfOk r (λ v. AllWithin (λ x. LacksByte 44 x.now) (vec_items v) 0 (vec_len v)) → IfOk r (λ v. CutAtCommas word (behind (vec_items v)))
cut_at_commas word (Ok v) some joined apart =
    let items = vec_items v in
    let free = all_from_every _ items (subst (AllWithin (λ x. LacksByte 44 x.now) items 0) v.ok.0 apart) in
    record { some = omega (arith, some, v.ok.0, length-behind items); joined = joined; no_comma = All-map (LacksByte 44) (λ x. x.now) items free }
cut_at_commas word (Err e) some joined apart = tt
