-- What `map` and `map_err` give by a constructor. Assumes nothing.
use Rattle.std.proofs.Common.{◌≡◌, Ok, Err, Result, refl}
use Rattle.std.specs.Result.{MatchResult, IsErrAnd, IsOkAnd, result_map_both}

pub map_is : {T U E : Type 0} (make : T → U) (r : Result T E) (s : Result U E) → MatchResult r (λ x. IsOkAnd s (λ y. y ≡ make x)) (λ e. s ≡ Err e) → s ≡ result_map_both make (λ e. e) r
map_is make (Ok x) (Ok y) h = cc
map_is make (Ok x) (Err e) h = absurd h
map_is make (Err e) s h = h

module _ {T E D : Type 0} (make : E → D) where
  -- what the call of the constructor tells of a result and the one before it
  abbrev pub Mapped : Result T E → Result T D → Type 0
  Mapped r s = MatchResult r (λ x. s ≡ Ok x) (λ e. IsErrAnd s (λ d. d ≡ make e))

  -- behind the `?`, the value is as it was
  pub same_ok : (r : Result T E) (s : Result T D) (v : T) → Mapped r s → s ≡ Ok v → r ≡ Ok v
  same_ok (Ok x) s v h is = cc
  same_ok (Err e) (Ok y) v h is = absurd h
  same_ok (Err e) (Err d) v h is = cc

  -- what the `?` returns holds the error that was
  pub made_err : {U : Type 0} (r : Result T E) (s : Result T D) (d : D) (returned : Result U D) → Mapped r s → s ≡ Err d → IsErrAnd returned (λ b. b ≡ d) → (e : E) × (r ≡ Err e) × (returned ≡ Err (make e))
  made_err r s d (Ok u) h is exit = absurd exit
  made_err (Ok x) s d (Err b) h is exit = cc
  made_err (Err e) (Ok y) d (Err b) h is exit = absurd h
  made_err (Err e) (Err a) d (Err b) h is exit = (e, refl, cc)
