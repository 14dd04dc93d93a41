-- A kind keeps the laws of writing once its bodies tell its costs apart, and every body is written. Assumes nothing.
use Rattle.std.specs.Prelude.{◌≡◌, ℕ, zero, suc, ◌<◌, ◌≤◌, true, List, [], ◌∷◌, length, refl}
use Rattle.std.proofs.Common.{sym, ap, ◌∙◌, arith}
use Rattle.costs.specs.Bytes.{Body, first_bytes}
use Rattle.costs.specs.Written.{Written, WrittenLaws}

pub first_bytes_whole : (k : ℕ) (bs : List ℕ) → length bs ≡ k → first_bytes k bs ≡ bs
first_bytes_whole zero [] e = refl
first_bytes_whole zero (b ∷ bs) e = absurd (omega arith)
first_bytes_whole (suc k) [] e = absurd (omega arith)
first_bytes_whole (suc k) (b ∷ bs) e = ap (λ l. b ∷ l) (first_bytes_whole k bs (omega arith))

module _ {C : Type 0} (w : Written C) where
  pub written_laws : w.code < 256 → w.body_size ≤ 16 → ((c : C) → Body w.body_size (w.body c)) → ((c d : C) → w.body c ≡ w.body d → c ≡ d) → ((bs : List ℕ) → Body w.body_size bs → (c : C) × (w.body c ≡ bs)) → ((m : ℕ) → m ≤ 120 → w.may_stand (w.shortage m) ≡ true) → WrittenLaws w
  written_laws code short has_size same every stand = record {
    code_is_byte = code;
    body_is_short = short;
    body_has_size = has_size;
    reads_back = λ c d e. same d c (e ∙ first_bytes_whole w.body_size (w.body c) (has_size c).0);
    writes_every_body = λ bs h. let found = every bs h in (found.0, found.1, λ d e. same d found.0 (e ∙ sym found.1));
    shortages_stand = stand;
  }
