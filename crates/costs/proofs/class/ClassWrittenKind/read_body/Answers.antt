use Rattle.std.proofs.Common.{ℕ, suc, ◌∷◌, sym, ◌∙◌, ap, length, refl, subst, get_or}
use Rattle.costs.proofs.BigEndian.{spelt_by_eight}
use Rattle.costs.proofs.Fronts.{Small, length_front, small_front, one_by_one, as_one_by_one}
use Rattle.costs.proofs.class.ClassWrittenKind.read_body.Goals as goal

pub returns : goal.returns
returns c =
    let bytes = c.args.bytes.now in
    let front = c.first_bytes.ensures in
    let nine = c.first_bytes.result in
    let listed = as_one_by_one nine 9 0 (ap length front ∙ length_front 9 bytes) in
    let small = subst Small listed (small_front 9 bytes nine c.type_inv.bytes front) in
    ap (λ l. get_or nine 0 0 ∷ l) (spelt_by_eight (one_by_one nine 8 1) _ refl (λ (i : ℕ). small (suc i)) c.from_be_bytes.ensures c.from_be_bytes.type_inv) ∙ sym listed ∙ front
