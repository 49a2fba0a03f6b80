-- What changes nothing: where a sends nothing to b, b passes on nothing from a, and every entry is written as it stands.
use Rattle.std.specs.Prelude.{◌≡◌, refl, Bool, true, false, cond, List, ℕ, ◌+◌, ◌*◌, ◌-◌, set, eqb}
use Rattle.std.proofs.Common.{ap, ◌∙◌, arith}
use Rattle.std.proofs.lemmas.List.{set-get_or}
use Rattle.postman.specs.Steps.{amount}
use Rattle.direct_amounts.specs.Direct.{passed, gained, bypass, bypass_from}
use Rattle.residual_search.specs.Laws.Fold.{fold_idle}

either : (b : Bool) {z w : ℕ} → w ≡ z → cond b z w ≡ z
either true e = refl
either false e = e

bypass_idle : (f : List ℕ) (a b c : ℕ) → amount f a b ≡ 0 → bypass f a b c ≡ f
bypass_idle f a b c e =
    let none : passed f a b c ≡ 0 = omega arith in
    let from : amount f a b - passed f a b c ≡ amount f a b = omega arith in
    let on : amount f b c - passed f a b c ≡ amount f b c = omega arith in
    let over : gained a c (amount f a c) (passed f a b c) ≡ amount f a c = either (eqb a c) (omega arith) in
    let z = gained a c (amount f a c) (passed f a b c) in
    ap (λ v. set (set (set f (a * 64 + b) v) (b * 64 + c) (amount f b c - passed f a b c)) (a * 64 + c) z) from
    ∙ ap (λ (g : List ℕ). set (set g (b * 64 + c) (amount f b c - passed f a b c)) (a * 64 + c) z) (set-get_or f (a * 64 + b) 0)
    ∙ ap (λ v. set (set f (b * 64 + c) v) (a * 64 + c) z) on
    ∙ ap (λ (g : List ℕ). set g (a * 64 + c) z) (set-get_or f (b * 64 + c) 0)
    ∙ ap (set f (a * 64 + c)) over
    ∙ set-get_or f (a * 64 + c) 0

pub from_idle : (vs : List ℕ) (f : List ℕ) (a b : ℕ) → amount f a b ≡ 0 → bypass_from vs b f a ≡ f
unfolding bypass_from
from_idle vs f a b e = fold_idle (λ g c. bypass g a b c) f vs (λ c. bypass_idle f a b c e)
