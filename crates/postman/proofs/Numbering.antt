-- A numbering is one to one, and its inverse is a numbering too.
use Rattle.std.specs.Prelude.{◌≡◌, refl, ℕ, zero, suc, ◌+◌, ◌≤◌, ◌<◌, get_or, eqb}
use Rattle.std.proofs.Common.{sym, ap, ◌∙◌, arith, eqb→eq}
use Rattle.std.proofs.Math.Path.{fun_ext}
use Rattle.std.proofs.Math.Decide.{dec_le}
use Rattle.postman.specs.Lists.{below, up_from}
use Rattle.postman.specs.Renumbering.{IsNumbering, number_in}
use Rattle.postman.specs.Laws.Tests.{same_test, eqb_same}

module _ {n : ℕ} {π σ : ℕ → ℕ} (h : IsNumbering n π σ) where
  pub one_to_one : {v w : ℕ} → π v ≡ π w → v ≡ w
  one_to_one {v} {w} e = sym (h.back v) ∙ ap σ e ∙ h.back w

  -- so a test of equality gives the same
  pub eqb_number : (v w : ℕ) → eqb (π v) (π w) ≡ eqb v w
  eqb_number v w =
      same_test (eqb (π v) (π w)) (eqb v w) (λ t. eqb_same (one_to_one (eqb→eq (π v) (π w) t))) (λ t. eqb_same (ap π (eqb→eq v w t)))

  pub inverse : IsNumbering n σ π
  inverse = record {
    inside = λ v l. elim (dec_le n (σ v)) [ yes g ↦ (let e = h.outside (σ v) g in let f = h.forth v in omega arith) | no g ↦ omega arith ];
    outside = λ v l. ap σ (sym (h.outside v l)) ∙ h.back v;
    back = h.forth;
    forth = h.back;
  }

  -- numbers below some bound beyond n stay below it
  pub number_lt : (m v : ℕ) → n ≤ m → v < m → π v < m
  number_lt m v l k =
      elim (dec_le n v) [ yes g ↦ (let e = h.outside v g in omega arith) | no g ↦ (let e = h.inside v (omega arith) in omega arith) ]

pub identity : (n : ℕ) → IsNumbering n (λ v. v) (λ v. v)
identity n = record { inside = λ v l. l; outside = λ v l. refl; back = λ v. refl; forth = λ v. refl }

-- the numbers in a row, as a list, are the identity
pub in_a_row : (n : ℕ) → number_in (below n) ≡ (λ v. v)
unfolding below up_from
in_a_row n = fun_ext (λ v. from 0 n v v (omega arith))
  where
    from : (a n v d : ℕ) → d ≡ a + v → get_or (up_from a n) v d ≡ d
    from a zero v d e = refl
    from a (suc n) zero d e = omega arith
    from a (suc n) (suc v) d e = from (suc a) n v d (omega arith)
