-- Hints stay true: what is found is a hint, and a leg that is used is not unused.
use Rattle.std.specs.Prelude.{◌≡◌, refl, Bool, not, ◌&&◌, List, ℕ, zero, suc, ◌≤◌, ◌<◌, set, replicate, eqb}
use Rattle.std.proofs.Common.{◌∙◌}
use Rattle.std.proofs.Math.Path.{subst, subst⁻¹}
use Rattle.std.proofs.Math.Bool.{true, false}
use Rattle.std.proofs.Math.Decide.{ℕ_discrete}
use native.Mathlib.Omega.{arith}
use Rattle.std.proofs.Math.ListN.{length, get_or, length-set}
use Rattle.std.proofs.lemmas.List.{length-replicate}
use Rattle.std.proofs.Math.Seq.{get_or-set_same, get_or-set_other}
use Rattle.std.proofs.Math.Dec.{T}
use Rattle.hierholzer.specs.Held.{Hints, is_unused, first_unused}
use Rattle.hierholzer.specs.Laws.Search.{first_le, first_fails}

zeros : (n v : ℕ) → ◌≡◌ {A = ℕ} (get_or (replicate n 0) v 0) 0
zeros zero v = refl
zeros (suc n) zero = refl
zeros (suc n) (suc v) = zeros n v

pub hints_none : (tails used : List ℕ) → Hints tails used (replicate 256 0)
hints_none tails used = record {
  long = length-replicate {A = ℕ} 256 0;
  within = λ v. let e = zeros 256 v in omega arith;
  spent = λ v k l. let e = zeros 256 v in absurd (omega arith);
}

pub found_le : (tails used : List ℕ) (v : ℕ) → first_unused tails used v ≤ length tails
unfolding first_unused
found_le tails used v = first_le (is_unused tails used v) (length tails)

module _ (tails used hints : List ℕ) (h : Hints tails used hints) where
  pub hints_found : (v : ℕ) {e : ℕ} → v < 256 → e ≡ first_unused tails used v → Hints tails used (set hints v e)
  unfolding first_unused
  hints_found v {e} below f = let l : v < length hints = (let n = h.long in omega arith) in record {
    long = length-set hints v e ∙ h.long;
    within = λ u. elim (ℕ_discrete u v) [
      | yes q ↦ rw q (let s = get_or-set_same hints v e 0 l in let m = first_le (is_unused tails used v) (length tails) in omega arith)
      | no q ↦ let s = get_or-set_other hints v u e 0 q in let m = h.within u in omega arith
    ];
    spent = λ u k m. elim (ℕ_discrete u v) [
      | yes q ↦ let s = get_or-set_same hints v e 0 l in
          let n : k < get_or (set hints v e) v 0 = subst (λ z. k < get_or (set hints v e) z 0) q m in
          subst⁻¹ (λ z. T (not (is_unused tails used z k))) q (first_fails (is_unused tails used v) (length tails) k (omega arith))
      | no q ↦ let s = get_or-set_other hints v u e 0 q in h.spent u k (omega arith)
    ];
  }

  -- a leg is used
  pub hints_used : (e : ℕ) → e < length used → Hints tails (set used e 1) hints
  unfolding is_unused
  hints_used e l = record {
    long = h.long;
    within = h.within;
    spent = λ v k m. elim (ℕ_discrete k e) [
      | yes q ↦ rw (q, get_or-set_same used e 1 0 l) (neither (eqb (get_or tails e 0) v))
      | no q ↦ rw (get_or-set_other used e k 1 0 q) (h.spent v k m)
    ];
  }
    where
      neither : (b : Bool) → T (not (b && false))
      neither true = tt
      neither false = tt
