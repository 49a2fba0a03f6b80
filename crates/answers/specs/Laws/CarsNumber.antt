-- One number for two cars, by the cases of the first one's verdict; and what it tells: the first car is answered where it is 0 to
-- 255, the second where, besides, 256 divides it.
use Rattle.std.specs.Prelude.{◌≡◌, Result, Ok, Err, refl, Bool, true, false, cond, ℕ, zero, suc, ◌+◌, ◌*◌, ◌%◌, ◌≤◌, ◌<◌, T, ℤ, pos, negsuc, neg_ℤ, nat_abs}
use Rattle.std.proofs.Common.{sym, ap, ◌∙◌, subst, arith}
use Rattle.std.proofs.Math.Option.{Option, none, some}
use Rattle.refusal.specs.declared.Refusal.{Refusal}
use Rattle.refusal.specs.Verdict.{refusal_number, verdict_number}
use Rattle.refusal.specs.Laws.{some_number}
use Rattle.answers.specs.CarsNumber.{reaches_both, own_number, cars_number}

module _ (first second : Option ℕ) (b : ℕ) (e : b ≡ own_number second) where
  pub first_answered : first ≡ none → pos b ≡ cars_number first second
  first_answered h = ap pos e ∙ sym (ap (λ (o : Option ℕ). cars_number o second) h)

  pub both_refused : (k : ℕ) → first ≡ some k → reaches_both k ≡ true → (n : ℤ) → n ≡ neg_ℤ (pos k) → n ≡ cars_number first second
  both_refused k h t n f =
      f ∙ sym (ap (λ (o : Option ℕ). cars_number o second) h ∙ ap
      (λ (c : Bool). cond c (neg_ℤ (pos k)) (pos (256 * k + own_number second))) t)

  pub own_refused : (k : ℕ) → first ≡ some k → reaches_both k ≡ false → (n : ℤ) → n ≡ pos (256 * k + b) → n ≡ cars_number first second
  own_refused k h t n f =
      f
      ∙ ap (λ (x : ℕ). pos (256 * k + x)) e
      ∙ sym (ap (λ (o : Option ℕ). cars_number o second) h ∙ ap (λ (c : Bool). cond c (neg_ℤ (pos k)) (pos (256 * k + own_number second)))
      t)

-- ---- what the number tells

is_negative : ℤ → Bool
is_negative (pos n) = false
is_negative (negsuc n) = true

not_negative : (k x : ℕ) → 1 ≤ k → neg_ℤ (pos k) ≡ pos x → ⊥
unfolding is_negative
not_negative zero x l e = absurd (omega arith)
not_negative (suc k) x l e = subst T (ap is_negative e) tt

pub first_told : {A B : Type 0} (v : Result A Refusal) (w : Result B Refusal) (x : ℕ)
    → cars_number (verdict_number v) (verdict_number w) ≡ pos x → x < 256 → verdict_number v ≡ none
first_told (Ok y) w x e l = refl
first_told (Err r) w x e l = absurd (at (reaches_both (refusal_number r)) e)
  where
    at : (b : Bool) → cond b (neg_ℤ (pos (refusal_number r))) (pos (256 * refusal_number r + own_number (verdict_number w))) ≡ pos x → ⊥
    at true q = not_negative (refusal_number r) x (some_number r).0 q
    at false q = let a = (some_number r).0 in let b = ap nat_abs q in omega arith

pub second_told : {A B : Type 0} (v : Result A Refusal) (w : Result B Refusal) (x : ℕ)
    → cars_number (verdict_number v) (verdict_number w) ≡ pos x → x % 256 ≡ 0 → verdict_number w ≡ none
second_told v (Ok y) x e l = refl
second_told (Ok y) (Err s) x e l = let a = some_number s in let c = a.0 in let d = a.1 in let b = ap nat_abs e in
    absurd (omega arith)
second_told (Err r) (Err s) x e l = absurd (at (reaches_both (refusal_number r)) e)
  where
    at : (b : Bool) → cond b (neg_ℤ (pos (refusal_number r))) (pos (256 * refusal_number r + refusal_number s)) ≡ pos x → ⊥
    at true q = not_negative (refusal_number r) x (some_number r).0 q
    at false q = let a = some_number s in let c = a.0 in let d = a.1 in let b = ap nat_abs q in omega arith
