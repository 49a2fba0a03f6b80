-- The one number for two cars can be read: each car's refusal is in it. "Only 1 to 7 and 13 reach both": a car that is refused with one of
-- these is refused for the file, and so is the other.
use Rattle.std.proofs.Math.Path.{◌≡◌, refl, sym}
use Rattle.std.proofs.Common.{ap, ◌∙◌, arith}
use Rattle.std.specs.Prelude.{Bool, cond, List, [], ◌∷◌, ℕ, zero, suc, ◌+◌, ◌*◌, ◌/◌, ◌%◌, ◌≤◌, ◌<◌, ℤ, pos, neg_ℤ, Result, Ok, Err}
use Rattle.std.proofs.Math.Bool.{true, false}
use Rattle.std.proofs.Math.Option.{Option, none, some, some-ne-none}
use Rattle.postman.specs.Refusal.{Conditions, first_refusal, answer}
use Rattle.postman.specs.PlanFile.{file_conditions}
use Rattle.postman.specs.PlanCall.{call_conditions, parts_conditions}
use Rattle.postman.specs.Marks.{mark_conditions, car_refusal}
use Rattle.postman_laws.specs.Laws.Refusal.{first_on, first_stop}
use Rattle.postman_laws.specs.Laws.Marks.{car_order}
use Rattle.refusal.specs.declared.Refusal.{Refusal}
use Rattle.refusal.specs.Verdict.{refusal_number, verdict_number}
use Rattle.refusal.specs.Laws.{some_number}
use Rattle.answers.specs.Number.{one_number}
use Rattle.answers.specs.CarsNumber.{reaches_both, own_number, cars_number}
use Rattle.promises.specs.CarNumber.{first_number, second_number}

-- ---- what reaches both

-- conditions whose numbers are a car's own
abbrev AreOwn : Conditions → Type 0
AreOwn [] = Unit {0}
AreOwn (c ∷ cs) = (reaches_both c.1 ≡ false) × AreOwn cs

own_number_lem : (cs : Conditions) → AreOwn cs → (k : ℕ) → first_refusal cs ≡ some k → reaches_both k ≡ false
unfolding first_refusal
own_number_lem [] h k e = absurd (some-ne-none k (sym e))
own_number_lem (c ∷ cs) h k e = at c.0 e (own_number_lem cs h.1 k)
  where
    at : (b : Bool) → cond b (some c.1) (first_refusal cs) ≡ some k → (first_refusal cs ≡ some k → reaches_both k ≡ false)
        → reaches_both k ≡ false
    at true q more = let x : c.1 ≡ k = cc in ap reaches_both (sym x) ∙ h.0
    at false q more = more q

module _ (bytes : List ℕ) (budget places : ℕ) (marks : List ℕ) where
  file_first : (k : ℕ) → car_refusal bytes budget places marks ≡ some k → reaches_both k ≡ true
      → first_refusal (file_conditions bytes) ≡ some k
  unfolding call_conditions mark_conditions parts_conditions
  file_first k e b = at (first_refusal (file_conditions bytes)) refl
    where
      at : (o : Option ℕ) → first_refusal (file_conditions bytes) ≡ o → o ≡ some k
      at none q =
          let x = own_number_lem _ (refl, (refl, (refl, (refl, (refl, (refl, tt)))))) k
          (sym (first_on (file_conditions bytes) _ q) ∙ sym (car_order bytes budget places marks) ∙ e) in
          let y : ◌≡◌ {A = Bool} true false = sym b ∙ x in cc
      at (some r) q = sym (first_stop (file_conditions bytes) _ r q) ∙ sym (car_order bytes budget places marks) ∙ e

-- a refusal that reaches both is both cars'
pub both_refused : (bytes : List ℕ) (b₁ b₂ p₁ p₂ : ℕ) (m₁ m₂ : List ℕ) (k : ℕ)
    → car_refusal bytes b₁ p₁ m₁ ≡ some k → reaches_both k ≡ true → car_refusal bytes b₂ p₂ m₂ ≡ some k
both_refused bytes b₁ b₂ p₁ p₂ m₁ m₂ k e r =
    car_order bytes b₂ p₂ m₂ ∙ first_stop (file_conditions bytes) _ k (file_first bytes b₁ p₁ m₁ k e r)

-- ---- the number is read

below_zero : (f : ℤ → ℤ) → ((n : ℕ) → f (neg_ℤ (pos (suc n))) ≡ neg_ℤ (pos (suc n))) → (k : ℕ) → 1 ≤ k → f (neg_ℤ (pos k)) ≡ neg_ℤ (pos k)
below_zero f h zero l = absurd (omega arith)
below_zero f h (suc k) l = h k

own_small : {A : Type 0} (w : Result A Refusal) → own_number (verdict_number w) < 256
own_small (Ok y) = omega arith
own_small (Err r) = let a = (some_number r).1 in omega arith

own_one : {A : Type 0} (w : Result A Refusal) → neg_ℤ (pos (own_number (verdict_number w))) ≡ one_number (answer (verdict_number w) 0)
unfolding answer
own_one (Ok y) = refl
own_one (Err r) = refl

pub first_read : {A B : Type 0} (v : Result A Refusal) (w : Result B Refusal)
    → first_number (cars_number (verdict_number v) (verdict_number w)) ≡ one_number (answer (verdict_number v) 0)
unfolding answer
first_read (Ok y) w = let l = own_small w in let e : own_number (verdict_number w) / 256 ≡ 0 = omega arith in ap
    (λ (x : ℕ). neg_ℤ (pos x)) e
first_read (Err r) w = at (reaches_both (refusal_number r))
  where
    at : (b : Bool)
        → first_number (cond b (neg_ℤ (pos (refusal_number r))) (pos (256 * refusal_number r + own_number (verdict_number w))))
        ≡ neg_ℤ (pos (refusal_number r))
    at true = below_zero first_number (λ n. refl) (refusal_number r) (some_number r).0
    at false =
        let l = own_small w in
        let e : (256 * refusal_number r + own_number (verdict_number w)) / 256 ≡ refusal_number r = omega arith in
        ap (λ (x : ℕ). neg_ℤ (pos x)) e

pub second_read : {A B : Type 0} (v : Result A Refusal) (w : Result B Refusal)
    → ((k : ℕ) → verdict_number v ≡ some k → reaches_both k ≡ true → verdict_number w ≡ some k)
    → second_number (cars_number (verdict_number v) (verdict_number w)) ≡ one_number (answer (verdict_number w) 0)
unfolding answer
second_read (Ok y) w h =
    let l = own_small w in
    let e : own_number (verdict_number w) % 256 ≡ own_number (verdict_number w) = omega arith in
    ap (λ (x : ℕ). neg_ℤ (pos x)) e ∙ own_one w
second_read (Err r) w h = at (reaches_both (refusal_number r)) refl
  where
    at : (b : Bool) → reaches_both (refusal_number r) ≡ b
        → second_number (cond b (neg_ℤ (pos (refusal_number r))) (pos (256 * refusal_number r + own_number (verdict_number w))))
        ≡ one_number (answer (verdict_number w) 0)
    at true e =
        below_zero second_number (λ n. refl) (refusal_number r) (some_number r).0
        ∙ ap (λ (o : Option ℕ). one_number (answer o 0)) (sym (h (refusal_number r) refl e))
    at false e =
        let l = own_small w in
        let e : (256 * refusal_number r + own_number (verdict_number w)) % 256 ≡ own_number (verdict_number w) = omega arith in
        ap (λ (x : ℕ). neg_ℤ (pos x)) e ∙ own_one w
