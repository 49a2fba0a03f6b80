-- Boolean tests: a test by cases, and what a test of a conjunction, a disjunction or a negation says. Each by running through the values.
use Rattle.std.specs.Prelude.{◌≡◌, refl, ◌⊎◌, ◌≢◌, Bool, true, false, not, cond, ◌&&◌, ◌||◌, ℕ, T, eqb}
use Rattle.std.proofs.Common.{subst, inl, inr, T_not}
use Rattle.std.proofs.Math.Path.{subst⁻¹}
use Rattle.std.proofs.Math.Dec.{eqb_refl}

-- what holds of both values holds of the one that the test picks
pub cond_ind {ℓ κ} : {A : Type ℓ} (c : Bool) (x y : A) (P : A → Type κ) → (T c → P x) → (T (not c) → P y) → P (cond c x y)
cond_ind true x y P f g = f tt
cond_ind false x y P f g = g tt

pub test : (b : Bool) → T b ⊎ T (not b)
test true = inl tt
test false = inr tt

pub and_both : (b c : Bool) → T b → T c → T (b && c)
and_both true c s t = t
and_both false c s t = s

pub and_parts : (b c : Bool) → T (b && c) → T b × T c
and_parts true c t = (tt, t)
and_parts false c t = absurd t

pub or_left : (b c : Bool) → T b → T (b || c)
or_left true c t = tt
or_left false c t = absurd t

pub or_right : (b c : Bool) → T c → T (b || c)
or_right true c t = tt
or_right false c t = t

pub or_cases : (b c : Bool) → T (b || c) → T b ⊎ T c
or_cases true c t = inl tt
or_cases false c t = inr t

pub not_or : (b c : Bool) → T (not (b || c)) → T (not b) × T (not c)
not_or true c t = absurd t
not_or false c t = (tt, t)

pub not_not : (b : Bool) → T (not (not b)) → T b
not_not true t = tt
not_not false t = t

pub same_test : (b c : Bool) → (T b → T c) → (T c → T b) → b ≡ c
same_test true true f g = refl
same_test true false f g = absurd (f tt)
same_test false true f g = absurd (g tt)
same_test false false f g = refl

-- tests as equations
pub is_true : {b : Bool} → T b → b ≡ true
is_true {b} t = same_test b true (λ x. tt) (λ x. t)

pub is_false : {b : Bool} → (T b → ⊥) → b ≡ false
is_false {b} n = same_test b false (λ x. n x) (λ x. absurd x)

pub of_not : {b : Bool} → T (not b) → b ≡ false
of_not {b} t = is_false (T_not b t)

pub of_true : {b : Bool} → b ≡ true → T b
of_true e = subst⁻¹ T e tt

pub eqb_same : {i j : ℕ} → i ≡ j → T (eqb i j)
eqb_same {i} {j} e = subst (λ z. T (eqb i z)) e (eqb_refl i)

pub eqb_other : {i j : ℕ} → T (not (eqb i j)) → i ≢ j
eqb_other {i} {j} t e = T_not (eqb i j) t (eqb_same e)
