-- Refusals by their numbers: "the first that applies is given, and none otherwise".
use Rattle.std.specs.Prelude.{Bool, true, false, cond, List, [], ◌∷◌, ℕ}
use Rattle.std.proofs.Math.Option.{Option, none, some}

-- Conditions with their numbers, in the order in which they are looked at.
abbrev pub Conditions : Type 0
Conditions = List (Bool × ℕ)

-- The number of the first condition that applies.
unfoldable pub first_refusal : Conditions → Option ℕ
first_refusal [] = none
first_refusal (c ∷ cs) = cond c.0 (some c.1) (first_refusal cs)

-- Whether none applies.
unfoldable pub is_good : Option ℕ → Bool
is_good none = true
is_good (some r) = false

-- "A refusal returns its number only": what a call answers is a refusal's number, or a value.
pub data Answer (A : Type 0) : Type 0 where
  refused : ℕ → Answer A
  given : A → Answer A

unfoldable pub answer : {A : Type 0} → Option ℕ → A → Answer A
answer none x = given x
answer (some r) x = refused r

-- A refusal "changes no lent slice": what a lent slice holds at exit, if an answer leaves `new` where there was `old`.
unfoldable pub unless {ℓ} : {A : Type ℓ} → Option ℕ → List A → List A → List A
unless none new old = new
unless (some r) new old = old
