-- "Standing 0: may be driven; 1: must be driven; 2: closed […]; 3 is refused"; and so is every standing of a record above 2.
use Rattle.std.specs.Prelude.{◌≡◌, refl, Bool, true, false, ℕ, zero, suc, ◌≤◌, ltb, eqb}
use Rattle.std.proofs.Common.{sym, ap, ◌∙◌, arith, ne_eqb, lt-ltb, le-ltb}
use Rattle.plan.specs.declared.Standing.{Standing}
use Rattle.plan.specs.declared.Standing.TheVariants.{May, Must, Closed, Refused}

abbrev pub standing_of : ℕ → Standing
standing_of zero = May
standing_of (suc zero) = Must
standing_of (suc (suc zero)) = Closed
standing_of (suc (suc (suc s))) = Refused

abbrev pub is_refused_standing : Standing → Bool
is_refused_standing May = false
is_refused_standing Must = false
is_refused_standing Closed = false
is_refused_standing Refused = true

abbrev is_open_standing : Standing → Bool
is_open_standing May = true
is_open_standing Must = true
is_open_standing Closed = false
is_open_standing Refused = false

abbrev pub is_must_standing : Standing → Bool
is_must_standing May = false
is_must_standing Must = true
is_must_standing Closed = false
is_must_standing Refused = false

-- ---- laws: what each test of a standing says of the number

pub standing_above : (s : ℕ) → 3 ≤ s → Refused ≡ standing_of s
standing_above zero h = absurd (omega arith)
standing_above (suc zero) h = absurd (omega arith)
standing_above (suc (suc zero)) h = absurd (omega arith)
standing_above (suc (suc (suc s))) h = refl

pub refused_above : (s : ℕ) → is_refused_standing (standing_of s) ≡ ltb 2 s
refused_above zero = refl
refused_above (suc zero) = refl
refused_above (suc (suc zero)) = refl
refused_above (suc (suc (suc s))) = sym (lt-ltb 2 (suc (suc (suc s))) (omega arith))

open_below : (s : ℕ) → ltb s 2 ≡ is_open_standing (standing_of s)
open_below zero = refl
open_below (suc zero) = refl
open_below (suc (suc zero)) = refl
open_below (suc (suc (suc s))) = le-ltb (suc (suc (suc s))) 2 (omega arith)

must_one : (s : ℕ) → eqb s 1 ≡ is_must_standing (standing_of s)
must_one zero = refl
must_one (suc zero) = refl
must_one (suc (suc zero)) = refl
must_one (suc (suc (suc s))) = ne_eqb (suc (suc (suc s))) 1 (λ e. omega arith)

pub open_test : (s : ℕ) (k : Standing) → k ≡ standing_of s → is_open_standing k ≡ ltb s 2
open_test s k e = ap is_open_standing e ∙ sym (open_below s)

pub must_test : (s : ℕ) (k : Standing) → k ≡ standing_of s → is_must_standing k ≡ eqb s 1
must_test s k e = ap is_must_standing e ∙ sym (must_one s)
