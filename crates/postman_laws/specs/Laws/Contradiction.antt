-- What cannot be: where two different constructors are equal, `cc` proves that 0 is 1.
use Rattle.std.specs.Prelude.{◌≡◌, ℕ}
use Rattle.std.proofs.Common.{arith}

pub zero_is_one : {A : Type 0} → ◌≡◌ {A = ℕ} 0 1 → A
zero_is_one e = absurd (omega arith)
