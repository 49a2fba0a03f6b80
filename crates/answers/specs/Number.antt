-- One convention for what a call answers.
use Rattle.std.specs.Prelude.{ℕ, ℤ, pos, neg_ℤ}
use Rattle.postman.specs.Refusal.{Answer, refused, given}

-- An answer is one number: what was asked for, or minus the refusal's number. No refusal has the number 0.
abbrev pub one_number : Answer ℕ → ℤ
one_number (given x) = pos x
one_number (refused r) = neg_ℤ (pos r)
