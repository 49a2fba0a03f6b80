-- An array that a loop fills in order: its entries before the nth are what f says.
use Rattle.std.specs.Prelude.{◌≡◌, List, ℕ, ◌+◌, ◌≤◌, ◌<◌, length, get_or, set, replicate}
use Rattle.std.proofs.Common.{◌∙◌, arith, length-set, get_or-set_same, get_or-set_other}
use Rattle.std.proofs.Math.Decide.{ℕ_discrete}
use Rattle.std.proofs.lemmas.List.{length-replicate}

pub record Prefix {A : Type 0} (size : ℕ) (z : A) (f : ℕ → A) (xs : List A) (n : ℕ) : Type 0 where
  pub few : n ≤ size
  pub long : length xs ≡ size
  pub before : (i : ℕ) → i < n → get_or xs i z ≡ f i

module _ {A : Type 0} (size : ℕ) (z : A) (f : ℕ → A) where
  pub prefix_none : (w : A) → Prefix size z f (replicate size w) 0
  prefix_none w = record { few = omega arith; long = length-replicate size w; before = λ i l. absurd (omega arith) }

  pub prefix_more : (xs : List A) (n : ℕ) (x : A) → Prefix size z f xs n → n < size → x ≡ f n → Prefix size z f (set xs n x) (n + 1)
  prefix_more xs n x h l e = record {
    few = omega arith;
    long = length-set xs n x ∙ h.long;
    before = λ i g. elim (ℕ_discrete i n) [
      | yes q ↦ let s = h.long in rw q (get_or-set_same xs n x z (omega arith) ∙ e)
      | no q ↦ get_or-set_other xs n i x z q ∙ h.before i (omega arith)
    ];
  }

  pub prefix_all : (xs : List A) (n : ℕ) → Prefix size z f xs n → size ≤ n → (i : ℕ) → i < size → get_or xs i z ≡ f i
  prefix_all xs n h g i l = h.before i (omega arith)
