-- Numbers exchanged at random.
use Rattle.std.specs.Prelude.{ℕ, zero, suc, ◌*◌, ◌/◌, ◌%◌}
use Rattle.renumbering.specs.Numbering.{exchanged}
use Rattle.renumbering.specs.declared.shuffle.Drawn.{Drawn}

-- The generator of Park and Miller. Its modulus is a prime, so that remainders by a small number are as good as any.
unfoldable pub modulus : ℕ
modulus = 2147483647

unfoldable pub following : ℕ → ℕ
unfolding modulus
following x = x * 48271 % modulus

-- Two of n numbers exchanged, both drawn by one number of the generator; where they are the same, nothing.
unfoldable pub drawn : ℕ → Drawn → Drawn
unfolding following exchanged
drawn n d =
    let random = following d.random in
    record { numbering = exchanged (random % n) (random / n % n) d.numbering; random = random }

-- So many exchanges, one after the other.
unfoldable pub shuffled : ℕ → Drawn → ℕ → Drawn
unfolding drawn
shuffled n d zero = d
shuffled n d (suc times) = drawn n (shuffled n d times)
