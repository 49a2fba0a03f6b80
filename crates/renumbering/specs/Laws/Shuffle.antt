-- What is drawn is a numbering, and the generator's numbers are below its modulus.
use Rattle.std.specs.Prelude.{◌≡◌, refl}
use Rattle.std.proofs.Common.{sym, ◌∙◌, mod-lt, add-one, arith}
use Rattle.std.proofs.Math.Path.{ap, subst⁻¹}
use Prim.Native.Nat.{ℕ, zero, suc, ◌+◌, ◌*◌, ◌/◌, ◌%◌, ◌≤◌, ◌<◌}
use Rattle.renumbering.specs.Numbering.{IsNumberingOf, exchanged}
use Rattle.renumbering.specs.Shuffle.{modulus, following, drawn, shuffled}
use Rattle.renumbering.specs.Laws.Numbering.{exchanged_numbering}
use Rattle.renumbering.specs.declared.numbering.Numbering.{Numbering}
use Rattle.renumbering.specs.declared.shuffle.Drawn.{Drawn}

pub drawn_as : (n : ℕ) (d : Drawn) (x : Numbering) (random : ℕ) → random ≡ following d.random
    → x ≡ exchanged (random % n) (random / n % n) d.numbering
    → record { numbering = x; random = random } ≡ drawn n d
unfolding drawn
drawn_as n d x random e f =
    let g : x ≡ exchanged (following d.random % n) (following d.random / n % n) d.numbering =
    f ∙ ap (λ r. exchanged (r % n) (r / n % n) d.numbering) e in
    λ j. record { numbering = g j; random = e j }

module _ (n : ℕ) (d : Drawn) where
  pub one_more : (i : ℕ) (r s : Drawn) → r ≡ shuffled n d i → s ≡ drawn n r → s ≡ shuffled n d (i + 1)
  unfolding shuffled
  one_more i r s e f = f ∙ ap (drawn n) e ∙ ap (shuffled n d) (sym (add-one i))

module _ (n : ℕ) (some : 1 ≤ n) (few : n ≤ 64) where
  pub drawn_numbering : (d : Drawn) → IsNumberingOf n d.numbering → IsNumberingOf n (drawn n d).numbering
  unfolding drawn
  drawn_numbering d h =
      let r = following d.random in
      exchanged_numbering n few d.numbering h (r % n) (r / n % n) (mod-lt r {m = n} (omega arith)) (mod-lt (r / n) {m = n} (omega arith))

  pub shuffled_numbering : (d : Drawn) (times : ℕ) → IsNumberingOf n d.numbering → IsNumberingOf n (shuffled n d times).numbering
  unfolding shuffled
  shuffled_numbering d zero h = h
  shuffled_numbering d (suc times) h = drawn_numbering (shuffled n d times) (shuffled_numbering d times h)

pub drawn_random : (n : ℕ) (d : Drawn) → (drawn n d).random < modulus
unfolding drawn following modulus
drawn_random n d = mod-lt (d.random * 48271) {m = 2147483647} (omega arith)

pub shuffled_random : (n : ℕ) (d : Drawn) (times : ℕ) → d.random < modulus → (shuffled n d times).random < modulus
unfolding shuffled
shuffled_random n d zero l = l
shuffled_random n d (suc times) l = drawn_random n (shuffled n d times)

-- what a loop has after i exchanges
pub record IsShuffled (n : ℕ) (d : Drawn) (i : ℕ) (r : Drawn) : Type 0 where
  pub shuffled_is : r ≡ shuffled n d i
  pub numbering : IsNumberingOf n r.numbering
  pub random_in : r.random < modulus

module _ (n : ℕ) (d : Drawn) where
  pub none_shuffled : IsNumberingOf n d.numbering → d.random < modulus → IsShuffled n d 0 d
  unfolding shuffled
  none_shuffled h l = record { shuffled_is = refl; numbering = h; random_in = l }

  pub one_shuffled : 1 ≤ n → n ≤ 64 → (i : ℕ) (r s : Drawn) → IsShuffled n d i r → s ≡ drawn n r → IsShuffled n d (i + 1) s
  one_shuffled some few i r s h e = record {
    shuffled_is = one_more n d i r s h.shuffled_is e;
    numbering = subst⁻¹ (λ (x : Drawn). IsNumberingOf n x.numbering) e (drawn_numbering n some few r h.numbering);
    random_in = subst⁻¹ (λ (x : Drawn). x.random < modulus) e (drawn_random n r);
  }
