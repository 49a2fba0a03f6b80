-- The empty machine is zeros.
use Rattle.std.specs.Prelude.{◌≡◌, refl, ℕ, zero, suc, ◌+◌, ◌*◌, replicate}
use Rattle.std.proofs.Common.{sym, ap, ap₂, ◌∙◌, inl, inr, suc-mul, arith}
use Rattle.std.proofs.Math.Path.{subst⁻¹}
use mathlib.Core.List.Memᴰ
use mathlib.Core.List.{List, [], ◌∷◌, ◌++◌, flat_map, Memᴰ}
use Rattle.std.proofs.lemmas.List.{replicate-append-replicate}
use Rattle.encoding.specs.NumberBytes.{word_bytes, long_bytes}
use Rattle.held_file.specs.Held.{held_of}
use Rattle.held_file.specs.Laws.Held.{held_size}
use Rattle.district_machine.specs.declared.machine.District.{District}
use Rattle.district_machine.specs.Machine.{empty_district, empty_machine}
use Rattle.tree_search.specs.Resumed.{nothing_held}
use Rattle.machine_bytes.specs.MachineBytes.{districts_bytes, reached_bytes, district_bytes, machine_in, machine_bytes, IsDistrictSized}
use Rattle.machine_bytes.specs.Laws.MachineBytes.{machine_back}

-- zeros behind zeros
more_zeros : (xs : List ℕ) (a b : ℕ) → xs ≡ replicate a 0 → xs ++ replicate b 0 ≡ replicate (a + b) 0
more_zeros xs a b e = ap (λ (x : List ℕ). x ++ replicate b 0) e ∙ replicate-append-replicate a b 0

word_zeros : word_bytes 0 ≡ replicate 4 0
unfolding word_bytes
word_zeros = refl

long_zeros : long_bytes 0 ≡ replicate 8 0
unfolding long_bytes word_bytes
long_zeros = refl

reached_zeros : reached_bytes nothing_held ≡ replicate 28 0
unfolding reached_bytes
reached_zeros =
    ap₂ (λ (x y : List ℕ). x ++ replicate 8 0 ++ replicate 8 0 ++ y) long_zeros word_zeros
    ∙ more_zeros _ 24 4 (more_zeros _ 16 8 (more_zeros _ 8 8 refl))

district_zeros : district_bytes empty_district ≡ replicate 1516 0
unfolding district_bytes held_of
district_zeros =
    ap₂ (λ (x y : List ℕ). (0 ∷ []) ++ x ++ replicate 1475 0 ++ y ++ reached_bytes nothing_held) long_zeros word_zeros
    ∙ ap (λ (z : List ℕ). (0 ∷ []) ++ replicate 8 0 ++ replicate 1475 0 ++ replicate 4 0 ++ z) reached_zeros
    ∙ more_zeros _ 1488 28 (more_zeros _ 1484 4 (more_zeros _ 9 1475 (more_zeros _ 1 8 refl)))

line_zeros : (n : ℕ) → flat_map district_bytes (replicate n empty_district) ≡ replicate (n * 1516) 0
unfolding flat_map
line_zeros zero = ap (λ (k : ℕ). replicate k 0) (let q : 0 ≡ 0 * 1516 = omega arith in q)
line_zeros (suc n) =
    ap₂ (λ (x y : List ℕ). x ++ y) district_zeros (line_zeros n) ∙ replicate-append-replicate 1516 (n * 1516) 0
    ∙ ap (λ (k : ℕ). replicate k 0) (let e = suc-mul n 1516 in let q : 1516 + n * 1516 ≡ suc n * 1516 = omega arith in q)

-- ITS BYTES
pub empty_zeros : machine_bytes empty_machine ≡ replicate districts_bytes 0
unfolding machine_bytes
empty_zeros = ap (λ (x : List ℕ). flat_map district_bytes (replicate 8 empty_district) ++ x) long_zeros
    ∙ more_zeros _ 12128 8 (line_zeros 8)

empty_sized : IsDistrictSized empty_district
empty_sized = record { file = (held_size [] (omega arith)).0; held = record { tails = refl; heads = refl } }

each_sized : (n : ℕ) (d : District) → Memᴰ d (replicate n empty_district) → IsDistrictSized d
each_sized zero d m = elim m [ ]
each_sized (suc n) d m = elim (Memᴰ.cases_cons m) [ inl e ↦ subst⁻¹ IsDistrictSized e empty_sized | inr k ↦ each_sized n d k ]

-- ZEROS ARE THE EMPTY MACHINE
pub zeros_empty : (rest : List ℕ) → machine_in (replicate districts_bytes 0 ++ rest) ≡ empty_machine
zeros_empty rest =
    ap (λ (x : List ℕ). machine_in (x ++ rest)) (sym empty_zeros)
    ∙ machine_back empty_machine (record { eight = refl; each = each_sized 8 }) rest
