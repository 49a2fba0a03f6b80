-- A file longer than the longest plan is refused by its edition, by its extent or, since no plan within the limits is so long, by its
-- margin. The fields of the header alone decide which, and they lie in the first three bytes.
use Rattle.std.specs.Prelude.{◌≡◌, Bool, not, ◌||◌, List, ℕ, ◌+◌, ◌*◌, ◌/◌, ◌%◌, ◌^◌, ◌-◌, ◌≤◌, ◌<◌, length, take}
use Rattle.std.proofs.Math.Path.{refl}
use Rattle.std.proofs.Common.{sym, ap, ◌∙◌, arith, length-take-le, get_or-take}
use Rattle.std.proofs.Math.Bool.{true, false, cond}
use Rattle.std.proofs.Math.Option.{Option, some}
use borrow.Author.Tests.{lt-ltb, le-ltb}
use Rattle.postman.specs.BitField.{bit_at, field_at}
use Rattle.postman.specs.Refusal.{first_refusal}
use Rattle.postman.specs.PlanFile.{edition, is_edition, is_outside, file_length, file_conditions}
use Rattle.postman.specs.PlanCall.{call_refusal}
use Rattle.postman_laws.specs.Laws.BitField.{number_same}
use Rattle.plan_file.specs.Reading.{margin_conditions}
use Rattle.plan_file.specs.Laws.Reading.{frame-refusal, extent-refusal, frame_refused}
use Rattle.postman_laws.specs.Laws.Acceptance.{inside}
use Rattle.postman_laws.specs.Laws.FileLength.{file_length_le}
use Rattle.planner.specs.Laws.Whole.{file_refused}

-- ---- the fields of the first bytes

bit_take : (bytes : List ℕ) (k i : ℕ) → i < 8 * k → bit_at (take k bytes) i ≡ bit_at bytes i
unfolding bit_at
bit_take bytes k i l = ap (λ x. x / 2 ^ (7 - i % 8) % 2) (get_or-take k bytes (i / 8) 0 (omega arith))

field_take : (bytes : List ℕ) (k i w : ℕ) → i + w ≤ 8 * k → field_at (take k bytes) i w ≡ field_at bytes i w
unfolding field_at
field_take bytes k i w l = number_same (bit_at (take k bytes)) (bit_at bytes) i i w (λ j h. bit_take bytes k (i + j) (omega arith))

edition_take : (bytes : List ℕ) (k : ℕ) → 1 ≤ k → edition (take k bytes) ≡ edition bytes
unfolding edition
edition_take bytes k l = field_take bytes k 0 4 (omega arith)

-- ---- the refusal of a long file

-- 2, 3 or 4, by the edition, n and m
long_refusal : ℕ → ℕ → ℕ → ℕ
long_refusal e n m = cond (not (is_edition e)) 2 (cond (is_outside n 1 64 || is_outside m 1 256) 3 4)

module _ (bytes : List ℕ) (long : 1476 ≤ length bytes) where
  margin : (e m : ℕ) → m ≤ 256 → first_refusal (margin_conditions bytes e m) ≡ some 4
  unfolding first_refusal margin_conditions
  margin e m h =
      let l = file_length_le e m h in
      rw (le-ltb (length bytes) (file_length e m) (omega arith), lt-ltb (file_length e m) (length bytes) (omega arith))

  by_header : (e n m : ℕ)
      → cond (not (is_edition e)) (some 2)
      (cond (is_outside n 1 64 || is_outside m 1 256) (some 3) (first_refusal (margin_conditions bytes e m)))
      ≡ some (long_refusal e n m)
  unfolding long_refusal
  by_header e n m = at (not (is_edition e)) (is_outside n 1 64) (is_outside m 1 256) (λ h. margin e m (inside m 1 256 h).1)
    where
      at : (x y z : Bool) {o : Option ℕ} → (z ≡ false → o ≡ some 4)
          → cond x (some 2) (cond (y || z) (some 3) o) ≡ some (cond x 2 (cond (y || z) 3 4))
      at true y z f = refl
      at false true z f = refl
      at false false true f = refl
      at false false false f = f refl

  file_long : first_refusal (file_conditions bytes) ≡ some (long_refusal (edition bytes) (field_at bytes 4 7) (field_at bytes 11 9))
  file_long =
      frame_refused bytes _
      (frame-refusal bytes
      ∙ rw (le-ltb (length bytes) 3 (omega arith), extent-refusal bytes (edition bytes))
      (by_header (edition bytes) (field_at bytes 4 7) (field_at bytes 11 9)))

  call_long : (budget places : ℕ)
      → call_refusal bytes budget places ≡ some (long_refusal (edition bytes) (field_at bytes 4 7) (field_at bytes 11 9))
  call_long budget places = file_refused bytes budget places _ file_long

-- A file longer than the longest plan is refused for what its first 1,476 bytes hold, whatever follows them.
pub long_file : (bytes : List ℕ) (budget places k : ℕ) → 1476 ≤ k → k ≤ length bytes
    → call_refusal (take k bytes) budget places ≡ call_refusal bytes budget places
long_file bytes budget places k h l =
    let e = length-take-le k bytes l in
    call_long (take k bytes) (omega arith) budget places
    ∙ rw (edition_take bytes k (omega arith), field_take bytes k 4 7 (omega arith), field_take bytes k 11 9 (omega arith))
    (sym (call_long bytes (omega arith) budget places))
