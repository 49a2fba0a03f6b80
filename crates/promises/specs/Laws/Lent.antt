-- A state that was stored is lent again as it was. Each file is read from the place where it was put: what stands
-- before it has the length of the files before it.
use Rattle.std.specs.Prelude.{◌≡◌, ℕ, ◌+◌, ◌%◌, ◌≤◌, length, get_or}
use Rattle.std.proofs.Math.Path.{refl, ap}
use Rattle.std.proofs.Common.{◌∙◌}
use mathlib.Core.List.{List, [], ◌∷◌, ◌++◌}
use native.Mathlib.Omega.{arith}
use Rattle.std.proofs.Math.ListN.{length-append}
use Rattle.postman.specs.OpenPlan.{Open}
use Rattle.held_file.specs.declared.Held.{Held}
use Rattle.held_file.specs.Laws.Held.{IsShort, file_back}
use Rattle.open_plan.specs.declared.OpenPlan.{OpenPlan}
use Rattle.open_plan.specs.State.{mark_in}
use Rattle.open_plan.specs.Laws.History.{Stands, keeps_size, mark_size}
use Rattle.encoding.specs.NumberBytes.{number_bytes}
use Rattle.encoding.specs.Laws.NumberBytes.{IsAt, first, second, number_back}
use Rattle.open_plan_bytes.specs.StateBytes.{open_bytes, held_in, held_bytes, open_in, state_bytes}

held_back : (h : Held) → IsShort h → {all : List ℕ} {i : ℕ} → IsAt all i (held_bytes h) → held_in all i ≡ h
held_back h short {all} {i} s =
    let n = h.length % 65536 in
    let few = short.1 in
    let number = number_back n (first (number_bytes n) h.file s) in
    file_back h short.0 _ (number ∙ (let e : n ≡ h.length = omega arith in e)) (second (number_bytes n) h.file (i + 2) refl s)

-- a state that stands for an open plan has four marks, and files whose lengths have room in two bytes
pub record Sized (s : OpenPlan) : Type 0 where
  pub plan_file : IsShort s.plan
  pub four : length s.marks ≡ 4
  pub mark_0 : IsShort (mark_in s 0)
  pub mark_1 : IsShort (mark_in s 1)
  pub mark_2 : IsShort (mark_in s 2)
  pub mark_3 : IsShort (mark_in s 3)

pub stands_sized : (e : ℕ) (o : Open) (s : OpenPlan) → Stands e o s → Sized s
stands_sized e o s h = record {
  plan_file = keeps_size e o.plan s.plan h.plan_is;
  four = h.four;
  mark_0 = mark_size e (o.marks 0) (mark_in s 0) (h.marks_are 0 (omega arith));
  mark_1 = mark_size e (o.marks 1) (mark_in s 1) (h.marks_are 1 (omega arith));
  mark_2 = mark_size e (o.marks 2) (mark_in s 2) (h.marks_are 2 (omega arith));
  mark_3 = mark_size e (o.marks 3) (mark_in s 3) (h.marks_are 3 (omega arith));
}

four_marks : (l : List Held) (z : Held) → length l ≡ 4 → get_or l 0 z ∷ get_or l 1 z ∷ get_or l 2 z ∷ get_or l 3 z ∷ [] ≡ l
four_marks [] z e = absurd (omega arith)
four_marks (a ∷ []) z e = absurd (omega arith)
four_marks (a ∷ b ∷ []) z e = absurd (omega arith)
four_marks (a ∷ b ∷ c ∷ []) z e = absurd (omega arith)
four_marks (a ∷ b ∷ c ∷ d ∷ []) z e = refl
four_marks (a ∷ b ∷ c ∷ d ∷ x ∷ l) z e = absurd (omega arith)

module _ (s : OpenPlan) (sized : Sized s) (rest : List ℕ) where
  abbrev p : List ℕ
  p = held_bytes s.plan

  abbrev m₀ : List ℕ
  m₀ = held_bytes (mark_in s 0)

  abbrev m₁ : List ℕ
  m₁ = held_bytes (mark_in s 1)

  abbrev m₂ : List ℕ
  m₂ = held_bytes (mark_in s 2)

  abbrev m₃ : List ℕ
  m₃ = held_bytes (mark_in s 3)

  bytes_long : (length p ≡ 1477) × (length (p ++ m₀) ≡ 2954) × (length (p ++ m₀ ++ m₁) ≡ 4431) × (length (p ++ m₀ ++ m₁ ++ m₂) ≡ 5908)
  bytes_long =
      let a = sized.plan_file.0 in
      let b = sized.mark_0.0 in
      let c = sized.mark_1.0 in
      let d = sized.mark_2.0 in
      let e = length-append p m₀ in
      let f = length-append (p ++ m₀) m₁ in
      let g = length-append (p ++ m₀ ++ m₁) m₂ in
      (omega arith, omega arith, omega arith, omega arith)

  pub state_long : open_bytes ≤ length (state_bytes s ++ rest)
  unfolding state_bytes
  state_long =
      let l = bytes_long.3 in
      let a = length-append (p ++ m₀ ++ m₁ ++ m₂) m₃ in
      let b = length-append (p ++ m₀ ++ m₁ ++ m₂ ++ m₃) rest in
      let d = sized.mark_3.0 in
      omega arith

  -- THE LAW: a state that was stored is lent again
  pub state_back : open_in (state_bytes s ++ rest) ≡ s
  unfolding state_bytes
  state_back =
      let all = p ++ m₀ ++ m₁ ++ m₂ ++ m₃ ++ rest in
      let l₀ = bytes_long.0 in
      let l₁ = bytes_long.1 in
      let l₂ = bytes_long.2 in
      let l₃ = bytes_long.3 in
      let s₄ : IsAt all 0 (p ++ m₀ ++ m₁ ++ m₂ ++ m₃) = record { done = []; rest = rest; size = refl; is = refl } in
      let s₃ = first (p ++ m₀ ++ m₁ ++ m₂) m₃ s₄ in
      let s₂ = first (p ++ m₀ ++ m₁) m₂ s₃ in
      let s₁ = first (p ++ m₀) m₁ s₂ in
      let plan = held_back s.plan sized.plan_file (first p m₀ s₁) in
      let mark_0 = held_back (mark_in s 0) sized.mark_0 (second p m₀ 1477 (omega arith) s₁) in
      let mark_1 = held_back (mark_in s 1) sized.mark_1 (second (p ++ m₀) m₁ 2954 (omega arith) s₂) in
      let mark_2 = held_back (mark_in s 2) sized.mark_2 (second (p ++ m₀ ++ m₁) m₂ 4431 (omega arith) s₃) in
      let mark_3 = held_back (mark_in s 3) sized.mark_3 (second (p ++ m₀ ++ m₁ ++ m₂) m₃ 5908 (omega arith) s₄) in
      let held : open_in all ≡ record { plan = s.plan; marks = mark_in s 0 ∷ mark_in s 1 ∷ mark_in s 2 ∷ mark_in s 3 ∷ [] } =
      λ j. record { plan = plan j; marks = mark_0 j ∷ mark_1 j ∷ mark_2 j ∷ mark_3 j ∷ [] }
      in
      held ∙ ap {B = OpenPlan} (λ (l : List Held). record { plan = s.plan; marks = l }) (four_marks s.marks _ sized.four)
