-- A state that is lent: five files one after the other, since each is stored where the one before it ended.
use Rattle.std.specs.Prelude.{◌≡◌, List, ◌++◌, ℕ, ◌+◌, ◌^◌, ◌≤◌, ◌<◌, ℤ, pos, neg_ℤ, length, drop}
use Rattle.std.proofs.Common.{sym, ap, ◌∙◌, arith, to_z, of_z, length-append}
use Rattle.std.proofs.Math.Path.{subst⁻¹}
use Rattle.std.proofs.Math.Option.{Option, none, some}
use Rattle.std.specs.Int.{w64}
use Rattle.std.specs.Int.Signed.{mag}
use Rattle.integers.specs.Linear.{back64}
use Rattle.postman.specs.Refusal.{answer, unless}
use Rattle.refusal.specs.Verdict.{verdict_number}
use Rattle.held_file.specs.declared.Held.{Held}
use Rattle.open_plan.specs.declared.OpenPlan.{OpenPlan}
use Rattle.open_plan.specs.declared.Moved.{Moved}
use Rattle.open_plan.specs.State.{mark_in}
use Rattle.answers.specs.Number.{one_number}
use Rattle.encoding.specs.NumberBytes.{put_at}
use Rattle.encoding.specs.Laws.NumberBytes.{put_next, put_start}
use Rattle.open_plan_bytes.specs.StateBytes.{open_bytes, held_bytes, state_bytes, IsStored}

-- five files one after the other
pub stored_state : (s : OpenPlan) (l l₁ l₂ l₃ l₄ l₅ : List ℕ) → open_bytes ≤ length l
    → (length s.plan.file ≡ 1475) × (l₁ ≡ put_at l 0 (held_bytes s.plan))
    → (length (mark_in s 0).file ≡ 1475) × (l₂ ≡ put_at l₁ 1477 (held_bytes (mark_in s 0)))
    → (length (mark_in s 1).file ≡ 1475) × (l₃ ≡ put_at l₂ 2954 (held_bytes (mark_in s 1)))
    → (length (mark_in s 2).file ≡ 1475) × (l₄ ≡ put_at l₃ 4431 (held_bytes (mark_in s 2)))
    → (length (mark_in s 3).file ≡ 1475) × (l₅ ≡ put_at l₄ 5908 (held_bytes (mark_in s 3)))
    → l₅ ≡ state_bytes s ++ drop open_bytes l
unfolding state_bytes
stored_state s l l₁ l₂ l₃ l₄ l₅ room p a b c d =
    let size : (h : Held) → length h.file ≡ 1475 → length (held_bytes h) ≡ 1477 = λ h e. omega arith in
    let sum : (x : List ℕ) (n : ℕ) (h : Held) → length x ≡ n → length h.file ≡ 1475 → length (x ++ held_bytes h) ≡ n + 1477 =
    λ x n h e f. (let k = length-append x (held_bytes h) in omega arith) in
    let d₀ : List ℕ = held_bytes s.plan in
    let d₁ : List ℕ = d₀ ++ held_bytes (mark_in s 0) in
    let d₂ : List ℕ = d₁ ++ held_bytes (mark_in s 1) in
    let d₃ : List ℕ = d₂ ++ held_bytes (mark_in s 2) in
    let n₀ = size s.plan p.0 in
    let n₁ = sum d₀ 1477 (mark_in s 0) n₀ a.0 in
    let n₂ = sum d₁ 2954 (mark_in s 1) n₁ b.0 in
    let n₃ = sum d₂ 4431 (mark_in s 2) n₂ c.0 in
    let e₁ = put_next l 0 d₀ _ 1477 1477 n₀ (size (mark_in s 0) a.0) (omega arith) l₁ l₂ p.1 a.1 in
    let e₂ = put_next l 0 d₁ _ 2954 1477 n₁ (size (mark_in s 1) b.0) (omega arith) l₂ l₃ e₁ b.1 in
    let e₃ = put_next l 0 d₂ _ 4431 1477 n₂ (size (mark_in s 2) c.0) (omega arith) l₃ l₄ e₂ c.1 in
    put_next l 0 d₃ _ 5908 1477 n₃ (size (mark_in s 3) d.0) (omega arith) l₄ l₅ e₃ d.1
    ∙ put_start l (state_bytes s) open_bytes (sum d₃ 5908 (mark_in s 3) n₃ d.0)

pub stored_accepted : (r : Moved) (bytes bytes' : List ℕ) → verdict_number r.verdict ≡ none
    → bytes' ≡ state_bytes r.state ++ drop open_bytes bytes → IsStored r bytes bytes' (pos 0)
unfolding unless answer
stored_accepted r bytes bytes' e f = record {
  number_is = ap (λ (o : Option ℕ). one_number (answer o 0)) (sym e);
  state_is = f ∙ ap (λ (o : Option ℕ). unless o (state_bytes r.state ++ drop open_bytes bytes) bytes) (sym e);
}

pub stored_refused : (r : Moved) (bytes : List ℕ) (k : ℕ) (n : ℤ) → verdict_number r.verdict ≡ some k → n ≡ neg_ℤ (pos k)
    → IsStored r bytes bytes n
unfolding unless answer
stored_refused r bytes k n e f = record {
  number_is = f ∙ ap (λ (o : Option ℕ). one_number (answer o 0)) (sym e);
  state_is = ap (λ (o : Option ℕ). unless o (state_bytes r.state ++ drop open_bytes bytes) bytes) (sym e);
}

-- The number is the same once it has been a word of 64 bits.
pub stored_back : {r : Moved} {bytes bytes' : List ℕ} {n : ℤ} → mag n < 2 ^ 63 → IsStored r bytes bytes' n
    → IsStored r bytes bytes' (to_z w64 (of_z w64 n))
stored_back {r} {bytes} {bytes'} {n} small h = subst⁻¹ (IsStored r bytes bytes') (back64 n small) h
