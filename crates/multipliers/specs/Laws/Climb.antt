-- The parts of a step of the ascent, put together. Each by the equations of the parts, one after the other.
use Rattle.std.specs.Prelude.{◌≡◌, Bool, cond, ℕ, ◌+◌, ◌-◌, ◌/◌, ◌≤◌, min, ℤ, pos}
use Rattle.std.proofs.Common.{sym, ◌∙◌}
use Rattle.std.proofs.Math.Path.{ap, ap₂, subst⁻¹}
use Rattle.std.proofs.Math.Bool.{true, false}
use mathlib.Core.List.{List}
use native.Mathlib.Omega.{arith}
use Rattle.std.specs.Int.Signed.{lt_z}
use Rattle.postman.specs.Lists.{maxℤ}
use Rattle.postman.specs.Plan.{Plan}
use Rattle.postman.specs.Required.{required}
use Rattle.residual_search.specs.Search.{beyond}
use Rattle.multiplier_steps.specs.Turns.{turns}
use Rattle.multiplier_steps.specs.Steps.{span}
use Rattle.ascent.specs.Step.{Step}
use Rattle.multipliers.specs.Drive.{table_of}
use Rattle.multipliers.specs.Ascent.{Climb, bound_of, improved, moved, is_lawful, from_root, step_from, attempt, climb, begin, greatest_of, multipliers_for}
use Rattle.multipliers.specs.Laws.Ascent.{ascent_bounded}

-- its own best in place of its best
pub held_is : (c : Climb) {m : ℤ} → m ≡ c.bound → improved c c.best m ≡ c
held_is c e = ap (improved c c.best) e

pub held_as : {c d : Climb} {u : List ℤ} {m : ℤ} → u ≡ c.best → m ≡ c.bound → improved c c.best c.bound ≡ d → improved c u m ≡ d
held_as {c} eu em e = ap₂ (improved c) eu em ∙ e

module _ (p : Plan) where
  pub attempt_none : (c : Climb) {b : Bool} {m : ℤ} → b ≡ is_lawful p c.multipliers → b ≡ false → m ≡ c.bound
      → improved c c.best m ≡ attempt p c
  unfolding attempt
  attempt_none c e n em = held_is c em ∙ rw (sym e ∙ n)

  module _ (c : Climb) {b t : Bool} {u : List ℤ} {l : ℤ} (e : b ≡ is_lawful p c.multipliers) (y : b ≡ true)
      (eu : u ≡ from_root p c.multipliers) (el : l ≡ bound_of p u) (et : t ≡ lt_z c.bound l) where
    by_bound : (v : Bool) → t ≡ v → lt_z c.bound (bound_of p (from_root p c.multipliers)) ≡ v
    by_bound v n = ap (λ (u : List ℤ). lt_z c.bound (bound_of p u)) (sym eu) ∙ ap (lt_z c.bound) (sym el) ∙ sym et ∙ n

    pub attempt_low : {m : ℤ} → t ≡ false → m ≡ c.bound → improved c c.best m ≡ attempt p c
    unfolding attempt
    attempt_low n em = held_is c em ∙ rw (sym e ∙ y, by_bound false n)

    pub attempt_more : {m : ℤ} → t ≡ true → m ≡ l → improved c u m ≡ attempt p c
    unfolding attempt
    attempt_more n em =
        ap (improved c u) (em ∙ el) ∙ ap (λ (u : List ℤ). improved c u (bound_of p u)) eu ∙ rw (sym e ∙ y, by_bound true n)

  pub climb_done : (c : Climb) (i : ℕ) → c.done ≡ true → c ≡ climb p c i
  unfolding climb
  climb_done c i e = rw e

  pub climb_more : (c : Climb) (i : ℕ) {s : Step} {b : Climb} {v l : ℤ} → c.done ≡ false → s ≡ step_from p c i
      → b ≡ cond (lt_z c.value s.value) (attempt p c) c → v ≡ maxℤ c.value s.value → l ≡ b.bound
      → record {
        multipliers = s.multipliers;
        before = c.multipliers;
        best = b.best;
        bound = l;
        value = v;
        stride = c.stride - c.stride / 9;
        done = s.balanced;
      }
      ≡ climb p c i
  unfolding climb
  climb_more c i {s} {b} {v} {l} n es eb ev el =
      ap₂ (λ (l v : ℤ). record {
        multipliers = s.multipliers;
        before = c.multipliers;
        best = b.best;
        bound = l;
        value = v;
        stride = c.stride - c.stride / 9;
        done = s.balanced;
      }) el ev
      ∙ ap (λ (b : Climb). moved c b s) eb
      ∙ ap (λ (s : Step). moved c (cond (lt_z c.value s.value) (attempt p c) c) s) es
      ∙ rw n

  pub begin_is : (u : List ℤ) {l : ℤ} {far s : ℕ} → u ≡ greatest_of p → l ≡ bound_of p u → far ≡ span (table_of p) (required p)
      → s ≡ min (far / 24 + 1) beyond
      → record { multipliers = u; before = u; best = u; bound = l; value = pos 0; stride = s; done = false } ≡ begin p
  unfolding begin
  begin_is u eu el ef es = rw (es, ef, el, eu)

  pub ascent_is : {c₀ c : Climb} (i : ℕ) {l : ℤ} → c₀ ≡ begin p → c ≡ turns (climb p) c₀ i → i ≤ 20 → 20 ≤ i → l ≡ c.bound
      → (c.best ≡ multipliers_for p) × (l ≡ bound_of p c.best)
  unfolding multipliers_for
  ascent_is {c₀} {c} i e inv a b el =
      let n : i ≡ 20 = omega arith in
      let g : c ≡ turns (climb p) (begin p) 20 = inv ∙ ap₂ (turns (climb p)) e n in (
        ap (λ (c : Climb). c.best) g,
        el ∙ subst⁻¹ (λ (c : Climb). c.bound ≡ bound_of p c.best) g (ascent_bounded p 20),
      )
