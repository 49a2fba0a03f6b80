-- One turn of each loop, put together from what its parts answer. Each by the equations of the parts, one after the other.
use Rattle.std.specs.Prelude.{◌≡◌, Bool, true, false, ℤ, pos, get_or, set}
use Rattle.std.proofs.Math.Path.{refl, ap, ap₂}
use Rattle.std.proofs.Common.{sym, ◌∙◌, lt-ltb, le-ltb}
use mathlib.Core.List.{List, Memᴰ}
use Prim.Native.Nat.{ℕ, zero, suc, ◌+◌, ◌-◌, ◌^◌, ◌≤◌, ◌<◌}
use native.Mathlib.Omega.{arith}
use Rattle.std.proofs.Math.ListN.{replicate}
use Rattle.residual_search.specs.Search.{beyond}
use Rattle.multiplier_steps.specs.Steps.{AreSmall, capped, capped_all, carried_on}
use Rattle.multiplier_steps.specs.Laws.Steps.{all_small}
use Rattle.ascent.specs.Relax.{move_all, ask, sweep, are_closed, sweeps, settled}
use Rattle.ascent_tree.specs.Offers.{Offers, offers}
use Rattle.ascent_tree.specs.Tree.{Sets, grown, along}
use Rattle.ascent.specs.Step.{Step, are_unmoved, step}

pub ask_none : (d : List (List ℕ)) (f : List ℕ) (up : Bool) (vs : List ℕ) (x : List ℤ) (marks : List ℕ) (w : ℕ) → get_or marks w 0 ≤ 0
    → (x, marks) ≡ ask d f up vs (x, marks) w
unfolding ask
ask_none d f up vs x marks w l = rw (le-ltb 0 (get_or marks w 0) l)

pub ask_some : (d : List (List ℕ)) (f : List ℕ) (up : Bool) (vs : List ℕ) (x : List ℤ) (marks : List ℕ) (w : ℕ) {base : ℤ}
    {r : List ℤ × List ℕ} → 0 < get_or marks w 0 → base ≡ capped (get_or x w (pos 0))
    → r ≡ move_all d f up vs w base (x, set marks w 0) → r ≡ ask d f up vs (x, marks) w
unfolding ask
ask_some d f up vs x marks w l eb er = er ∙ ap (λ (q : ℤ). move_all d f up vs w q (x, set marks w 0)) eb
    ∙ rw (lt-ltb 0 (get_or marks w 0) l)

-- ---- until none is open

module _ (d : List (List ℕ)) (f : List ℕ) (up : Bool) (vs : List ℕ) where
  pub sweeps_start : (x : List ℤ) → capped_all (sweeps d f up vs 64 (x, replicate 64 1)).0 vs ≡ settled d f up vs x
  unfolding settled
  sweeps_start x = refl

  pub sweeps_end : (n : ℕ) (x : List ℤ) (marks : List ℕ) → are_closed vs marks ≡ true → (sweeps d f up vs n (x, marks)).0 ≡ x
  unfolding sweeps
  sweeps_end zero x marks e = refl
  sweeps_end (suc n) x marks e = rw e

  pub sweeps_none : (k : ℕ) (x : List ℤ) (marks : List ℕ) → 64 ≤ k → (sweeps d f up vs (64 - k) (x, marks)).0 ≡ x
  unfolding sweeps
  sweeps_none k x marks l = let e : 64 - k ≡ 0 = omega arith in ap (λ n. (sweeps d f up vs n (x, marks)).0) e

  sweeps_step : (n : ℕ) (s : List ℤ × List ℕ) → are_closed vs s.1 ≡ false
      → sweeps d f up vs (suc n) s ≡ sweeps d f up vs n (sweep d f up vs s)
  unfolding sweeps
  sweeps_step n s e = rw e

  pub sweeps_more : (k : ℕ) (x : List ℤ) (marks : List ℕ) {x' r : List ℤ} {marks' : List ℕ}
      → capped_all (sweeps d f up vs (64 - k) (x, marks)).0 vs ≡ r → k < 64 → are_closed vs marks ≡ false
      → (x', marks') ≡ sweep d f up vs (x, marks) → capped_all (sweeps d f up vs (64 - (k + 1)) (x', marks')).0 vs ≡ r
  sweeps_more k x marks inv l any e =
      let m : 64 - k ≡ suc (64 - (k + 1)) = omega arith in
      ap (λ (s : List ℤ × List ℕ). capped_all (sweeps d f up vs (64 - (k + 1)) s).0 vs) e
      ∙ ap (λ (s : List ℤ × List ℕ). capped_all s.0 vs) (sym (sweeps_step (64 - (k + 1)) (x, marks) any))
      ∙ ap (λ n. capped_all (sweeps d f up vs n (x, marks)).0 vs) (sym m)
      ∙ inv

-- ---- the step

module _ (d : List (List ℕ)) (f vs component : List ℕ) (k : ℕ) (up : Bool) (s : ℕ) (x before : List ℤ) where
  abbrev step_with : List ℤ → ℤ → Bool → Step
  step_with u l b = record { multipliers = u; value = l; balanced = b }

  -- a step by the tree that the sets t have, along the pairs
  abbrev by : Sets → List ℕ → ℕ → Step
  by t pairs n =
      step_with (settled d f up vs (carried_on vs (along t.1 pairs s x (n - 1)) x before)) (get_or t.0 (n - 1) (pos 0))
      (are_unmoved vs (along t.1 pairs s x (n - 1)) x)

  pub step_is : {costs cost y z multipliers : List ℤ} {pairs from : List ℕ} {n : ℕ} {l : ℤ} {b : Bool}
      → (costs, pairs) ≡ offers d x component vs → n ≡ 2 ^ (k - 1) → (cost, from) ≡ grown costs n
      → y ≡ along from pairs s x (n - 1) → b ≡ are_unmoved vs y x → z ≡ carried_on vs y x before → multipliers ≡ settled d f up vs z
      → l ≡ get_or cost (n - 1) (pos 0)
      → step_with multipliers l b ≡ step d f vs component k up s x before
  unfolding step
  step_is {costs} {cost} {y} {z} {multipliers} {pairs} {from} {n} {l} {b} eo en eg ey eb ez eh el =
      ap (λ (u : List ℤ). step_with u l b) (eh ∙ ap (settled d f up vs) (ez ∙ ap (λ (y : List ℤ). carried_on vs y x before) ey))
      ∙ ap₂ (λ (l : ℤ) (b : Bool). step_with (settled d f up vs (carried_on vs (along from pairs s x (n - 1)) x before)) l b) el
      (eb ∙ ap (λ (y : List ℤ). are_unmoved vs y x) ey)
      ∙ ap (λ (t : Sets). by t pairs n) eg
      ∙ ap (λ (o : Offers). by (grown o.0 n) o.1 n) eo
      ∙ ap (λ (n : ℕ). by (grown (offers d x component vs).0 n) (offers d x component vs).1 n) en

-- ---- what a step gives is small

module _ (d : List (List ℕ)) (f vs : List ℕ) (up : Bool) (small : (i : ℕ) → Memᴰ i vs → i < 64) where
  settled_small : (x : List ℤ) → AreSmall beyond (settled d f up vs x)
  unfolding settled
  settled_small x = all_small vs small (sweeps d f up vs 64 (x, replicate 64 1)).0

  pub step_small : (component : List ℕ) (k s : ℕ) (x before : List ℤ) → AreSmall beyond (step d f vs component k up s x before).multipliers
  unfolding step
  step_small component k s x before =
      let o = offers d x component vs in
      settled_small (carried_on vs (along (grown o.0 (2 ^ (k - 1))).1 o.1 s x (2 ^ (k - 1) - 1)) x before)
