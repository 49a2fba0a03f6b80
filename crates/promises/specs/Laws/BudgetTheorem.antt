-- WHAT A RAISED BUDGET BUYS, for callers in other languages: "For one plan (for a car, with equal marks) and two budgets, the larger gives
-- a drive no dearer and a floor no lower", over the words, multipliers and sheets of two calls that both answer 0, with room for six words
-- each; at a departure "at equal windows and departure". Any two sheets.
use Rattle.std.specs.Prelude.{◌≡◌, refl, Bool, true, false, cond, List, ℕ, ◌≤◌, ◌<◌, ℤ, pos, nat_abs, length, get_or, take, Result}
use Rattle.std.proofs.Common.{sym, ap, ◌∙◌, subst, arith, le-ltb}
use Rattle.std.proofs.Math.Option.{Option}
use Rattle.std.proofs.Math.Seq.{paste}
use Rattle.integers.specs.Linear.{z, pos_abs}
use Rattle.postman.specs.Plan.{Plan}
use Rattle.postman.specs.PlanFile.{plan_of}
use Rattle.postman.specs.Windows.{Departure}
use Rattle.postman.specs.Marks.{car_plan, car_refusal}
use Rattle.refusal.specs.declared.Refusal.{Refusal}
use Rattle.solution.specs.declared.Planned.{Planned}
use Rattle.solution.specs.Planned.{IsPlanned, summary_of, u_list}
use Rattle.solution.specs.RaisedBudget.{Buys}
use Rattle.solution.specs.Laws.Answered.{floor_above}
use Rattle.planner.specs.Laws.Theorem.{raised_budget}
use Rattle.answers.specs.Answer.{words_of, put_first}
use Rattle.exports.specs.Cars.{Lent}
use Rattle.promises.specs.Slices.{Slices, HandsOver, IsCalled, IsCalledAt, HasRoom, BuysLent}
use Rattle.promises.specs.Laws.Slices.{not_refused, words_put, multipliers_put, word_is}
use Rattle.promises.specs.Laws.CarsTheorem.{lent_by, left_to, IsCarAnswered}

-- ---- what is read of an answer that was handed over

module _ (r : Result Planned Refusal) (old new : Slices) (n : ℤ) (x : HandsOver r old new n) (zero : n ≡ pos 0) (room : HasRoom old) where
  all_words : take 6 new.words ≡ words_of r
  all_words = ap (take 6) (words_put r old new n x zero)
      ∙ ap (λ (b : Bool). take 6 (paste old.words 0 (words_of r) (cond b (length old.words) 6)))
      (le-ltb (length old.words) 6 room)

flag : (b : Bool) (k : ℕ) → cond b 1 0 ≡ k → (k ≡ 0 → b ≡ false) × (k ≡ 1 → b ≡ true)
flag true k e = (λ i. absurd (omega arith), λ i. refl)
flag false k e = (λ i. refl, λ i. absurd (omega arith))

-- ---- two answers for one plan

module _ (p : Plan) (b c : ℕ) (more : b ≤ c) (f g : Option ℕ)
    (old new : Slices) (n : ℤ) (r : Result Planned Refusal) (i : IsPlanned p b f old.sheet new.sheet r) (x : HandsOver r old new n)
    (zero : n ≡ pos 0) (room : HasRoom old)
    (old' new' : Slices) (m : ℤ) (s : Result Planned Refusal) (j : IsPlanned p c g old'.sheet new'.sheet s) (y : HandsOver s old' new' m)
    (zero' : m ≡ pos 0) (room' : HasRoom old') where
  bought : Buys r s new.sheet new'.sheet
  bought = raised_budget p b c more f g old.sheet new.sheet old'.sheet new'.sheet r s i j (not_refused r old new n x zero)
      (not_refused s old' new' m y zero')

  word : (k : ℕ) → k < 6 → get_or new.words k 0 ≡ get_or (words_of r) k 0
  word k l = word_is r old new n x zero k l (omega arith)

  word' : (k : ℕ) → k < 6 → get_or new'.words k 0 ≡ get_or (words_of s) k 0
  word' k l = word_is s old' new' m y zero' k l (omega arith)

  floors : nat_abs (summary_of r).floor ≤ nat_abs (summary_of s).floor
  floors =
      let a = pos_abs (floor_above p b f old.sheet new.sheet r i (not_refused r old new n x zero)) in
      let d = pos_abs (floor_above p c g old'.sheet new'.sheet s j (not_refused s old' new' m y zero')) in
      let l = bought.no_lower in
      omega (arith, z)

  pub buys_lent : BuysLent old new old' new'
  buys_lent =
      let e₁ = word 1 (omega arith) in
      let d₁ = word' 1 (omega arith) in
      let e₂ = word 2 (omega arith) in
      let d₂ = word' 2 (omega arith) in
      let e₄ = word 4 (omega arith) in
      let d₄ = word' 4 (omega arith) in
      let h = bought in
      let l = h.no_dearer in
      let q = floors in
      record {
        no_dearer = omega arith;
        no_lower = omega arith;
        partial_floors =
            λ u v. d₂
            ∙ ap nat_abs (h.partial_floors ((flag (summary_of r).whole _ (sym e₄)).0 u) ((flag (summary_of s).whole _ (sym d₄)).0 v))
            ∙ sym e₂;
        u = u_list r;
        first_multipliers = multipliers_put r old new n x zero;
        second_multipliers =
            multipliers_put s old' new' m y zero' ∙ ap (λ (u : List ℤ). put_first u old'.multipliers) h.same_multipliers;
        whole_words =
            λ w. all_words s old' new' m y zero' room' ∙ ap words_of (h.whole_same ((flag (summary_of r).whole _ (sym e₄)).1 w))
            ∙ sym (all_words r old new n x zero room);
        whole_drive = λ w. ap (λ (k : ℕ). take k new'.sheet) (word' 0 (omega arith))
            ∙ h.whole_drive ((flag (summary_of r).whole _ (sym e₄)).1 w) ∙ sym (ap (λ (k : ℕ). take k new.sheet) (word 0 (omega arith)));
      }

-- ---- THE CALLS

module _ (bytes : List ℕ) (b c : ℕ) (more : b ≤ c) (old new old' new' : Slices) (n m : ℤ)
    (zero : n ≡ pos 0) (zero' : m ≡ pos 0) (room : HasRoom old) (room' : HasRoom old') where
  pub raised_budget_lent : IsCalled bytes b old new n
      → IsCalled bytes c old' new' m
      → BuysLent old new old' new'
  raised_budget_lent x y =
      buys_lent (plan_of bytes) b c more _ _ old new n x.answer x.called.planned x.handed_over zero room old' new' m y.answer
      y.called.planned y.handed_over zero' room'

  -- at a departure; asking an open plan is this call on the file that it holds
  pub raised_budget_at_lent : (windows : List ℕ) (d : Departure)
      → IsCalledAt bytes b windows d old new n
      → IsCalledAt bytes c windows d old' new' m
      → BuysLent old new old' new'
  raised_budget_at_lent windows d x y =
      buys_lent _ b c more _ _ old new n x.answer x.called.planned x.handed_over zero room old' new' m y.answer
      y.called.planned y.handed_over zero' room'

-- for a car, with equal marks: either car of one call, and either of another
pub raised_budget_car_lent : (bytes : List ℕ) (a b : Lent) (n m : ℤ) → a.marks ≡ b.marks → a.budget ≤ b.budget
    → n ≡ pos 0 → m ≡ pos 0 → HasRoom (lent_by a) → HasRoom (lent_by b)
    → IsCarAnswered bytes a n → IsCarAnswered bytes b m → BuysLent (lent_by a) (left_to a) (lent_by b) (left_to b)
raised_budget_car_lent bytes a b n m e more zero zero' room room' x y =
    let j = subst
    (λ (l : List ℕ). IsPlanned (car_plan (plan_of bytes) l) b.budget (car_refusal bytes b.budget (length b.sheet) b.marks)
    b.sheet b.sheet' y.answer) (sym e) y.called.planned in
    buys_lent (car_plan (plan_of bytes) a.marks) a.budget b.budget more _ _ (lent_by a) (left_to a) n x.answer x.called.planned
    x.handed_over zero room
    (lent_by b) (left_to b) m y.answer j y.handed_over zero' room'
