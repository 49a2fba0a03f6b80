-- What a round asks holds of what is kept, and the tree that it leaves is held again.
use Rattle.std.specs.Prelude.{◌≡◌, refl, Bool, cond, List, ℕ, ◌+◌, ◌-◌, ◌≤◌, ◌<◌, T, leb, ltb, ℤ}
use Rattle.std.proofs.Common.{ap, ◌∙◌, ltb→lt}
use Rattle.std.proofs.Math.Path.{subst⁻¹}
use Rattle.std.proofs.Math.Bool.{true, false}
use Rattle.std.proofs.Math.Decide.{dec_lt}
use native.Mathlib.Omega.{arith}
use Rattle.std.specs.Int.Signed.{lt_z}
use Rattle.postman.specs.Plan.{Plan}
use Rattle.postman.specs.Component.{component_count}
use Rattle.postman.specs.PlanCall.{best_cost}
use Rattle.postman.specs.Laws.Tests.{cond_ind}
use Rattle.postman.specs.Steps.{Plannable}
use Rattle.branches.specs.Links.{links_in}
use Rattle.multipliers.specs.Drive.{tree_drive, drive_of}
use Rattle.tree_search.specs.declared.trees.Reached.{Reached}
use Rattle.tree_search.specs.Laws.BestTree.{cost_small}
use Rattle.held_tree.specs.declared.cheaper.Found.{Found}
use Rattle.tree_search.specs.Improved.{CanImprove}
use Rattle.held_tree.specs.Cheaper.{IsBest, IsCheaper}
use Rattle.round_rule.specs.declared.kept.Kept.{Kept}
use Rattle.round_rule.specs.declared.trial.Trial.{Trial}
use Rattle.round_rule.specs.declared.trial.Chosen.{Chosen}
use Rattle.round_rule.specs.Rounds.{under, cost_of, begun, with_drive, with_floor, with_base, counted, is_gone_on, gone_on, exchanged_by, next_round, kept_after}
use Rattle.round_rule.specs.Trial.{IsTrial, GoesOn}
use Rattle.round_rule.specs.Laws.Tables.{under_few, under_plannable}
use Rattle.round_rule.specs.Laws.Kept.{under_unchanged, chosen_trial}
use Rattle.round_rule.specs.Laws.Driven.{whole_least}
use Rattle.rounds.specs.declared.round.Deep.{Deep}
use Rattle.rounds.specs.Held.{IsHeld}

-- ---- what a round asks

module _ (p : Plan) (ok : Plannable p) (few : component_count p ≤ 8) (budget round : ℕ) (some-trees : 1 ≤ budget) (low : budget ≤ 1000000)
    (k : Kept) (on : GoesOn p k) where
  -- the trees before its own: none, or those of the search that is kept, of which none costs less
  abbrev Before : Chosen → Type 0
  Before c = (budget ≤ c.trial.tries)
      × (1 ≤ c.trial.tries - budget → k.cost ≤ best_cost (under p c.trial.numbering) (c.trial.tries - budget))

  before : Before (next_round p budget round k)
  unfolding next_round gone_on exchanged_by
  before =
      cond_ind (is_gone_on round k.left) (gone_on budget k) (exchanged_by p budget k) Before
      (λ t.
      let m = k.base.tries in
      let e : m + budget - budget ≡ m = omega arith in
      (omega arith, λ o. subst⁻¹ (λ n. k.cost ≤ best_cost (under p k.base.numbering) n) e on.least))
      (λ t. (omega arith, λ o. absurd (omega arith)))

  pub cost_low : k.cost ≤ 1131527310
  cost_low =
      let x = k.drive in
      let h = on.drive in
      let e = on.cost_is in
      let l = cost_small (under p x.numbering) (under_plannable p ok x.numbering h.numbers)
      (under_few p ok.well_formed x.numbering h.numbers few) x.tries h.some_tries in
      omega arith

  pub round_asks : (c : Chosen) → c ≡ next_round p budget round k → (budget ≤ c.trial.tries) × IsTrial p c.trial
      × CanImprove (under p c.trial.numbering) k.cost (c.trial.tries - budget) c.trial.tries
  round_asks c e =
      let n = chosen_trial p ok.well_formed budget some-trees low round k on.numbering on.drive.numbers
      on.random_in 999000000 (omega arith) on.few_tries in
      let b = subst⁻¹ Before e before in
      let t = subst⁻¹ (λ (c : Chosen). IsTrial p c.trial) e n.0 in
      let l = cost_low in (
        b.0,
        t,
        record {
          some_tries = t.some_tries;
          few_tries = (let a = t.few_tries in omega arith);
          within = omega arith;
          low = omega arith;
          none_before = b.1;
          whole_least = λ w. (let a = whole_least p ok few k.drive on.drive c.trial t w in let d = on.cost_is in omega arith);
        },
      )

-- ---- what it leaves

abbrev BestOf : Plan → Trial → Reached → Type 0
BestOf p x g = IsBest (under p x.numbering) x.tries g

module _ (x : Trial) (k : Kept) where
  floor_drive : (f : ℤ) (u : List ℤ) → (with_floor x f u k).drive ≡ k.drive
  unfolding with_floor
  floor_drive f u = cond_ind (lt_z k.floor f) _ k (λ m. m.drive ≡ k.drive) (λ t. refl) (λ t. refl)

  base_drive : (left : ℕ) → (with_base x left k).drive ≡ k.drive
  unfolding with_base
  base_drive left = cond_ind (leb left k.left) _ k (λ m. m.drive ≡ k.drive) (λ t. refl) (λ t. refl)

module _ (p : Plan) (x : Trial) (k : Kept) (a : Found) (i : IsCheaper (under p x.numbering) k.cost x.tries a) where
  is_best : a.best.cost < k.cost → BestOf p x a.best
  is_best l = elim (dec_lt (cost_of p x) k.cost) [
    | yes m ↦ i.cheaper m
    | no m ↦ (let e = i.none_cheaper (omega arith) in absurd (omega arith))
  ]

  drive_best : (old : Reached) → BestOf p k.drive old
      → BestOf p (with_drive x a.best.cost k).drive (cond (ltb a.best.cost k.cost) a.best old)
  unfolding with_drive
  drive_best old g = at (ltb a.best.cost k.cost) (λ t. is_best (ltb→lt a.best.cost k.cost t))
    where
      at : (t : Bool) → (T t → BestOf p x a.best)
          → BestOf p (cond t
          (record {
            drive = x;
            cost = a.best.cost;
            bound = k.bound;
            floor = k.floor;
            multipliers = k.multipliers;
            base = k.base;
            left = k.left;
            trees = k.trees;
            random = k.random;
          }) k).drive (cond t a.best old)
      at true h = h tt
      at false h = g

pub next_held : (p : Plan) (d r : Deep) (x : Trial) (a : Found) (left trees random : ℕ) (f : ℤ) (u : List ℤ) → IsHeld p d
    → IsCheaper (under p x.numbering) d.kept.cost x.tries a
    → r.kept ≡ counted trees random (with_base x left (with_floor x f u (with_drive x a.best.cost d.kept)))
    → r.drive ≡ cond (ltb a.best.cost d.kept.cost) a.best d.drive → IsHeld p r
unfolding counted
next_held p d r x a left trees random f u h i ek ed =
    let k = d.kept in
    let m = with_drive x a.best.cost k in
    let n = with_floor x f u m in
    let e : r.kept.drive ≡ m.drive = ap (λ (k : Kept). k.drive) ek ∙ base_drive x n left ∙ floor_drive x m f u in
    subst⁻¹ (λ (y : Trial). BestOf p y r.drive) e
    (subst⁻¹ (λ (g : Reached). BestOf p m.drive g) ed (drive_best p x k a i d.drive h))

-- ---- the drive that is laid

pub laid_as : (q r : Plan) (tries : ℕ) (g : Reached) → q ≡ r → IsBest r tries g
    → tree_drive q (links_in (component_count q - 1) g.tails g.heads) ≡ drive_of r tries
unfolding drive_of
laid_as q r tries g e h =
    ap (λ (q : Plan). tree_drive q (links_in (component_count q - 1) g.tails g.heads)) e ∙ ap (tree_drive r) h.links_are

-- ---- the first round

pub first_held : (p : Plan) (budget : ℕ) (r : Deep) (a : Found) → IsBest p budget a.best → r.kept ≡ kept_after p budget 0
    → r.drive ≡ a.best → IsHeld p r
unfolding kept_after begun
first_held p budget r a i ek ed =
    let h = subst⁻¹ (λ (q : Plan). IsBest q budget a.best) (under_unchanged p) i in
    subst⁻¹ (λ (g : Reached). BestOf p r.kept.drive g) ed (subst⁻¹ (λ (k : Kept). BestOf p k.drive a.best) ek h)
