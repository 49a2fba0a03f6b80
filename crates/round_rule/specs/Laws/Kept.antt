-- What is kept: the cost is that of the plan under its numbering, and so is the floor, with its multipliers carried back; and the cost is
-- no more than that of the round which the floor is from.
use Rattle.std.specs.Prelude.{◌≡◌, refl, true, false, List, map, leb, ltb, pos, ◌≤ℤ◌}
use Rattle.std.proofs.Math.Path.{sym, ap, fun_ext, subst⁻¹}
use Rattle.std.proofs.Common.{◌∙◌, subst, zero-add}
use Prim.Native.Nat.{ℕ, zero, suc, ◌+◌, ◌*◌, ◌≤◌, ◌<◌}
use Rattle.std.proofs.Math.Decide.{dec_le}
use native.Mathlib.Omega.{arith}
use Rattle.std.proofs.Math.ListN.{length, get_or, length-map, get_or-eq_default}
use Rattle.std.proofs.Math.Dec.{ltb→lt, nltb→le}
use Rattle.std.proofs.Math.IntN.{ℤ}
use Rattle.std.specs.Int.Signed.{lt_z, lt_z_yes}
use Rattle.integers.specs.Linear.{z}
use Rattle.postman.specs.Lists.{up_from, below}
use Rattle.postman.specs.Plan.{Plan, WellFormed}
use Rattle.postman.specs.Component.{component_count}
use Rattle.postman.specs.LagrangianBound.{Multipliers, AreMultipliers}
use Rattle.postman.specs.PlanCall.{best_cost, tried_count}
use Rattle.postman.specs.Renumbering.{number_in, renumbered, carried}
use Rattle.postman.specs.Laws.Tests.{cond_ind}
use Rattle.postman.specs.Laws.Membership.{length_up_from, get_d_map_up_from}
use Rattle.postman_laws.specs.Laws.Required.{required_lt}
use Rattle.postman.specs.Steps.{Plannable}
use Rattle.postman.proofs.Numbering.{in_a_row}
use Rattle.postman_laws.specs.Laws.Renumbering.{renumbered_identity}
use Rattle.multipliers.specs.Ascent.{multipliers_for}
use Rattle.multipliers.specs.Laws.Ascent.{answered_rooted}
use Rattle.renumbering.specs.declared.numbering.Numbering.{Numbering}
use Rattle.renumbering.specs.declared.shuffle.Drawn.{Drawn}
use Rattle.renumbering.specs.Numbering.{IsNumberingOf, unchanged}
use Rattle.renumbering.specs.Shuffle.{modulus}
use Rattle.renumbering.specs.Renumbered.{carried_in}
use Rattle.renumbering.specs.Laws.Numbering.{unchanged_numbering}
use Rattle.renumbering.specs.Laws.Shuffle.{shuffled_numbering, shuffled_random}
use Rattle.round_rule.specs.declared.kept.Kept.{Kept}
use Rattle.round_rule.specs.declared.trial.Trial.{Trial}
use Rattle.round_rule.specs.declared.trial.Chosen.{Chosen}
use Rattle.round_rule.specs.Rounds.{under, floor_of, cost_of, floor_under, carried_back, left_of, new_trees, begun, with_drive, with_floor, with_base, counted, have_met, is_gone_on, gone_on, numbers_of, exchanged_by, next_round, round_with, next_kept, kept_after}
use Rattle.round_rule.specs.Trial.{IsTrial, GoesOn}
use Rattle.round_rule.specs.Laws.Tables.{under_few, under_plannable}
use Rattle.tree_search.specs.Laws.Resumed.{tried_within}

-- u of a plan, as a function
abbrev pub u_of : List ℤ → Multipliers
u_of u i = get_or u i (pos 0)

-- with every number as it is, the plan is as it is
pub under_unchanged : (p : Plan) → under p unchanged ≡ p
unfolding unchanged
under_unchanged p = ap (renumbered p) (in_a_row 64) ∙ renumbered_identity p

as_it_is : number_in unchanged.to ≡ (λ v. v)
unfolding unchanged
as_it_is = in_a_row 64

module _ (p : Plan) (ok : Plannable p) (few : component_count p ≤ 8) (x : Numbering) (h : IsNumberingOf p.n x) where
  pub under_multipliers : AreMultipliers (under p x) (u_of (multipliers_for (under p x)))
  under_multipliers = (answered_rooted (under p x) (under_plannable p ok x h) (under_few p ok.well_formed x h few)).multipliers

  -- carried back in a list of 64, and as a function
  pub carried_list : u_of (carried_in x.to (multipliers_for (under p x))) ≡ carried (number_in x.to) (u_of (multipliers_for (under p x)))
  unfolding carried_in below
  carried_list = fun_ext (λ i. at i)
    where
      at : (i : ℕ)
          → u_of (carried_in x.to (multipliers_for (under p x))) i ≡ carried (number_in x.to) (u_of (multipliers_for (under p x))) i
      at i =
          let f : ℕ → ℤ = λ v. get_or (multipliers_for (under p x)) (number_in x.to v) (pos 0) in
          let n = ok.well_formed.vertices in
          elim (dec_le 64 i) [
            | yes g ↦
                let long : length (map f (up_from 0 64)) ≡ 64 = length-map (up_from 0 64) f ∙ length_up_from 0 64 in
                let o : number_in x.to i ≡ i = h.numbers.outside i (omega arith) in
                get_or-eq_default (map f (up_from 0 64)) (pos 0) {n = i} (omega arith)
                ∙ sym (ap (u_of (multipliers_for (under p x))) o
                ∙ under_multipliers.elsewhere i (λ m. let l = required_lt (under p x) m in omega arith))
            | no g ↦ get_d_map_up_from f 0 64 i (pos 0) (omega arith) ∙ ap f (zero-add i)
          ]

-- What is kept after the first round and r more.
pub record IsKept (p : Plan) (r : ℕ) (k : Kept) : Type 0 where
  pub drive_numbering : IsNumberingOf p.n k.drive.numbering
  pub drive_tries : 1 ≤ k.drive.tries
  pub drive_few : k.drive.tries ≤ 1000000000
  pub cost_is : k.cost ≡ cost_of p k.drive
  pub bound_numbering : IsNumberingOf p.n k.bound.numbering
  pub bound_tries : 1 ≤ k.bound.tries
  pub floor_is : k.floor ≡ floor_under p k.bound
  pub multipliers_are : u_of k.multipliers
      ≡ carried (number_in k.bound.numbering.to) (u_of (multipliers_for (under p k.bound.numbering)))
  pub least : k.cost ≤ cost_of p k.bound
  pub base_numbering : IsNumberingOf p.n k.base.numbering
  pub base_few : k.base.tries ≤ suc r * 1000000
  pub base_least : k.cost ≤ cost_of p k.base
  pub few_trees : k.trees ≤ suc r * 1000000
  pub random_in : k.random < modulus

-- a round tries no more trees than it may
pub new_few : (q : Plan) (budget tries : ℕ) → new_trees q budget tries ≤ budget
unfolding new_trees tried_count
new_few q budget tries = omega arith

-- neither a drive nor a floor nor a search that is kept changes the count
pub trees_same : (x : Trial) (cost : ℕ) (floor : ℤ) (u : List ℤ) (left : ℕ) (k : Kept)
    → (with_base x left (with_floor x floor u (with_drive x cost k))).trees ≡ k.trees
unfolding with_drive with_floor with_base
trees_same x cost floor u left k =
    let m = with_drive x cost k in
    let n = with_floor x floor u m in
    cond_ind (leb left n.left) _ n (λ n'. n'.trees ≡ n.trees) (λ t. refl) (λ t. refl)
    ∙ cond_ind (lt_z m.floor floor) _ m (λ m'. m'.trees ≡ m.trees) (λ t. refl) (λ t. refl)
    ∙ cond_ind (ltb cost k.cost) _ k (λ m. m.trees ≡ k.trees) (λ t. refl) (λ t. refl)

-- the numbers that are exchanged
pub numbers_kept : (n : ℕ) (k : Kept) → IsNumberingOf n k.base.numbering → IsNumberingOf n k.drive.numbering
    → IsNumberingOf n (numbers_of k)
unfolding numbers_of
numbers_kept n k b d = cond_ind (ltb 1000000000 k.left) k.drive.numbering k.base.numbering (IsNumberingOf n) (λ t. d) (λ t. b)

-- what the next round is made with, where r + 1 rounds are done
pub record IsChosen (p : Plan) (r : ℕ) (c : Chosen) : Type 0 where
  pub trial : IsTrial p c.trial
  pub few_tries : c.trial.tries ≤ suc (suc r) * 1000000
  pub random_in : c.random < modulus

module _ (p : Plan) (ok : WellFormed p) (budget : ℕ) (some-trees : 1 ≤ budget) (low : budget ≤ 1000000) (round : ℕ) (k : Kept)
    (numbers : IsNumberingOf p.n k.base.numbering) (drive_numbers : IsNumberingOf p.n k.drive.numbering)
    (random : k.random < modulus) where
  -- the numbering and the tries of a round
  pub chosen_trial : (most : ℕ) → most ≤ 999000000 → k.base.tries ≤ most
      → IsTrial p (next_round p budget round k).trial × ((next_round p budget round k).trial.tries ≤ most + 1000000)
      × ((next_round p budget round k).random < modulus)
  unfolding next_round gone_on exchanged_by
  chosen_trial most small few =
      let d : Drawn = record { numbering = numbers_of k; random = k.random } in
      cond_ind (is_gone_on round k.left) (gone_on budget k) (exchanged_by p budget k)
      (λ c. IsTrial p c.trial × (c.trial.tries ≤ most + 1000000) × (c.random < modulus))
      (λ t. (record { numbers = numbers; some_tries = omega arith; few_tries = omega arith }, omega arith, random))
      (λ t. (
        record {
          numbers = shuffled_numbering p.n ok.some_vertex ok.vertices d 2 (numbers_kept p.n k numbers drive_numbers);
          some_tries = some-trees;
          few_tries = omega arith;
        },
        omega arith,
        shuffled_random p.n d 2 random,
      ))

module _ (p : Plan) (ok : Plannable p) (few : component_count p ≤ 8) (budget : ℕ) (some-trees : 1 ≤ budget) (low : budget ≤ 1000000) where
  -- ---- the first round

  begun_kept : IsKept p 0 (kept_after p budget 0)
  unfolding kept_after begun modulus
  begun_kept =
      let same = sym (under_unchanged p) in
      let n = unchanged_numbering p.n in
      let t = tried_within p budget in
      record {
        drive_numbering = n;
        drive_tries = some-trees;
        drive_few = omega arith;
        cost_is = ap (λ (q : Plan). best_cost q budget) same;
        bound_numbering = n;
        bound_tries = some-trees;
        floor_is = ap (λ (q : Plan). floor_of q budget) same;
        multipliers_are =
            ap (λ (q : Plan). u_of (multipliers_for q)) same
            ∙ ap (λ (π : ℕ → ℕ). carried π (u_of (multipliers_for (under p unchanged)))) (sym as_it_is);
        least = (let e = ap (λ (q : Plan). best_cost q budget) same in omega arith);
        base_numbering = n;
        base_few = omega arith;
        base_least = (let e = ap (λ (q : Plan). best_cost q budget) same in omega arith);
        few_trees = omega arith;
        random_in = omega arith;
      }

  -- ---- a round

  one_more : (r : ℕ) (k : Kept) → IsKept p r k → IsKept p (suc r) k
  one_more r k h =
      let f = h.few_trees in
      let e = h.base_few in
      record {
        drive_numbering = h.drive_numbering;
        drive_tries = h.drive_tries;
        drive_few = h.drive_few;
        cost_is = h.cost_is;
        bound_numbering = h.bound_numbering;
        bound_tries = h.bound_tries;
        floor_is = h.floor_is;
        multipliers_are = h.multipliers_are;
        least = h.least;
        base_numbering = h.base_numbering;
        base_few = omega arith;
        base_least = h.base_least;
        few_trees = omega arith;
        random_in = h.random_in;
      }

  module _ (r : ℕ) (x : Trial) (hx : IsTrial p x) where
    drive_kept : (k : Kept) → IsKept p r k → IsKept p r (with_drive x (cost_of p x) k)
    unfolding with_drive
    drive_kept k h = cond_ind (ltb (cost_of p x) k.cost) _ k (IsKept p r)
        (λ t. record {
          drive_numbering = hx.numbers;
          drive_tries = hx.some_tries;
          drive_few = hx.few_tries;
          cost_is = refl;
          bound_numbering = h.bound_numbering;
          bound_tries = h.bound_tries;
          floor_is = h.floor_is;
          multipliers_are = h.multipliers_are;
          least = (let a = ltb→lt (cost_of p x) k.cost t in let b = h.least in omega arith);
          base_numbering = h.base_numbering;
          base_few = h.base_few;
          base_least = (let a = ltb→lt (cost_of p x) k.cost t in let b = h.base_least in omega arith);
          few_trees = h.few_trees;
          random_in = h.random_in;
        })
        (λ t. h)

    drive_least : (k : Kept) → ((with_drive x (cost_of p x) k).cost ≤ cost_of p x) × ((with_drive x (cost_of p x) k).cost ≤ k.cost)
    unfolding with_drive
    drive_least k = cond_ind (ltb (cost_of p x) k.cost) _ k (λ m. (m.cost ≤ cost_of p x) × (m.cost ≤ k.cost))
        (λ t. (let a = ltb→lt (cost_of p x) k.cost t in (omega arith, omega arith)))
        (λ t. (let a = nltb→le (cost_of p x) k.cost t in (omega arith, omega arith)))

    drive_floor : (k : Kept) → (with_drive x (cost_of p x) k).floor ≡ k.floor
    unfolding with_drive
    drive_floor k = cond_ind (ltb (cost_of p x) k.cost) _ k (λ m. m.floor ≡ k.floor) (λ t. refl) (λ t. refl)

    abbrev u : List ℤ
    u = carried_back p x

    floor_kept : (k : Kept) → k.cost ≤ cost_of p x → IsKept p r k → IsKept p r (with_floor x (floor_under p x) u k)
    unfolding with_floor
    floor_kept k l h = cond_ind (lt_z k.floor (floor_under p x)) _ k (IsKept p r)
        (λ t. record {
          drive_numbering = h.drive_numbering;
          drive_tries = h.drive_tries;
          drive_few = h.drive_few;
          cost_is = h.cost_is;
          bound_numbering = hx.numbers;
          bound_tries = hx.some_tries;
          floor_is = refl;
          multipliers_are = carried_list p ok few x.numbering hx.numbers;
          least = l;
          base_numbering = h.base_numbering;
          base_few = h.base_few;
          base_least = h.base_least;
          few_trees = h.few_trees;
          random_in = h.random_in;
        })
        (λ t. h)

    floor_greater : (k : Kept) → k.floor ≤ℤ (with_floor x (floor_under p x) u k).floor
    unfolding with_floor
    floor_greater k = cond_ind (lt_z k.floor (floor_under p x)) _ k (λ m. k.floor ≤ℤ m.floor)
        (λ t. let a = lt_z_yes {a = k.floor} {b = floor_under p x} t in omega (arith, z))
        (λ t. omega (arith, z))

    floor_cost : (k : Kept) → (with_floor x (floor_under p x) u k).cost ≡ k.cost
    unfolding with_floor
    floor_cost k = cond_ind (lt_z k.floor (floor_under p x)) _ k (λ m. m.cost ≡ k.cost) (λ t. refl) (λ t. refl)

    base_kept : (left : ℕ) (k : Kept) → x.tries ≤ suc (suc r) * 1000000 → k.cost ≤ cost_of p x → IsKept p r k
        → IsKept p (suc r) (with_base x left k)
    unfolding with_base
    base_kept left k l least h = let f = h.few_trees in let e = h.base_few in cond_ind (leb left k.left) _ k (IsKept p (suc r))
        (λ t. record {
          drive_numbering = h.drive_numbering;
          drive_tries = h.drive_tries;
          drive_few = h.drive_few;
          cost_is = h.cost_is;
          bound_numbering = h.bound_numbering;
          bound_tries = h.bound_tries;
          floor_is = h.floor_is;
          multipliers_are = h.multipliers_are;
          least = h.least;
          base_numbering = hx.numbers;
          base_few = l;
          base_least = least;
          few_trees = omega arith;
          random_in = h.random_in;
        })
        (λ t. one_more r k h)

    base_same : (left : ℕ) (k : Kept) → ((with_base x left k).cost ≡ k.cost) × ((with_base x left k).floor ≡ k.floor)
    unfolding with_base
    base_same left k =
        cond_ind (leb left k.left) _ k (λ m. (m.cost ≡ k.cost) × (m.floor ≡ k.floor)) (λ t. (refl, refl)) (λ t. (refl, refl))

  round_kept : (r : ℕ) (c : Chosen) (k : Kept) → IsChosen p r c → IsKept p r k → IsKept p (suc r) (round_with p budget c k)
  unfolding round_with counted
  round_kept r c k hc h =
      let x = c.trial in
      let q = under p x.numbering in
      let left = left_of q x.tries in
      let m = with_drive x (cost_of p x) k in
      let least = (drive_least r x hc.trial k).0 in
      let n = floor_kept r x hc.trial m least (drive_kept r x hc.trial k h) in
      let same = floor_cost r x hc.trial m in
      let g = base_kept r x hc.trial left (with_floor x (floor_under p x) (carried_back p x) m) hc.few_tries (omega arith) n in
      let t = new_few q budget x.tries in
      let e = trees_same x (cost_of p x) (floor_under p x) (carried_back p x) left k in
      let f = h.few_trees in
      record {
        drive_numbering = g.drive_numbering;
        drive_tries = g.drive_tries;
        drive_few = g.drive_few;
        cost_is = g.cost_is;
        bound_numbering = g.bound_numbering;
        bound_tries = g.bound_tries;
        floor_is = g.floor_is;
        multipliers_are = g.multipliers_are;
        least = g.least;
        base_numbering = g.base_numbering;
        base_few = g.base_few;
        base_least = g.base_least;
        few_trees = omega arith;
        random_in = hc.random_in;
      }

  -- no dearer, and no lower
  round_better : (r : ℕ) (c : Chosen) (k : Kept) → IsTrial p c.trial
      → ((round_with p budget c k).cost ≤ k.cost) × (k.floor ≤ℤ (round_with p budget c k).floor)
  unfolding round_with counted
  round_better r c k hx =
      let x = c.trial in
      let m = with_drive x (cost_of p x) k in
      let n = with_floor x (floor_under p x) (carried_back p x) m in
      let s = base_same r x hx (left_of (under p x.numbering) x.tries) n in
      let a = (drive_least r x hx k).1 in
      let b = floor_cost r x hx m in
      let c = s.0 in
      (omega arith, subst⁻¹ (λ f. k.floor ≤ℤ f) s.1 (subst (λ f. f ≤ℤ n.floor) (drive_floor r x hx k) (floor_greater r x hx m)))

  -- ---- all rounds

  chosen : (r : ℕ) (k : Kept) → r < 999 → IsKept p r k → IsChosen p r (next_round p budget (r + 2) k)
  chosen r k l h =
      let t = chosen_trial p ok.well_formed budget some-trees low (r + 2) k h.base_numbering h.drive_numbering h.random_in
      (suc r * 1000000) (omega arith) h.base_few in
      let f = t.1 in
      record { trial = t.0; few_tries = omega arith; random_in = t.2 }

  next_kept_lem : (r : ℕ) → r < 999 → IsKept p r (kept_after p budget r) → IsKept p (suc r) (kept_after p budget (suc r))
  unfolding kept_after next_kept
  next_kept_lem r l h =
      let k = kept_after p budget r in
      cond_ind (have_met k) k _ (IsKept p (suc r)) (λ t. one_more r k h)
      (λ t. round_kept r (next_round p budget (r + 2) k) k (chosen r k l h) h)

  pub after_kept : (r : ℕ) → r < 1000 → IsKept p r (kept_after p budget r)
  after_kept zero l = begun_kept
  after_kept (suc r) l = next_kept_lem r (omega arith) (after_kept r (omega arith))

  pub goes_on : (r : ℕ) → r < 999 → GoesOn p (kept_after p budget r)
  goes_on r l =
      let h = after_kept r (omega arith) in
      let f = h.few_trees in
      let e = h.base_few in
      record {
        few_trees = omega arith;
        numbering = h.base_numbering;
        few_tries = omega arith;
        least = h.base_least;
        drive = record { numbers = h.drive_numbering; some_tries = h.drive_tries; few_tries = h.drive_few };
        cost_is = h.cost_is;
        random_in = h.random_in;
      }

  -- MORE ROUNDS ARE NEVER WORSE
  after_better : (r : ℕ) → r < 999
      → ((kept_after p budget (suc r)).cost ≤ (kept_after p budget r).cost)
      × ((kept_after p budget r).floor ≤ℤ (kept_after p budget (suc r)).floor)
  unfolding kept_after next_kept
  after_better r l =
      let k = kept_after p budget r in
      let h = after_kept r (omega arith) in
      cond_ind (have_met k) k _ (λ m. (m.cost ≤ k.cost) × (k.floor ≤ℤ m.floor)) (λ t. (omega arith, omega (arith, z)))
      (λ t. round_better r (next_round p budget (r + 2) k) k (chosen r k l h).trial)

  pub more_better : (r more : ℕ) → more + r < 1000
      → ((kept_after p budget (more + r)).cost ≤ (kept_after p budget r).cost)
      × ((kept_after p budget r).floor ≤ℤ (kept_after p budget (more + r)).floor)
  more_better r zero l = rw (zero-add r) (omega arith, omega (arith, z))
  more_better r (suc more) l =
      let a = more_better r more (omega arith) in
      let b = after_better (more + r) (omega arith) in
      let e : suc more + r ≡ suc (more + r) = omega arith in
      rw e (omega arith, omega (arith, z))

-- once they have met, nothing is changed
met_step : (p : Plan) (budget r : ℕ) → have_met (kept_after p budget r) ≡ true → kept_after p budget (suc r) ≡ kept_after p budget r
unfolding kept_after
met_step p budget r e = rw e refl

pub met_stays : (p : Plan) (budget r more : ℕ) → have_met (kept_after p budget r) ≡ true
    → kept_after p budget (more + r) ≡ kept_after p budget r
met_stays p budget r zero e = ap (kept_after p budget) (zero-add r)
met_stays p budget r (suc more) e =
    let h = met_stays p budget r more e in
    let s : suc more + r ≡ suc (more + r) = omega arith in
    rw s (met_step p budget (more + r) (ap have_met h ∙ e) ∙ h)

pub one_round : (p : Plan) (budget r : ℕ) → have_met (kept_after p budget r) ≡ false
    → kept_after p budget (suc r) ≡ next_kept p budget (r + 2) (kept_after p budget r)
unfolding kept_after
one_round p budget r e = rw e refl
