-- The drive that is written is a drive of the answer's cost: the first tree of least cost and the amounts
-- complete the required arcs, at the completion cost.
use Rattle.std.specs.Prelude.{◌≡◌, ℕ, ◌≤◌, ◌<◌, length, get_or, drop}
use Rattle.std.proofs.Common.{ap, ◌∙◌, zero-add, take-append-drop}
use Rattle.std.proofs.Math.Path.{subst}
use Rattle.std.proofs.Math.Logic.{inl, inr}
use mathlib.Core.List.Memᴰ
use mathlib.Core.List.{List, [], ◌++◌, map, Memᴰ}
use native.Mathlib.Omega.{arith}
use Rattle.postman.specs.Lists.{below}
use Rattle.postman.specs.Plan.{Plan}
use Rattle.postman.specs.Drive.{drive_cost}
use Rattle.postman.specs.Required.{required}
use Rattle.postman.specs.Distance.{distance}
use Rattle.postman.specs.Link.{Link}
use Rattle.postman.specs.Component.{component_count}
use Rattle.postman.specs.Arborescence.{IsArborescence, arborescences}
use Rattle.postman.specs.Balancing.{balancing_cost, least_balancing, completion_cost}
use Rattle.postman.specs.PlanCall.{tried_count, best_arborescence, IsAnswerDrive}
use Rattle.postman.specs.Laws.Membership.{get_d_map_up_from}
use Rattle.postman_laws.specs.Laws.Required.{required_below}
use Rattle.postman.specs.Steps.{Joins, Plannable, cell, amount}
use Rattle.postman_laws.specs.Laws.Arborescence.{arborescences_mem, joins}
use Rattle.postman_laws.specs.Laws.Optimality.{some_arborescence}
use Rattle.postman_laws.specs.Laws.Search.{best_mem, best_value}
use Rattle.residual_search.specs.Step.{State, empty}
use Rattle.balance.specs.Balance.{balance, required_ends}
use Rattle.balance.specs.Optimality.{sent, received}
use Rattle.balance.specs.Laws.Arcs.{empty_certified}
use Rattle.direct_amounts.specs.Laws.Among.{Among, among_direct, among_all, among_empty}
use Rattle.direct_amounts.specs.Laws.Plan.{table_metric, inside, few_arcs, direct_balances, direct_least, direct_way}
use Rattle.postman_laws.specs.Laws.Sum.{term_le}
use Rattle.drive_legs.specs.Legs.{Completes}
use Rattle.drive_legs.specs.Drive.{drive, IsCompletion}
use Rattle.circuit.specs.Laws.Completion.{completion, completes_at_least_cost}
use Rattle.shortest.specs.StepContracts.{IsTable}
use Rattle.multipliers.specs.Drive.{table_of, amounts_of, drive_of}

-- the table holds d
row_at : (f : ℕ → ℕ) (j : ℕ) → j < 64 → get_or (map f (below 64)) j 0 ≡ f j
unfolding below
row_at f j l = get_d_map_up_from f 0 64 j 0 l ∙ ap f (zero-add j)

pub table_at : (p : Plan) (i j : ℕ) → i < 64 → j < 64 → cell (table_of p) i j ≡ distance p i j
unfolding table_of below
table_at p i j li lj =
    ap (λ (r : List ℕ). get_or r j 0)
    (get_d_map_up_from (λ i. map (distance p i) (below 64)) 0 64 i [] li ∙ ap (λ i. map (distance p i) (below 64)) (zero-add i))
    ∙ row_at (distance p i) j lj

pub is_table : (p : Plan) (table : List (List ℕ)) → table ≡ table_of p → IsTable p table
is_table p table e i j li lj = ap (λ (x : List (List ℕ)). cell x i j) e ∙ table_at p i j li lj

module _ (p : Plan) (ok : Plannable p) (few : component_count p ≤ 8) where
  abbrev d : ℕ → ℕ → ℕ
  d = cell (table_of p)

  pub agrees : (i j : ℕ) → Memᴰ i (required p) → Memᴰ j (required p) → d i j ≡ distance p i j
  agrees i j mi mj = table_at p i j (required_below p ok.well_formed mi) (required_below p ok.well_formed mj)

  module _ (t : List Link) (tree : IsArborescence p t) where
    joined : Joins p t
    joined = joins p tree

    short : length t ≤ 100
    short = let n = tree.size in omega arith

    abbrev s : State
    s = balance d p t

    abbrev f : List ℕ
    f = amounts_of p t

    among : Among (required p) f
    unfolding amounts_of balance empty
    among =
        let ok' = ok.well_formed in
        let c = ok.connected in
        let l = few_arcs p ok' c d agrees t joined short in
        among_direct (required p) (λ i m. required_below p ok.well_formed m) s.amounts
        (among_all d (required p) (table_metric p ok' c d agrees) (required_ends p ++ t) empty (inside p ok' c d agrees t joined short)
        (empty_certified d (required p)) (omega arith) (among_empty (required p)))

    one_way : (i j k : ℕ) → i < 64 → j < 64 → k < 64 → 0 < amount f i j → 0 < amount f j k → ⊥
    unfolding amounts_of sent received
    one_way i j k li lj lk a b =
        let mij = among i j li lj a in
        let mjk = among j k lj lk b in
        elim (direct_way p ok.well_formed ok.connected d agrees t joined short j mij.1) [
          | inl z ↦ let x = term_le (λ i. amount f i j) mij.0 in omega arith
          | inr z ↦ let x = term_le (λ k. amount f j k) mjk.1 in omega arith
        ]

    pub completes : Completes p t f
    unfolding amounts_of
    completes = record {
      some = ok.some_arc;
      few = few;
      linked = ok.connected;
      arborescence = tree;
      balances = direct_balances p ok.well_formed ok.connected d agrees t joined short;
      between = among;
      direct = one_way;
    }

    least_amounts : balancing_cost (required p) (distance p) (amount f) ≡ least_balancing p t
    unfolding amounts_of
    least_amounts = direct_least p ok.well_formed ok.connected d agrees t joined short

    -- a drive that completes the tree, at its completion cost
    pub tree_drive_lem : IsCompletion p t f (drive p t f) × (drive_cost p (drive p t f) ≡ completion_cost p t)
    tree_drive_lem = (completion p ok.well_formed t f completes, completes_at_least_cost p ok.well_formed t f completes least_amounts)

  -- THE DRIVE: of the answer's cost, its first arc the lowest required arc, short enough
  pub answer_drive : (budget : ℕ) → 1 ≤ budget → IsAnswerDrive p budget (drive_of p budget)
  unfolding drive_of
  answer_drive budget l =
      let n = some_arborescence p ok in
      let m = subst (λ (ts : List (List Link)). Memᴰ (best_arborescence p budget) ts)
      (take-append-drop (tried_count p budget) (arborescences p))
      (Memᴰ.append_left (drop (tried_count p budget) (arborescences p)) (best_mem p budget l n)) in
      let t = best_arborescence p budget in
      let a = arborescences_mem p m in
      let r = tree_drive_lem t a in
      let c = r.0 in
      record {
        drive = c.drive;
        costs = r.1 ∙ best_value p budget l n;
        nonempty = c.nonempty;
        first = c.first;
        short = c.short;
        tree = t;
        tried = best_mem p budget l n;
        least = best_value p budget l n;
        amounts = amount (amounts_of p t);
        balances = (completes t a).balances;
        balances_least = least_amounts t a;
        laid = c.laid;
      }
