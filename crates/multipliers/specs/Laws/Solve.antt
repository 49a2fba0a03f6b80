-- From a prepared plan to what the search and the bounds ask: the greatest multipliers are lawful, and so are those that pass
-- the test, once that of the root is taken off.
use Rattle.std.specs.Prelude.{◌≡◌, Bool, ℕ, ◌≤◌, ◌<◌, length, get_or, ℤ, pos, T}
use Rattle.std.proofs.Math.Path.{sym, ap, subst⁻¹}
use Rattle.std.proofs.Common.{◌∙◌, arith}
use mathlib.Core.List.{List, [], Memᴰ}
use Rattle.postman.specs.Plan.{Plan}
use Rattle.postman.specs.Required.{required, required_cost}
use Rattle.postman.specs.Component.{component_count}
use Rattle.postman.specs.LagrangianBound.{AreMultipliers, AreGreatest}
use Rattle.postman.specs.PlanCall.{root}
use Rattle.postman.specs.Laws.Membership.{get_d_mem}
use Rattle.postman_laws.specs.Laws.Distance.{bounded}
use Rattle.postman_laws.specs.Laws.Required.{number_ends}
use Rattle.postman_laws.specs.Laws.Component.{component_lt}
use Rattle.postman_laws.specs.Laws.Existence.{some_required}
use Rattle.postman.specs.Steps.{Plannable, cell}
use Rattle.residual_search.specs.Step.{State}
use Rattle.balance.specs.Balance.{balance}
use Rattle.balance.specs.Multipliers.{multipliers}
use Rattle.direct_amounts.specs.Laws.Plan.{plan_metric, heights_multipliers, multipliers_greatest}
use Rattle.required.specs.StepContracts.{IsImbalance, IsLinks, IsRequiredFlags, IsComponents}
use Rattle.arborescence.specs.Layout.{laid_out, IsLayout}
use Rattle.arborescence.specs.Candidates.{AreCandidates}
use Rattle.pair_costs.specs.PairCosts.{multipliers_in}
use Rattle.residual_search.specs.Search.{beyond}
use Rattle.multiplier_steps.specs.Steps.{AreSmall, rooted}
use Rattle.multiplier_steps.specs.Lawful.{are_lawful}
use Rattle.multiplier_steps.specs.Laws.Lawful.{lawful_feasible, lawful_tight}
use Rattle.multiplier_steps.specs.Laws.Steps.{raised, rooted_raised, rooted_other, rooted_first}
use Rattle.candidates.specs.declared.Candidates.{Candidates}
use Rattle.candidates.specs.LaidOut.{AreLaidOut}
use Rattle.tree_count.specs.Entries.{AreCounted}
use Rattle.small_counts.specs.Laws.Recursion.{entries_in}
use Rattle.tree_count.specs.Laws.Plan.{sources}
use Rattle.tree_count.specs.Laws.Entries.{all_few, entry_is}
use Rattle.tree_bounds.specs.Prepared.{Prepared}
use Rattle.branches.specs.Branches.{AreGiven}
use Rattle.multipliers.specs.Drive.{table_of}
use Rattle.multipliers.specs.Prepared.{IsBase}
use Rattle.lagrangian.specs.Priced.{IsPriced}
use Rattle.multipliers.specs.Ascent.{greatest_of}
use Rattle.multipliers.specs.Laws.Drive.{agrees}
use Rattle.multipliers.specs.Laws.Lay.{base_table}

nonempty : {x : ℕ} {xs : List ℕ} → Memᴰ x xs → 0 < length xs
nonempty (Memᴰ.head e) = omega arith
nonempty (Memᴰ.tail m) = omega arith

-- Multipliers that are 0 at the root.
pub record Rooted (p : Plan) (u : List ℤ) : Type 0 where
  pub multipliers : AreMultipliers p (multipliers_in u)
  pub at_root : multipliers_in u (root p) ≡ pos 0

module _ (p : Plan) (ok : Plannable p) (few : component_count p ≤ 8) where
  abbrev d : ℕ → ℕ → ℕ
  d = cell (table_of p)

  -- some vertex is required, the lowest among them
  pub some_vertex : 0 < length (required p)
  some_vertex = nonempty (number_ends p (bounded ok.well_formed).ends (some_required p ok.some_arc).1).0

  pub root_required : Memᴰ (root p) (required p)
  unfolding root
  root_required = get_d_mem (required p) 0 0 some_vertex

  pub some_component : 1 ≤ component_count p
  some_component = let a = component_lt p (bounded ok.well_formed).ends root_required in omega arith

  abbrev s : State
  s = balance d p []

  pub greatest : AreGreatest p (root p) (multipliers_in (multipliers d (required p) s (root p)))
  greatest = multipliers_greatest p ok.well_formed ok.connected d (agrees p ok few) (root p) root_required

  -- they are lawful, and 0 at the root
  pub greatest_rooted : (u : List ℤ) → u ≡ greatest_of p → Rooted p u
  unfolding greatest_of
  greatest_rooted u e = subst⁻¹ (Rooted p) e (record { multipliers = greatest.multipliers; at_root = greatest.at_root })

  -- multipliers that pass the test are lawful, once that of the root is taken off
  pub lawful_at_root : (x : List ℤ) → AreSmall beyond x → T (are_lawful (table_of p) s.amounts x (required p))
      → Rooted p (rooted x (required p))
  unfolding root
  lawful_at_root x h t =
      let small = (plan_metric p ok.well_formed ok.connected).small in
      record {
        multipliers =
            heights_multipliers p ok.well_formed ok.connected d (agrees p ok few) (raised (required p) small x)
            (lawful_feasible (table_of p) s.amounts (required p) x t small h)
            (lawful_tight (table_of p) s.amounts (required p) x t small h) (multipliers_in (rooted x (required p)))
            (raised (required p) small x (get_or (required p) 0 0)) (rooted_raised (required p) small x h some_vertex)
            (rooted_other (required p) small x);
        at_root = rooted_first (required p) small x some_vertex;
      }

module _ (p : Plan) (table : List (List ℕ)) (vs : List ℕ) (base : State) (b : IsBase p table vs base) where
  -- over the definition's own lists
  pub greatest_is : (u : List ℤ) → u ≡ multipliers (cell table) vs base (root p) → u ≡ greatest_of p
  unfolding greatest_of
  greatest_is u e =
      e ∙ ap (λ (x : List (List ℕ)). multipliers (cell x) vs base (root p)) b.known.distances
      ∙ ap (λ (v : List ℕ). multipliers (cell (table_of p)) v base (root p)) b.known.vertices
      ∙ ap (λ (s : State). multipliers (cell (table_of p)) (required p) s (root p)) b.base_is

module _ (p : Plan) (table : List (List ℕ)) (vs : List ℕ) (base : State) (b : IsBase p table vs base) (u : List ℤ) (e : Rooted p u) where
  abbrev ok : Plannable p
  ok = b.known.plannable

  abbrev few : component_count p ≤ 8
  few = b.known.few

  pub priced : (c : List ℕ) (flags : List Bool) (k r : ℕ) (d : List ℤ) → length flags ≡ 64 → IsRequiredFlags p flags → IsComponents p c k
      → r ≡ required_cost p → IsImbalance p d
      → IsPriced p table u c flags k r d
  priced c flags k r d long hf hc hr hd = record {
    plannable = ok;
    few = (let a = hc.all in let f = few in omega arith);
    some = (let a = hc.all in let f = some_component p ok few in omega arith);
    distances = base_table p table vs b.known;
    long = long;
    required_flags = hf;
    components = hc;
    cost = hr;
    imbalance = hd;
    feasible = e.multipliers.feasible;
    elsewhere = e.multipliers.elsewhere;
    root = root p;
    root_required = root_required p ok few;
    at_root = e.at_root;
  }

  pub prepared : (k : ℕ) (c : Candidates) → k ≡ component_count p → AreLaidOut p c
      → Prepared p table vs c.start c.source c.tails c.heads k
  prepared k c hk h = record {
    plannable = ok;
    few = few;
    count = hk;
    distances = base_table p table vs b.known;
    vertices = b.known.vertices;
    layout = subst⁻¹ (λ (n : ℕ). IsLayout n c.start c.source) hk h.layout;
    candidates = subst⁻¹ (λ (n : ℕ). AreCandidates p (laid_out n c.start c.source)) hk h.are_candidates;
    ends = λ q i l m g. (let m' : q < component_count p = omega arith in (h.tail q i l m' g, h.head q i l m' g));
  }

  -- what the search begins with: the state, the multipliers, R, and the entries counted from the network
  pub given : (r : ℕ) (links : List Bool) (of : List ℕ) (k : ℕ) (entries : List ℕ) → r ≡ required_cost p → IsLinks p links
      → IsComponents p of k → AreCounted links of 4096 entries → AreGiven p table base u r entries
  unfolding entries_in sources
  given r links of k entries hr hl hc h = record {
    base_is = b.base_is ∙ ap (λ (x : List (List ℕ)). balance (cell x) p []) (sym b.known.distances);
    multipliers = e.multipliers;
    required_cost_holds = hr;
    entries_are = λ q x l m c.
        let n = hc.all in
        let f = few in
        let o = some_component p ok few in
        sym (entry_is p ok.well_formed links of k hl hc (omega arith) (omega arith) entries h q x (omega arith) c);
    few = all_few links of entries (component_count p) few h;
  }
