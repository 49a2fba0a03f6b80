-- What laying the drive of an arborescence asks of its steps: the state with the links added is the
-- balancing of the required arcs and the links.
use Rattle.std.specs.Prelude.{◌≡◌, refl, ℕ, ◌≤◌, length, get_or}
use Rattle.std.proofs.Math.Path.{sym, ap, subst⁻¹}
use Rattle.std.proofs.Common.{ap₂, ◌∙◌, subst, arith}
use mathlib.Core.List.Memᴰ
use mathlib.Core.List.{List, [], ◌∷◌, ◌++◌, map, Memᴰ, append-nil}
use Rattle.std.proofs.lemmas.List.{length-map}
use Rattle.postman.specs.Plan.{Arc, Plan, arc_at, required_arcs, required_numbers}
use Rattle.postman.specs.Required.{required}
use Rattle.postman.specs.Distance.{distance}
use Rattle.postman.specs.Link.{Link}
use Rattle.postman.specs.Laws.Membership.{get_d_mem, map_mem}
use Rattle.postman_laws.specs.Laws.Distance.{bounded}
use Rattle.postman_laws.specs.Laws.Required.{required_ends_lem, numbers_field}
use Rattle.postman.specs.Steps.{Joins, cell}
use Rattle.postman_laws.specs.Laws.Arborescence.{joins}
use Rattle.residual_search.specs.Step.{State, empty, add, add_all, arcs_of}
use Rattle.balance.specs.Balance.{balance, required_ends}
use Rattle.balance.specs.Invariant.{Metric, Certified, AllIn}
use Rattle.direct_amounts.specs.Direct.{direct}
use Rattle.direct_amounts.specs.Laws.Plan.{table_metric, balance_certified, balance_room}
use Rattle.shortest.specs.StepContracts.{IsTable}
use Rattle.drive_legs.specs.Legs.{Completes}
use Rattle.drive_legs.specs.Filled.{LegLists, links_of, Noted}
use Rattle.drive_legs.specs.Laws.Few.{few_numbers}
use Rattle.drive_legs.specs.Laws.Laid.{links_tails, links_heads, links_length}
use Rattle.multipliers.specs.Drive.{table_of, amounts_of}
use Rattle.multipliers.specs.Prepared.{IsKnown, IsBase, IsTree}
use Rattle.multipliers.specs.Laws.Drive.{is_table, agrees, completes}

-- the two ways to pair tails with heads
pub arcs_links : (ts hs : List ℕ) → arcs_of ts hs ≡ links_of ts hs
unfolding arcs_of links_of
arcs_links [] hs = refl
arcs_links (t ∷ ts) [] = refl
arcs_links (t ∷ ts) (h ∷ hs) = ap (λ (ls : List Link). record { tail = t; head = h } ∷ ls) (arcs_links ts hs)

add_append : (d : ℕ → ℕ → ℕ) (vs : List ℕ) (ls ms : List Link) (s : State) → add_all d vs (add_all d vs s ls) ms ≡ add_all d vs s (ls ++ ms)
unfolding add_all
add_append d vs [] ms s = refl
add_append d vs (a ∷ ls) ms s = add_append d vs ls ms (add d vs s a.tail a.head)

-- links added to the state of the required arcs
pub balance_more : (d : ℕ → ℕ → ℕ) (p : Plan) (t : List Link) → add_all d (required p) (balance d p []) t ≡ balance d p t
unfolding balance
balance_more d p t =
    ap (λ (ls : List Link). add_all d (required p) (add_all d (required p) empty ls) t) (append-nil (required_ends p))
    ∙ add_append d (required p) (required_ends p) t empty

module _ (p : Plan) (table : List (List ℕ)) (vs : List ℕ) (b : IsKnown p table vs) where
  abbrev d : ℕ → ℕ → ℕ
  d = cell (table_of p)

  abbrev agree : (i j : ℕ) → Memᴰ i (required p) → Memᴰ j (required p) → d i j ≡ distance p i j
  agree = agrees p b.plannable b.few

  -- what holds over the plan's own table and vertices holds over these
  over : (P : (ℕ → ℕ → ℕ) → List ℕ → Type 0) → P d (required p) → P (cell table) vs
  over P h = subst⁻¹ (λ (x : List (List ℕ)). P (cell x) vs) b.distances (subst⁻¹ (λ (v : List ℕ). P d v) b.vertices h)

  pub base_metric : Metric (cell table) vs
  base_metric = over Metric (table_metric p b.plannable.well_formed b.plannable.connected d agree)

  pub base_table : IsTable p table
  base_table = is_table p table b.distances

  -- a state that counts the required arcs and the links of t
  module _ (t : List Link) (joined : Joins p t) (short : length t ≤ 100) (s : State) (e : s ≡ balance d p t) where
    pub state_certified : Certified (cell table) vs s
    state_certified =
        over (λ d vs. Certified d vs s)
        (subst⁻¹ (Certified d (required p)) e
        (balance_certified p b.plannable.well_formed b.plannable.connected d agree t joined short))

    pub state_room : s.count ≤ 356
    state_room =
        subst⁻¹ (λ (s : State). s.count ≤ 356) e
        (balance_room p b.plannable.well_formed b.plannable.connected d agree t joined short)

  -- the links' ends are required
  pub ends_in : (t : List Link) → Joins p t → (us : List ℕ) (f : Link → ℕ) → ((l : Link) → Memᴰ l t → Memᴰ (f l) (required p))
      → map f t ≡ us → AllIn vs us
  ends_in t joined us f h e k l =
      let r = map_mem f t (subst⁻¹ (λ (xs : List ℕ). Memᴰ (get_or us k 0) xs) e (get_d_mem us 0 k l)) in
      subst⁻¹ (λ (v : List ℕ). Memᴰ (get_or us k 0) v) b.vertices (Memᴰ.cast r.2 (h r.0 r.1))

module _ (p : Plan) (table : List (List ℕ)) (vs : List ℕ) (base : State) (b : IsBase p table vs base) (ts hs : List ℕ)
    (tree : IsTree p ts hs) where
  abbrev t : List Link
  t = links_of ts hs

  pub tree_joined : Joins p t
  tree_joined = joins p tree.tree

  pub tree_short : length t ≤ 7
  tree_short = let n = tree.tree.size in let f = b.known.few in omega arith

  pub tree_length : length ts ≤ 7
  tree_length = let a = tree_short in let e = links_length ts hs tree.same in omega arith

  pub tails_in : AllIn vs ts
  tails_in = ends_in p table vs b.known t tree_joined ts (λ l. l.tail) (λ l m. (tree_joined l m).0) (links_tails ts hs tree.same)

  pub heads_in : AllIn vs hs
  heads_in = ends_in p table vs b.known t tree_joined hs (λ l. l.head) (λ l m. (tree_joined l m).1) (links_heads ts hs tree.same)

  -- the state once the links are added
  pub full_is : (s : State) → s ≡ add_all (cell table) vs base (arcs_of ts hs) → s ≡ balance (cell (table_of p)) p t
  full_is s e =
      e ∙ ap (λ (x : List (List ℕ)). add_all (cell x) vs base (arcs_of ts hs)) b.known.distances
      ∙ ap (λ (v : List ℕ). add_all (cell (table_of p)) v base (arcs_of ts hs)) b.known.vertices
      ∙ ap (λ (s : State). add_all (cell (table_of p)) (required p) s (arcs_of ts hs)) b.base_is
      ∙ ap (add_all (cell (table_of p)) (required p) (balance (cell (table_of p)) p [])) (arcs_links ts hs)
      ∙ balance_more (cell (table_of p)) p t

  -- its amounts, made direct
  pub amounts_are : (s : State) → s ≡ balance (cell (table_of p)) p t → (f : List ℕ) → f ≡ direct vs s.amounts → f ≡ amounts_of p t
  unfolding amounts_of
  amounts_are s e f g =
      g ∙ ap (λ (v : List ℕ). direct v s.amounts) b.known.vertices ∙ ap (λ (s : State). direct (required p) s.amounts) e

  pub amounts_complete : (f : List ℕ) → f ≡ amounts_of p t → Completes p t f
  amounts_complete f e = subst⁻¹ (Completes p t) e (completes p b.known.plannable b.known.few t tree.tree)

-- ---- the required arcs, gathered

arcs_map : {A : Type 0} (f g : A → ℕ) (xs : List A) → arcs_of (map f xs) (map g xs) ≡ map (λ a. record { tail = f a; head = g a }) xs
unfolding arcs_of
arcs_map f g [] = refl
arcs_map f g (x ∷ xs) = ap (λ (ls : List Link). record { tail = f x; head = g x } ∷ ls) (arcs_map f g xs)

module _ (p : Plan) (table : List (List ℕ)) (vs : List ℕ) (b : IsKnown p table vs) (s : LegLists)
    (n : Noted p (required_numbers p) s) where
  gathered : (f : Arc → ℕ) (us : List ℕ) → us ≡ map (λ k. f (arc_at p.arcs k)) (required_numbers p) → us ≡ map f (required_arcs p)
  gathered f us e = e ∙ numbers_field p f

  tails_are : s.tails ≡ map (λ a. a.tail) (required_arcs p)
  tails_are = gathered (λ a. a.tail) s.tails n.tails_are

  heads_are : s.heads ≡ map (λ a. a.head) (required_arcs p)
  heads_are = gathered (λ a. a.head) s.heads n.heads_are

  arc_in_lem : (f : Arc → ℕ) → ((a : Arc) → Memᴰ a (required_arcs p) → Memᴰ (f a) (required p)) → (us : List ℕ)
      → us ≡ map f (required_arcs p) → AllIn vs us
  arc_in_lem f h us e k l =
      let r = map_mem f (required_arcs p) (subst (λ (xs : List ℕ). Memᴰ (get_or us k 0) xs) e (get_d_mem us 0 k l)) in
      subst⁻¹ (λ (v : List ℕ). Memᴰ (get_or us k 0) v) b.vertices (Memᴰ.cast r.2 (h r.0 r.1))

  pub record IsGathered : Type 0 where
    pub same : length s.tails ≡ length s.heads
    pub few : length s.tails ≤ 256
    pub tails_in : AllIn vs s.tails
    pub heads_in : AllIn vs s.heads

  pub is_gathered : IsGathered
  is_gathered =
      let ends = (bounded b.plannable.well_formed).ends in
      record {
        same = ap length tails_are ∙ length-map (required_arcs p) (λ a. a.tail) ∙ sym (length-map (required_arcs p) (λ a. a.head))
            ∙ sym (ap length heads_are);
        few = few_required;
        tails_in = arc_in_lem (λ a. a.tail) (λ a m. (required_ends_lem p ends m).0) s.tails tails_are;
        heads_in = arc_in_lem (λ a. a.head) (λ a m. (required_ends_lem p ends m).1) s.heads heads_are;
      }
    where
      few_required : length s.tails ≤ 256
      few_required =
          let e = ap length n.tails_are ∙ length-map (required_numbers p) (λ k. (arc_at p.arcs k).tail) in
          omega (arith, e, few_numbers p, b.plannable.well_formed.arc_count_holds)

  pub base_from : {z r : State} → z ≡ empty → r ≡ add_all (cell table) vs z (arcs_of s.tails s.heads)
      → r ≡ balance (cell (table_of p)) p []
  unfolding balance required_ends
  base_from {z} {r} f e =
      e ∙ ap (λ (z : State). add_all (cell table) vs z (arcs_of s.tails s.heads)) f
      ∙ ap (λ (x : List (List ℕ)). add_all (cell x) vs empty (arcs_of s.tails s.heads)) b.distances
      ∙ ap (λ (v : List ℕ). add_all (cell (table_of p)) v empty (arcs_of s.tails s.heads)) b.vertices
      ∙ ap (add_all (cell (table_of p)) (required p) empty)
      (ap₂ arcs_of tails_are heads_are ∙ arcs_map (λ a. a.tail) (λ a. a.head) (required_arcs p)
      ∙ sym (append-nil (map (λ a. record { tail = a.tail; head = a.head }) (required_arcs p))))
