-- Arc k of the plan that rows stand for is row k; rows that hold the arcs of a plan by value
-- stand for its plan, and `rows_of` are such rows.
use Rattle.std.specs.Prelude.{◌≡◌, Bool, true, false, ℕ, zero, suc, ◌+◌, ◌≤◌, ◌<◌, ltb, length, get_or, set, take, replicate}
use Rattle.std.proofs.Math.Path.{refl}
use Rattle.std.proofs.Common.{sym, ap, ◌∙◌, arith, ltb-true, ltb-false, lt-ltb, ext_get_or, length-take-le, get_or-take, get_or-set_other}
use Rattle.std.proofs.Math.Bool.{cond}
use mathlib.Core.List.{List, [], ◌∷◌, map}
use Rattle.std.proofs.Math.ListN.{length-map}
use Rattle.std.proofs.lemmas.List.{get_or-replicate}
use Rattle.postman_laws.specs.Laws.Below.{length_map_below, get_d_map_below}
use Rattle.postman.specs.Plan.{arc_at}
use Rattle.plan.specs.declared.Plan.{Plan as PlanRecord}
use Rattle.plan.specs.Records.{plan_value, record_at}
use Rattle.plan.specs.Rows.{row_of, rows_of, arc_in, plan_in}
use Rattle.plan.specs.Laws.Prefix.{Prefix, prefix_none, prefix_more}
use Rattle.plan.specs.Laws.Records.{plan_length, plan_arc, plan_vertices}

module _ (n : ℕ) (rows : List (List ℕ)) where
  pub rows_length : length (plan_in n rows).arcs ≡ length rows
  unfolding plan_in
  rows_length = length-map rows arc_in

  pub rows_vertices : (plan_in n rows).n ≡ n
  unfolding plan_in
  rows_vertices = refl

get_d_map : (rows : List (List ℕ)) (k : ℕ) → k < length rows → arc_at (map arc_in rows) k ≡ arc_in (get_or rows k [])
get_d_map [] k l = absurd (omega arith)
get_d_map (r ∷ rows) zero l = refl
get_d_map (r ∷ rows) (suc k) l = get_d_map rows k (omega arith)

pub row_arc : (n : ℕ) (rows : List (List ℕ)) (k : ℕ) → k < length rows → arc_at (plan_in n rows).arcs k ≡ arc_in (get_or rows k [])
unfolding plan_in
row_arc n rows k l = get_d_map rows k l

-- rows that hold the arcs of a plan by value
abbrev pub HoldArcs : PlanRecord → List (List ℕ) → ℕ → Type 0
HoldArcs r = Prefix 256 [] (λ k. row_of (record_at r.arcs k))

pub rows_plan : (r : PlanRecord) (rows : List (List ℕ)) → HoldArcs r rows r.m → plan_in r.n (take r.m rows) ≡ plan_value r
rows_plan r rows h =
    let l = h.few in
    let e = h.long in
    let p = plan_in r.n (take r.m rows) in
    let few : length (take r.m rows) ≡ r.m = length-take-le r.m rows (omega arith) in
    let long : length p.arcs ≡ length (plan_value r).arcs = rows_length r.n (take r.m rows) ∙ few ∙ sym (plan_length r) in
    let n : p.n ≡ (plan_value r).n = rows_vertices r.n (take r.m rows) ∙ sym (plan_vertices r) in
    let size = rows_length r.n (take r.m rows) in
    let arcs : p.arcs ≡ (plan_value r).arcs = ext_get_or (arc_at [] 0) p.arcs (plan_value r).arcs long (λ k g.
    (let b : k < r.m = omega arith in
    row_arc r.n (take r.m rows) k (omega arith) ∙ ap arc_in (get_or-take r.m rows k [] b) ∙ ap arc_in (h.before k b)
    ∙ sym (plan_arc r k b))) in
    λ i. record { n = n i; arcs = arcs i }

-- a loop that has filled the first k rows, over zeros
pub record FilledTo (r : PlanRecord) (rows : List (List ℕ)) (k : ℕ) : Type 0 where
  pub first : HoldArcs r rows k
  pub rest : (i : ℕ) → k ≤ i → i < 256 → get_or rows i [] ≡ replicate 5 0

module _ (r : PlanRecord) where
  pub filled_none : FilledTo r (replicate 256 (replicate 5 0)) 0
  filled_none = record { first = prefix_none 256 [] _ (replicate 5 0); rest = λ i l m. get_or-replicate 256 i (replicate 5 0) [] m }

  pub filled_more : (rows : List (List ℕ)) (k : ℕ) (x : List ℕ) → FilledTo r rows k → k < 256 → x ≡ row_of (record_at r.arcs k)
      → FilledTo r (set rows k x) (k + 1)
  filled_more rows k x h l e =
      record {
        first = prefix_more 256 [] _ rows k x h.first l e;
        rest = λ i a b. get_or-set_other rows k i x [] (λ q. absurd (omega arith)) ∙ h.rest i (omega arith) b;
      }

  row_is : (i : ℕ) → i < 256 → get_or (rows_of r) i [] ≡ cond (ltb i r.m) (row_of (record_at r.arcs i)) (replicate 5 0)
  unfolding rows_of
  row_is i l = get_d_map_below (λ k. cond (ltb k r.m) (row_of (record_at r.arcs k)) (replicate 5 0)) 256 i [] l

  pub rows_long : length (rows_of r) ≡ 256
  unfolding rows_of
  rows_long = length_map_below (λ k. cond (ltb k r.m) (row_of (record_at r.arcs k)) (replicate 5 0)) 256

  pub filled_all : (rows : List (List ℕ)) → FilledTo r rows r.m → rows ≡ rows_of r
  filled_all rows h =
      ext_get_or [] rows (rows_of r) (h.first.long ∙ sym rows_long)
      (λ i l. (let s = h.first.long in at i (omega arith) (ltb i r.m) refl) ∙ sym (row_is i (let s = h.first.long in omega arith)))
    where
      at : (i : ℕ) → i < 256 → (b : Bool) → ltb i r.m ≡ b → get_or rows i [] ≡ cond b (row_of (record_at r.arcs i)) (replicate 5 0)
      at i l true e = h.first.before i (ltb-true i r.m e)
      at i l false e = h.rest i (ltb-false i r.m e) l

  -- the rows stand for the plan
  pub rows_value : r.m ≤ 256 → plan_in r.n (take r.m (rows_of r)) ≡ plan_value r
  rows_value few = rows_plan r (rows_of r) (record {
    few = few;
    long = rows_long;
    before = λ i l. row_is i (omega arith) ∙ ap (λ (b : Bool). cond b (row_of (record_at r.arcs i)) (replicate 5 0)) (lt-ltb i r.m l);
  })

-- for callers of `rows_of`
module _ (r : PlanRecord) (rows : List (List ℕ)) (e : rows ≡ rows_of r) where
  pub made_long : length rows ≡ 256
  made_long = ap length e ∙ rows_long r

  pub made_value : r.m ≤ 256 → plan_in r.n (take r.m rows) ≡ plan_value r
  made_value few = ap (λ (l : List (List ℕ)). plan_in r.n (take r.m l)) e ∙ rows_value r few
