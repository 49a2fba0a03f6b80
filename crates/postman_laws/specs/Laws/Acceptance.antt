-- What it says that a call is not refused. Conditions are accepted together exactly when each of them is (`Refusal`), so a list of
-- conditions is taken apart, or put together, condition by condition.
use Rattle.std.specs.Prelude.{◌≡◌, ◌≢◌, Bool, not, cond, ◌||◌, ℕ, ◌+◌, ◌≤◌, ◌<◌, length, eqb, ltb, leb}
use Rattle.std.proofs.Math.Path.{refl}
use Rattle.std.proofs.Common.{ap, arith}
use Rattle.std.proofs.Math.Bool.{true, false}
use mathlib.Core.List.{List, [], ◌∷◌, ◌++◌, Memᴰ}
use Rattle.std.proofs.Math.Option.{none}
use Rattle.std.proofs.Math.Dec.{T, eqb→eq, nleb→lt, nltb→le}
use Rattle.std.proofs.Math.Arith.{le→nltb}
use Rattle.postman.specs.Lists.{below}
use Rattle.postman.specs.Plan.{Arc, Plan, WellFormed, is_required_arc, required_arcs}
use Rattle.postman.specs.BitField.{field_at}
use Rattle.postman.specs.Refusal.{Conditions, first_refusal}
use Rattle.postman.specs.PlanFile.{edition, vertex_count, arc_count, is_edition, is_second, implied_service, arc_from, arc_of, plan_of, file_bits, file_length, fill_bits, is_outside, extent_conditions, is_mispriced, arc_conditions, arcs_conditions, has_repeated, plan_conditions, edition_conditions, body_conditions, file_conditions, read_refusal, IsRecord, write_refusal}
use Rattle.postman.specs.Component.{component_count}
use Rattle.postman.specs.PlanCall.{sheet_places, highest_budget, is_cut_off, call_conditions, parts_conditions, conditions_before, earlier_conditions, call_refusal}
use Rattle.postman.specs.Laws.Tests.{cond_ind, not_or, not_not, eqb_same, eqb_other}
use Rattle.postman.specs.Laws.Membership.{map_mem, below_mem}
use Rattle.postman_laws.specs.Laws.Below.{length_map_below}
use Rattle.postman_laws.specs.Laws.BitField.{field_lt}
use Rattle.postman_laws.specs.Laws.FileLength.{counted}
use Rattle.postman_laws.specs.Laws.Refusal.{nothing_refused, accepted_cons, cons_accepted, accepted_append, append_accepted, accepted_flat_map}
use Rattle.postman.proofs.Repeated.{Distinct, not_repeated}

-- ---- limits

pub not_not_T : (b : Bool) → T b → T (not (not b))
not_not_T true t = tt
not_not_T false t = t

pub neither : (b c : Bool) → T (not b) → T (not c) → T (not (b || c))
neither true c s t = s
neither false c s t = t

outside_accepted : (x low high : ℕ) → T (not (is_outside x low high)) → (low ≤ x) × (x ≤ high)
unfolding is_outside
outside_accepted x low high t = let h = not_or (ltb x low) (ltb high x) t in (nltb→le x low h.0, nltb→le high x h.1)

pub inside : (x low high : ℕ) → is_outside x low high ≡ false → (low ≤ x) × (x ≤ high)
inside x low high e = outside_accepted x low high (rw e tt)

accepted_outside : (x low high : ℕ) → low ≤ x → x ≤ high → T (not (is_outside x low high))
unfolding is_outside
accepted_outside x low high l h = neither (ltb x low) (ltb high x) (le→nltb x low l) (le→nltb high x h)

pub extent_accepted : (n m : ℕ) → first_refusal (extent_conditions n m) ≡ none → (1 ≤ n) × (n ≤ 64) × (1 ≤ m) × (m ≤ 256)
unfolding extent_conditions
extent_accepted n m e =
    let t = not_or (is_outside n 1 64) (is_outside m 1 256) (accepted_cons (is_outside n 1 64 || is_outside m 1 256) 3 [] e).0 in
    let h = outside_accepted n 1 64 t.0 in
    let k = outside_accepted m 1 256 t.1 in
    (h.0, h.1, k.0, k.1)

pub accepted_extent : (n m : ℕ) → 1 ≤ n → n ≤ 64 → 1 ≤ m → m ≤ 256 → first_refusal (extent_conditions n m) ≡ none
unfolding extent_conditions
accepted_extent n m a b c d =
    cons_accepted (is_outside n 1 64 || is_outside m 1 256) 3 []
    (neither (is_outside n 1 64) (is_outside m 1 256) (accepted_outside n 1 64 a b) (accepted_outside m 1 256 c d))
    nothing_refused

-- ---- the arcs

-- what an accepted arc of edition e is
pub record IsFileArc (e n : ℕ) (a : Arc) : Type 0 where
  pub tail : a.tail < n
  pub head : a.head < n
  pub priced : T (not (is_mispriced e a))
  pub standing : a.standing ≤ 2

module _ (e n : ℕ) (a : Arc) where
  arc_accepted : first_refusal (arc_conditions e n a) ≡ none → IsFileArc e n a
  unfolding arc_conditions
  arc_accepted h =
      let s = accepted_cons _ _ _ h in
      let c = accepted_cons _ _ _ s.1 in
      let t = accepted_cons _ _ _ c.1 in
      let v = not_or (leb n a.tail) (leb n a.head) s.0 in
      record {
        tail = nleb→lt n a.tail v.0;
        head = nleb→lt n a.head v.1;
        priced = c.0;
        standing = nltb→le 2 a.standing t.0;
      }

  -- in edition 1 the service cost is the implied one
  -- just the must arcs have checking costs
  pub required_priced : T (not (is_mispriced e a)) → T (is_required_arc a) → T (not (eqb a.service 0))
  unfolding is_mispriced
  required_priced t r =
      at (is_required_arc a) (eqb a.service 0) (not_or (cond (is_required_arc a) (eqb a.service 0) (not (eqb a.service 0))) _ t).0 r
    where
      at : (b x : Bool) → T (not (cond b x (not x))) → T b → T (not x)
      at true x t r = t
      at false x t r = absurd r

  pub others_unpriced : T (not (is_mispriced e a)) → T (not (is_required_arc a)) → a.service ≡ 0
  unfolding is_mispriced
  others_unpriced t r =
      eqb→eq a.service 0
      (at (is_required_arc a) (eqb a.service 0)
      (not_or (cond (is_required_arc a) (eqb a.service 0) (not (eqb a.service 0))) _ t).0 r)
    where
      at : (b x : Bool) → T (not (cond b x (not x))) → T (not b) → T x
      at true x t r = absurd r
      at false x t r = not_not x t

  pub implied : is_second e ≡ false → T (not (is_mispriced e a)) → a.service ≡ implied_service a.standing a.cost
  unfolding is_mispriced
  implied q t =
      let r = (not_or (cond (is_required_arc a) (eqb a.service 0) (not (eqb a.service 0))) _ t).1 in
      let s : T (not (not (eqb a.service (implied_service a.standing a.cost)))) = rw q at r in
      eqb→eq a.service _ (not_not (eqb a.service _) s)

module _ (e : ℕ) (p : Plan) where
  pub arcs_accepted : first_refusal (arcs_conditions e p) ≡ none → (a : Arc) → Memᴰ a p.arcs → IsFileArc e p.n a
  unfolding arcs_conditions
  arcs_accepted h a m = arc_accepted e p.n a (accepted_flat_map (arc_conditions e p.n) m h)

  -- the arcs one by one, then all of them: "after all arcs passed 5 to 7"
  pub plan_accepted : first_refusal (plan_conditions e p) ≡ none
      → (first_refusal (arcs_conditions e p) ≡ none) × T (not (has_repeated p.arcs))
  unfolding plan_conditions
  plan_accepted h = let r = accepted_append (arcs_conditions e p) _ h in (r.0, (accepted_cons _ _ _ r.1).0)

  pub plan_distinct : first_refusal (plan_conditions e p) ≡ none → Distinct p.arcs
  plan_distinct h = not_repeated p.arcs (plan_accepted h).1

  plan_well_formed : first_refusal (extent_conditions p.n (length p.arcs)) ≡ none → first_refusal (plan_conditions e p) ≡ none
      → ((a : Arc) → Memᴰ a p.arcs → (a.cost ≤ 65535) × (a.service ≤ 65535)) → WellFormed p
  plan_well_formed h f costs =
      let limits = extent_accepted p.n (length p.arcs) h in
      record {
        some_vertex = limits.0;
        vertices = limits.1;
        some_arc = limits.2;
        arc_count_holds = limits.3;
        each = λ a m.
            let r = arcs_accepted (plan_accepted f).0 a m in
            let c = costs a m in
            record { tail_in = r.tail; head_in = r.head; standing_in = r.standing; cost_in_holds = c.0; service_in = c.1 };
      }

-- ---- the file

-- what the conditions say of a file that is not refused
pub record IsFile (bytes : List ℕ) : Type 0 where
  pub edition_in : T (is_edition (edition bytes))
  pub some_vertex : 1 ≤ vertex_count bytes
  pub vertices : vertex_count bytes ≤ 64
  pub some_arc : 1 ≤ arc_count bytes
  pub arc_count_holds : arc_count bytes ≤ 256
  pub exact : length bytes ≡ file_length (edition bytes) (arc_count bytes)
  pub filled : fill_bits bytes (edition bytes) (arc_count bytes) ≡ 0
  pub arcs_in_holds : first_refusal (plan_conditions (edition bytes) (plan_of bytes)) ≡ none

-- the fields of an arc fit a record
pub arc_record : (bytes : List ℕ) (e k : ℕ) → IsRecord (arc_of bytes e k)
unfolding arc_of arc_from implied_service
arc_record bytes e k =
    let i = file_bits e k in
    let tail = field_lt bytes i 6 in
    let head = field_lt bytes (i + 6) 6 in
    let standing = field_lt bytes (i + 12) 2 in
    let cost = field_lt bytes (i + 14) 16 in
    let service = field_lt bytes (i + 30) 16 in
    record {
      tail = omega arith;
      head = omega arith;
      standing = omega arith;
      cost = cost;
      service =
          cond_ind (is_second e) _ _ (λ x. x < 65536) (λ t. service)
          (λ t. cond_ind (eqb (field_at bytes (i + 12) 2) 1) _ 0 (λ x. x < 65536) (λ u. cost) (λ u. omega arith));
    }

module _ (bytes : List ℕ) where
  abbrev n : ℕ
  n = vertex_count bytes

  abbrev m : ℕ
  m = arc_count bytes

  abbrev e : ℕ
  e = edition bytes

  conditions : file_conditions bytes
      ≡ (ltb (length bytes) 3, 1)
      ∷ (not (is_edition e), 2)
      ∷ (extent_conditions n m
      ++ ((ltb (length bytes) (file_length e m), 1) ∷ (ltb (file_length e m) (length bytes) || not (eqb (fill_bits bytes e m) 0), 4)
      ∷ plan_conditions e (plan_of bytes)))
  unfolding file_conditions edition_conditions body_conditions
  conditions = refl

  pub accepted_is_file : first_refusal (file_conditions bytes) ≡ none → IsFile bytes
  accepted_is_file h =
      let three = accepted_cons _ _ _ (rw conditions at h) in
      let first = accepted_cons _ _ _ three.1 in
      let both = accepted_append (extent_conditions n m) _ first.1 in
      let limits = extent_accepted n m both.0 in
      let short = accepted_cons _ _ _ both.1 in
      let fill = accepted_cons _ _ _ short.1 in
      let rest = not_or (ltb (file_length e m) (length bytes)) (not (eqb (fill_bits bytes e m) 0)) fill.0 in
      let low = nltb→le (length bytes) (file_length e m) short.0 in
      let high = nltb→le (file_length e m) (length bytes) rest.0 in
      record {
        edition_in = not_not (is_edition e) first.0;
        some_vertex = limits.0;
        vertices = limits.1;
        some_arc = limits.2;
        arc_count_holds = limits.3;
        exact = omega arith;
        filled = eqb→eq (fill_bits bytes e m) 0 (not_not (eqb (fill_bits bytes e m) 0) rest.1);
        arcs_in_holds = fill.1;
      }

  pub has_header : IsFile bytes → 3 ≤ length bytes
  has_header f = let h = counted e m f.some_arc in let x = f.exact in omega arith

  pub file_is_accepted : IsFile bytes → first_refusal (file_conditions bytes) ≡ none
  file_is_accepted f =
      let long = has_header f in
      let x = f.exact in
      rw conditions
      (cons_accepted _ _ _ (le→nltb (length bytes) 3 (omega arith))
      (cons_accepted _ _ _ (not_not_T (is_edition e) f.edition_in)
      (append_accepted _ _ (accepted_extent n m f.some_vertex f.vertices f.some_arc f.arc_count_holds)
      (cons_accepted _ _ _ (le→nltb (length bytes) (file_length e m) (omega arith))
      (cons_accepted _ _ _
      (neither (ltb (file_length e m) (length bytes)) (not (eqb (fill_bits bytes e m) 0))
      (le→nltb (file_length e m) (length bytes) (omega arith))
      (not_not_T (eqb (fill_bits bytes e m) 0) (eqb_same f.filled)))
      f.arcs_in_holds)))))

  -- ---- the plan that a file holds

  pub arcs_read_lem : length (plan_of bytes).arcs ≡ arc_count bytes
  unfolding plan_of
  arcs_read_lem = length_map_below (arc_of bytes e) m

  pub arc_read : (a : Arc) → Memᴰ a (plan_of bytes).arcs → (k : ℕ) × (k < arc_count bytes) × (a ≡ arc_of bytes e k)
  unfolding plan_of
  arc_read a h = let r = map_mem (arc_of bytes e) (below m) h in (r.0, below_mem r.1, r.2)

  costs_read : (a : Arc) → Memᴰ a (plan_of bytes).arcs → (a.cost ≤ 65535) × (a.service ≤ 65535)
  costs_read a h =
      let r = arc_read a h in
      let c = ap (λ (b : Arc). b.cost) r.2 in
      let s = ap (λ (b : Arc). b.service) r.2 in
      let l = arc_record bytes e r.0 in
      let l₀ = l.cost in
      let l₁ = l.service in
      (omega arith, omega arith)

  pub vertices_read : (plan_of bytes).n ≡ vertex_count bytes
  unfolding plan_of
  vertices_read = refl

  is_file_well_formed : IsFile bytes → WellFormed (plan_of bytes)
  is_file_well_formed f =
      plan_well_formed e (plan_of bytes)
      (rw (vertices_read, arcs_read_lem) (accepted_extent n m f.some_vertex f.vertices f.some_arc f.arc_count_holds)) f.arcs_in_holds
      costs_read

  pub file_accepted : first_refusal (file_conditions bytes) ≡ none → WellFormed (plan_of bytes)
  file_accepted h = is_file_well_formed (accepted_is_file h)

  -- a plan that was read has no two equal arcs
  pub file_distinct : first_refusal (file_conditions bytes) ≡ none → Distinct (plan_of bytes).arcs
  file_distinct h = plan_distinct e (plan_of bytes) (accepted_is_file h).arcs_in_holds

  -- and each of its arcs passed 5 to 7
  pub file_arcs : first_refusal (file_conditions bytes) ≡ none → (a : Arc) → Memᴰ a (plan_of bytes).arcs
      → IsFileArc e (plan_of bytes).n a
  file_arcs h = arcs_accepted e (plan_of bytes) (plan_accepted e (plan_of bytes) (accepted_is_file h).arcs_in_holds).0

  -- ---- reading

  read_conditions : (room : ℕ) → read_refusal bytes room ≡ first_refusal (file_conditions bytes ++ (ltb room m, 8) ∷ [])
  unfolding read_refusal
  read_conditions room = refl

  pub read_is_file : (room : ℕ) → read_refusal bytes room ≡ none → IsFile bytes × (arc_count bytes ≤ room)
  read_is_file room h =
      let both = accepted_append (file_conditions bytes) _ (rw read_conditions at h) in
      (accepted_is_file both.0, nltb→le room m (accepted_cons _ _ _ both.1).0)

  pub file_is_read : (room : ℕ) → IsFile bytes → arc_count bytes ≤ room → read_refusal bytes room ≡ none
  file_is_read room f h =
      rw read_conditions
      (append_accepted (file_conditions bytes) _ (file_is_accepted f) (cons_accepted _ _ _ (le→nltb room m h) nothing_refused))

  pub read_accepted : (room : ℕ) → read_refusal bytes room ≡ none → WellFormed (plan_of bytes) × (arc_count bytes ≤ room)
  read_accepted room h = let r = read_is_file room h in (is_file_well_formed r.0, r.1)

-- ---- writing

-- what the conditions say of a plan that is written in edition e where there is room for `room` bytes
pub record IsWritable (e : ℕ) (p : Plan) (room : ℕ) : Type 0 where
  pub edition_in : T (is_edition e)
  pub extent_in : first_refusal (extent_conditions p.n (length p.arcs)) ≡ none
  pub arcs_in_holds : first_refusal (plan_conditions e p) ≡ none
  pub enough : file_length e (length p.arcs) ≤ room

module _ (e : ℕ) (p : Plan) (room : ℕ) where
  abbrev extent : Conditions
  extent = extent_conditions p.n (length p.arcs)

  abbrev bytes_needed : ℕ
  bytes_needed = file_length e (length p.arcs)

  write_conditions : write_refusal e p room
      ≡ first_refusal ((not (is_edition e), 2) ∷ (extent ++ plan_conditions e p ++ (ltb room bytes_needed, 8) ∷ []))
  unfolding write_refusal edition_conditions
  write_conditions = refl

  pub accepted_is_writable : write_refusal e p room ≡ none → IsWritable e p room
  accepted_is_writable h =
      let first = accepted_cons _ _ _ (rw write_conditions at h) in
      let all = accepted_append (extent ++ plan_conditions e p) _ first.1 in
      let both = accepted_append extent (plan_conditions e p) all.0 in
      record {
        edition_in = not_not (is_edition e) first.0;
        extent_in = both.0;
        arcs_in_holds = both.1;
        enough = nltb→le room bytes_needed (accepted_cons _ _ _ all.1).0;
      }

  pub few_arcs : write_refusal e p room ≡ none → length p.arcs ≤ 256
  few_arcs h = (extent_accepted p.n (length p.arcs) (accepted_is_writable h).extent_in).3

  pub writable_well_formed : ((a : Arc) → Memᴰ a p.arcs → (a.cost ≤ 65535) × (a.service ≤ 65535)) → write_refusal e p room ≡ none
      → WellFormed p
  writable_well_formed costs h = let w = accepted_is_writable h in plan_well_formed e p w.extent_in w.arcs_in_holds costs

  pub write_accepted : ((a : Arc) → Memᴰ a p.arcs → IsRecord a) → write_refusal e p room ≡ none
      → WellFormed p × (file_length e (length p.arcs) ≤ room)
  write_accepted records h = (
    writable_well_formed (λ a m. (let c = (records a m).cost in let s = (records a m).service in (omega arith, omega arith))) h,
    (accepted_is_writable h).enough,
  )

  pub accepted_write : T (is_edition e) → WellFormed p → first_refusal (plan_conditions e p) ≡ none → file_length e (length p.arcs) ≤ room
      → write_refusal e p room ≡ none
  accepted_write i w a h =
      let limits = accepted_extent p.n (length p.arcs) w.some_vertex w.vertices w.some_arc w.arc_count_holds in
      rw write_conditions
      (cons_accepted _ _ _ (not_not_T (is_edition e) i)
      (append_accepted (extent ++ plan_conditions e p) _ (append_accepted extent (plan_conditions e p) limits a)
      (cons_accepted _ _ _ (le→nltb room bytes_needed h) nothing_refused)))

-- ---- a call whose own conditions stand between 9 and 10, on a plan p

pub record BeforeAccepted (bytes : List ℕ) (b places : ℕ) (own : Conditions) (p : Plan) : Type 0 where
  pub file : first_refusal (file_conditions bytes) ≡ none
  pub sheet : sheet_places ≤ places
  pub some_budget : 1 ≤ b
  pub budget : b ≤ highest_budget
  pub own_accepted : first_refusal own ≡ none
  pub some_required : 0 < length (required_arcs p)
  pub components : component_count p ≤ 8

pub call_limits : (b places : ℕ) → first_refusal (call_conditions b places) ≡ none
    → (sheet_places ≤ places) × (1 ≤ b) × (b ≤ highest_budget)
unfolding call_conditions
call_limits b places h =
    let eight = accepted_cons _ _ _ h in
    let limits = outside_accepted b 1 highest_budget (accepted_cons _ _ _ eight.1).0 in
    (nltb→le places sheet_places eight.0, limits.0, limits.1)

pub before_accepted : (bytes : List ℕ) (b places : ℕ) (own : Conditions) (p : Plan)
    → first_refusal (conditions_before bytes b places own p) ≡ none
    → BeforeAccepted bytes b places own p
unfolding conditions_before parts_conditions
before_accepted bytes b places own p h =
    let both = accepted_append (file_conditions bytes) _ h in
    let two = accepted_append (call_conditions b places) _ both.1 in
    let lent = call_limits b places two.0 in
    let rest = accepted_append own _ two.1 in
    let ten = accepted_cons _ _ _ rest.1 in
    let eleven = accepted_cons _ _ _ ten.1 in
    let some : length (required_arcs p) ≢ 0 = eqb_other ten.0 in
    record {
      file = both.0;
      sheet = lent.0;
      some_budget = lent.1;
      budget = lent.2;
      own_accepted = rest.0;
      some_required = omega arith;
      components = nltb→le 8 (component_count p) eleven.0;
    }

-- ---- the plan call

pub record EarlierAccepted (bytes : List ℕ) (b places : ℕ) : Type 0 where
  pub well_formed : WellFormed (plan_of bytes)
  pub sheet : sheet_places ≤ places
  pub some_budget : 1 ≤ b
  pub budget : b ≤ highest_budget
  pub some_required : 0 < length (required_arcs (plan_of bytes))
  pub components : component_count (plan_of bytes) ≤ 8

pub record CallAccepted (bytes : List ℕ) (budget places : ℕ) : Type 0 where
  pub earlier : EarlierAccepted bytes budget places
  pub connected : T (not (is_cut_off (plan_of bytes)))

module _ (bytes : List ℕ) (budget places : ℕ) where
  pub call_conditions_lem : call_refusal bytes budget places
      ≡ first_refusal (earlier_conditions bytes budget places ++ (is_cut_off (plan_of bytes), 12) ∷ [])
  unfolding call_refusal
  call_conditions_lem = refl

  accepted_before : first_refusal (earlier_conditions bytes budget places) ≡ none → BeforeAccepted bytes budget places [] (plan_of bytes)
  unfolding earlier_conditions
  accepted_before e = before_accepted bytes budget places [] (plan_of bytes) e

  pub earlier_accepted : first_refusal (earlier_conditions bytes budget places) ≡ none → EarlierAccepted bytes budget places
  earlier_accepted e =
      let a = accepted_before e in
      record {
        well_formed = file_accepted bytes a.file;
        sheet = a.sheet;
        some_budget = a.some_budget;
        budget = a.budget;
        some_required = a.some_required;
        components = a.components;
      }

  pub call_accepted : call_refusal bytes budget places ≡ none → CallAccepted bytes budget places
  call_accepted e =
      let r = accepted_append (earlier_conditions bytes budget places) _ (rw call_conditions_lem at e) in
      record { earlier = earlier_accepted r.0; connected = (accepted_cons _ _ _ r.1).0 }

  pub call_file : call_refusal bytes budget places ≡ none → first_refusal (file_conditions bytes) ≡ none
  call_file e = (accepted_before (accepted_append (earlier_conditions bytes budget places) _ (rw call_conditions_lem at e)).0).file
