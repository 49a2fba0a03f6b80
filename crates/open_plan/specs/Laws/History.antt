-- Each call takes a state that stands for an open plan to one that stands for the open plan after the call, and is refused alike. The
-- state holds, for each plan, the file written from it; such a file reads back to its edition and its plan, so that what a call finds by
-- reading is what the definitions say of the plan.
use Rattle.std.specs.Prelude.{◌≡◌, refl, ◌≢◌, Bool, true, false, cond, ℕ, ◌≤◌, ◌<◌, get_or, set, ltb, eqb, leb}
use Rattle.std.proofs.Common.{sym, ap, ◌∙◌, subst, arith, length-set, get_or-set_same, get_or-set_other}
use Rattle.std.proofs.Math.Path.{subst⁻¹}
use mathlib.Core.List.{List, [], Memᴰ}
use Rattle.std.proofs.Math.Option.{Option, none, some, some-ne-none}
use Rattle.std.proofs.Math.Decide.{ℕ_discrete}
use borrow.Author.Tests.{eq-eqb, ne_eqb, ltb-false, leb-false}
use Rattle.std.proofs.Math.ListN.{length}
use Rattle.std.proofs.lemmas.List.{length-replicate, get_or-replicate}
use Rattle.postman.specs.Plan.{Arc, Plan, arc_at, WellFormed}
use Rattle.postman.specs.Refusal.{first_refusal}
use Rattle.postman.specs.PlanFile.{edition, arc_count, plan_of, file_of, file_conditions, write_refusal}
use Rattle.postman.specs.OpenPlan.{Change, changed_arc, changed_plan, change_refusal, longest_file, Open, opened, Call, change, mark, return, taken, held_or, unless_held, refusal_in, unless_refused, after_call}
use Rattle.postman.specs.Laws.Membership.{get_d_mem, mem_get_d}
use Rattle.postman_laws.specs.Laws.FileLength.{counted}
use Rattle.postman_laws.specs.Laws.Acceptance.{accepted_is_file, accepted_is_writable, writable_well_formed, file_is_accepted, file_is_read, file_accepted}
use Rattle.postman_laws.specs.Laws.PlanFile.{length_file_of, edition_same, plan_same, is_file, written_read}
use Rattle.refusal.specs.Verdict.{verdict_number}
use Rattle.held_file.specs.declared.Held.{Held}
use Rattle.open_plan.specs.declared.OpenPlan.{OpenPlan}
use Rattle.open_plan.specs.declared.Moved.{Moved}
use Rattle.held_file.specs.Held.{file_in, held_of}
use Rattle.open_plan.specs.State.{fresh_state, mark_in, refusal_of, next}
use Rattle.held_file.specs.Change.{changed_file, file_change_refusal}
use Rattle.open_plan.specs.Contract.{IsMoved}
use Rattle.open_plan.specs.Run.{Fits, IsFileOf, IsMarkOf, StandsFor}
use Rattle.held_file.specs.Laws.Held.{IsShort, held_file, held_size, file_short}
use Rattle.held_file.specs.Laws.Change.{read_on, changed_file_lem}

-- ---- a plan that can be written, and the file that is held for it

pub record Writable (e : ℕ) (p : Plan) : Type 0 where
  pub accepted : write_refusal e p longest_file ≡ none
  pub costs : (a : Arc) → Memᴰ a p.arcs → (a.cost ≤ 65535) × (a.service ≤ 65535)

pub record Keeps (e : ℕ) (p : Plan) (h : Held) : Type 0 where
  pub writable : Writable e p
  pub held : h ≡ held_of (file_of e p)

module _ (e : ℕ) (p : Plan) (w : Writable e p) where
  well : WellFormed p
  well = writable_well_formed e p longest_file w.costs w.accepted

  file_fits : length (file_of e p) ≤ longest_file
  file_fits = let l = (accepted_is_writable e p longest_file w.accepted).enough in let n = length_file_of e p in omega arith

  some_byte : 3 ≤ length (file_of e p)
  some_byte = let l = counted e (length p.arcs) well.some_arc in let n = length_file_of e p in omega arith

  pub is_file_of : IsFileOf e p (held_of (file_of e p))
  is_file_of =
      let can = accepted_is_writable e p longest_file w.accepted in
      let f = held_file (file_of e p) in
      record {
        file = f;
        reads = rw f (file_is_accepted (file_of e p) (is_file e p well can.edition_in can.arcs_in_holds));
        edition_is = rw f (edition_same e p can.edition_in);
        plan_is = rw f (plan_same e p well can.edition_in can.arcs_in_holds);
      }

  pub held_length : (held_of (file_of e p)).length ≢ 0
  unfolding held_of
  held_length z = let l = some_byte in absurd (omega arith)

module _ (e : ℕ) (p : Plan) (h : Held) (k : Keeps e p h) where
  pub keeps_file : IsFileOf e p h
  keeps_file = subst (IsFileOf e p) (sym k.held) (is_file_of e p k.writable)

  pub keeps_some : h.length ≢ 0
  keeps_some z = held_length e p k.writable (ap (λ (x : Held). x.length) (sym k.held) ∙ z)

  pub keeps_size : IsShort h
  keeps_size = subst⁻¹ IsShort k.held (held_size (file_of e p) (file_fits e p k.writable))

-- ---- marks

abbrev pub KeepsMark : ℕ → Option Plan → Held → Type 0
KeepsMark e none h = h ≡ held_of []
KeepsMark e (some p) h = Keeps e p h

no_length : (h : Held) → h ≡ held_of [] → h.length ≡ 0
unfolding held_of
no_length h q = ap (λ (x : Held). x.length) q

pub keeps_mark : (e : ℕ) (o : Option Plan) (h : Held) → KeepsMark e o h → IsMarkOf e o h
keeps_mark e none h q = ap file_in q ∙ held_file []
keeps_mark e (some p) h k = keeps_file e p h k

pub mark_size : (e : ℕ) (o : Option Plan) (h : Held) → KeepsMark e o h → IsShort h
mark_size e none h q = subst⁻¹ IsShort q (held_size [] (omega arith))
mark_size e (some p) h k = keeps_size e p h k

pub record Stands (e : ℕ) (o : Open) (s : OpenPlan) : Type 0 where
  pub plan_is : Keeps e o.plan s.plan
  pub four : length s.marks ≡ 4
  pub marks_are : (k : ℕ) → k < 4 → KeepsMark e (o.marks k) (mark_in s k)

pub stands_for : (e : ℕ) (o : Open) (s : OpenPlan) → Stands e o s → StandsFor e o s
stands_for e o s h =
    record {
      plan_is = keeps_file e o.plan s.plan h.plan_is;
      marks_are = λ k l. keeps_mark e (o.marks k) (mark_in s k) (h.marks_are k l);
    }

-- ---- a change

-- an arc of a list with one element set is that element or was there before
set_mem : (arcs : List Arc) (k : ℕ) (x a : Arc) → k < length arcs → (P : Arc → Type 0) → P x → ((b : Arc) → Memᴰ b arcs → P b)
    → Memᴰ a (set arcs k x) → P a
set_mem arcs k x a room P new old m =
    let d = arc_at [] 0 in
    let r = mem_get_d d m in
    let j = r.0 in
    let l : j < length arcs = rw (length-set arcs k x) at r.1 in
    elim (ℕ_discrete j k) [
      | yes q ↦ subst P (sym (get_or-set_same arcs k x d room) ∙ ap (λ (i : ℕ). get_or (set arcs k x) i d) (sym q) ∙ r.2) new
      | no q ↦ subst P (sym (get_or-set_other arcs k j x d q) ∙ r.2) (old (get_or arcs j d) (get_d_mem arcs d j l))
    ]

-- a change that is not refused is of an arc that there is, and can be written
not_refused : (b : Bool) (o : Option ℕ) → cond b (some 14) o ≡ none → (b ≡ false) × (o ≡ none)
not_refused true o q = absurd (some-ne-none 14 q)
not_refused false o q = (refl, q)

module _ (e : ℕ) (p : Plan) (c : Change) where
  changed_writable : Writable e p → (c.cost ≤ 65535) × (c.service ≤ 65535) → change_refusal e p c ≡ none → Writable e (changed_plan p c)
  unfolding change_refusal changed_plan
  changed_writable w fits q =
      let n = not_refused (leb (length p.arcs) c.arc) _ q in
      let l : c.arc < length p.arcs = leb-false _ _ n.0 in
      record {
        accepted = n.1;
        costs = λ a m. set_mem p.arcs c.arc (changed_arc (arc_at p.arcs c.arc) c) a l
            (λ b. (b.cost ≤ 65535) × (b.service ≤ 65535)) fits w.costs m;
      }

  -- what reading the file finds is what the plan says
  same_refusal : (h : Held) → IsFileOf e p h → file_change_refusal (file_in h) c ≡ change_refusal e p c
  same_refusal h f = read_on (file_in h) c f.reads ∙ rw (f.edition_is, f.plan_is) refl

  same_file : (h : Held) → IsFileOf e p h → changed_file (file_in h) c ≡ file_of e (changed_plan p c)
  same_file h f = changed_file_lem (file_in h) c ∙ rw (f.edition_is, f.plan_is) refl

-- ---- each call

-- a mark whose number is good
pub below_four : (k : ℕ) (r : Option ℕ) → cond (ltb 3 k) (some 21) r ≡ none → (k < 4) × (r ≡ none)
below_four k r q = at (ltb 3 k) refl q
  where
    at : (b : Bool) → ltb 3 k ≡ b → cond b (some 21) r ≡ none → (k < 4) × (r ≡ none)
    at true i q = absurd (some-ne-none 21 q)
    at false i q = let l = ltb-false 3 k i in (omega arith, q)

module _ (e : ℕ) (o : Open) (s : OpenPlan) (h : Stands e o s) where
  -- a mark's own test
  held_test : (k : ℕ) (q : Option Plan) → KeepsMark e q (mark_in s k) → cond (eqb (mark_in s k).length 0) (some 21) none ≡ unless_held q
  held_test k none m = rw (eq-eqb _ _ (no_length (mark_in s k) m)) refl
  held_test k (some p) m = rw (ne_eqb _ _ (keeps_some e p (mark_in s k) m)) refl

  pub refused_alike : (c : Call) → refusal_of s c ≡ refusal_in e o c
  refused_alike (change c) = same_refusal e o.plan c s.plan (keeps_file e o.plan s.plan h.plan_is)
  refused_alike (mark k) = refl
  refused_alike (return k) = at (ltb 3 k) refl
    where
      at : (b : Bool) → ltb 3 k ≡ b
          → cond b (some 21) (cond (eqb (mark_in s k).length 0) (some 21) none) ≡ cond b (some 21) (unless_held (o.marks k))
      at true q = refl
      at false q = let l = ltb-false 3 k q in held_test k (o.marks k) (h.marks_are k (omega arith))

  -- what an accepted call leaves
  set_mark : (k j : ℕ) → k < 4 → j < 4 → KeepsMark e (cond (eqb j k) (some o.plan) (o.marks j)) (mark_in (next s (mark k)) j)
  set_mark k j l g =
      let f = h.four in
      elim (ℕ_discrete j k) [
        | yes q ↦ rw (eq-eqb j k q)
            (rw q (subst (Keeps e o.plan) (sym (get_or-set_same s.marks k s.plan _ (omega arith))) h.plan_is))
        | no q ↦ rw (ne_eqb j k q) (subst (KeepsMark e (o.marks j)) (sym (get_or-set_other s.marks k j s.plan _ q)) (h.marks_are j g))
      ]

  back : (k : ℕ) (q : Option Plan) → KeepsMark e q (mark_in s k) → unless_held q ≡ none → Keeps e (held_or o.plan q) (mark_in s k)
  back k none m r = absurd (some-ne-none 21 r)
  back k (some p) m r = m

  accepted_stands : (c : Call) → Fits c → refusal_in e o c ≡ none → Stands e (taken o c) (next s c)
  accepted_stands (change c) fits q =
      let f = keeps_file e o.plan s.plan h.plan_is in
      record {
        plan_is = record {
          writable = changed_writable e o.plan c h.plan_is.writable fits q;
          held = ap held_of (same_file e o.plan c s.plan f);
        };
        four = h.four;
        marks_are = h.marks_are;
      }
  accepted_stands (mark k) fits q =
      let l = (below_four k none q).0 in
      record { plan_is = h.plan_is; four = length-set s.marks k s.plan ∙ h.four; marks_are = λ j g. set_mark k j l g }
  accepted_stands (return k) fits q =
      let b = below_four k (unless_held (o.marks k)) q in
      record { plan_is = back k (o.marks k) (h.marks_are k b.0) b.1; four = h.four; marks_are = h.marks_are }

  -- THE STEP
  pub after_stands : (c : Call) → Fits c → (r : Option ℕ) → refusal_in e o c ≡ r
      → Stands e (unless_refused r (taken o c) o) (unless_refused r (next s c) s)
  after_stands c fits none q = accepted_stands c fits q
  after_stands c fits (some k) q = h

  pub step : (c : Call) (r : Moved) → Fits c → IsMoved s c r
      → (verdict_number r.verdict ≡ refusal_in e o c) × Stands e (after_call e o c) r.state
  step c r fits m =
      let q = refused_alike c in (
        m.verdict ∙ q,
        subst (Stands e (after_call e o c)) (sym (m.state ∙ ap (λ (x : Option ℕ). unless_refused x (next s c) s) q))
            (after_stands c fits (refusal_in e o c) refl),
      )

-- ---- opening

-- A file that is read stands for its plan, with no mark set: what was read is what is written from its plan. Bytes are numbers below 256.
pub opening_stands : (bytes : List ℕ) → ((k : ℕ) → get_or bytes k 0 < 256) → first_refusal (file_conditions bytes) ≡ none
    → Stands (edition bytes) (opened (plan_of bytes)) (fresh_state (held_of bytes))
unfolding fresh_state
opening_stands bytes small read =
    let f = accepted_is_file bytes read in
    let w = written_read bytes (arc_count bytes) small (file_is_read bytes (arc_count bytes) f (omega arith)) in
    record {
      plan_is = record {
        writable = record {
          accepted = w.1 longest_file (file_short bytes read);
          costs = λ a m. (let i = (file_accepted bytes read).each a m in (i.cost_in_holds, i.service_in));
        };
        held = ap held_of (sym w.0);
      };
      four = length-replicate 4 (held_of []);
      marks_are = λ k l. get_or-replicate 4 k (held_of []) _ l;
    }
