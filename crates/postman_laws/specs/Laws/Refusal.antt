-- The first condition that applies: of lists that are joined, of a scan over numbers in their order, and what a call then answers. Each by
-- induction on the conditions. Of a whole list: conditions are accepted together exactly when each of them is; and the last condition is
-- the one that is given exactly when none before it applies and it does, if its number stands for no other.
use Rattle.std.specs.Prelude.{◌≡◌, ◌≢◌, Bool, true, false, not, cond, T}
use Rattle.std.proofs.Math.Path.{refl, sym, ap, subst⁻¹}
use Rattle.std.proofs.Common.{◌∙◌, add-one}
use mathlib.Core.List.{List, [], ◌∷◌, ◌++◌, map, flat_map, append_assoc, Memᴰ}
use Rattle.std.proofs.Math.Option.{Option, none, some, some-ne-none}
use Prim.Native.Nat.{ℕ, suc, ◌+◌, ◌-◌, ◌<◌, ◌≤◌}
use native.Mathlib.Omega.{arith}
use Rattle.postman_laws.specs.Laws.Contradiction.{zero_is_one}
use Rattle.postman.specs.Lists.{up_from, below}
use Rattle.postman.specs.Plan.{Arc, Plan}
use Rattle.postman.specs.Refusal.{Conditions, first_refusal, refused, given, answer}
use Rattle.postman.specs.PlanFile.{edition, edition_conditions, body_conditions, file_conditions, extent_conditions, plan_conditions, arcs_conditions, arc_conditions, plan_of}
use Rattle.postman.specs.PlanCall.{call_conditions, parts_conditions, conditions_before, earlier_conditions}

-- ---- one condition more

pub nothing_refused : first_refusal [] ≡ none
unfolding first_refusal
nothing_refused = refl

pub accepted_cons : (b : Bool) (r : ℕ) (cs : Conditions) → first_refusal ((b, r) ∷ cs) ≡ none → T (not b) × (first_refusal cs ≡ none)
unfolding first_refusal
accepted_cons true r cs e = absurd (some-ne-none r e)
accepted_cons false r cs e = (tt, e)

pub cons_accepted : (b : Bool) (r : ℕ) (cs : Conditions) → T (not b) → first_refusal cs ≡ none → first_refusal ((b, r) ∷ cs) ≡ none
unfolding first_refusal
cons_accepted true r cs t e = absurd t
cons_accepted false r cs t e = e

-- ---- joined lists

pub first_on : (cs ds : Conditions) → first_refusal cs ≡ none → first_refusal (cs ++ ds) ≡ first_refusal ds
unfolding first_refusal
first_on [] ds e = refl
first_on (c ∷ cs) ds e = at c.0 (first_on cs ds) e
  where
    at
        : (b : Bool)
        → (first_refusal cs ≡ none → first_refusal (cs ++ ds) ≡ first_refusal ds)
        → cond b (some c.1) (first_refusal cs) ≡ none
        → cond b (some c.1) (first_refusal (cs ++ ds)) ≡ first_refusal ds
    at true rest e = absurd (some-ne-none c.1 e)
    at false rest e = rest e

pub first_stop : (cs ds : Conditions) (r : ℕ) → first_refusal cs ≡ some r → first_refusal (cs ++ ds) ≡ some r
unfolding first_refusal
first_stop [] ds r e = absurd (some-ne-none r (sym e))
first_stop (c ∷ cs) ds r e = at c.0 (first_stop cs ds r) e
  where
    at
        : (b : Bool)
        → (first_refusal cs ≡ some r → first_refusal (cs ++ ds) ≡ some r)
        → cond b (some c.1) (first_refusal cs) ≡ some r
        → cond b (some c.1) (first_refusal (cs ++ ds)) ≡ some r
    at true rest e = e
    at false rest e = rest e

pub accepted_append : (cs ds : Conditions) → first_refusal (cs ++ ds) ≡ none → (first_refusal cs ≡ none) × (first_refusal ds ≡ none)
accepted_append [] ds e = (nothing_refused, e)
accepted_append (c ∷ cs) ds e =
    let h = accepted_cons c.0 c.1 (cs ++ ds) e in
    let r = accepted_append cs ds h.1 in
    (cons_accepted c.0 c.1 cs h.0 r.0, r.1)

pub append_accepted : (cs ds : Conditions) → first_refusal cs ≡ none → first_refusal ds ≡ none → first_refusal (cs ++ ds) ≡ none
append_accepted cs ds e f = first_on cs ds e ∙ f

module _ {A : Type 0} (f : A → Conditions) where
  pub accepted_flat_map : {x : A} {xs : List A} → Memᴰ x xs → first_refusal (flat_map f xs) ≡ none → first_refusal (f x) ≡ none
  unfolding flat_map
  accepted_flat_map (Memᴰ.head {x = y} {xs = ys} e) h =
      subst⁻¹ (λ z. first_refusal (f z) ≡ none) e (accepted_append (f y) (flat_map f ys) h).0
  accepted_flat_map (Memᴰ.tail {x = y} {xs = ys} m) h = accepted_flat_map m (accepted_append (f y) (flat_map f ys) h).1

-- ---- a scan

-- The conditions g k, g (k + 1), and so on up to m, in their order.
unfoldable pub scan : (ℕ → Conditions) → ℕ → ℕ → Option ℕ
unfolding first_refusal flat_map up_from
scan g k m = first_refusal (flat_map g (up_from k (m - k)))

module _ (g : ℕ → Conditions) (k m : ℕ) where
  scan_step : k < m → scan g k m ≡ first_refusal (g k ++ flat_map g (up_from (suc k) (m - suc k)))
  unfolding scan flat_map up_from
  scan_step h =
      let e : m - k ≡ suc (m - suc k) = omega arith in
      ap (λ (n : ℕ). first_refusal (flat_map g (up_from k n))) e ∙ one (m - suc k)
    where
      one : (n : ℕ) → first_refusal (flat_map g (up_from k (suc n))) ≡ first_refusal (g k ++ flat_map g (up_from (suc k) n))
      one n = refl

  scan_stop : (r : ℕ) → k < m → first_refusal (g k) ≡ some r → scan g k m ≡ some r
  scan_stop r h e = scan_step h ∙ first_stop (g k) (flat_map g (up_from (suc k) (m - suc k))) r e

  scan_on : k < m → first_refusal (g k) ≡ none → scan g k m ≡ scan g (k + 1) m
  unfolding scan
  scan_on h e =
      scan_step h
      ∙ first_on (g k) (flat_map g (up_from (suc k) (m - suc k))) e
      ∙ sym (ap (λ (n : ℕ). first_refusal (flat_map g (up_from n (m - n)))) (add-one k))

  scan_end : m ≤ k → scan g k m ≡ none
  unfolding scan first_refusal flat_map up_from
  scan_end h = let e : m - k ≡ 0 = omega arith in rw e

flat_map_lem : {A : Type 0} (c : A → Conditions) (f : ℕ → A) (ks : List ℕ) → flat_map c (map f ks) ≡ flat_map (λ k. c (f k)) ks
unfolding flat_map
flat_map_lem c f [] = refl
flat_map_lem c f (k ∷ ks) = ap (λ (r : Conditions). c (f k) ++ r) (flat_map_lem c f ks)

-- The first refusal of a list f 0, f 1, and so on below m, looked for from 0 on: none of those before k
-- is refused, so it is that of those from k on.
module _ {A : Type 0} (c : A → Conditions) (f : ℕ → A) (m : ℕ) where
  abbrev pub NoneBefore : ℕ → Type 0
  NoneBefore k = first_refusal (flat_map c (map f (below m))) ≡ scan (λ j. c (f j)) k m

  pub none_before_first : NoneBefore 0
  unfolding scan below
  none_before_first =
      let e : m - 0 ≡ m = omega arith in
      ap first_refusal (flat_map_lem c f (up_from 0 m)) ∙ sym (ap (λ (n : ℕ). first_refusal (flat_map (λ k. c (f k)) (up_from 0 n))) e)

  pub none_before_next : (k : ℕ) → k < m → NoneBefore k → first_refusal (c (f k)) ≡ none → NoneBefore (k + 1)
  none_before_next k h b e = b ∙ scan_on (λ j. c (f j)) k m h e

  pub refused_here : (k r : ℕ) → k < m → NoneBefore k → first_refusal (c (f k)) ≡ some r
      → some r ≡ first_refusal (flat_map c (map f (below m)))
  refused_here k r h b e = sym (b ∙ scan_stop (λ j. c (f j)) k m r h e)

  pub none_refused : (k : ℕ) → m ≤ k → NoneBefore k → none ≡ first_refusal (flat_map c (map f (below m)))
  none_refused k h b = sym (b ∙ scan_end (λ j. c (f j)) k m h)

-- ---- what a call answers

module _ {A : Type 0} where
  pub answer_refused : (o : Option ℕ) (x : A) (r : ℕ) → o ≡ some r → answer o x ≡ refused r
  unfolding answer
  answer_refused o x r e = rw e

  pub answer_given : (o : Option ℕ) (x : A) → o ≡ none → answer o x ≡ given x
  unfolding answer
  answer_given o x e = rw e

  -- and from the answer back to the refusal
  pub was_given : (o : Option ℕ) (x y : A) → given y ≡ answer o x → (o ≡ none) × (y ≡ x)
  unfolding answer
  was_given none x y e = (refl, cc)
  was_given (some r) x y e = zero_is_one (cc)

  pub was_refused : (o : Option ℕ) (x : A) (r : ℕ) → refused r ≡ answer o x → o ≡ some r
  unfolding answer
  was_refused none x r e = zero_is_one (cc)
  was_refused (some q) x r e = cc

-- ---- the order of a call's conditions

-- the file's, 8 and 9, the call's own, then 10 and 11, and what comes after these
pub before_order : (bytes : List ℕ) (budget places : ℕ) (own : Conditions) (p : Plan) (ds : Conditions)
    → conditions_before bytes budget places own p ++ ds
    ≡ file_conditions bytes ++ (call_conditions budget places ++ (own ++ (parts_conditions p ++ ds)))
unfolding conditions_before
before_order bytes budget places own p ds =
    let c = call_conditions budget places in
    append_assoc (file_conditions bytes) (c ++ (own ++ parts_conditions p)) ds
    ∙ ap (λ (l : Conditions). file_conditions bytes ++ l)
    (append_assoc c (own ++ parts_conditions p) ds ∙ ap (λ (l : Conditions). c ++ l) (append_assoc own (parts_conditions p) ds))

-- the first of joined lists, by the first of what is joined on
pub first_same : (cs ds es : Conditions) → first_refusal ds ≡ first_refusal es → first_refusal (cs ++ ds) ≡ first_refusal (cs ++ es)
unfolding first_refusal
first_same [] ds es e = e
first_same (c ∷ cs) ds es e = rw (first_same cs ds es e)

-- conditions of its own that do not apply change nothing
pub own_passed : (bytes : List ℕ) (budget places : ℕ) (own : Conditions) (p : Plan) (ds : Conditions) → first_refusal own ≡ none
    → first_refusal (conditions_before bytes budget places own p ++ ds) ≡ first_refusal (conditions_before bytes budget places [] p ++ ds)
own_passed bytes budget places own p ds e =
    ap first_refusal (before_order bytes budget places own p ds)
    ∙ first_same (file_conditions bytes) _ _ (first_same (call_conditions budget places) _ _ (first_on own (parts_conditions p ++ ds) e))
    ∙ sym (ap first_refusal (before_order bytes budget places [] p ds))

-- ---- the last condition

-- the conditions' numbers are others than r
abbrev pub Other : ℕ → Conditions → Type 0
Other r [] = Unit {0}
Other r (c ∷ cs) = (c.1 ≢ r) × Other r cs

other_append : (r : ℕ) (cs ds : Conditions) → Other r cs → Other r ds → Other r (cs ++ ds)
other_append r [] ds h g = g
other_append r (c ∷ cs) ds h g = (h.0, other_append r cs ds h.1 g)

other_flat_map : {A : Type 0} (r : ℕ) (f : A → Conditions) → ((x : A) → Other r (f x)) → (xs : List A) → Other r (flat_map f xs)
unfolding flat_map
other_flat_map r f h [] = tt
other_flat_map r f h (x ∷ xs) = other_append r (f x) (flat_map f xs) (h x) (other_flat_map r f h xs)

arc_other : (e n : ℕ) (a : Arc) → Other 12 (arc_conditions e n a)
unfolding arc_conditions
arc_other e n a = (omega arith, (omega arith, (omega arith, tt)))

plan_other : (e : ℕ) (p : Plan) → Other 12 (plan_conditions e p)
unfolding plan_conditions arcs_conditions
plan_other e p =
    other_append 12 (flat_map (arc_conditions e p.n) p.arcs) _
    (other_flat_map 12 (arc_conditions e p.n) (arc_other e p.n) p.arcs) (omega arith, tt)

file_other : (bytes : List ℕ) → Other 12 (file_conditions bytes)
unfolding file_conditions edition_conditions extent_conditions body_conditions
file_other bytes = (omega arith, (omega arith, (omega arith, (omega arith, (omega arith, plan_other (edition bytes) (plan_of bytes))))))

pub before_other : (bytes : List ℕ) (budget places : ℕ) (own : Conditions) (p : Plan) → Other 12 own
    → Other 12 (conditions_before bytes budget places own p)
unfolding conditions_before call_conditions parts_conditions
before_other bytes budget places own p h =
    other_append 12 (file_conditions bytes) _ (file_other bytes)
    (omega arith, (omega arith, other_append 12 own _ h (omega arith, (omega arith, tt))))

pub earlier_other : (bytes : List ℕ) (budget places : ℕ) → Other 12 (earlier_conditions bytes budget places)
unfolding earlier_conditions
earlier_other bytes budget places = before_other bytes budget places [] (plan_of bytes) tt

pub last_given : (cs : Conditions) (b : Bool) (r : ℕ) → Other r cs → first_refusal (cs ++ (b, r) ∷ []) ≡ some r
    → (first_refusal cs ≡ none) × T b
unfolding first_refusal
last_given [] true r h e = (refl, tt)
last_given [] false r h e = zero_is_one (cc)
last_given (c ∷ cs) b r h e = at c.0 c.1 h.0 e (last_given cs b r h.1)
  where
    at : (x : Bool) (k : ℕ) → k ≢ r → first_refusal ((x, k) ∷ cs ++ (b, r) ∷ []) ≡ some r
        → (first_refusal (cs ++ (b, r) ∷ []) ≡ some r → (first_refusal cs ≡ none) × T b)
        → (first_refusal ((x, k) ∷ cs) ≡ none) × T b
    at true k l e ih = let q : k ≡ r = cc in absurd (l q)
    at false k l e ih = ih e

pub given_last : (cs : Conditions) (b : Bool) (r : ℕ) → first_refusal cs ≡ none → T b → first_refusal (cs ++ (b, r) ∷ []) ≡ some r
unfolding first_refusal
given_last cs true r e t = first_on cs ((true, r) ∷ []) e
given_last cs false r e t = absurd t
