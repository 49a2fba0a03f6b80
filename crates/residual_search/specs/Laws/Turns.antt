-- One turn of each loop, as its model has it.
use Rattle.std.specs.Prelude.{◌≡◌, Bool, true, not, ◌&&◌, ◌≢◌, length, take, eqb, ltb}
use Rattle.std.proofs.Math.Path.{refl, sym, ap}
use Rattle.std.proofs.Common.{ap₂, ◌∙◌, eq-eqb, ne_eqb, get_or-set_same, get_or-set_other, drop_of_length-le}
use Rattle.std.proofs.Math.Bool.{cond}
use mathlib.Core.List.{List, ◌∷◌}
use Prim.Native.Nat.{ℕ, zero, suc, ◌+◌, ◌*◌, ◌-◌, ◌≤◌, ◌<◌, min}
use Rattle.std.proofs.Math.Decide.{ℕ_discrete, dec_le}
use native.Mathlib.Omega.{arith}
use Rattle.std.proofs.Math.Seq.{set_out, drop-cons}
use Rattle.std.proofs.Math.Numerals.{add-one}
use Rattle.postman.specs.Laws.Tests.{cond_ind}
use Rattle.residual_search.specs.Bounds.{AtMost}
use Rattle.std.proofs.Math.ListN.{get_or, set, drop, replicate}
use Rattle.residual_search.specs.Fold.{fold}
use Rattle.residual_search.specs.Search.{Found, beyond, relaxed, relax, nearer, nearest, open_distance, start, settle, round, rounds, search}
use Rattle.residual_search.specs.Until.{rounds_until, until}
use Rattle.residual_search.specs.Step.{place, moved, push, augment, State, add, add_all, arcs_of}
use Rattle.residual_search.specs.Laws.Fold.{fold_more, fold_turn, fold_keeps}

pub relax_more : (len : ℕ → ℕ) (w base : ℕ) (vs : List ℕ) (s : List ℕ × List ℕ) {x next x' next' : List ℕ} (a : ℕ) {v c : ℕ}
    → (x, next) ≡ fold (relaxed len w base) s (take a vs) → a < length vs → v ≡ get_or vs a 0 → c ≡ base + len v
    → x' ≡ set x v (min c (get_or x v 0)) → next' ≡ set next v (cond (ltb c (get_or x v 0)) w (get_or next v 0))
    → (x', next') ≡ fold (relaxed len w base) s (take (a + 1) vs)
relax_more len w base vs s {x} {next} {x'} {next'} a {v} inv l ev ec ex en =
    fold_turn (relaxed len w base) s vs a inv l ev
    (ap₂ (λ (p q : List ℕ). (p, q)) (ex ∙ ap (λ q. set x v (min q (get_or x v 0))) ec)
    (en ∙ ap (λ q. set next v (cond (ltb q (get_or x v 0)) w (get_or next v 0))) ec))

pub nearest_more : (x rank vs : List ℕ) (s : ℕ × ℕ) {best low : ℕ} (a : ℕ) {v i key best' low' : ℕ}
    → (best, low) ≡ fold (nearer x rank) s (take a vs) → a < length vs
    → v ≡ get_or vs a 0 → i ≡ v → key ≡ cond (eqb (get_or rank i 0) 0) (get_or x i 0) beyond → best' ≡ cond (ltb key low) v best
    → low' ≡ min key low
    → (best', low') ≡ fold (nearer x rank) s (take (a + 1) vs)
nearest_more x rank vs s {best} {low} a {v} {i} {key} inv l ev ei ek eb el =
    let e : key ≡ open_distance x rank v = ek ∙ ap (open_distance x rank) ei in
    ap₂ (λ (p q : ℕ). (p, q)) (eb ∙ ap (λ q. cond (ltb q low) v best) e) (el ∙ ap (λ q. min q low) e)
    ∙ ap (λ (q : ℕ × ℕ). nearer x rank q v) inv
    ∙ ap (nearer x rank (fold (nearer x rank) s (take a vs))) ev
    ∙ sym (fold_more (nearer x rank) s vs a l)

pub fill_more : {A : Type 0} (g : ℕ → A) (vs : List ℕ) (s : List A) {r : List A} (a : ℕ) {v : ℕ} {y : A}
    → r ≡ fold (λ s v. set s v (g v)) s (take a vs) → a < length vs → v ≡ get_or vs a 0 → y ≡ g v
    → set r v y ≡ fold (λ s v. set s v (g v)) s (take (a + 1) vs)
fill_more {A} g vs s {r} a {v} inv l ev ey =
    ap (set r v) ey
    ∙ ap (λ (q : List A). set q v (g v)) inv
    ∙ ap (λ n. set (fold (λ (s : List A) (v : ℕ). set s v (g v)) s (take a vs)) n (g n)) ev
    ∙ sym (fold_more (λ (s : List A) (v : ℕ). set s v (g v)) s vs a l)

-- ---- along a path

pub augment_end : (next : List ℕ) (t n : ℕ) (f : List ℕ) (v : ℕ) → v ≡ t → augment next t n f v ≡ f
unfolding augment
augment_end next t zero f v e = refl
augment_end next t (suc n) f v e = rw (eq-eqb v t e)

pub augment_step : (next : List ℕ) (t n : ℕ) (f : List ℕ) (v : ℕ) → v ≢ t
    → augment next t (suc n) f v ≡ augment next t n (push f v (get_or next v 0)) (get_or next v 0)
unfolding augment
augment_step next t n f v e = rw (ne_eqb v t e)

-- one number stored in a list of small ones
pub at_most_more : (n m : ℕ) (f : List ℕ) (i x : ℕ) → AtMost n f → n ≤ m → x ≤ m → AtMost m (set f i x)
at_most_more n m f i x h e l k = elim (ℕ_discrete k i) [
  | yes q ↦ elim (dec_le (length f) i) [
    | yes g ↦ let a = ap (λ (q : List ℕ). get_or q k 0) (set_out f i x g) in let b = h k in omega arith
    | no g ↦ let a = ap (λ j. get_or (set f i x) j 0) q ∙ get_or-set_same f i x 0 (omega arith) in omega arith
  ]
  | no q ↦ let a = get_or-set_other f i k x 0 q in let b = h k in omega arith
]

pub augment_more : (next : List ℕ) (t : ℕ) (g : List ℕ) (k v : ℕ) {i w j at amt : ℕ} {r : List ℕ} → augment next t (64 - k) g v ≡ r
    → k < 64 → (v ≡ t → ⊥)
    → i ≡ v → w ≡ get_or next i 0 → j ≡ w → at ≡ place (get_or g (j * 64 + i) 0) i j
    → amt ≡ moved (get_or g (j * 64 + i) 0) (get_or g (i * 64 + j) 0)
    → augment next t (64 - (k + 1)) (set g at amt) w ≡ r
augment_more next t g k v {i} {w} {j} {at} {amt} {r} inv l n ei ew ej eat eamt =
    let e : w ≡ get_or next v 0 = ew ∙ ap (λ q. get_or next q 0) ei in
    let e' : j ≡ get_or next v 0 = ej ∙ e in
    let pushed : set g at amt ≡ push g v (get_or next v 0)
    = ap₂ (set g) eat eamt ∙ ap₂ (λ (p q : ℕ). push g p q) ei e' in
    let m : 64 - k ≡ suc (64 - (k + 1)) = omega arith in
    ap₂ (λ (f : List ℕ) (q : ℕ). augment next t (64 - (k + 1)) f q) pushed e
    ∙ sym (augment_step next t (64 - (k + 1)) g v n)
    ∙ ap (λ q. augment next t q g v) (sym m)
    ∙ inv

-- ---- the search

pub relax_low : (ℓ : ℕ → ℕ → ℕ) (vs : List ℕ) (w base : ℕ) (s : List ℕ × List ℕ) (n : ℕ) → AtMost n s.0
    → AtMost n (relax ℓ vs w base s).0
unfolding relax
relax_low ℓ vs w base s n h = go vs s h
  where
    go : (us : List ℕ) (s : List ℕ × List ℕ) → AtMost n s.0 → AtMost n (fold (relaxed (λ v. ℓ v w) w base) s us).0
    go us s h = fold_keeps (relaxed (λ v. ℓ v w) w base) (λ q. AtMost n q.0)
        (λ q v g. at_most_more n n q.0 v _ g (omega arith) (let a = g v in omega arith)) us s h

abbrev made : List ℕ → List ℕ → List ℕ → Found
made x next rank = record { distance = x; next = next; rank = rank }

pub found_same : {x x' next next' rank rank' : List ℕ} → x ≡ x' → next ≡ next' → rank ≡ rank' → made x next rank ≡ made x' next' rank'
found_same {x} {x'} {next} {next'} {rank} {rank'} ex en er =
    ap (λ (q : List ℕ). made q next rank) ex ∙ ap (λ (q : List ℕ). made x' q rank) en ∙ ap (made x' next') er

module _ (ℓ : ℕ → ℕ → ℕ) (vs : List ℕ) (t : ℕ) (whole : Bool) (goal : ℕ) where
  pub rounds_end : (n k : ℕ) (s : Found) → (not whole && ltb 0 (get_or s.rank goal 0)) ≡ true → rounds ℓ vs t whole goal n k s ≡ s
  unfolding rounds
  rounds_end zero k s e = refl
  rounds_end (suc n) k s e = rw e

module _ (ℓ : ℕ → ℕ → ℕ) (vs : List ℕ) (t goal : ℕ) where
  pub until_end : (n k : ℕ) (s : Found) → nearest vs goal s.distance s.rank ≡ goal → rounds_until ℓ vs t goal n k s ≡ s
  unfolding rounds_until
  until_end zero k s e = refl
  until_end (suc n) k s e =
      ap (λ (b : Bool). cond b s (rounds_until ℓ vs t goal n (k + 1) (round ℓ vs t goal k s)))
      (eq-eqb (nearest vs goal s.distance s.rank) goal e)

  pub until_on : (n k : ℕ) (s : Found) → nearest vs goal s.distance s.rank ≢ goal
      → rounds_until ℓ vs t goal (suc n) k s ≡ rounds_until ℓ vs t goal n (k + 1) (round ℓ vs t goal k s)
  unfolding rounds_until
  until_on n k s q =
      ap (λ (b : Bool). cond b s (rounds_until ℓ vs t goal n (k + 1) (round ℓ vs t goal k s)))
      (ne_eqb (nearest vs goal s.distance s.rank) goal q)

  pub until_none : (most k : ℕ) (s : Found) → most ≤ k → rounds_until ℓ vs t goal (most - k) k s ≡ s
  unfolding rounds_until
  until_none most k s h = let e : most - k ≡ 0 = omega arith in ap (λ n. rounds_until ℓ vs t goal n k s) e

  pub until_more : (most k : ℕ) (x next rank : List ℕ) {w i base k' : ℕ} {x' next' : List ℕ} {r : Found}
      → rounds_until ℓ vs t goal (most - k) k (record { distance = x; next = next; rank = rank }) ≡ r → k < most
      → w ≡ nearest vs goal x rank → w ≢ goal
      → i ≡ w → base ≡ get_or x i 0 → x' ≡ (relax ℓ vs i base (x, next)).0 → next' ≡ (relax ℓ vs i base (x, next)).1 → k' ≡ k + 1
      → rounds_until ℓ vs t goal (most - (k + 1)) (k + 1) (record { distance = x'; next = next'; rank = set rank i k' }) ≡ r
  unfolding round settle
  until_more most k x next rank {w} {i} {base} {k'} inv l ew nw ei eb ex en ek =
      let m : most - k ≡ suc (most - (k + 1)) = omega arith in
      let one : made _ _ _ ≡ round ℓ vs t goal k (made x next rank)
      = found_same (ex ∙ ap (λ q. (relax ℓ vs i q (x, next)).0) eb) (en ∙ ap (λ q. (relax ℓ vs i q (x, next)).1) eb) (ap (set rank i) ek)
      ∙ ap (λ q. settle ℓ vs t (k + 1) q (made x next rank)) (ei ∙ ew) in
      ap (rounds_until ℓ vs t goal (most - (k + 1)) (k + 1)) one
      ∙ sym (until_on (most - (k + 1)) k (made x next rank) (λ e. nw (ew ∙ e)))
      ∙ ap (λ n. rounds_until ℓ vs t goal n k (made x next rank)) (sym m)
      ∙ inv

  pub until_start : (most : ℕ) {target : ℕ} {x next : List ℕ} → target ≡ t
      → x ≡ (relax ℓ vs target 0 (replicate 64 beyond, replicate 64 t)).0
      → next ≡ (relax ℓ vs target 0 (replicate 64 beyond, replicate 64 t)).1
      → rounds_until ℓ vs t goal (most - 1) 1 (record { distance = x; next = next; rank = set (replicate 64 0) target 1 })
      ≡ until ℓ vs t goal most
  unfolding until start
  until_start most et ex en =
      ap (rounds_until ℓ vs t goal (most - 1) 1)
      (found_same (ex ∙ ap (λ q. (relax ℓ vs q 0 (replicate 64 beyond, replicate 64 t)).0) et)
      (en ∙ ap (λ q. (relax ℓ vs q 0 (replicate 64 beyond, replicate 64 t)).1) et)
      (ap (λ q. set (replicate 64 0) q 1) et))

pub replicate_low : (n b : ℕ) → AtMost b (replicate n b)
replicate_low zero b k = omega arith
replicate_low (suc n) b zero = omega arith
replicate_low (suc n) b (suc k) = replicate_low n b k

-- no distance of a search is beyond
round_low : (ℓ : ℕ → ℕ → ℕ) (vs : List ℕ) (t goal k : ℕ) (s : Found) → AtMost beyond s.distance
    → AtMost beyond (round ℓ vs t goal k s).distance
unfolding round settle
round_low ℓ vs t goal k s h = relax_low ℓ vs _ _ (s.distance, s.next) beyond h

rounds_low : (ℓ : ℕ → ℕ → ℕ) (vs : List ℕ) (t : ℕ) (whole : Bool) (goal n k : ℕ) (s : Found) → AtMost beyond s.distance
    → AtMost beyond (rounds ℓ vs t whole goal n k s).distance
unfolding rounds
rounds_low ℓ vs t whole goal zero k s h = h
rounds_low ℓ vs t whole goal (suc n) k s h =
    cond_ind (not whole && ltb 0 (get_or s.rank goal 0)) s (rounds ℓ vs t whole goal n (k + 1) (round ℓ vs t goal k s))
    (λ r. AtMost beyond r.distance) (λ y. h)
    (λ y. rounds_low ℓ vs t whole goal n (k + 1) (round ℓ vs t goal k s) (round_low ℓ vs t goal k s h))

pub search_low : (ℓ : ℕ → ℕ → ℕ) (vs : List ℕ) (t : ℕ) (whole : Bool) (goal : ℕ) → AtMost beyond (search ℓ vs t whole goal).distance
unfolding search start
search_low ℓ vs t whole goal =
    rounds_low ℓ vs t whole goal (length vs - 1) 1 (start ℓ vs t)
    (relax_low ℓ vs t 0 (replicate 64 beyond, replicate 64 t) beyond (replicate_low 64 beyond))

-- ---- arcs added one by one

module _ (d : ℕ → ℕ → ℕ) (vs : List ℕ) where
  pub all_more : (k : ℕ) (ts hs : List ℕ) (s : State) {s' r : State} → add_all d vs s (arcs_of (drop k ts) (drop k hs)) ≡ r → k < length ts
      → length ts ≡ length hs
      → s' ≡ add d vs s (get_or ts k 0) (get_or hs k 0) → add_all d vs s' (arcs_of (drop (k + 1) ts) (drop (k + 1) hs)) ≡ r
  unfolding add_all arcs_of
  all_more k ts hs s {s'} inv l e es =
      let n = add-one k in
      let p : drop k ts ≡ get_or ts k 0 ∷ drop (k + 1) ts = drop-cons ts k 0 l ∙ ap (λ n. get_or ts k 0 ∷ drop n ts) (sym n) in
      let q : drop k hs ≡ get_or hs k 0 ∷ drop (k + 1) hs = drop-cons hs k 0 (omega arith) ∙ ap (λ n. get_or hs k 0 ∷ drop n hs) (sym n) in
      ap (λ (s : State). add_all d vs s (arcs_of (drop (k + 1) ts) (drop (k + 1) hs))) es
      ∙ sym (ap₂ (λ (x y : List ℕ). add_all d vs s (arcs_of x y)) p q)
      ∙ inv

  pub all_end : (k : ℕ) (ts hs : List ℕ) (s : State) → length ts ≤ k → add_all d vs s (arcs_of (drop k ts) (drop k hs)) ≡ s
  unfolding add_all arcs_of
  all_end k ts hs s l = ap (λ (x : List ℕ). add_all d vs s (arcs_of x (drop k hs))) (drop_of_length-le ts l)

  pub counted : (s : State) (t h n k : ℕ) {m : ℕ} → m ≡ (add d vs s t h).count → s.count ≡ n + k → m ≡ n + (k + 1)
  unfolding add
  counted s t h n k e f = omega arith
