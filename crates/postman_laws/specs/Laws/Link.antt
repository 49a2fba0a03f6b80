-- Thinning loses nothing: any two required vertices are joined by a chain of links whose distances add up to theirs. A pair that
-- is dropped at its turn goes by two pairs that are held then, so the induction is on the pairs that have not had their turn yet,
-- for the claim that each pair held at this moment is a chain of pairs held at the end, of the same total. It says nothing of
-- costs: circles of free arcs change nothing.
use Rattle.std.specs.Prelude.{◌≡◌, ◌≢◌, Bool, ◌&&◌, ℕ, ◌+◌, T, eqb}
use Rattle.std.proofs.Math.Path.{refl, sym, ap, subst⁻¹}
use Rattle.std.proofs.Common.{◌∙◌, subst, inl, inr, arith}
use Rattle.std.proofs.Math.Bool.{true, not}
use mathlib.Core.List.Memᴰ
use mathlib.Core.List.{List, [], ◌∷◌, ◌++◌, map, Memᴰ}
use Rattle.std.proofs.Math.Decide.{ℕ_discrete}
use Rattle.std.proofs.Math.Dec.{eqb→eq, T_not, not_T}
use Rattle.postman.specs.Lists.{select, any_of}
use Rattle.postman.specs.Plan.{Plan, WellFormed}
use Rattle.postman.specs.Required.{required}
use Rattle.postman.specs.Distance.{distance}
use Rattle.postman.specs.Link.{Link, pairs, proper_pairs, joins, is_held, is_via, pairs_after, thinned, links}
use Rattle.postman.specs.Laws.Tests.{cond_ind, test, same_test, is_true, and_both, and_parts, eqb_same, eqb_other}
use Rattle.postman.specs.Laws.Membership.{mem_select, select_mem, select_cong, any_of_mem, any_of_at, mem_map, map_mem, mem_flat_map, flat_map_mem}
use Rattle.postman_laws.specs.Laws.Selection.{select_select, select_all}
use Rattle.postman_laws.specs.Laws.Distance.{bounded, distance_self}

abbrev pub link : ℕ → ℕ → Link
link i j = record { tail = i; head = j }

-- ---- chains

-- pairs of a list, each from where the one before it ends
abbrev pub IsChainOf : List Link → ℕ → List Link → ℕ → Type 0
IsChainOf held i [] j = i ≡ j
IsChainOf held i (l ∷ ls) j = (l.tail ≡ i) × Memᴰ l held × IsChainOf held l.head ls j

abbrev pub IsChain : Plan → ℕ → List Link → ℕ → Type 0
IsChain p = IsChainOf (links p)

abbrev pub chain_cost : Plan → List Link → ℕ
chain_cost p [] = 0
chain_cost p (l ∷ ls) = distance p l.tail l.head + chain_cost p ls

chain_append : (held : List Link) (i j k : ℕ) (ls ms : List Link) → IsChainOf held i ls j → IsChainOf held j ms k
    → IsChainOf held i (ls ++ ms) k
chain_append held i j k [] ms e h = subst⁻¹ (λ z. IsChainOf held z ms k) e h
chain_append held i j k (l ∷ ls) ms g h = (g.0, g.1, chain_append held l.head j k ls ms g.2 h)

chain_cost_lem : (p : Plan) (ls ms : List Link) → chain_cost p (ls ++ ms) ≡ chain_cost p ls + chain_cost p ms
chain_cost_lem p [] ms = omega arith
chain_cost_lem p (l ∷ ls) ms = let h = chain_cost_lem p ls ms in omega arith

-- ---- which pairs are held

pub joined : {i j : ℕ} {l : Link} → T (joins i j l) → l ≡ link i j
joined {i} {j} {l} t =
    let b = and_parts (eqb l.tail i) (eqb l.head j) t in
    let e = eqb→eq l.tail i b.0 in
    let f = eqb→eq l.head j b.1 in
    λ x. record { tail = e x; head = f x }

pub joins_same : {i j : ℕ} {l : Link} → l ≡ link i j → T (joins i j l)
joins_same {i} {j} {l} e =
    and_both (eqb l.tail i) (eqb l.head j) (eqb_same (ap (λ (m : Link). m.tail) e)) (eqb_same (ap (λ (m : Link). m.head) e))

module _ (held : List Link) (i j : ℕ) where
  pub held_mem : T (is_held held i j) → Memᴰ (link i j) held
  unfolding is_held
  held_mem t = let r = any_of_at (joins i j) held t in Memᴰ.cast (sym (joined r.2)) r.1

  pub mem_held : Memᴰ (link i j) held → T (is_held held i j)
  unfolding is_held
  mem_held m = any_of_mem (joins i j) m (joins_same {i = i} {j = j} {l = link i j} refl)

mem_pairs : {vs : List ℕ} {i j : ℕ} → Memᴰ i vs → Memᴰ j vs → Memᴰ (link i j) (pairs vs)
unfolding pairs
mem_pairs {vs} {i} m n = mem_flat_map (λ i. map (λ j. record { tail = i; head = j }) vs) m (mem_map (λ j. link i j) n)

pairs_mem : (vs : List ℕ) {l : Link} → Memᴰ l (pairs vs) → Memᴰ l.tail vs × Memᴰ l.head vs
unfolding pairs
pairs_mem vs {l} m =
    let r = flat_map_mem (λ i. map (λ j. record { tail = i; head = j }) vs) vs m in
    let s = map_mem (λ (j : ℕ). record { tail = r.0; head = j }) vs r.2 in
    (Memᴰ.cast (ap (λ (z : Link). z.tail) s.2) r.1, Memᴰ.cast (ap (λ (z : Link). z.head) s.2) s.1)

-- two required vertices, not the same
pub record IsProper (p : Plan) (l : Link) : Type 0 where
  pub tail : Memᴰ l.tail (required p)
  pub head : Memᴰ l.head (required p)
  pub apart : l.tail ≢ l.head

module _ (p : Plan) where
  abbrev pub AreProper : List Link → Type 0
  AreProper held = (l : Link) → Memᴰ l held → IsProper p l

  pub proper : AreProper (proper_pairs p)
  unfolding proper_pairs
  proper l m =
      let r = select_mem (λ l. not (eqb l.tail l.head)) (pairs (required p)) m in
      let e = pairs_mem (required p) r.0 in
      record { tail = e.0; head = e.1; apart = eqb_other r.1 }

  pub mem_proper : {i j : ℕ} → Memᴰ i (required p) → Memᴰ j (required p) → i ≢ j → Memᴰ (link i j) (proper_pairs p)
  unfolding proper_pairs
  mem_proper {i} {j} mi mj n = mem_select (λ l. not (eqb l.tail l.head)) (mem_pairs mi mj) (not_T (eqb i j) (λ u. n (eqb→eq i j u)))

  module _ (held : List Link) (l : Link) where
    abbrev others : List Link
    others = select (λ m. not (joins l.tail l.head m)) held

    abbrev goes : Bool
    goes = any_of (is_via p held l) (required p)

    pub turn_mem : {m : Link} → Memᴰ m (pairs_after p held l) → Memᴰ m held
    unfolding pairs_after
    turn_mem {m} =
        cond_ind goes others held (λ h. Memᴰ m h → Memᴰ m held)
        (λ t h. (select_mem (λ m. not (joins l.tail l.head m)) held h).0) (λ t h. h)

    pub mem_turn : {m : Link} → Memᴰ m held → m ≢ l → Memᴰ m (pairs_after p held l)
    unfolding pairs_after
    mem_turn {m} h n =
        cond_ind goes others held (Memᴰ m)
        (λ t. mem_select (λ m. not (joins l.tail l.head m)) h (not_T (joins l.tail l.head m) (λ u. n (joined u))))
        (λ t. h)

    pub turn_gone : T goes → Memᴰ l (pairs_after p held l) → ⊥
    unfolding pairs_after
    turn_gone g =
        cond_ind goes others held (λ h. Memᴰ l h → ⊥)
        (λ t h. T_not (joins l.tail l.head l) (select_mem (λ m. not (joins l.tail l.head m)) held h).1
        (joins_same {i = l.tail} {j = l.head} {l = l} refl))
        (λ t h. T_not goes t g)

    pub turn_stays : T (not goes) → pairs_after p held l ≡ held
    unfolding pairs_after
    turn_stays n = cond_ind goes others held (λ h. h ≡ held) (λ t. absurd (T_not goes n t)) (λ t. refl)

    -- the turn of a pair that is not held drops none
    pub turn_none : (Memᴰ l held → ⊥) → pairs_after p held l ≡ held
    unfolding pairs_after
    turn_none n =
        cond_ind goes others held (λ h. h ≡ held)
        (λ t. select_all (λ m. not (joins l.tail l.head m)) held
        (λ m h. is_true (not_T (joins l.tail l.head m) (λ u. n (Memᴰ.cast (sym (joined u)) h)))))
        (λ t. refl)

    turn_select : (f : Link → Bool) × (pairs_after p held l ≡ select f held)
    unfolding pairs_after
    turn_select =
        cond_ind goes others held (λ h. (f : Link → Bool) × (h ≡ select f held)) (λ t. (λ m. not (joins l.tail l.head m), refl))
        (λ t. (λ m. true, sym (select_all (λ m. true) held (λ m h. refl))))

    pub turn_proper : AreProper held → AreProper (pairs_after p held l)
    turn_proper h m n = h m (turn_mem n)

    -- a pair that is dropped goes by two others that are held
    pub record Via (k : ℕ) : Type 0 where
      pub first : Memᴰ (link l.tail k) held
      pub second : Memᴰ (link k l.head) held
      pub splits : distance p l.tail l.head ≡ distance p l.tail k + distance p k l.head

    pub via : (k : ℕ) → T (is_via p held l k) → Via k
    unfolding is_via
    via k t =
        let i = l.tail in
        let j = l.head in
        let a = and_parts (is_held held i k && is_held held k j) (eqb (distance p i j) (distance p i k + distance p k j)) t in
        let b = and_parts (is_held held i k) (is_held held k j) a.0 in
        record { first = held_mem held i k b.0; second = held_mem held k j b.1; splits = eqb→eq (distance p i j) _ a.1 }

    -- "for some k, required and other than both"
    pub via_other : AreProper held → {k : ℕ} → Via k → Memᴰ k (required p) × (l.tail ≢ k) × (k ≢ l.head)
    via_other h {k} v =
        ((h (link l.tail k) v.first).head, (h (link l.tail k) v.first).apart, (h (link k l.head) v.second).apart)

  -- ---- each pair held is a chain of those held at the end

  abbrev pub ChainOf : List Link → ℕ → ℕ → Type 0
  ChainOf held i j = (ls : List Link) × IsChainOf held i ls j × (chain_cost p ls ≡ distance p i j)

  both_chains : (held : List Link) (i j k : ℕ) → distance p i j ≡ distance p i k + distance p k j → ChainOf held i k → ChainOf held k j
      → ChainOf held i j
  both_chains held i j k e x y =
      let c = chain_cost_lem p x.0 y.0 in
      let s = x.2 in
      let t = y.2 in
      (x.0 ++ y.0, chain_append held i k j x.0 y.0 x.1 y.1, omega arith)

  abbrev Goal : List Link → Link → Type 0
  Goal end l = ChainOf end l.tail l.head

  -- one turn: a pair that is dropped is a chain of two that stay
  turn_chain : (held end : List Link) (x : Link) → AreProper held → ((l : Link) → Memᴰ l (pairs_after p held x) → Goal end l)
      → (l : Link) → Memᴰ l held → Goal end l
  turn_chain held end x h rest l m = elim (test (joins x.tail x.head l)) [
    | inr t ↦ rest l (mem_turn held x m (λ e. T_not (joins x.tail x.head l) t (joins_same e)))
    | inl t ↦ subst⁻¹ (Goal end) (joined t) (elim (test (any_of (is_via p held x) (required p))) [
      | inr g ↦ rest x (subst⁻¹ (Memᴰ x) (turn_stays held x g) (Memᴰ.cast (sym (joined t)) m))
      | inl g ↦
          let r = any_of_at (is_via p held x) (required p) g in
          let k = r.0 in
          let v = via held x k r.2 in
          let o = via_other held x h v in
          both_chains end x.tail x.head k v.splits
          (rest (link x.tail k) (mem_turn held x v.first (λ e. o.2 (ap (λ (z : Link). z.head) e))))
          (rest (link k x.head) (mem_turn held x v.second (λ e. o.1 (sym (ap (λ (z : Link). z.tail) e)))))
    ])
  ]

  held_chain : (held ls : List Link) → AreProper held → (l : Link) → Memᴰ l held → Goal (thinned p held ls) l
  unfolding thinned
  held_chain held [] h l m = (l ∷ [], (refl, m, refl), omega arith)
  held_chain held (x ∷ ls) h l m =
      turn_chain held (thinned p (pairs_after p held x) ls) x h (λ k n. held_chain (pairs_after p held x) ls (turn_proper held x h) k n) l m

  -- ---- what is held at the end is a selection of what was held

  thinned_select : (held ls : List Link) → (f : Link → Bool) × (thinned p held ls ≡ select f held)
  unfolding thinned
  thinned_select held [] = (λ m. true, sym (select_all (λ m. true) held (λ m h. refl)))
  thinned_select held (l ∷ ls) =
      let a = turn_select held l in
      let b = thinned_select (pairs_after p held l) ls in
      (λ m. a.0 m && b.0 m, b.1 ∙ ap (select b.0) a.1 ∙ select_select b.0 a.0 held)

  pub thinned_proper : (held ls : List Link) → AreProper held → AreProper (thinned p held ls)
  thinned_proper held ls h l m = let s = thinned_select held ls in h l (select_mem s.0 held (subst (Memᴰ l) s.1 m)).0

  pub thinned_append : (held ls ms : List Link) → thinned p held (ls ++ ms) ≡ thinned p (thinned p held ls) ms
  unfolding thinned
  thinned_append held [] ms = refl
  thinned_append held (l ∷ ls) ms = thinned_append (pairs_after p held l) ls ms

  -- pairs that are not held need no turn
  pub thinned_skip : (f : Link → Bool) (held ls : List Link) → ((l : Link) → Memᴰ l held → T (f l))
      → thinned p held (select f ls) ≡ thinned p held ls
  unfolding thinned select
  thinned_skip f held [] h = refl
  thinned_skip f held (l ∷ ls) h =
      cond_ind (f l) (l ∷ select f ls) (select f ls) (λ ms. thinned p held ms ≡ thinned p (pairs_after p held l) ls)
      (λ t. thinned_skip f (pairs_after p held l) ls (λ m n. h m (turn_mem held l n)))
      (λ t. thinned_skip f held ls h ∙ ap (λ (k : List Link). thinned p k ls) (sym (turn_none held l (λ m. T_not (f l) t (h l m)))))

  pub links_proper : AreProper (links p)
  unfolding links
  links_proper = thinned_proper (proper_pairs p) (proper_pairs p) proper

  links_chosen : (f : Link → Bool) × (links p ≡ select f (pairs (required p)))
  unfolding links proper_pairs
  links_chosen =
      let s = thinned_select (proper_pairs p) (proper_pairs p) in
      (λ l. not (eqb l.tail l.head) && s.0 l, s.1 ∙ select_select s.0 (λ l. not (eqb l.tail l.head)) (pairs (required p)))

  -- the links are the pairs of required vertices that are held at the end, in order
  pub links_select : links p ≡ select (λ l. is_held (links p) l.tail l.head) (pairs (required p))
  links_select =
      subst⁻¹ (λ (ls : List Link). ls ≡ select (λ l. is_held ls l.tail l.head) (pairs (required p))) links_chosen.1
      (again links_chosen.0 (pairs (required p)))
    where
      again : (f : Link → Bool) (xs : List Link) → select f xs ≡ select (λ l. is_held (select f xs) l.tail l.head) xs
      again f xs = select_cong f (λ l. is_held (select f xs) l.tail l.head) xs (λ x m.
          same_test (f x) (is_held (select f xs) x.tail x.head) (λ t. mem_held (select f xs) x.tail x.head (mem_select f m t))
          (λ t. (select_mem f xs (held_mem (select f xs) x.tail x.head t)).1))

-- ---- the law

module _ (p : Plan) (ok : WellFormed p) where
  abbrev pub Chain : ℕ → ℕ → Type 0
  Chain i j = ChainOf p (links p) i j

  pub chain : (i j : ℕ) → Memᴰ i (required p) → Memᴰ j (required p) → Chain i j
  unfolding links
  chain i j mi mj = elim (ℕ_discrete i j) [
    | yes e ↦ ([], e, (let z = distance_self p (bounded ok).ends i in let x = ap (distance p i) e in omega arith))
    | no n ↦ held_chain p (proper_pairs p) (proper_pairs p) (proper p) (link i j) (mem_proper p mi mj n)
  ]

-- the ends of a link are required
pub link_ends : (p : Plan) {l : Link} → Memᴰ l (links p) → Memᴰ l.tail (required p) × Memᴰ l.head (required p)
link_ends p {l} m = let h = links_proper p l m in (h.tail, h.head)
