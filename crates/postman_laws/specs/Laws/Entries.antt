-- The arborescence of a route that starts in component 0: for each other component, the first link that enters it. It comes from a
-- component that was entered before, so that going back arrives at component 0.
use Rattle.std.specs.Prelude.{◌≡◌, ◌≢◌, Bool, not, cond, T}
use Rattle.std.proofs.Math.Path.{refl, ap, subst⁻¹}
use Rattle.std.proofs.Common.{sym, ◌∙◌, inl, inr, one-add, arith, eqb→eq, T_not}
use mathlib.Core.List.Memᴰ
use mathlib.Core.List.{List, [], ◌∷◌, ◌++◌, map, Memᴰ, append_assoc}
use Prim.Native.Nat.{ℕ, zero, suc, ◌-◌, ◌<◌}
use Rattle.std.proofs.Math.Dec.{eqb, eqb_refl, not_T}
use Rattle.postman.specs.Lists.{up_from, iterate}
use Rattle.postman.specs.Plan.{Plan, arc_at}
use Rattle.postman.specs.Link.{Link, links}
use Rattle.postman.specs.Component.{component, component_count}
use Rattle.postman.specs.Arborescence.{parent}
use Rattle.postman.specs.Laws.Tests.{cond_ind}
use Rattle.postman.specs.Laws.Membership.{get_d_map_up_from}
use Rattle.postman_laws.specs.Laws.Occurrences.{mem?}
use Rattle.postman_laws.specs.Laws.Distance.{InPlan}
use Rattle.postman_laws.specs.Laws.Required.{required_mem}
use Rattle.postman_laws.specs.Laws.Component.{component_lt, arc_component}
use Rattle.postman_laws.specs.Laws.Link.{link_ends}
use Rattle.postman_laws.specs.Laws.Route.{Move, link, arc, route_links, route_arcs, IsRoute}

-- the first link that passes a test
first : (Link → Bool) → List Link → Link
first f [] = record { tail = 0; head = 0 }
first f (l ∷ ls) = cond (f l) l (first f ls)

first_at : (f : Link → Bool) (pre : List Link) (l : Link) (post : List Link) → ((m : Link) → Memᴰ m pre → T (not (f m))) → T (f l)
    → first f (pre ++ l ∷ post) ≡ l
unfolding first
first_at f [] l post h t = cond_ind (f l) l (first f post) (λ z. z ≡ l) (λ u. refl) (λ u. absurd (T_not (f l) u t))
first_at f (m ∷ pre) l post h t =
    let r = first_at f pre l post (λ n k. h n (Memᴰ.tail k)) t in
    cond_ind (f m) m (first f (pre ++ l ∷ post)) (λ z. z ≡ l) (λ u. absurd (T_not (f m) (h m (Memᴰ.head refl)) u)) (λ u. r)

module _ (p : Plan) (whole : List Link) where
  -- the first link that enters component q
  unfoldable pub entry : ℕ → Link
  unfolding first
  entry q = first (λ l. eqb (component p l.head) q) whole

  -- these links, for components 1, 2, and so on
  unfoldable pub entries : List Link
  unfolding entry
  entries = map entry (up_from 1 (component_count p - 1))

  -- what is shown of each component that the route has entered
  pub record Good (q : ℕ) : Type 0 where
    pub back : (m : ℕ) × (iterate m (parent p entries) q ≡ 0)
    pub found : q ≢ 0
        → Memᴰ (entry q) whole × Memᴰ (entry q) (links p) × (component p (entry q).head ≡ q) × (component p (entry q).tail ≢ q)

  pub parent_is : (q : ℕ) → q ≢ 0 → q < component_count p → parent p entries q ≡ component p (entry q).tail
  unfolding parent entries
  parent_is zero h l = absurd (h refl)
  parent_is (suc q) h l =
      ap (λ (z : Link). component p z.tail) (get_d_map_up_from entry 1 (component_count p - 1) q _ (omega arith) ∙ ap entry (one-add q))

  abbrev Entered : List Link → List ℕ → Type 0
  Entered pre qs = (l : Link) → Memᴰ l pre → Memᴰ (component p l.head) qs

module _ (p : Plan) (ok : InPlan p) (whole : List Link) where
  step_link : (pre post : List Link) (l : Link) (qs : List ℕ) → whole ≡ pre ++ l ∷ post → Memᴰ l (links p) → Entered p whole pre qs
      → ((q : ℕ) → Memᴰ q qs → Good p whole q) → Memᴰ (component p l.tail) qs → (Memᴰ (component p l.head) qs → ⊥)
      → component p l.head ≢ 0 → Good p whole (component p l.head)
  unfolding entry iterate
  step_link pre post l qs w f en g mt n nz =
      let q = component p l.head in
      let e : entry p whole q ≡ l = ap (first (λ l. eqb (component p l.head) q)) w
      ∙ first_at (λ l. eqb (component p l.head) q) pre l post
      (λ m k. not_T (eqb (component p m.head) q) (λ t. n (Memᴰ.cast (sym (eqb→eq (component p m.head) q t)) (en m k))))
      (eqb_refl q) in
      let b = (g (component p l.tail) mt).back in
      let i : parent p (entries p whole) q ≡ component p l.tail =
      parent_is p whole q nz (component_lt p ok (link_ends p f).1) ∙ ap (λ (z : Link). component p z.tail) e in
      record {
        back = (suc b.0, ap (iterate b.0 (parent p (entries p whole))) i ∙ b.1);
        found = λ k. subst⁻¹
            (λ (z : Link). Memᴰ z whole × Memᴰ z (links p) × (component p z.head ≡ q) × (component p z.tail ≢ q)) e
            (subst⁻¹ (λ z. Memᴰ l z) w (Memᴰ.append_right pre (Memᴰ.head refl)), f, refl, λ x. n (Memᴰ.cast (sym x) mt));
      }

  -- the components that a route enters
  pub follow : (ms : List Move) (pre : List Link) (qs : List ℕ) (i e : ℕ) → IsRoute p i ms e → whole ≡ pre ++ route_links ms
      → Entered p whole pre qs
      → ((q : ℕ) → Memᴰ q qs → Good p whole q) → Memᴰ (component p i) qs → Memᴰ 0 qs
      → (rs : List ℕ) × ((q : ℕ) → Memᴰ q rs → Good p whole q) × ((q : ℕ) → Memᴰ q qs → Memᴰ q rs)
      × ((k : ℕ) → Memᴰ k (route_arcs ms) → Memᴰ (component p (arc_at p.arcs k).tail) rs)
  follow [] pre qs i e h w en g mi z = (qs, g, (λ q m. m), λ k m. absurd (Memᴰ.not-nil m))
  follow (link l ∷ ms) pre qs i e h w en g mi z =
      let mt = Memᴰ.cast (ap (component p) h.0) mi in
      let w' = w ∙ sym (append_assoc pre (l ∷ []) (route_links ms)) in
      elim (mem? (component p l.head) qs) [
        | inl m ↦ follow ms (pre ++ l ∷ []) qs l.head e h.2 w' (grow pre l qs en m) g m z
        | inr n ↦
            let q = component p l.head in
            let f = step_link pre (route_links ms) l qs w h.1 en g mt n (λ x. n (Memᴰ.cast x z)) in
            let r = follow ms (pre ++ l ∷ []) (q ∷ qs) l.head e h.2 w'
            (grow pre l (q ∷ qs) (λ m k. Memᴰ.tail (en m k)) (Memᴰ.head refl))
            (λ x m. elim (Memᴰ.cases_cons m) [ inl y ↦ subst⁻¹ (Good p whole) y f | inr m' ↦ g x m' ]) (Memᴰ.head refl)
            (Memᴰ.tail z) in
            (r.0, r.1, (λ x m. r.2 x (Memᴰ.tail m)), r.3)
      ]
    where
      grow : (pre : List Link) (l : Link) (qs : List ℕ) → Entered p whole pre qs → Memᴰ (component p l.head) qs
          → Entered p whole (pre ++ l ∷ []) qs
      grow pre l qs en m n k = elim (Memᴰ.append_cases pre k) [
        | inl a ↦ en n a
        | inr b ↦ Memᴰ.cast (ap (λ (z : Link). component p z.head) (Memᴰ.eq_of_singleton b)) m
      ]
  follow (arc k ∷ ms) pre qs i e h w en g mi z =
      let a = arc_at p.arcs k in
      let mt = Memᴰ.cast (ap (component p) h.0) mi in
      let c = arc_component p ok (required_mem p k h.1) in
      let r = follow ms pre qs a.head e h.2 w en g (Memᴰ.cast (sym c) mt) z in (
        r.0,
        r.1,
        r.2,
        λ j m. elim (Memᴰ.cases_cons m) [
          | inl y ↦ Memᴰ.cast (ap (λ x. component p (arc_at p.arcs x).tail) y) (r.2 _ mt)
          | inr m' ↦ r.3 j m'
        ],
      )
