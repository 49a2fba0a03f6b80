-- The completions of a branch: those of the branches below it, one candidate of component a after the other; none below a candidate that
-- would close a circle, by `alike` and `never` of the count; and their number by the count, whose law is over sources under any names.
use Rattle.std.specs.Prelude.{◌≡◌, refl, ◌≢◌, Bool, true, false, get_or}
use Rattle.std.proofs.Math.Path.{sym, ap, subst⁻¹}
use Rattle.std.proofs.Common.{◌∙◌, subst, ne_eqb}
use Rattle.std.proofs.Math.Logic.{inl, inr}
use Rattle.std.proofs.Math.Bool.{cond}
use mathlib.Core.List.Memᴰ
use mathlib.Core.List.{List, [], ◌∷◌, map, flat_map, Memᴰ, map-map}
use Prim.Native.Nat.{ℕ, suc, ◌+◌, ◌-◌, ◌≤◌, ◌<◌}
use Rattle.std.proofs.Math.Decide.{ℕ_discrete}
use native.Mathlib.Omega.{arith}
use Rattle.std.proofs.Math.ListN.{length, length-map}
use Rattle.std.proofs.Math.Dec.{eqb}
use Rattle.postman.specs.Lists.{select, up_from, choices, occurrences}
use Rattle.postman.specs.Plan.{Plan}
use Rattle.postman.specs.Link.{Link}
use Rattle.postman.specs.Component.{component, component_count}
use Rattle.postman.specs.Arborescence.{candidates, arborescences}
use Rattle.postman.specs.Steps.{no_link}
use Rattle.postman.specs.Laws.Tests.{is_true, eqb_same}
use Rattle.postman.specs.Laws.Membership.{mem_map, map_mem, select_cong, mem_get_d, choices_mem, up_from_mem}
use Rattle.postman_laws.specs.Laws.Distance.{InPlan}
use Rattle.postman_laws.specs.Laws.Lists.{map_cong, select_map, select_flat_map, flat_map_cong}
use Rattle.postman_laws.specs.Laws.Selection.{select_none}
use Rattle.small_counts.specs.Recursion.{merged, count_trees}
use Rattle.small_counts.specs.Arrival.{renamed, form_tree}
use Rattle.small_counts.specs.Laws.Arrival.{renamed_moved, renamed_same}
use Rattle.small_counts.specs.Laws.Choices.{passing, passing_map, choices_map}
use Rattle.small_counts.specs.Laws.Recursion.{entries_in, AreInside, occurrences_renamed, count_cong, alike, never, counts}
use Rattle.tree_count.specs.Laws.Plan as plan
use Rattle.tree_bounds.specs.Branch.{source_by, renamed_by, Named, sources_by, left_choices, completions, entered}

module _ (p : Plan) (ok : InPlan p) (some : 1 ≤ component_count p) where
  abbrev k : ℕ
  k = component_count p

  -- the components from a on, which are left
  abbrev left : ℕ → List ℕ
  left a = up_from a (k - a)

  pub source_lt : (q : ℕ) (l : Link) → Memᴰ l (candidates p q) → component p l.tail < k
  unfolding plan.sources
  source_lt q l m = plan.source_lt p ok some q (component p l.tail) (mem_map (λ (l : Link). component p l.tail) m)

  module _ (names : ℕ → ℕ) (a : ℕ) (named : Named p names a) where
    pub named_inside : AreInside (sources_by p names) (left a)
    named_inside q x g m =
        let r = map_mem (source_by p names) (candidates p q) m in
        subst⁻¹ (λ z. Memᴰ z (0 ∷ left a)) r.2 (named (component p r.0.tail) (source_lt q r.0 r.1))

  -- choices of links are choices of sources
  chosen_sources : (names : ℕ → ℕ) (vs : List ℕ) {t : List Link} → Memᴰ t (choices (map (candidates p) vs))
      → Memᴰ (map (source_by p names) t) (choices (map (sources_by p names) vs))
  chosen_sources names vs {t} m =
      subst (λ (l : List (List ℕ)). Memᴰ (map (source_by p names) t) l)
      (sym (choices_map (source_by p names) (map (candidates p) vs)) ∙ ap choices (map-map (map (source_by p names)) (candidates p) vs))
      (mem_map (map (source_by p names)) m)

  -- ---- one component more is chosen for

  module _ (names : ℕ → ℕ) (a : ℕ) (one : 1 ≤ a) (more : a < k) (named : Named p names a) where
    abbrev n : ℕ
    n = k - suc a

    size : a + suc n ≡ k
    size = omega arith

    left_first : left a ≡ a ∷ up_from (suc a) n
    unfolding up_from
    left_first = let e : k - a ≡ suc n = omega arith in ap (up_from a) e

    abbrev test : List Link → Bool
    test t = form_tree k a (map (source_by p names) t)

    inside : AreInside (sources_by p names) (a ∷ up_from (suc a) n)
    inside = subst (AreInside (sources_by p names)) left_first (named_inside names a named)

    module _ (l : Link) (m : Memᴰ l (candidates p a)) where
      abbrev x : ℕ
      x = source_by p names l

      entered_is : select test (map (λ t. l ∷ t) (choices (map (candidates p) (up_from (suc a) n)))) ≡ entered p names a l
      unfolding completions left_choices
      entered_is = elim (ℕ_discrete x a) [
        | yes d ↦
            select_none test (map (λ t. l ∷ t) (choices (map (candidates p) (up_from (suc a) n)))) (λ t g.
            let r = map_mem (λ (t : List Link). l ∷ t) (choices (map (candidates p) (up_from (suc a) n))) g in
            ap test r.2
            ∙ never k a n one size (sources_by p names) inside x (mem_map (source_by p names) m) (map (source_by p names) r.0)
            (chosen_sources names (up_from (suc a) n) r.1) d)
            ∙ sym (ap (λ b. cond b [] (map (λ t. l ∷ t) (completions p (renamed_by names a x) (suc a))))
            (is_true {b = eqb x a} (eqb_same d)))
        | no d ↦
            select_map test (λ t. form_tree k (suc a) (map (source_by p (renamed_by names a x)) t)) (λ t. l ∷ t)
            (choices (map (candidates p) (up_from (suc a) n))) (λ t g.
            alike k a n one size (sources_by p names) inside x (mem_map (source_by p names) m) (map (source_by p names) t)
            (chosen_sources names (up_from (suc a) n) g) d
            ∙ ap (form_tree k (suc a)) (map-map (renamed a x) (source_by p names) t))
            ∙ sym (ap (λ b. cond b [] (map (λ t. l ∷ t) (completions p (renamed_by names a x) (suc a)))) (ne_eqb x a d))
      ]

    -- THE STEP
    pub completions_step : completions p names a ≡ flat_map (entered p names a) (candidates p a)
    unfolding completions left_choices choices
    completions_step =
        ap (λ (vs : List ℕ). select test (choices (map (candidates p) vs))) left_first
        ∙ select_flat_map (λ (l : Link). map (λ t. l ∷ t) (choices (map (candidates p) (up_from (suc a) n)))) test (candidates p a)
        ∙ flat_map_cong (λ (l : Link). select test (map (λ t. l ∷ t) (choices (map (candidates p) (up_from (suc a) n)))))
        (entered p names a)
        (candidates p a) entered_is

    -- the names stay names
    pub still_named : (l : Link) → Memᴰ l (candidates p a) → source_by p names l ≢ a
        → Named p (renamed_by names a (source_by p names l)) (suc a)
    still_named l m o c b = without (named c b)
      where
        apart : (z : ℕ) → z ≢ a → Memᴰ z (0 ∷ left a) → Memᴰ z (0 ∷ up_from (suc a) n)
        apart z d g = elim (Memᴰ.cases_cons g) [
          | inl e ↦ Memᴰ.head e
          | inr t ↦ elim
              (Memᴰ.cases_cons (subst (λ (vs : List ℕ). Memᴰ z vs) left_first t)) [
                | inl e ↦ absurd (d e)
                | inr u ↦
                    Memᴰ.tail u
              ]
        ]

        without : Memᴰ (names c) (0 ∷ left a) → Memᴰ (renamed a (source_by p names l) (names c)) (0 ∷ up_from (suc a) n)
        without g = elim (ℕ_discrete (names c) a) [
          | yes e ↦ subst⁻¹ (λ z. Memᴰ z (0 ∷ up_from (suc a) n)) (renamed_moved a (source_by p names l) (names c) e)
              (apart (source_by p names l) o (named (component p l.tail) (source_lt a l m)))
          | no d ↦ subst⁻¹ (λ z. Memᴰ z (0 ∷ up_from (suc a) n)) (renamed_same a (source_by p names l) (names c) d) (apart (names c) d g)
        ]

  -- ---- how many they are

  pub completions_count : (names : ℕ → ℕ) (a : ℕ) → 1 ≤ a → a ≤ k → Named p names a
      → length (completions p names a) ≡ count_trees (entries_in (sources_by p names)) (left a)
  unfolding completions left_choices passing
  completions_count names a one more named =
      sym (passing_map (form_tree k a) (map (source_by p names)) (choices (map (candidates p) (left a))))
      ∙ ap (passing (form_tree k a))
      (sym (choices_map (source_by p names) (map (candidates p) (left a)))
      ∙ ap choices (map-map (map (source_by p names)) (candidates p) (left a)))
      ∙ counts k (k - a) a one (omega arith) (sources_by p names) (named_inside names a named)

  -- those behind one candidate
  module _ (names : ℕ → ℕ) (a : ℕ) (one : 1 ≤ a) (more : a < k) (named : Named p names a) (l : Link)
      (m : Memᴰ l (candidates p a)) where
    pub entered_none : source_by p names l ≡ a → entered p names a l ≡ []
    entered_none e =
        ap (λ b. cond b [] (map (λ t. l ∷ t) (completions p (renamed_by names a (source_by p names l)) (suc a))))
        (is_true {b = eqb (source_by p names l) a} (eqb_same e))

    pub entered_some : source_by p names l ≢ a
        → entered p names a l ≡ map (λ t. l ∷ t) (completions p (renamed_by names a (source_by p names l)) (suc a))
    entered_some o =
        ap (λ b. cond b [] (map (λ t. l ∷ t) (completions p (renamed_by names a (source_by p names l)) (suc a))))
        (ne_eqb (source_by p names l) a o)

    -- their number, where component a becomes one with x
    pub entered_count : source_by p names l ≢ a
        → length (entered p names a l) ≡ count_trees (merged (entries_in (sources_by p names)) a (source_by p names l)) (left (suc a))
    unfolding entries_in merged
    entered_count o =
        let x = source_by p names l in
        let new = still_named names a one more named l m o in
        ap length (entered_some o) ∙ length-map (completions p (renamed_by names a x) (suc a)) (λ t. l ∷ t)
        ∙ completions_count (renamed_by names a x) (suc a) (omega arith) (omega arith) new
        ∙ count_cong (left (suc a)) (entries_in (sources_by p (renamed_by names a x))) (merged (entries_in (sources_by p names)) a x)
        (λ q y b c.
        ap (occurrences y) (sym (map-map (renamed a x) (source_by p names) (candidates p q)))
        ∙ occurrences_renamed a x y o (not_a y c) (sources_by p names q))
      where
        not_a : (y : ℕ) → Memᴰ y (0 ∷ left (suc a)) → y ≢ a
        not_a y g d =
            elim (Memᴰ.cases_cons g) [ inl z ↦ omega arith | inr b ↦ (let c = up_from_mem (suc a) (k - suc a) b in omega arith) ]

  -- names that agree
  pub completions_cong : (names other : ℕ → ℕ) (a : ℕ) → ((c : ℕ) → c < k → names c ≡ other c)
      → completions p names a ≡ completions p other a
  unfolding completions left_choices
  completions_cong names other a h =
      select_cong (λ t. form_tree k a (map (source_by p names) t)) (λ t. form_tree k a (map (source_by p other) t))
      (choices (map (candidates p) (left a))) (λ t m.
      ap (form_tree k a) (map_cong (source_by p names) (source_by p other) t (λ l n.
      let c = choices_mem no_link (candidates p) a (k - a) m in
      let r = mem_get_d no_link n in
      let size = c.0 in
      h (component p l.tail)
      (subst (λ (x : Link). component p x.tail < k) r.2
      (source_lt (a + r.0) (get_or t r.0 no_link) (c.1 r.0 (let b = r.1 in omega arith)))))))

  -- ---- the last component is chosen for

  pub completions_last : (names : ℕ → ℕ) (a : ℕ) → a ≡ k → Named p names a → completions p names a ≡ [] ∷ []
  unfolding completions left_choices choices up_from select count_trees
  completions_last names a e named =
      let z : k - a ≡ 0 = omega arith in
      let h = completions_count names a (omega arith) (omega arith) named
      ∙ ap (λ n. count_trees (entries_in (sources_by p names)) (up_from a n)) z in
      let g = ap (λ n. select (λ t. form_tree k a (map (source_by p names) t)) (choices (map (candidates p) (up_from a n)))) z in
      g ∙ one (form_tree k a []) (sym (ap length g) ∙ h)
    where
      none : List Link
      none = []

      one : (b : Bool) → length (cond b (none ∷ []) []) ≡ 1 → cond b (none ∷ []) [] ≡ none ∷ []
      one true h = refl
      one false h = absurd (omega arith)

  -- ---- no component is chosen for

  pub completions_first : completions p (λ c. c) 1 ≡ arborescences p
  unfolding completions left_choices arborescences
  completions_first =
      sym (select_cong _ (λ t. form_tree k 1 (map (source_by p (λ c. c)) t)) (choices (map (candidates p) (up_from 1 (k - 1))))
      (λ t m. plan.alike p ok some t m))
