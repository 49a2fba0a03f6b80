-- Links that pass the test are an arborescence of the plan, and those of an arborescence pass it. The sets hold one source each, so that
-- going back is the same by the sets and by the links.
use Rattle.std.specs.Prelude.{◌≡◌, Bool, length, get_or, take}
use Rattle.std.proofs.Math.Path.{refl, sym, ap, subst⁻¹}
use Rattle.std.proofs.Common.{◌∙◌, subst, length-take}
use mathlib.Core.List.{List, [], ◌∷◌, Memᴰ}
use Prim.Native.Nat.{ℕ, zero, suc, ◌-◌, ◌%◌, ◌^◌, ◌≤◌, ◌<◌}
use native.Mathlib.Omega.{arith}
use Rattle.postman.specs.Lists.{iterate}
use Rattle.postman.specs.Plan.{Plan, WellFormed}
use Rattle.postman.specs.Link.{Link, links}
use Rattle.postman_laws.specs.Laws.Link.{link, held_mem, mem_held, link_ends}
use Rattle.postman.specs.Required.{required}
use Rattle.postman.specs.Component.{component, component_count}
use Rattle.postman.specs.Arborescence.{link_at, parent, Enters, IsArborescence}
use Rattle.postman.specs.Laws.Tests.{of_true, is_true}
use Rattle.postman_laws.specs.Laws.Required.{required_below}
use Rattle.postman_laws.specs.Laws.Component.{component_lt}
use Rattle.postman_laws.specs.Laws.Distance.{InPlan, bounded}
use Rattle.postman_laws.specs.Laws.Iteration.{settle}
use Rattle.required.specs.StepContracts.{IsLinks, IsComponents}
use Rattle.arborescence.specs.BitSet.{Has, has_single, single_has}
use Rattle.arborescence.specs.Laws.Reach.{Arrives, reached_arrives, arrives_reaches, same_steps}
use Rattle.drive_legs.specs.Filled.{links_of}
use Rattle.drive_legs.specs.Laws.Laid.{links_length}
use Rattle.tree_search.specs.Resumed.{HoldsTree}
use Rattle.tree_check.specs.Tree.{IsEntry, source_set, IsHeldTree}

links_at : (n : ℕ) (ts hs : List ℕ) (q : ℕ) → q < n → n ≤ length ts → n ≤ length hs
    → link_at (links_of (take n ts) (take n hs)) q ≡ link (get_or ts q 0) (get_or hs q 0)
unfolding links_of
links_at zero ts hs q l a b = absurd (omega arith)
links_at (suc n) [] hs q l a b = absurd (omega arith)
links_at (suc n) (t ∷ ts) [] q l a b = absurd (omega arith)
links_at (suc n) (t ∷ ts) (h ∷ hs) zero l a b = refl
links_at (suc n) (t ∷ ts) (h ∷ hs) (suc q) l a b = links_at n ts hs q (omega arith) (omega arith) (omega arith)

module _ (p : Plan) (w : WellFormed p) (flags : List Bool) (of : List ℕ) (k : ℕ) (hl : IsLinks p flags) (hc : IsComponents p of k)
    (few : k ≤ 8) (one : 1 ≤ k)
    (tails heads : List ℕ) (long-t : length tails ≡ 8) (long-h : length heads ≡ 8) where
  abbrev m : ℕ
  m = component_count p - 1

  abbrev t : List Link
  t = links_of (take m tails) (take m heads)

  abbrev tail : ℕ → ℕ
  tail q = get_or tails q 0

  abbrev head : ℕ → ℕ
  head q = get_or heads q 0

  abbrev g : ℕ → ℕ
  g = source_set of tails

  count : k ≡ component_count p
  count = hc.all

  ok : InPlan p
  ok = (bounded w).ends

  same : length (take m heads) ≡ length (take m tails)
  same = let a = length-take m tails in let b = length-take m heads in omega arith

  size : length t ≡ m
  size = let c = count in let a = length-take m tails in let e = links_length (take m tails) (take m heads) same in omega arith

  link_at_lem : (q : ℕ) → q < m → link_at t q ≡ link (tail q) (head q)
  link_at_lem q l = let c = count in links_at m tails heads q l (omega arith) (omega arith)

  parent_at : (q : ℕ) → q < m → parent p t (suc q) ≡ component p (tail q)
  unfolding parent
  parent_at q l = ap (λ (x : Link). component p x.tail) (link_at_lem q l)

  -- the set of a source
  set_at : (q : ℕ) → g (suc q) ≡ 2 ^ (get_or of (tail q) 0 % 64)
  set_at q = ap (λ x. 2 ^ (get_or of (tail x) 0 % 64)) (let z : suc q - 1 ≡ q = omega arith in z)

  source_at_lem : (q : ℕ) → tail q < 64 → component p (tail q) < component_count p → get_or of (tail q) 0 % 64 ≡ component p (tail q)
  source_at_lem q l s = let c = count in
      ap (λ x. x % 64) (hc.each (tail q) l) ∙ (let z : component p (tail q) % 64 ≡ component p (tail q) = omega arith in z)

  -- ---- links that pass the test

  module _ (h : IsHeldTree flags of tails heads k) where
    entry_at : (q : ℕ) → q < m → IsEntry flags of (tail q) (head q) (suc q)
    entry_at q l = let c = count in
        subst (λ x. IsEntry flags of (tail x) (head x) (suc q)) (let z : suc q - 1 ≡ q = omega arith in z)
        (h.enters (suc q) (omega arith) (omega arith))

    enters_at_lem : (q : ℕ) → q < m → Enters p (suc q) (link (tail q) (head q))
    enters_at_lem q l =
        let e = entry_at q l in
        record {
          is_link_holds = held_mem (links p) (tail q) (head q) (of_true (sym (hl (tail q) (head q) e.tail_in e.head_in) ∙ e.is_link_holds));
          head = sym (hc.each (head q) e.head_in) ∙ e.head;
          tail = λ z. e.tail (hc.each (tail q) e.tail_in ∙ z);
        }

    agrees : (f : ℕ → ℕ) → Arrives g k f → (q : ℕ) → q < k → parent p t q ≡ f q
    unfolding parent
    agrees f a zero l = sym a.root
    agrees f a (suc q) l =
        let c = count in
        let n : q < m = omega arith in
        let s = component_lt p ok (link_ends p (enters_at_lem q n).is_link_holds).0 in
        let e = single_has (get_or of (tail q) 0 % 64) (f (suc q))
        (subst (λ x. Has x (f (suc q))) (set_at q) (a.source (suc q) (omega arith) l)) in
        parent_at q n ∙ sym (source_at_lem q (entry_at q n).tail_in s) ∙ sym e

    pub sound : IsArborescence p t
    sound =
        let r = reached_arrives g k one (of_true h.arrives) in
        let c = count in
        record {
          size = size;
          enters = λ q l. (let n = size in let u : q < m = omega arith in subst⁻¹ (Enters p (suc q)) (link_at_lem q u) (enters_at_lem q u));
          back = λ q l.
              (let b = r.1.back q (omega arith) in
              (b.0, same_steps (λ x. x < k) r.0 (parent p t) r.1.inside (agrees r.0 r.1) b.0 q (omega arith) ∙ b.1));
        }

    -- THEY ARE A TREE'S
    pub holds_tree : HoldsTree p tails heads
    holds_tree = let c = count in record { tails_fit = omega arith; heads_fit = omega arith; tree = record { same = same; tree = sound } }

  -- ---- the links of an arborescence

  module _ (a : IsArborescence p t) where
    entered_at : (q : ℕ) → q < m → Enters p (suc q) (link (tail q) (head q))
    entered_at q l = let n = size in subst (Enters p (suc q)) (link_at_lem q l) (a.enters q (omega arith))

    ends_at : (q : ℕ) → q < m → Memᴰ (tail q) (required p) × Memᴰ (head q) (required p)
    ends_at q l = link_ends p (entered_at q l).is_link_holds

    tail_small : (q : ℕ) → q < m → tail q < 64
    tail_small q l = required_below p w (ends_at q l).0

    head_small : (q : ℕ) → q < m → head q < 64
    head_small q l = required_below p w (ends_at q l).1

    is_entry : (q : ℕ) → q < m → IsEntry flags of (tail q) (head q) (suc q)
    is_entry q l =
        let e = entered_at q l in
        record {
          tail_in = tail_small q l;
          head_in = head_small q l;
          is_link_holds = hl (tail q) (head q) (tail_small q l) (head_small q l)
              ∙ is_true (mem_held (links p) (tail q) (head q) e.is_link_holds);
          head = hc.each (head q) (head_small q l) ∙ e.head;
          tail = λ z. e.tail (sym (hc.each (tail q) (tail_small q l)) ∙ z);
        }

    inside : (q : ℕ) → q < k → parent p t q < k
    unfolding parent
    inside zero l = l
    inside (suc q) l =
        let c = count in
        let n : q < m = omega arith in
        let s = component_lt p ok (ends_at q n).0 in
        let e = parent_at q n in
        omega arith

    source : (q : ℕ) → 1 ≤ q → q < k → Has (g q) (parent p t q)
    source zero o l = absurd (omega arith)
    source (suc q) o l =
        let c = count in
        let n : q < m = omega arith in
        let e = set_at q ∙ ap (λ x. 2 ^ x) (source_at_lem q (tail_small q n) (component_lt p ok (ends_at q n).0) ∙ sym (parent_at q n)) in
        subst⁻¹ (λ x. Has x (parent p t (suc q))) e (has_single (parent p t (suc q)))

    root : parent p t 0 ≡ 0
    unfolding parent
    root = refl

    back : (q : ℕ) → q < k → (n : ℕ) × (iterate n (parent p t) q ≡ 0)
    back q l = let c = count in a.back q (omega arith)

    -- THEY PASS THE TEST
    pub passes : IsHeldTree flags of tails heads k
    passes = record {
      enters = λ q o l.
          (let c = count in
          subst (λ x. IsEntry flags of (tail (q - 1)) (head (q - 1)) x) (let z : suc (q - 1) ≡ q = omega arith in z)
          (is_entry (q - 1) (omega arith)));
      arrives = is_true (arrives_reaches g k one (parent p t) (record { root = root; inside = inside; source = source; back = back })
          (λ q l. let b = back q l in settle k (parent p t) inside b.0 q root l b.1));
    }
