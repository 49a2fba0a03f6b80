-- Links that are held, link by link: each is looked at, and the set of its source is kept.
use Rattle.std.specs.Prelude.{◌≡◌, refl, ◌≢◌, Bool, true, false, not, List, ℕ, ◌-◌, ◌≤◌, ◌<◌, get_or, T}
use Rattle.std.proofs.Common.{sym, ap, ◌∙◌}
use Rattle.std.proofs.Math.Path.{subst⁻¹}
use Rattle.arborescence.specs.Reach.{reaches_all}
use Rattle.arborescence.specs.Laws.Reach.{reaches_cong}
use Rattle.tree_check.specs.Tree.{IsEntry, source_set, IsHeldTree}

-- a test says whether something holds
abbrev pub Says : Bool → Type 0 → Type 0
Says b P = (b ≡ true → P) × (P → b ≡ true)

never : false ≡ true → ⊥
never e = subst⁻¹ T e tt

pub says_no : {P : Type 0} → (P → ⊥) → Says false P
says_no h = ((λ e. absurd (never e)), λ p. absurd (h p))

pub both : (b : Bool) → b ≡ true → not b ≡ true → ⊥
both true e f = never f
both false e f = never e

pub plain : (b : Bool) → not b ≡ false → b ≡ true
plain true e = refl
plain false e = sym e

-- ---- one link

module _ (links : List Bool) (component : List ℕ) (t h q : ℕ) where
  abbrev Entry : Type 0
  Entry = IsEntry links component t h q

  pub other_head : (j x : ℕ) → j ≡ h → x ≡ get_or component j 0 → x ≢ q → Says false Entry
  other_head j x ej ex n = says_no (λ e. n (ex ∙ ap (λ y. get_or component y 0) ej ∙ e.head))

-- ---- all links

module _ (links : List Bool) (component tails heads : List ℕ) where
  abbrev pub EntryAt : ℕ → Type 0
  EntryAt q = IsEntry links component (get_or tails (q - 1) 0) (get_or heads (q - 1) 0) q

  abbrev pub Checked : List ℕ → ℕ → Type 0
  Checked sets j = EntryAt j × (get_or sets j 0 ≡ source_set component tails j)

  pub all_right : (sets : List ℕ) (k : ℕ) (b : Bool) → ((j : ℕ) → 1 ≤ j → j < k → Checked sets j) → b ≡ reaches_all (λ q. get_or sets q 0) k
      → Says b (IsHeldTree links component tails heads k)
  all_right sets k b h e =
      let c = reaches_cong (λ q. get_or sets q 0) (source_set component tails) k (λ q one l. (h q one l).1) in (
        (λ t. record { enters = λ q one l. (h q one l).0; arrives = sym (e ∙ c) ∙ t }),
        λ t. e ∙ c ∙ t.arrives,
      )
