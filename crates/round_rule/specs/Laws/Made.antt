-- What the code makes is what the definitions say: over the values that its functions answer.
use Rattle.std.specs.Prelude.{◌≡◌, Bool, true, false, List, ℕ, ◌+◌, ◌-◌, ◌%◌, ◌≤◌, ◌<◌, eqb, ℤ}
use Rattle.std.proofs.Math.Path.{refl, sym, subst⁻¹}
use Rattle.std.proofs.Common.{ap, ◌∙◌, arith}
use borrow.Author.Tests.{le-leb, lt-leb, lt-ltb, le-ltb}
use Rattle.std.specs.Int.Signed.{lt_z}
use Rattle.postman.specs.Plan.{Plan}
use Rattle.plan.specs.declared.Plan.{Plan as PlanRecord}
use Rattle.plan.specs.Records.{plan_value}
use Rattle.plan.specs.Laws.Records.{plan_vertices}
use Rattle.held_tree.specs.declared.cheaper.Found.{Found}
use Rattle.renumbering.specs.declared.numbering.Numbering.{Numbering}
use Rattle.renumbering.specs.declared.shuffle.Drawn.{Drawn}
use Rattle.renumbering.specs.Numbering.{unchanged}
use Rattle.renumbering.specs.Shuffle.{shuffled}
use Rattle.renumbering.specs.Renumbered.{carried_in}
use Rattle.round_rule.specs.declared.kept.Kept.{Kept}
use Rattle.round_rule.specs.declared.trial.Trial.{Trial}
use Rattle.round_rule.specs.declared.trial.Chosen.{Chosen}
use Rattle.round_rule.specs.Rounds.{begun, with_drive, with_floor, with_base, counted, is_gone_on, gone_on, numbers_of, exchanged_by, next_round}
use Rattle.round_rule.specs.Laws.Kept.{trees_same}

abbrev kept_of : Trial → ℕ → Trial → ℤ → List ℤ → Trial → ℕ → ℕ → ℕ → Kept
kept_of x c y f u b l t r = record { drive = x; cost = c; bound = y; floor = f; multipliers = u; base = b; left = l; trees = t; random = r }

-- ---- what is kept

pub begun_as : (x : Numbering) (budget cost : ℕ) (f floor : ℤ) (u : List ℤ) (l left trees : ℕ) → x ≡ unchanged → f ≡ floor → l ≡ left
    → kept_of (record { numbering = x; tries = budget }) cost (record { numbering = x; tries = budget }) f u
    (record { numbering = x; tries = budget }) l trees 1 ≡ begun budget cost floor u left trees
unfolding begun
begun_as x budget cost f floor u l left trees e g h =
    λ i. kept_of (record { numbering = e i; tries = budget }) cost (record { numbering = e i; tries = budget }) (g i) u
    (record { numbering = e i; tries = budget }) (h i) trees 1

module _ (x : Trial) (k : Kept) where
  pub drive_left : (cost : ℕ) → k.cost ≤ cost → k ≡ with_drive x cost k
  unfolding with_drive
  drive_left cost l = let e = le-ltb cost k.cost l in rw e refl

  pub drive_taken : (cost : ℕ) (f : ℤ) → cost < k.cost → f ≡ k.floor
      → kept_of x cost k.bound f k.multipliers k.base k.left k.trees k.random ≡ with_drive x cost k
  unfolding with_drive
  drive_taken cost f l g = let e = lt-ltb cost k.cost l in
      rw e (ap (λ (f : ℤ). kept_of x cost k.bound f k.multipliers k.base k.left k.trees k.random) g)

  pub floor_taken : (f floor : ℤ) (u : List ℤ) → lt_z k.floor floor ≡ true → f ≡ floor
      → kept_of k.drive k.cost x f u k.base k.left k.trees k.random ≡ with_floor x floor u k
  unfolding with_floor
  floor_taken f floor u e g = rw e (ap (λ (f : ℤ). kept_of k.drive k.cost x f u k.base k.left k.trees k.random) g)

  pub floor_left : (floor : ℤ) (u : List ℤ) → lt_z k.floor floor ≡ false → k ≡ with_floor x floor u k
  unfolding with_floor
  floor_left floor u e = rw e refl

  pub base_left : (left : ℕ) → k.left < left → k ≡ with_base x left k
  unfolding with_base
  base_left left l = let e = lt-leb left k.left l in rw e refl

  pub base_taken : (left : ℕ) (f : ℤ) → left ≤ k.left → f ≡ k.floor
      → kept_of k.drive k.cost k.bound f k.multipliers x left k.trees k.random ≡ with_base x left k
  unfolding with_base
  base_taken left f l g = let e = le-leb left k.left l in
      rw e (ap (λ (f : ℤ). kept_of k.drive k.cost k.bound f k.multipliers x left k.trees k.random) g)

pub counted_as : (k : Kept) (trees random : ℕ) (f : ℤ) → f ≡ k.floor
    → kept_of k.drive k.cost k.bound f k.multipliers k.base k.left (k.trees + trees) random ≡ counted trees random k
unfolding counted
counted_as k trees random f g =
    ap (λ (f : ℤ). kept_of k.drive k.cost k.bound f k.multipliers k.base k.left (k.trees + trees) random) g

-- ---- one round

module _ (k : Kept) (x : Numbering) where
  pub drive_numbers : 1000000000 < k.left → x ≡ k.drive.numbering → x ≡ numbers_of k
  unfolding numbers_of
  drive_numbers l e = let t = lt-ltb 1000000000 k.left l in rw t e

  pub base_numbers : k.left ≤ 1000000000 → x ≡ k.base.numbering → x ≡ numbers_of k
  unfolding numbers_of
  base_numbers l e = let t = le-ltb 1000000000 k.left l in rw t e

pub exchanged_as : (r : PlanRecord) (budget : ℕ) (k : Kept) (x : Numbering) (d : Drawn) → x ≡ numbers_of k
    → d ≡ shuffled r.n (record { numbering = x; random = k.random }) 2
    → record { trial = record { numbering = d.numbering; tries = budget }; random = d.random } ≡ exchanged_by (plan_value r) budget k
unfolding exchanged_by
exchanged_as r budget k x d g e =
    ap (λ (d : Drawn). record { trial = record { numbering = d.numbering; tries = budget }; random = d.random })
    (e ∙ ap (λ (y : Numbering). shuffled r.n (record { numbering = y; random = k.random }) 2) g
    ∙ ap (λ n. shuffled n (record { numbering = numbers_of k; random = k.random }) 2) (sym (plan_vertices r)))

-- whether a round goes on
module _ (round left : ℕ) where
  pub few_on : left ≤ 100000000 → eqb (round % 2) 0 ≡ is_gone_on round left
  unfolding is_gone_on
  few_on l = let t = le-leb left 100000000 l in rw t refl

  pub none_on : 100000000 < left → left ≤ 1000000000 → false ≡ is_gone_on round left
  unfolding is_gone_on
  none_on l m = let t = lt-leb left 100000000 l in let b = le-leb left 1000000000 m in rw (t, b) refl

  pub many_on : 1000000000 < left → eqb (round % 8) 0 ≡ is_gone_on round left
  unfolding is_gone_on
  many_on l = let t = lt-leb left 100000000 (omega arith) in let b = lt-leb left 1000000000 l in rw (t, b) refl

pub ruleset of_rounds = (few_on, none_on, many_on)

module _ (p : Plan) (budget round : ℕ) (k : Kept) (c : Chosen) (b : Bool) (is : b ≡ is_gone_on round k.left) where
  pub goes_on_as : b ≡ true → c ≡ gone_on budget k → c ≡ next_round p budget round k
  unfolding next_round
  goes_on_as e f = let t = sym is ∙ e in rw t f

  pub anew_as : b ≡ false → c ≡ exchanged_by p budget k → c ≡ next_round p budget round k
  unfolding next_round
  anew_as e f = let t = sym is ∙ e in rw t f

-- what is kept of what a round finds
abbrev pub kept_from : Chosen → Found → ℕ → Kept → Kept
kept_from c a trees k =
    let x = c.trial in
    counted trees c.random
    (with_base x (a.number - x.tries)
    (with_floor x a.floor (carried_in x.numbering.to a.multipliers) (with_drive x a.best.cost k)))

pub kept_as : (c : Chosen) (a : Found) (trees : ℕ) (k d t b r : Kept) (f : ℤ) (u : List ℤ) (left : ℕ) → f ≡ a.floor
    → d ≡ with_drive c.trial a.best.cost k → u ≡ carried_in c.trial.numbering.to a.multipliers
    → t ≡ with_floor c.trial f u d → left ≡ a.number - c.trial.tries → b ≡ with_base c.trial left t
    → r ≡ counted trees c.random b → r ≡ kept_from c a trees k
kept_as c a trees k d t b r f u left ef ed eu et el eb er =
    let x = c.trial in
    let d' = with_drive x a.best.cost k in
    let u' = carried_in x.numbering.to a.multipliers in
    let t' : t ≡ with_floor x a.floor u' d' =
    et ∙ ap (λ (f : ℤ). with_floor x f u d) ef ∙ ap (λ (u : List ℤ). with_floor x a.floor u d) eu
    ∙ ap (with_floor x a.floor u') ed in
    let b' : b ≡ with_base x (a.number - x.tries) (with_floor x a.floor u' d') =
    eb ∙ ap (λ (l : ℕ). with_base x l t) el ∙ ap (with_base x (a.number - x.tries)) t' in
    er ∙ ap (counted trees c.random) b'

-- the trees that are counted
pub few_counted : (x : Trial) (cost : ℕ) (f : ℤ) (u : List ℤ) (left : ℕ) (k c t b : Kept) (n : ℕ) → c ≡ with_drive x cost k
    → t ≡ with_floor x f u c → b ≡ with_base x left t → k.trees ≤ n → b.trees ≤ n
few_counted x cost f u left k c t b n e g h l =
    subst⁻¹ (λ m. m ≤ n)
    (ap (λ (k : Kept). k.trees) (h ∙ ap (with_base x left) (g ∙ ap (with_floor x f u) e)) ∙ trees_same x cost f u left k) l
