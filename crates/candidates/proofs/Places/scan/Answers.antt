-- The invariant: behind what was there the list holds the places below x of candidates.
use mathlib.Core.Path.{◌≡◌, sym, ap, ◌∙◌, subst⁻¹}
use mathlib.Core.Bool.{Bool, true}
use mathlib.Core.List.{List, ◌++◌}
use Prim.Native.Nat.{ℕ, ◌+◌, ◌≤◌, ◌<◌}
use native.Mathlib.Omega.{arith}
use lib.ListN.{length, take}
use lib.Seq.{length-take-le}
use Rattle.postman.specs.Lists.{select, below}
use Rattle.candidates.specs.declared.Places.{Places}
use Rattle.candidates.specs.Holds.{Holds}
use Rattle.candidates.specs.Places.{is_candidate, places_of}
use Rattle.candidates.specs.Laws.Holds.{holds_start, holds_as, holds_by, pick_taken, pick_passed, pick_room}
use Rattle.candidates.proofs.Places.scan.Goals.{then-is_candidate, else-is_candidate}
use Rattle.candidates.proofs.Places.scan.Goals as goal

room : (links : List Bool) (component : List ℕ) (q : ℕ) (list₀ list : List ℕ) (count₀ count x : ℕ) → count₀ + length (places_of links component q) ≤ 4096 → length list₀ ≡ 4096
    → Holds 4096 list count (take count₀ list₀ ++ select (is_candidate links component q) (below x)) → is_candidate links component q x ≡ true → x < 4096 → count < 4096
unfolding places_of
room links component q list₀ list count₀ count x b s h e l =
    let t = length-take-le count₀ list₀ (omega arith) in
    pick_room (take count₀ list₀) (is_candidate links component q) x h 4096 e l (subst⁻¹ (λ n. n + length (select (is_candidate links component q) (below 4096)) ≤ 4096) t b)

pub loop-x-init : goal.loop-x-init
loop-x-init c =
    let s = c.args in
    let b = c.requires.0 in
    holds_start 4096 s.self.now.list s.self.now.count _ c.requires.1 (omega arith)

pub bounds-self-self : goal.bounds-self-self
bounds-self-self c =
    let s = c.args in
    let p = c.requires in
    room s.links.now s.component.now s.q s.self.now.list c.loop-x.self.list s.self.now.count c.loop-x.self.count c.loop-x.x c.requires.0 c.requires.1 c.loop-x.invariant
    (sym c.is_candidate.ensures ∙ c.if-is_candidate.true) c.loop-x-test.true

pub loop-x-preserved : goal.loop-x-preserved
loop-x-preserved c =
    let s = c.args in
    let p = c.requires in
    let f = is_candidate s.links.now s.component.now s.q in
    let ys = take s.self.now.count s.self.now.list in
    let h = c.loop-x.invariant in
    let e = sym c.is_candidate.ensures in
    elim c.if-is_candidate.branch [ then-is_candidate w ↦ holds_by (ap (λ (s : Places). s.list) w.self-is) (ap (λ (s : Places). s.count) w.self-is) (pick_taken ys f c.loop-x.x h (e ∙ w.if-is_candidate.true) (room s.links.now s.component.now s.q s.self.now.list c.loop-x.self.list s.self.now.count c.loop-x.self.count c.loop-x.x c.requires.0 c.requires.1 c.loop-x.invariant (e ∙ w.if-is_candidate.true) c.loop-x-test.true)) | else-is_candidate w ↦ holds_by (ap (λ (s : Places). s.list) w.self-is) (ap (λ (s : Places). s.count) w.self-is) (pick_passed ys f c.loop-x.x h (e ∙ w.if-is_candidate.false)) ]

pub returns : goal.returns
unfolding places_of
returns c =
    let s = c.args in
    let e : c.loop-x.x ≡ 4096 = omega arith in
    holds_as c.loop-x.invariant (ap (λ n. take s.self.now.count s.self.now.list ++ select (is_candidate s.links.now s.component.now s.q) (below n)) e)
