-- The search's invariant: nothing is dropped yet, and no via vertex stands before the kth. That of the loops over the pairs: what is held is what the model holds. The turn of a
-- pair ends at a `break`: it is not held, it is dropped by a via vertex, or there is none.
use mathlib.Core.Path.{◌≡◌, refl, sym, ap, ◌∙◌, subst⁻¹}
use mathlib.Core.Bool.{Bool, true, false, not}
use mathlib.Core.List.{List}
use Prim.Native.Nat.{ℕ, ◌+◌, ◌*◌, ◌≤◌, ◌<◌}
use native.Mathlib.Omega.{arith}
use lib.ListN.{length, length-set}
use Rattle.postman.specs.Steps.{cell}
use Rattle.network.specs.Thinning.{flag, between, turn_at, row_thinned}
use Rattle.network.specs.Laws.Ways.{no_way}
use Rattle.network.specs.Laws.Thinning.{Fewer, fewer_dropped, turn_short, turn_not_held, turn_drops, turn_keeps, via_found, row_none, row_turn, rows_none, rows_turn}
use Rattle.network.proofs.thinning.thin.Goals.{then-not-held-i, else-not-held-i+then-is_short, else-not-held-i+else-is_short+then-loop-k-test+then-splits+then-held-i+then-held-k, else-not-held-i+else-is_short+else-loop-k-test}
use Rattle.network.proofs.thinning.thin.Goals as goal

pub loop-i-init : goal.loop-i-init
loop-i-init c =
    (omega arith, c.requires, sym (rows_none _ _), λ x e. e)

pub loop-j-init : goal.loop-j-init
loop-j-init c =
    let v = c.loop-i in
    (omega arith, omega arith, v.invariant.1, sym (row_none _ _ _), v.invariant.3)

pub loop-j-preserved : goal.loop-j-preserved
loop-j-preserved c =
    let q = c.pair in
    let r = c.loop-j in
    let n = c.row_near-row in
    let l = c.loop-j-test.true in
    let j = r.j in
    let i = c.loop-i.i in
    let m = c.columns_near-columns in
    let d = c.args.d.now in
    let e : q.held ≡ row_thinned d c.loop-i.held i j = q.invariant.1 ∙ r.invariant.3 in
    let few : Fewer c.args.pairs q.held = subst⁻¹ (Fewer c.args.pairs) q.invariant.1 r.invariant.4 in
    let done : (before after : List Bool) → before ≡ q.held → turn_at d before i j ≡ after → length after ≡ 4096 → Fewer c.args.pairs after → c.if-not-held-i.held ≡ after
    → (i < 64) × (j + 1 ≤ 64) × (length c.if-not-held-i.held ≡ 4096) × (c.if-not-held-i.held ≡ row_thinned d c.loop-i.held i (j + 1)) × Fewer c.args.pairs c.if-not-held-i.held =
    λ before after g u k f h. (r.invariant.0, omega arith, ap length h ∙ k, h ∙ row_turn d c.loop-i.held i j before after (g ∙ e) u, subst⁻¹ (Fewer c.args.pairs) h f)
    in
    elim c.if-not-held-i.branch [
      | then-not-held-i w ↦ done q.held q.held refl (turn_not_held d q.held i j (ap not w.if-not-held-i.true)) q.invariant.0 few w.held-is
      | else-not-held-i+then-is_short w ↦
          let s = no_way n.result m.result j (cell d i j) (sym w.is_short.ensures ∙ w.if-is_short.true) in
          done q.held q.held refl (turn_short d c.args.pairs q.held i j n.result m.result few n.ensures m.ensures l s.0 s.1) q.invariant.0 few w.held-is
      | else-not-held-i+else-is_short+then-loop-k-test+then-splits+then-held-i+then-held-k w ↦
          let l = w.loop-k in
          let held : flag l.held i j ≡ true = ap (λ (h : List Bool). flag h i j) l.invariant.2 ∙ w.if-not-held-i.false in
          done l.held _ l.invariant.2
          (turn_drops d l.held i j held l.k w.loop-k-test.true (via_found d l.held i j l.k w.if-held-i.true w.if-held-k.true (sym w.splits.ensures ∙ w.if-splits.true)))
          (length-set l.held (i * 64 + j) false ∙ l.invariant.1)
          (fewer_dropped c.args.pairs l.held (i * 64 + j) (subst⁻¹ (Fewer c.args.pairs) l.invariant.2 few))
          w.held-is
      | else-not-held-i+else-is_short+else-loop-k-test w ↦
          let l = w.loop-k in
          let none : (k : ℕ) → k < 64 → between d l.held i j k ≡ false = λ k b. l.invariant.3 k (let e = w.loop-k-test.false in omega arith) in
          done l.held l.held l.invariant.2 (turn_keeps d l.held i j none) l.invariant.1 (subst⁻¹ (Fewer c.args.pairs) l.invariant.2 few) w.held-is
    ]

pub loop-i-preserved : goal.loop-i-preserved
loop-i-preserved c =
    let v = c.loop-j in
    (omega arith, v.invariant.2, rows_turn _ _ _ v.j c.loop-i.held v.held c.loop-i.invariant.2 v.invariant.3 (omega arith), v.invariant.4)
