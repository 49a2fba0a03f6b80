-- What was put from the start, as far as there is room; and an answer that is handed over.
use Rattle.std.specs.Prelude.{◌≡◌, Result, Ok, Err, refl, Bool, true, false, cond, List, [], ◌∷◌, ℕ, ◌+◌, ◌^◌, ◌<◌, ltb, ℤ, pos, neg_ℤ, nat_abs, length, get_or, take, drop, Result}
use Rattle.std.proofs.Common.{sym, ap, ◌∙◌, arith, length-take, get_or-take}
use Rattle.std.proofs.Math.Path.{subst⁻¹}
use Rattle.std.proofs.Math.Option.{Option, none, some}
use mir.Val.{bool_byte, to_z, of_z}
use Rattle.std.specs.Int.{w64}
use Rattle.std.specs.Int.Signed.{mag}
use Rattle.integers.specs.Linear.{back64, abs_neg}
use Rattle.std.proofs.Math.ListN.{get_or-append}
use Rattle.record_writer.specs.Writing.{at_most}
use Rattle.postman.specs.Refusal.{answer, unless}
use Rattle.refusal.specs.declared.Refusal.{Refusal}
use Rattle.solution.specs.Planned.{summary_of, places_of, u_list}
use Rattle.solution.specs.declared.Planned.{Planned}
use Rattle.refusal.specs.declared.Refusal.{Refusal}
use Rattle.refusal.specs.Verdict.{refusal_number, verdict_number}
use Rattle.refusal.specs.Laws.{some_number}
use Rattle.answers.specs.Answer.{words_of, put_first, IsHandedOver}
use Rattle.answers.specs.Number.{one_number}

at_most_above : (a b k : ℕ) → k < a → k < b → k < at_most a b
at_most_above a b k l m = at (ltb a b)
  where
    at : (x : Bool) → k < cond x a b
    at true = l
    at false = m

-- what was put can be read there
pub put_at : {A : Type 0} (new old : List A) (z : A) (k : ℕ) → k < length old → k < length new
    → get_or (put_first new old) k z ≡ get_or new k z
put_at new old z k a b =
    let n = at_most (length old) (length new) in
    let l = at_most_above (length old) (length new) k a b in
    let s = length-take n new in
    get_or-append (take n new) (drop (0 + n) old) z k (omega arith) ∙ get_or-take n new k z l

-- a number that is 0 is that of an answer
pub answered_zero : {A : Type 0} (v : Result A Refusal) → one_number (answer (verdict_number v) 0) ≡ pos 0 → verdict_number v ≡ none
unfolding answer
answered_zero (Ok y) e = refl
answered_zero (Err r) e = let a = (some_number r).0 in let b = ap nat_abs e in let c = abs_neg (refusal_number r) in absurd
    (omega arith)

pub words_are : (r : Result Planned Refusal) (f : ℕ) → f ≡ nat_abs (summary_of r).floor
    → places_of r ∷ (summary_of r).cost ∷ f ∷ (summary_of r).trees ∷ bool_byte (summary_of r).whole ∷ (summary_of r).parts ∷ [] ≡ words_of r
words_are r f e = let b = byte (summary_of r).whole in rw (e, b)
  where
    byte : (x : Bool) → bool_byte x ≡ cond x 1 0
    byte true = refl
    byte false = refl

pub handed : (r : Result Planned Refusal) (words words' w : List ℕ) (u u' : List ℤ) → verdict_number r ≡ none → w ≡ words_of r
    → words' ≡ put_first w words → u' ≡ put_first (u_list r) u → IsHandedOver r words words' u u' (pos 0)
unfolding unless answer
handed r words words' w u u' e f g h = record {
  number_is = ap (λ (o : Option ℕ). one_number (answer o 0)) (sym e);
  words_are = g ∙ ap (λ (w : List ℕ). put_first w words) f ∙ ap (λ (o : Option ℕ). unless o (put_first (words_of r) words) words) (sym e);
  multipliers_are = h ∙ ap (λ (o : Option ℕ). unless o (put_first (u_list r) u) u) (sym e);
}

pub kept : (r : Result Planned Refusal) (words : List ℕ) (u : List ℤ) (k : ℕ) (n : ℤ) → verdict_number r ≡ some k → n ≡ neg_ℤ (pos k)
    → IsHandedOver r words words u u n
unfolding unless answer
kept r words u k n e f = record {
  number_is = f ∙ ap (λ (o : Option ℕ). one_number (answer o 0)) (sym e);
  words_are = ap (λ (o : Option ℕ). unless o (put_first (words_of r) words) words) (sym e);
  multipliers_are = ap (λ (o : Option ℕ). unless o (put_first (u_list r) u) u) (sym e);
}

-- The number is the same once it has been a word of 64 bits.
pub handed_back : {r : Result Planned Refusal} {words words' : List ℕ} {u u' : List ℤ} {n : ℤ} → mag n < 2 ^ 63
    → IsHandedOver r words words' u u' n → IsHandedOver r words words' u u' (to_z w64 (of_z w64 n))
handed_back {r} {words} {words'} {u} {u'} {n} small h = subst⁻¹ (IsHandedOver r words words' u u') (back64 n small) h
