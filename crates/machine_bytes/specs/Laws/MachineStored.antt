-- The number and the machine of an entry and of a turn, by what they answer.
use Rattle.std.specs.Prelude.{◌≡◌, Result, Ok, Bool, true, false, cond, List, ◌++◌, ℕ, ◌^◌, ◌<◌, T, ℤ, pos, drop}
use Rattle.std.proofs.Common.{sym, ◌∙◌, subst, to_z, of_z}
use Rattle.std.proofs.Math.Path.{ap, subst⁻¹}
use Rattle.std.proofs.Math.Option.{Option, some, some-ne-none}
use Rattle.std.specs.Int.{w64}
use Rattle.std.specs.Int.Signed.{mag}
use Rattle.integers.specs.Linear.{back64}
use Rattle.postman.specs.Refusal.{unless}
use Rattle.refusal.specs.declared.Refusal.{Refusal}
use Rattle.district_entry.specs.declared.enter.Entered.{Entered}
use Rattle.districts.specs.declared.turn.Outcome.{Outcome}
use Rattle.districts.specs.declared.turn.Turned.{Turned}
use Rattle.district_entry.specs.Admitted.{admitted, admission_number}
use Rattle.districts.specs.Number.{outcome_number, had_turn, had_last}
use Rattle.solution.specs.Planned.{u_list}
use Rattle.answers.specs.Number.{one_number}
use Rattle.answers.specs.Answer.{words_of, put_first}
use Rattle.machine_bytes.specs.MachineBytes.{districts_bytes, machine_bytes, IsSized}
use Rattle.machine_bytes.specs.MachineStored.{IsEntryStored, IsTurnHandedOver}

module _ (r : Entered) (bytes : List ℕ) where
  abbrev stored : List ℕ
  stored = machine_bytes r.machine ++ drop districts_bytes bytes

  pub entry_stored : (q : ℕ) (bytes' : List ℕ) (n : ℤ) → r.answer ≡ Ok q → n ≡ pos q → IsSized r.machine → bytes' ≡ stored
      → IsEntryStored r bytes bytes' n
  unfolding unless
  entry_stored q bytes' n a e z b = record {
    number_is = e ∙ ap (λ (x : Result ℕ Refusal). one_number (admitted x)) (sym a);
    machine_is = b ∙ ap (λ (x : Result ℕ Refusal). unless (admission_number x) stored bytes) (sym a);
    sized = λ g. z;
  }

  pub entry_refused : (x : Result ℕ Refusal) (k : ℕ) (n : ℤ) → r.answer ≡ x → admission_number x ≡ some k → n ≡ one_number (admitted x)
      → IsEntryStored r bytes bytes n
  unfolding unless
  entry_refused x k n a h e =
      let f : admission_number r.answer ≡ some k = ap admission_number a ∙ h in
      record {
        number_is = e ∙ ap (λ (x : Result ℕ Refusal). one_number (admitted x)) (sym a);
        machine_is = ap (λ (o : Option ℕ). unless o stored bytes) (sym f);
        sized = λ g. absurd (some-ne-none k (sym f ∙ g));
      }

-- The number is the same once it has been a word of 64 bits.
pub entry_back : {r : Entered} {bytes bytes' : List ℕ} {n : ℤ} → mag n < 2 ^ 63 → IsEntryStored r bytes bytes' n
    → IsEntryStored r bytes bytes' (to_z w64 (of_z w64 n))
entry_back {r} {bytes} {bytes'} {n} small h = subst⁻¹ (IsEntryStored r bytes bytes') (back64 n small) h

module _ (r : Turned) (bytes words : List ℕ) (u : List ℤ) where
  abbrev moved : List ℕ
  moved = machine_bytes r.machine ++ drop districts_bytes bytes

  pub no_turn : (o : Outcome) (n : ℤ) → r.outcome ≡ o → had_turn o ≡ false → had_last o ≡ false → n ≡ one_number (outcome_number o)
      → IsTurnHandedOver r bytes bytes words words u u n
  no_turn o n a t l e =
      let f : had_turn r.outcome ≡ false = ap had_turn a ∙ t in
      let g : had_last r.outcome ≡ false = ap had_last a ∙ l in
      record {
        number_is = e ∙ ap (λ (x : Outcome). one_number (outcome_number x)) (sym a);
        machine_is = ap (λ (b : Bool). cond b moved bytes) (sym f);
        sized = λ h. absurd (subst T (sym h ∙ f) tt);
        words_are = ap (λ (b : Bool). cond b (put_first (words_of r.planned) words) words) (sym f);
        multipliers_are = ap (λ (b : Bool). cond b (put_first (u_list r.planned) u) u) (sym g);
      }

  module _ (o : Outcome) (n : ℤ) (a : r.outcome ≡ o) (e : n ≡ one_number (outcome_number o)) (t : had_turn o ≡ true)
      (bytes' words' w : List ℕ) (z : IsSized r.machine) (b : bytes' ≡ moved) (f : w ≡ words_of r.planned)
      (g : words' ≡ put_first w words) where
    had : had_turn r.outcome ≡ true
    had = ap had_turn a ∙ t

    words_put : words' ≡ cond (had_turn r.outcome) (put_first (words_of r.planned) words) words
    words_put = g ∙ ap (λ (y : List ℕ). put_first y words) f
        ∙ ap (λ (b : Bool). cond b (put_first (words_of r.planned) words) words) (sym had)

    machine_put : bytes' ≡ cond (had_turn r.outcome) moved bytes
    machine_put = b ∙ ap (λ (b : Bool). cond b moved bytes) (sym had)

    pub one_turn : had_last o ≡ false → IsTurnHandedOver r bytes bytes' words words' u u n
    one_turn l = record {
      number_is = e ∙ ap (λ (x : Outcome). one_number (outcome_number x)) (sym a);
      machine_is = machine_put;
      sized = λ h. z;
      words_are = words_put;
      multipliers_are = ap (λ (b : Bool). cond b (put_first (u_list r.planned) u) u) (sym (ap had_last a ∙ l));
    }

    pub last_turn : had_last o ≡ true → (u' : List ℤ) → u' ≡ put_first (u_list r.planned) u
        → IsTurnHandedOver r bytes bytes' words words' u u' n
    last_turn l u' h = record {
      number_is = e ∙ ap (λ (x : Outcome). one_number (outcome_number x)) (sym a);
      machine_is = machine_put;
      sized = λ h. z;
      words_are = words_put;
      multipliers_are = h ∙ ap (λ (b : Bool). cond b (put_first (u_list r.planned) u) u) (sym (ap had_last a ∙ l));
    }

pub turn_back : {r : Turned} {bytes bytes' words words' : List ℕ} {u u' : List ℤ} {n : ℤ} → mag n < 2 ^ 63
    → IsTurnHandedOver r bytes bytes' words words' u u' n
    → IsTurnHandedOver r bytes bytes' words words' u u' (to_z w64 (of_z w64 n))
turn_back {r} {bytes} {bytes'} {words} {words'} {u} {u'} {n} small h =
    subst⁻¹ (IsTurnHandedOver r bytes bytes' words words' u u') (back64 n small) h
