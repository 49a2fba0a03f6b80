-- The fields of an arc, as they are read, and what is refused of them.
use Rattle.std.specs.Prelude.{Bool, not, cond, ◌&&◌, ◌||◌, [], ◌∷◌, ℕ, eqb, leb}
use Rattle.postman.specs.Plan.{Arc}
use Rattle.postman.specs.Refusal.{Conditions}
use Rattle.postman.specs.PlanFile.{is_second}
use Rattle.plan.specs.declared.Standing.{Standing}
use Rattle.plan.specs.Standings.{is_refused_standing, is_must_standing}
use Rattle.arc_rules.specs.declared.rules.Fields.{Fields}

-- The arc that the fields are those of.
abbrev pub fields_arc : Fields → Arc
fields_arc f = record { tail = f.tail; head = f.head; standing = f.standing; cost = f.cost; service = f.service }

-- Whether the checking cost of an arc, a must arc or another, is wrong in edition e.
abbrev pub mispriced : ℕ → Bool → ℕ → ℕ → Bool
mispriced e must cost service =
    cond must (eqb service 0) (not (eqb service 0)) || (not (is_second e) && not (eqb service (cond must cost 0)))

-- "5, 6, 7", of the fields and the kind of standing.
abbrev pub field_conditions : ℕ → ℕ → Fields → Standing → Conditions
field_conditions e n f standing =
    (leb n f.tail || leb n f.head, 5)
    ∷ (mispriced e (is_must_standing standing) f.cost f.service, 6)
    ∷ (is_refused_standing standing, 7)
    ∷ []
