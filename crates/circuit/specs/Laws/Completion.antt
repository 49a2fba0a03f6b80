-- The drive that is written completes the arborescence: its paths are those of fewest arcs, at most n − 1, and there is one for each leg.
-- One pass of each required arc is exchanged for the one that checks it.
use Rattle.std.specs.Prelude.{◌≡◌, refl, ℕ, ◌+◌, ◌≤◌, ◌<◌, length, T}
use Rattle.std.proofs.Common.{sym, ◌∙◌, arith}
use Rattle.std.proofs.Math.Path.{ap, subst⁻¹, subst₃}
use Rattle.std.proofs.Math.Bool.{not}
use mathlib.Core.List.{List, Memᴰ}
use Rattle.std.proofs.Math.ListN.{length-append}
use Rattle.std.proofs.Math.Dec.{ltb→lt}
use Rattle.postman.specs.Lists.{any_of}
use Rattle.postman.specs.Plan.{Plan, required_numbers, WellFormed}
use Rattle.postman.specs.Drive.{drive_cost}
use Rattle.postman.specs.Required.{required, required_cost}
use Rattle.postman.specs.Distance.{no_path, distance, has_path}
use Rattle.postman.specs.Link.{Link}
use Rattle.postman.specs.Balancing.{link_cost, balancing_cost, least_balancing, completion_cost}
use Rattle.postman.specs.PlanCall.{is_cut_off, sheet_places}
use Rattle.postman.specs.Laws.Tests.{not_not}
use Rattle.postman.specs.Laws.Membership.{any_of_not}
use Rattle.postman_laws.specs.Laws.Required.{required_lt}
use Rattle.postman_laws.specs.Laws.DriveCost.{drive_cost_lem}
use Rattle.paths.specs.ShortestPath.{shortest_path}
use Rattle.paths.specs.Laws.ShortestPath.{shortest_path_lem}
use Rattle.postman.specs.Steps.{amount}
use Rattle.drive_legs.specs.Legs.{units, leg_tails, leg_heads, Completes}
use Rattle.drive_legs.specs.Drive.{places_of, drive_by, drive, ArePaths, HavePaths, IsCompletion}
use Rattle.hierholzer.specs.Circuit.{circuit}
use Rattle.hierholzer.specs.Eulerian.{Eulerian}
use Rattle.drive_legs.specs.Filled.{LegLists, Laid}
use Rattle.drive_legs.specs.Laws.Legs.{leg_at, leg_ends, eulerian}
use Rattle.drive_legs.specs.Laws.Few.{few_others, few_numbers}
use Rattle.circuit.specs.Laws.Description.{is_laid}
use Rattle.drive_legs.specs.Laws.Drive.{legs_count, is_drive, plain_cost, drive_length, drive_first}

module _ (p : Plan) (ok : WellFormed p) (linked : T (not (is_cut_off p))) where
  pub has_path_lem : {i j : ℕ} → Memᴰ i (required p) → Memᴰ j (required p) → distance p i j < no_path
  unfolding is_cut_off has_path
  has_path_lem {i} {j} m n =
      let u = any_of_not (λ j. not (has_path p i j)) n (any_of_not (λ i. any_of (λ j. not (has_path p i j)) (required p)) m linked) in
      ltb→lt (distance p i j) no_path (not_not (has_path p i j) u)

  pub are_paths : ArePaths p (shortest_path p)
  are_paths i j m n =
      let s = shortest_path_lem p ok i j (required_lt p m) (has_path_lem m n) in
      let a = s.short in
      let b = ok.vertices in
      record { fewest_path = s.fewest_path; costs = s.costs; short = omega arith }

module _ (p : Plan) (ok : WellFormed p) (t : List Link) (amounts : List ℕ) (h : Completes p t amounts) where
  pub completion : IsCompletion p t amounts (drive p t amounts)
  unfolding drive sheet_places
  completion =
      let paths = are_paths p ok h.linked in
      let f = drive_first p ok t amounts h (shortest_path p) paths in
      let w = is_drive p ok t amounts h (shortest_path p) paths in
      record {
        drive = w;
        costs = omega (arith, plain_cost p ok t amounts h (shortest_path p) paths, drive_cost_lem p w);
        nonempty = f.0;
        first = f.1;
        short = drive_length p ok t amounts h (shortest_path p) paths;
        laid = is_laid p ok t amounts h (shortest_path p) paths;
      }

  -- least amounts give the cost of the arborescence's completion
  pub completes_at_least_cost : balancing_cost (required p) (distance p) (amount amounts) ≡ least_balancing p t
      → drive_cost p (drive p t amounts) ≡ completion_cost p t
  unfolding completion_cost
  completes_at_least_cost e = completion.costs ∙ ap (λ z. required_cost p + link_cost p t + z) e

  -- ---- what the code asks on the way

  pub few_legs : length (required_numbers p) + length t + length (units amounts) ≤ 526
  few_legs = let a = few_others p ok t amounts h in let b = few_numbers p in let c = ok.arc_count_holds in omega arith

  pub have_paths : HavePaths p (required_numbers p) (leg_tails p t amounts) (leg_heads p t amounts)
  have_paths e k l =
      let r = leg_at p ok t amounts h e l in
      let s = leg_ends p ok t amounts h r.1 in
      let i = subst⁻¹ (λ z. Memᴰ z (required p)) r.2 s.0 in
      let j = subst⁻¹ (λ z. Memᴰ z (required p)) r.3 s.1 in
      record { from = required_lt p i; to = required_lt p j; linked = has_path_lem p ok h.linked i j }

  -- lists that are those of the legs: what the code has laid
  pub record Ready (numbers tails heads : List ℕ) : Type 0 where
    pub few : length tails ≤ 526
    pub eulerian : Eulerian tails heads
    pub have_paths : HavePaths p numbers tails heads
    pub written : places_of (shortest_path p) numbers tails heads (circuit tails heads) ≡ drive p t amounts

  pub ready : (numbers tails heads : List ℕ) → numbers ≡ required_numbers p → tails ≡ leg_tails p t amounts → heads ≡ leg_heads p t amounts
      → Ready numbers tails heads
  unfolding drive drive_by
  ready numbers tails heads a b c =
      subst₃ Ready (sym a) (sym b) (sym c)
      record {
        few = (let n = legs_count p t amounts in let l = length-append t (units amounts) in let f = few_legs in omega arith);
        eulerian = eulerian p ok t amounts h;
        have_paths = have_paths;
        written = refl;
      }

  -- the legs that were laid
  pub laid_ready : {s : LegLists} {ns ts hs : List ℕ} → Laid p t amounts s → ns ≡ s.numbers → ts ≡ s.tails → hs ≡ s.heads → Ready ns ts hs
  laid_ready l e f g = ready _ _ _ (e ∙ l.numbers_are) (f ∙ l.tails_are) (g ∙ l.heads_are)

  pub laid_few : {s : LegLists} → Laid p t amounts s → length s.tails ≤ 526
  laid_few l = (laid_ready l refl refl refl).few
