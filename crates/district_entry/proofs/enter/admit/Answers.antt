-- Eight districts are in the line, or the district goes behind the last: its plan is short enough to be kept.
use mathlib.Core.Path.{◌≡◌}
use native.Mathlib.Omega.{arith}
use lib.ListN.{length}
use Rattle.refusal.specs.declared.Refusal.TheVariants.{Full}
use Rattle.district_machine.specs.Machine.{line_of}
use Rattle.district_entry.specs.Entered.{entrant}
use Rattle.district_machine.specs.Laws.Held.{line_length}
use Rattle.district_entry.specs.Laws.Entered.{refused_entered, entry_full, short_file, admitted}
use borrow.Author.Rules.{rules}
use Rattle.district_entry.proofs.enter.admit.Goals as goal

pub returns-then-n-ge8 : goal.returns-then-n-ge8
returns-then-n-ge8 c =
    let long : length c.args.m.line ≡ 8 = search (rules, c.well_formed) in
    let size = line_length c.args.m.line c.args.m.waiting long in
    refused_entered c.args.m _ c.args.budget Full (entry_full _ c.args.budget (line_of c.args.m) c.requires (omega arith))

pub hold-requires : goal.hold-requires
hold-requires c = short_file _ c.args.budget c.requires

pub returns : goal.returns
returns c =
    let long : length c.args.m.line ≡ 8 = search (rules, c.well_formed) in
    let q = c.lowest_free-place in
    let l = c.lined_up-line in
    let b = c.hold.ensures in
    let h = c.nothing_held.ensures in
    let bytes = c.args.bytes.now in
    let same : record { place = q.result; plan = c.hold.result; budget = c.args.budget; held = c.nothing_held.result } ≡ entrant q.result bytes c.args.budget
    = λ i. record { place = q.result; plan = b i; budget = c.args.budget; held = h i } in
    admitted c.args.m bytes c.args.budget q.result long (omega arith) q.ensures c.requires l.result _ l.ensures same
