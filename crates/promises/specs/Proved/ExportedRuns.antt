-- Open plans and machines of districts for other languages, proved.
use Rattle.std.specs.Prelude.{refl}
use Rattle.promises.specs.ExportedRuns.{LentHistory, AskHandsOver, ShortState, BothAccepted, AskedAgain, LentEntry, LentEmpty, LentShort, LentGoing, LentLast}
use Rattle.promises.specs.Laws.HistoryTheorem.{lent_history}
use Rattle.promises.specs.Laws.AskedTheorem.{both_accepted, asked_again_lent}
use Rattle.promises.specs.Laws.TurnsTheorem.{lent_entry, lent_empty, lent_short, lent_going, lent_last}
use Rattle.promises.specs.Laws.Slices.{slices_same}

pub history : LentHistory
history file bytes o cs last numbers run =
    lent_history file bytes o.after o.number o.small o.contract o.zero cs last numbers run

pub ask : AskHandsOver
ask state budget windows d old after n x long = let y = x.asked long in
    (record { after = after.sheet; answer = y.answer; contract = y.called }, refl, y.handed_over)

pub short_state_lem : ShortState
short_state_lem state budget windows d old after n x few = let y = x.short few in (y.0, slices_same y.1 y.2 y.3)

pub both_are_accepted : BothAccepted
both_are_accepted file bytes x =
    let o = x.opening in
    both_accepted file bytes _ _ o.small o.contract o.zero _ _ _ x.come x.k x.good _ _ x.set_at _ _ _
    x.gone x.not_again _ _ x.back

pub asked_again : AskedAgain
asked_again file bytes x =
    let o = x.opening in
    asked_again_lent file bytes _ _ o.small o.contract o.zero _ _ _ x.come x.k x.good _ _ x.set_at _ _ _
    x.gone x.not_again _ _ x.back

pub entry : LentEntry
entry = lent_entry

pub nobody : LentEmpty
nobody es old t e = let x = lent_empty es t.bytes t.led _ _ _ _ _ _ _ _ t.contract e in
    (x.0, x.1.0, slices_same x.1.1 x.1.2 x.1.3)

pub short : LentShort
short es old t d l e few = let x = lent_short es t.bytes t.led _ _ _ _ _ _ _ _ t.contract d l e few in
    (x.0, x.1.0, slices_same x.1.1 x.1.2 x.1.3)

pub going : LentGoing
going es old t d l e long f = let x = lent_going es t.bytes t.led _ _ _ _ _ _ _ _ t.contract d l e long f in
    (x.0, x.1, x.3, x.2)

pub last : LentLast
last es old t d l e long f c =
    let x = lent_last es t.bytes t.led _ _ _ _ _ _ _ _ t.contract d l e long f _ _ _ _ c.contract in
    (x.0, x.1, slices_same x.2 x.3 x.4)
