-- The distance call, proved.
use Rattle.std.proofs.Common.{sym, ap, ◌∙◌}
use Rattle.std.specs.Prelude.{List, ℕ, length, get_or, drop}
use Rattle.postman_laws.specs.Laws.DistanceCall.{page_entry, single_query}
use Rattle.promises.specs.Distances.{Refusals, Entries, SingleQuery, Searches, LaterEntries}
use Rattle.promises.specs.Laws.Page.{page_refused, page_searches, page_later}

pub refusals : Refusals
refusals bytes pairs distances c k e = let r = page_refused bytes pairs distances k e in (c.answer_is ∙ r.0, c.after_is ∙ r.1)

pub entries : Entries
entries bytes pairs distances c e k l = ap (λ (x : List ℕ). get_or x k 0) c.after_is ∙ page_entry bytes pairs distances k e l

pub single_entry : SingleQuery
single_entry bytes pairs distances c e k l one d m =
    ap (λ (x : List ℕ). get_or x k 0) c.after_is ∙ (single_query bytes pairs distances one k e l m).1
    ∙ ap (λ (x : List ℕ). get_or x 0 0) (sym d.after_is)

pub searches : Searches
searches bytes pairs distances c e = c.answer_is ∙ page_searches bytes pairs distances e

pub later_entries : LaterEntries
later_entries bytes pairs distances c = ap (drop (length pairs)) c.after_is ∙ page_later bytes pairs distances
