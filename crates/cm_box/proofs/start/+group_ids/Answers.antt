use Rattle.std.proofs.Common.{ℕ, List, ◌/◌, ◌-◌, ◌++◌, ◌∙◌, ap, length, take, drop}
use Rattle.std.proofs.lemmas.List.{take-append-drop, take_rest}
use Rattle.cm_box_rows.proofs.GainedRows.{or_more}
use Rattle.cm_box.proofs.MemberIds.{among_both}
use Rattle.cm_box.proofs.start.+group_ids.Goals as goal

pub returns : goal.returns
returns t c = or_more c.join.result _ _ c.join.ensures (λ s either.
    let groups = c.args.groups.now in
    let low = take (length groups / 2) groups in
    among_both groups low (take (length groups - length groups / 2) (drop (length groups / 2) groups)) c.in_ok-low.low
    c.in_ok-high.high s
    (ap (λ (rest : List ℕ). low ++ rest) (take_rest groups (length groups / 2)) ∙ take-append-drop (length groups / 2)
    groups)
    c.in_ok-low.ensures c.in_ok-high.ensures either)
