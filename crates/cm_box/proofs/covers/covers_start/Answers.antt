use Rattle.std.proofs.Common.{◌≡◌, ◌∙◌, ◌*◌, ◌<◌, ap, arith, length, subst, sym}
use Rattle.std.proofs.lemmas.Bool.{false≢true}
use Rattle.model_cred.specs.Process.{State}
use Rattle.model_box.proofs.Starts.{covers_standing}
use Rattle.model_box.specs.Row.{Row, space_under}
use Rattle.cm_box_rows.specs.Rows.{RowsHold}
use Rattle.cm_box.proofs.CoverParts.{all_start}
use Rattle.cm_box.proofs.Numbers.{under_low}
use Rattle.cm_box.proofs.Starting.{lacks_cover, standing}
use Rattle.cm_box.specs.Places.{row_of}
use Rattle.cm_box.proofs.covers.covers_start.Goals as goal

pub returns-clause-none : goal.returns-clause-none
returns-clause-none c =
    let same : length c.st.inside.spaces ≡ length c.args.st.now.spaces = ap (λ (s : State). length s.spaces)
    c.st.view_is in
    all_start c.args.st.now c.args.members.now (RowsHold c.args.bounds.now) c.loop-row.row
    (omega (arith, c.count-row-end.ensures, c.loop-row-test.false)) c.loop-row.invariant

pub returns-clause-covers : goal.returns-clause-covers
returns-clause-covers c =
    covers_standing c.args.st.now c.args.members.now (RowsHold c.args.bounds.now) (standing c.st.view_is c.st.invariant.1)
    (returns-clause-none c)

pub returns-then-not-start_held-clause-lacks : goal.returns-then-not-start_held-clause-lacks
returns-then-not-start_held-clause-lacks c =
    let same : length c.st.inside.spaces ≡ length c.args.st.now.spaces = ap (λ (s : State). length s.spaces)
    c.st.view_is in
    let low : c.loop-row.row < 2 * length c.args.st.now.spaces = omega (arith, c.count-row-end.ensures, c.loop-row-test.true) in
    let under = under_low c.loop-row.row (length c.args.st.now.spaces) low in
    lacks_cover c.args.st.now c.args.members.now (RowsHold c.args.bounds.now) (row_of c.of_number.result)
    (subst (λ (row : Row). space_under row < length c.args.st.now.spaces) (sym c.of_number.ensures) under)
    (λ held. false≢true (sym c.if-not-start_held.true ∙ c.start_held.ensures.1 held))
