-- A verdict rests on the family alone.
use Rattle.std.proofs.Common.{◌≡◌, List, sym, ◌∙◌, ap, ap₂, subst}
use Rattle.cm_audit.specs.Laws.{VerdictsAreIsolated}
use Rattle.cm_audit.specs.Told.{Told, TellsNo, TellsYes, TellsUndecided, verdict_in, RowsAreBounds}
use Rattle.model_box.specs.Bounds.{BoxRow, bounds_hold}
use Rattle.model_box.proofs.Worlds.{state_fits}
use Rattle.model_box.specs.Covers.{StateFits}
use Rattle.model_cred.specs.Process.{KeepsState, State}
use Rattle.model_cred.specs.Space.{Spaces}
use Rattle.model_run.specs.Family.{family}
use Rattle.model_verdict.proofs.Alikes.{alike_families}
use Rattle.model_verdict.proofs.RowMeanings.{one_meaning_one_list}
use Rattle.model_verdict.proofs.Verdicts.{one_verdict}
use Rattle.model_verdict.specs.Alike.{AlikeFamilies, SameVerdict}
use Rattle.model_verdict.specs.Blame.{Blame}
use Rattle.model_verdict.specs.InWorld.{VerdictIn}
use Rattle.model_verdict.specs.Rows.{AreBounds, OneMeaningOneList}
use Rattle.model_verdict.specs.Verdict.{AreOne, SaySame, OneVerdict}

-- rows of one meaning are one list
one_list : (spaces : Spaces) (rows other : List BoxRow) → AreBounds spaces rows → AreBounds spaces other → SaySame (bounds_hold rows) (bounds_hold other)
    → rows ≡ other
unfolding OneMeaningOneList
one_list spaces rows other one two same =
    one_meaning_one_list rows other one.written two.written (one.count ∙ sym two.count) same

-- two verdicts that are one tell the same
one_told : (spaces : Spaces) (x y : Told) → RowsAreBounds spaces x → RowsAreBounds spaces y → AreOne (verdict_in x) (verdict_in y) → x ≡ y
one_told spaces (TellsNo found) (TellsNo found') a b same = ap TellsNo same
one_told spaces (TellsYes rows) (TellsYes rows') a b same = ap TellsYes (one_list spaces rows rows' a b same)
one_told spaces (TellsUndecided blame rows) (TellsUndecided blame' rows') a b (same, say) =
    ap₂ (λ (x : Blame) (r : List BoxRow). TellsUndecided x r) same (one_list spaces rows rows' a b say)
one_told spaces _ _ a b same = absurd same

pub verdicts_are_isolated : (s t : State) → KeepsState s → KeepsState t → VerdictsAreIsolated s t
unfolding VerdictsAreIsolated AlikeFamilies OneVerdict
verdicts_are_isolated s t keeps keeps' w root right one other alike is is' =
    let fits : StateFits s = state_fits s keeps in
    let fits' : StateFits t = state_fits t keeps' in
    let same : SameVerdict w s t (family s root) (family t root) right
    = alike_families w s t root right fits fits' alike in
    let here : VerdictIn w s (family s root) right (verdict_in other) = (same.verdict (verdict_in other)).1 is'.verdict in
    one_told s.spaces one other is.bounds (subst (λ (spaces : Spaces). RowsAreBounds spaces other) (sym alike.spaces) is'.bounds)
    (one_verdict w s (family s root) right (verdict_in one) (verdict_in other) is.verdict here)
