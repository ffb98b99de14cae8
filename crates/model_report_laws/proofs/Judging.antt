-- What is judged: there is a verdict with its bounds as rows, and something that rows are found to be; and of each there is
-- one alone.
use Rattle.std.proofs.Common.{◌≡◌, ◌⊎◌, ℕ, Bool, List, sym, ◌∙◌, inl, inr, ap, ap₂, subst}
use Rattle.std.specs.Prelude.{◌↔◌}
use Rattle.cm_filter.specs.Filters.{permits}
use Rattle.cm_filter.specs.declared.kind.CallKind.{CallKind}
use Rattle.model_run.specs.Own.{common_filter}
use Rattle.model_box.proofs.Monotone.{adds_more, meets_more}
use Rattle.model_box.proofs.Starts.{covers_start, holds_start, number_back}
use Rattle.model_box.proofs.Worlds.{state_fits}
use Rattle.model_box.specs.Bounds.{BoxRow, bounds_hold}
use Rattle.model_box.specs.Closed.{Closed}
use Rattle.model_box.specs.Covers.{Covers}
use Rattle.model_box.specs.Encloses.{Encloses}
use Rattle.model_box.specs.Firsts.{IsFirstLacking, IsFirstOpen}
use Rattle.model_box.specs.Laws.{tested}
use Rattle.model_box.specs.Meets.{Meets, IsFirstMet}
use Rattle.model_box.specs.Row.{Part, Row, row_at, row_number}
use Rattle.model_box.specs.Rule.{Rule, rule_number}
use Rattle.model_cred.specs.Files.{FileTable}
use Rattle.model_cred.specs.Process.{State, KeepsState}
use Rattle.model_cred.specs.Right.{Right}
use Rattle.model_cred.specs.World.{World}
use Rattle.model_report.specs.Checked.{Checked, NotStart, NotClosed, MeetsRight, Holds, IsChecked, RowsHold, IsFirstOpenIn}
use Rattle.model_report.specs.Told.{Told, TellsNo, TellsYes, TellsUndecided, verdict_in, IsVerdictOn}
use Rattle.model_report_laws.proofs.Answering.{exclude_holds}
use Rattle.model_verdict.proofs.Blames.{same_row, two_orders}
use Rattle.model_verdict.proofs.Exists.{sweep_comes_to_least}
use Rattle.model_verdict.proofs.Firsts.{first_lacking, first_open, first_met}
use Rattle.model_verdict.proofs.RowLimits.{rows_limit, limit_high, rows_fine}
use Rattle.model_verdict.proofs.RowMeanings.{one_meaning_one_list}
use Rattle.model_verdict.proofs.RowsOf.{rows_say_each_test}
use Rattle.model_verdict.proofs.Rounds.{swept_stands, swept_fits}
use Rattle.model_verdict.proofs.Sweeps.{rule_back}
use Rattle.model_verdict.proofs.Verdicts.{verdict_is_there, one_verdict}
use Rattle.model_verdict.specs.Blame.{Blame, AtStart, ByTurn, IsBlame}
use Rattle.model_verdict.specs.InWorld.{VerdictIn}
use Rattle.model_verdict.specs.Least.{Test, Says, IsLeast}
use Rattle.model_verdict.specs.Rows.{AreBounds, AreLow, RowsSaying, RowsSayEachTest, OneMeaningOneList}
use Rattle.model_verdict.specs.Sweep.{Turn, rule_at, swept, SweepComesToLeast}
use Rattle.model_verdict.specs.Verdict.{Verdict, No, Yes, Undecided, AreOne, VerdictIsThere, OneVerdict}

-- ---- verdicts with rows
module _ (permitted : CallKind → Bool) (files : FileTable) (s : State) (members : List ℕ) (keeps : KeepsState s) where
  -- what the sweep gives is low, and so is each test that says it
  swept_is_low : (test : Test) (k : ℕ) → Says test (swept permitted files s members k) → AreLow s.spaces (tested test)
  swept_is_low test k says = record {
    stand = λ row part x held. swept_stands permitted files s members (state_fits s keeps) k row part x ((says row part x).0 held);
    low = λ row part x held. swept_fits permitted files s members keeps k row part x ((says row part x).0 held);
  }

  -- so are the least bounds
  pub least_is_low : (bounds : Test) → IsLeast permitted files s members bounds → AreLow s.spaces (tested bounds)
  unfolding SweepComesToLeast
  least_is_low bounds is = record {
    stand = λ row part x held.
        let there : (k : ℕ) × swept permitted files s members k row part x
        = (sweep_comes_to_least permitted files s members bounds keeps is row part x).0 held in
        swept_stands permitted files s members (state_fits s keeps) there.0 row part x there.1;
    low = λ row part x held.
        let there : (k : ℕ) × swept permitted files s members k row part x
        = (sweep_comes_to_least permitted files s members bounds keeps is row part x).0 held in
        swept_fits permitted files s members keeps there.0 row part x there.1;
  }

  -- and the bounds before what is blamed
  pub below_is_low : (right : Right) (blame : Blame) (below : Test) → IsBlame permitted files s members right blame below
      → AreLow s.spaces (tested below)
  below_is_low right (AtStart row) below (met, says) = swept_is_low below 0 says
  below_is_low right (ByTurn turn) below (k, is, first, says) = swept_is_low below k says

  -- tests that say the same are least alike, and below what is blamed alike
  module _ (bounds other : Test) (same : (row : Row) (part : Part) (x : ℕ) → tested other row part x ↔ tested bounds row part x) where
    same_least : IsLeast permitted files s members bounds → IsLeast permitted files s members other
    same_least is = record {
      encloses = record {
        closed = λ rule row standing part x added.
            (same row part x).1 (is.encloses.closed rule row standing part x
            (adds_more permitted files s.spaces (tested other) (tested bounds) (λ r p n held. (same r p n).0 held) rule row part x added));
        covers = covers_start s members (tested other) (state_fits s keeps)
            (λ row standing part x has. (same row part x).1 (holds_start s members (tested bounds) is.encloses.covers row standing part x has));
      };
      within = λ wide encloses row part x held. is.within wide encloses row part x ((same row part x).0 held);
    }

    same_says : (held : Row → Part → ℕ → Type 0) → Says bounds held → Says other held
    same_says held says row part x = (λ is. (says row part x).0 ((same row part x).0 is), λ is. (same row part x).1 ((says row part x).1 is))

    same_blame : (right : Right) (blame : Blame) → IsBlame permitted files s members right blame bounds
        → IsBlame permitted files s members right blame other
    same_blame right (AtStart row) (met, says) = (met, same_says _ says)
    same_blame right (ByTurn turn) (k, is, first, says) = (k, is, first, same_says _ says)

    same_apart : (right : Right) → (Meets s.spaces (tested bounds) right → ⊥) → Meets s.spaces (tested other) right → ⊥
    same_apart right apart met = apart (meets_more s.spaces (tested other) (tested bounds) (λ r p n held. (same r p n).0 held) right met)

-- there is one
pub verdict_told : (w : World) (s : State) (members : List ℕ) (right : Right) → KeepsState s → (x : Told) × IsVerdictOn w s members right x
unfolding VerdictIsThere RowsSayEachTest
verdict_told w s members right keeps =
    let there : (v : Verdict) × VerdictIn w s members right v = verdict_is_there w s members right keeps in
    by there.0 there.1
  where
    by : (v : Verdict) → VerdictIn w s members right v → (x : Told) × IsVerdictOn w s members right x
    by (No found) is = (TellsNo found, record { verdict = is; bounds = tt })
    by (Yes bounds) (none, least, apart) =
        let rows : RowsSaying s.spaces bounds
        = rows_say_each_test s.spaces bounds (least_is_low (permits (common_filter w s members)) w.files s members keeps bounds least) in (
          TellsYes rows.rows,
          record {
            verdict = (
              none,
              same_least (permits (common_filter w s members)) w.files s members keeps bounds (bounds_hold rows.rows) rows.says least,
              same_apart (permits (common_filter w s members)) w.files s members keeps bounds (bounds_hold rows.rows) rows.says right apart,
            );
            bounds = rows.bounds;
          },
        )
    by (Undecided blame below) (none, met, is) =
        let rows : RowsSaying s.spaces below
        = rows_say_each_test s.spaces below (below_is_low (permits (common_filter w s members)) w.files s members keeps right blame below is) in (
          TellsUndecided blame rows.rows,
          record {
            verdict = (none, met, same_blame (permits (common_filter w s members)) w.files s members keeps below (bounds_hold rows.rows) rows.says right blame is);
            bounds = rows.bounds;
          },
        )

-- rows of bounds that hold the same are one list
one_list : (s : State) (rows other : List BoxRow) → AreBounds s.spaces rows → AreBounds s.spaces other
    → ((row : Row) (part : Part) (n : ℕ) → tested (bounds_hold rows) row part n ↔ tested (bounds_hold other) row part n) → rows ≡ other
unfolding OneMeaningOneList
one_list s rows other is are same = one_meaning_one_list rows other is.written are.written (is.count ∙ sym are.count) same

-- and one alone
pub told_once : (w : World) (s : State) (members : List ℕ) (right : Right) (x y : Told) → IsVerdictOn w s members right x
    → IsVerdictOn w s members right y → x ≡ y
unfolding OneVerdict
told_once w s members right x y is are =
    by x y is are (one_verdict w s members right (verdict_in x) (verdict_in y) is.verdict are.verdict)
  where
    by : (x y : Told) → IsVerdictOn w s members right x → IsVerdictOn w s members right y → AreOne (verdict_in x) (verdict_in y) → x ≡ y
    by (TellsNo found) (TellsNo found') is are same = ap TellsNo same
    by (TellsYes rows) (TellsYes rows') is are same = ap TellsYes (one_list s rows rows' is.bounds are.bounds same)
    by (TellsUndecided blame rows) (TellsUndecided blame' rows') is are (same, say) =
        ap₂ TellsUndecided same (one_list s rows rows' is.bounds are.bounds say)
    by _ _ is are same = absurd same

-- ---- what rows are found to be
-- something is found
pub checked_there : (w : World) (s : State) (members : List ℕ) (right : Right) (rows : List BoxRow) → KeepsState s
    → (x : Checked) × IsChecked w s members right rows x
checked_there w s members right rows keeps =
    elim (first_lacking (permits (common_filter w s members)) w.files s members keeps (rows_limit rows) (limit_high rows) (RowsHold rows) (rows_fine rows)) [
      | inl lacks ↦ (NotStart (row_at lacks.0), subst (λ (y : ℕ). IsFirstLacking s members (RowsHold rows) y) (sym (number_back lacks.0)) lacks.1)
      | inr start ↦
          by_rules (covers_start s members (RowsHold rows) (state_fits s keeps) start)
          (first_open (permits (common_filter w s members)) w.files s members keeps (rows_limit rows) (limit_high rows) (RowsHold rows) (rows_fine rows))
    ]
  where
    by_right : Encloses (permits (common_filter w s members)) w.files s members (RowsHold rows) → ((row : Row) × IsFirstMet s.spaces (RowsHold rows) right row) ⊎ (Meets s.spaces (RowsHold rows) right → ⊥)
        → (x : Checked) × IsChecked w s members right rows x
    by_right encloses (inl first) = (MeetsRight first.0, record { encloses = encloses; first = first.1 })
    by_right encloses (inr apart) = (Holds, record { encloses = encloses; apart = apart })

    by_rules : Covers s members s members (RowsHold rows)
        → ((rule : Rule) × (y : ℕ) × IsFirstOpen (permits (common_filter w s members)) w.files s.spaces (RowsHold rows) rule y)
        ⊎ Closed (permits (common_filter w s members)) w.files s.spaces (RowsHold rows)
        → (x : Checked) × IsChecked w s members right rows x
    by_rules covers (inl (rule, y, first)) = (
      NotClosed (record { rule = rule; row = row_at y }),
      record {
        covers = covers;
        first = subst (λ (n : ℕ). IsFirstOpen (permits (common_filter w s members)) w.files s.spaces (RowsHold rows) rule n) (sym (number_back y)) first;
      },
    )
    by_rules covers (inr closed) =
        by_right (record { closed = closed; covers = covers })
        (first_met (permits (common_filter w s members)) w.files s members keeps (rows_limit rows) (limit_high rows) (RowsHold rows) (rows_fine rows) right)

-- ---- and one thing alone

module _ (w : World) (s : State) (members : List ℕ) (right : Right) (rows : List BoxRow) where
  lacks_once : (one other : Row) → IsFirstLacking s members (RowsHold rows) (row_number one)
      → IsFirstLacking s members (RowsHold rows) (row_number other) → one ≡ other
  lacks_once one other is are = elim (two_orders (row_number one) (row_number other)) [
    | inl less ↦ absurd (is.lacks (are.earlier (row_number one) less))
    | inr (inl more) ↦ absurd (are.lacks (is.earlier (row_number other) more))
    | inr (inr same) ↦ same_row one other same
  ]

  lacks_never : (row : Row) → IsFirstLacking s members (RowsHold rows) (row_number row) → Covers s members s members (RowsHold rows) → ⊥
  lacks_never row is covers = is.lacks (holds_start s members (RowsHold rows) covers (row_at (row_number row)) is.stands)

  open_rows_once : (rule : Rule) (one other : Row) → IsFirstOpen (permits (common_filter w s members)) w.files s.spaces (RowsHold rows) rule (row_number one)
      → IsFirstOpen (permits (common_filter w s members)) w.files s.spaces (RowsHold rows) rule (row_number other) → one ≡ other
  open_rows_once rule one other is are = elim (two_orders (row_number one) (row_number other)) [
    | inl less ↦ absurd (is.row.unmet (are.row.earlier (row_number one) less))
    | inr (inl more) ↦ absurd (are.row.unmet (is.row.earlier (row_number other) more))
    | inr (inr same) ↦ same_row one other same
  ]

  one_rule : (one other : Rule) → rule_number one ≡ rule_number other → one ≡ other
  one_rule one other same = sym (rule_back one) ∙ ap rule_at same ∙ rule_back other

  open_rules_once : (one other : Rule) (y z : ℕ) → IsFirstOpen (permits (common_filter w s members)) w.files s.spaces (RowsHold rows) one y
      → IsFirstOpen (permits (common_filter w s members)) w.files s.spaces (RowsHold rows) other z → one ≡ other
  open_rules_once one other y z is are = elim (two_orders (rule_number one) (rule_number other)) [
    | inl less ↦ absurd (is.row.unmet (are.earlier one less (row_at y) is.row.stands))
    | inr (inl more) ↦ absurd (are.row.unmet (is.earlier other more (row_at z) are.row.stands))
    | inr (inr same) ↦ one_rule one other same
  ]

  turns_once : (one other : Turn) → IsFirstOpenIn w s members rows one → IsFirstOpenIn w s members rows other → one ≡ other
  turns_once one other is are =
      let rule : one.rule ≡ other.rule = open_rules_once one.rule other.rule (row_number one.row) (row_number other.row) is.first are.first in
      let row : one.row ≡ other.row
      = open_rows_once other.rule one.row other.row
      (subst (λ (r : Rule). IsFirstOpen (permits (common_filter w s members)) w.files s.spaces (RowsHold rows) r (row_number one.row)) rule is.first) are.first in
      ap₂ (λ (r : Rule) (at : Row). record { rule = r; row = at }) rule row

  open_never : (turn : Turn) → IsFirstOpenIn w s members rows turn → Closed (permits (common_filter w s members)) w.files s.spaces (RowsHold rows) → ⊥
  open_never turn is closed = is.first.row.unmet (closed turn.rule (row_at (row_number turn.row)) is.first.row.stands)

  met_once : (one other : Row) → IsFirstMet s.spaces (RowsHold rows) right one → IsFirstMet s.spaces (RowsHold rows) right other → one ≡ other
  met_once one other is are = elim (two_orders (row_number one) (row_number other)) [
    | inl less ↦ absurd (are.first one less is.meets)
    | inr (inl more) ↦ absurd (is.first other more are.meets)
    | inr (inr same) ↦ same_row one other same
  ]

  pub checked_once : (x y : Checked) → IsChecked w s members right rows x → IsChecked w s members right rows y → x ≡ y
  checked_once (NotStart one) (NotStart other) is are = ap NotStart (lacks_once one other is are)
  checked_once (NotClosed one) (NotClosed other) is are = ap NotClosed (turns_once one other is are)
  checked_once (MeetsRight one) (MeetsRight other) is are = ap MeetsRight (met_once one other is.first are.first)
  checked_once Holds y is are = sym (exclude_holds w s members right rows y are is)
  checked_once x Holds is are = exclude_holds w s members right rows x is are
  checked_once (NotStart row) (NotClosed turn) is are = absurd (lacks_never row is are.covers)
  checked_once (NotStart row) (MeetsRight other) is are = absurd (lacks_never row is are.encloses.covers)
  checked_once (NotClosed turn) (NotStart row) is are = absurd (lacks_never row are is.covers)
  checked_once (NotClosed turn) (MeetsRight row) is are = absurd (open_never turn is are.encloses.closed)
  checked_once (MeetsRight row) (NotStart other) is are = absurd (lacks_never other are is.encloses.covers)
  checked_once (MeetsRight row) (NotClosed turn) is are = absurd (open_never turn are is.encloses.closed)
