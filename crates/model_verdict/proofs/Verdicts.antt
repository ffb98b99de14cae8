-- Verdicts: there is one, and one alone; what each kind says.
use Rattle.std.proofs.Common.{◌≡◌, ℕ, List, Option, None, Some, refl, sym, ◌∙◌, inl, inr}
use Rattle.std.proofs.lemmas.Bool.{false≢true}
use Rattle.cm_filter.specs.Filters.{permits}
use Rattle.model_cred.specs.Process.{State, KeepsState}
use Rattle.model_cred.specs.Right.{Right}
use Rattle.model_cred.specs.World.{World}
use Rattle.model_run.specs.Own.{common_filter}
use Rattle.model_box.specs.Files.{FilesFit}
use Rattle.model_box.specs.Laws.{tested}
use Rattle.model_box.specs.Meets.{Meets, IsOverStanding}
use Rattle.model_box.proofs.Monotone.{meets_more}
use Rattle.model_box.proofs.Stated.{exclusion}
use Rattle.model_box.proofs.Worlds.{state_fits}
use Rattle.model_plans.specs.Firsts.{FoundIsLater, EndsHolding}
use Rattle.model_plans.specs.PlanRun.{Found, first_found}
use Rattle.model_plans.proofs.Finds.{found_is_later}
use Rattle.model_verdict.proofs.MapsBack.{kept_take_back}
use Rattle.model_verdict.specs.Back.{KeptTakeBack}
use Rattle.model_verdict.specs.Least.{Test, IsLeast, LeastExist}
use Rattle.model_verdict.specs.Blame.{IsBlamed, BlamedIfMet, OneBlame}
use Rattle.model_verdict.specs.Decides.{SettledIsNeverOpen}
use Rattle.model_verdict.specs.Verdict.{Verdict, No, Yes, Undecided, VerdictIn, AreOne, VerdictIsThere, OneVerdict, NoIsShown, YesIsKept}
use Rattle.model_verdict.specs.Verdict.{ExcludedIn, YesExactly, UndecidedExactly, UndecidedIsUnsettled}
use Rattle.model_verdict.proofs.Blames.{one_blame}
use Rattle.model_verdict.proofs.Deciding.{Decided}
use Rattle.model_verdict.proofs.Decided.{settled_is_never_open}
use Rattle.model_verdict.proofs.Exists.{blamed_if_met, least_exist, least_meets_decided}

none_or_some : {A : Type 0} (o : Option A) (x : A) → o ≡ None → o ≡ Some x → ⊥
none_or_some o x none some = let no : None ≡ Some x = sym none ∙ some in absurd (cc)

one_found : {A : Type 0} (o : Option A) (x y : A) → o ≡ Some x → o ≡ Some y → x ≡ y
one_found o x y first second = let same : Some x ≡ Some y = sym first ∙ second in cc

module _ (w : World) (s : State) (members : List ℕ) (right : Right) where
  there : KeepsState s → (verdict : Verdict) × VerdictIn w s members right verdict
  unfolding LeastExist BlamedIfMet
  there keeps = by (first_found (permits w.filter) w s members right) refl where
    least : (bounds : Test) × IsLeast (permits (common_filter w s members)) w.files s members bounds
    least = least_exist (permits (common_filter w s members)) w.files s members keeps

    neither : first_found (permits w.filter) w s members right ≡ None → Decided (Meets s.spaces (tested least.0) right)
        → (verdict : Verdict) × VerdictIn w s members right verdict
    neither none (inl met) =
        let blamed : IsBlamed (permits (common_filter w s members)) w.files s members right = (blamed_if_met (permits (common_filter w s members)) w.files s members right least.0 keeps least.1).0 met in (
          Undecided blamed.blame blamed.below,
          (none, λ other encloses. meets_more s.spaces (tested least.0) (tested other) (least.1.within other encloses) right met, blamed.is),
        )
    neither none (inr apart) = (Yes least.0, (none, least.1, apart))

    by : (o : Option Found) → first_found (permits w.filter) w s members right ≡ o
        → (verdict : Verdict) × VerdictIn w s members right verdict
    by (Some found) is = (No found, is)
    by None none = neither none (least_meets_decided (permits (common_filter w s members)) w.files s members right least.0 keeps least.1)

  one : (first second : Verdict) → VerdictIn w s members right first → VerdictIn w s members right second → AreOne first second
  unfolding OneBlame
  one (No x) (No y) is is_too = one_found (first_found (permits w.filter) w s members right) x y is is_too
  one (No x) (Yes b) is (none, least, apart) = none_or_some (first_found (permits w.filter) w s members right) x none is
  one (No x) (Undecided b below) is (none, met, blame) = none_or_some (first_found (permits w.filter) w s members right) x none is
  one (Yes b) (No x) (none, least, apart) is = none_or_some (first_found (permits w.filter) w s members right) x none is
  one (Yes b) (Yes c) (none, least, apart) (none_too, least_too, apart_too) =
      λ row part x. (least.within c least_too.encloses row part x, least_too.within b least.encloses row part x)
  one (Yes b) (Undecided c below) (none, least, apart) (none_too, met, blame) = apart (met b least.encloses)
  one (Undecided b below) (No x) (none, met, blame) is = none_or_some (first_found (permits w.filter) w s members right) x none is
  one (Undecided b below) (Yes c) (none, met, blame) (none_too, least, apart) = apart (met c least.encloses)
  one (Undecided b below) (Undecided c other) (none, met, blame) (none_too, met_too, blame_too) =
      one_blame (permits (common_filter w s members)) w.files s members right b c below other blame blame_too

pub verdict_is_there : VerdictIsThere
unfolding VerdictIsThere
verdict_is_there w s members right keeps = there w s members right keeps

pub one_verdict : OneVerdict
unfolding OneVerdict
one_verdict w s members right first second is is_too = one w s members right first second is is_too

pub no_is_shown : NoIsShown
unfolding NoIsShown FoundIsLater
no_is_shown w s members right found is = found_is_later (permits w.filter) w s members right found is

pub yes_is_kept : YesIsKept
unfolding YesIsKept
yes_is_kept w s members right bounds keeps files standing (none, least, apart) =
    exclusion w s members bounds right (state_fits s keeps) files standing least.encloses.covers least.encloses.closed apart

-- what is found is held after a later run, so where bounds exclude it nothing is found
excluded_unfound : (w : World) (s : State) (members : List ℕ) (right : Right) → KeepsState s → FilesFit w.files s.spaces → IsOverStanding s.spaces right
    → ExcludedIn w s members right → first_found (permits w.filter) w s members right ≡ None
unfolding FoundIsLater
excluded_unfound w s members right keeps files standing given = by (first_found (permits w.filter) w s members right) refl where
  by : (o : Option Found) → first_found (permits w.filter) w s members right ≡ o → first_found (permits w.filter) w s members right ≡ None
  by None none = none
  by (Some found) is =
      let ends : EndsHolding (permits w.filter) w s members right found = found_is_later (permits w.filter) w s members right found is in
      absurd (false≢true
      (sym (exclusion w s members given.bounds right (state_fits s keeps) files standing given.encloses.covers given.encloses.closed given.apart
      found.run ends.state members ends.later.later found.holder ends.member) ∙ ends.holds))

pub yes_exactly : YesExactly
unfolding YesExactly LeastExist
yes_exactly w s members right keeps files standing = (
  λ yes. record { bounds = yes.0; encloses = yes.1.1.encloses; apart = yes.1.2 },
  λ given.
      let least : (bounds : Test) × IsLeast (permits (common_filter w s members)) w.files s members bounds = least_exist (permits (common_filter w s members)) w.files s members keeps in (
        least.0,
        (
          excluded_unfound w s members right keeps files standing given,
          least.1,
          λ met. given.apart
              (meets_more s.spaces (tested least.0) (tested given.bounds) (least.1.within given.bounds given.encloses) right met),
        ),
      ),
)

pub undecided_exactly : UndecidedExactly
unfolding UndecidedExactly LeastExist BlamedIfMet
undecided_exactly w s members right keeps = (
  λ it. record { met = it.2.1; unfound = it.2.0 },
  λ given.
      let least : (bounds : Test) × IsLeast (permits (common_filter w s members)) w.files s members bounds = least_exist (permits (common_filter w s members)) w.files s members keeps in
      let blamed : IsBlamed (permits (common_filter w s members)) w.files s members right
      = (blamed_if_met (permits (common_filter w s members)) w.files s members right least.0 keeps least.1).0 (given.met least.0 least.1.encloses) in
      (blamed.blame, blamed.below, (given.unfound, given.met, blamed.is)),
)

pub undecided_is_unsettled : UndecidedIsUnsettled
unfolding UndecidedIsUnsettled SettledIsNeverOpen KeptTakeBack
undecided_is_unsettled w s members right blame below keeps (none, met, is) settled =
    settled_is_never_open w s members right (state_fits s keeps) (kept_take_back s keeps) settled (record { met = met; unfound = none })
