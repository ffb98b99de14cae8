-- What a verdict on a right of members says, clause by clause.
use Rattle.std.proofs.Common.{◌≡◌, ℕ, ◌<◌, true, false, List, Option, refl, sym, ◌∙◌, length, ap, inl, inr, slice_get, is_some, arith}
use Rattle.std.proofs.lemmas.Option.{slice_get_cases}
use Rattle.std.specs.Prelude.{◌↔◌, IsTrue}
use Rattle.cm_audit.specs.Says.{is_yes, is_no, is_undecided, YesIsLeast, NoIsFirst, UndecidedIsBlamed, UndecidedIsBelow}
use Rattle.cm_audit.specs.Told.{Told, TellsNo, TellsYes, TellsUndecided, verdict_in, IsVerdictOn}
use Rattle.model_box.specs.Bounds.{bounds_hold}
use Rattle.model_box.specs.Files.{FilesFit}
use Rattle.model_box.specs.Meets.{IsOverStanding}
use Rattle.model_box.proofs.Worlds.{state_fits}
use Rattle.model_cred.specs.Process.{Process, State, KeepsState, process_at, is_alive}
use Rattle.model_cred.specs.Right.{Right}
use Rattle.model_cred.specs.World.{World}
use Rattle.model_plans.specs.Firsts.{PidsAscend}
use Rattle.model_plans.specs.PlanRun.{Found}
use Rattle.model_run.specs.Never.{NeverHeld}
use Rattle.model_verdict.proofs.InWorlds.{no_is_first_run, blame_is_below}
use Rattle.model_verdict.proofs.Verdicts.{one_verdict, yes_exactly, yes_is_kept, undecided_exactly, undecided_is_unsettled}
use Rattle.model_verdict.specs.Blame.{Blame}
use Rattle.model_verdict.specs.InWorld.{VerdictIn, ExcludedIn, FoundIn, OpenIn, SettledIn, NoIsFirstRun, BlameIsBelow}
use Rattle.model_verdict.specs.Least.{Test}
use Rattle.model_verdict.specs.Verdict.{Verdict, No, Yes, Undecided, AreOne, YesExactly, YesIsKept, OneVerdict, UndecidedExactly, UndecidedIsUnsettled}

-- ---- who is asked
-- a process that was found by a pid is alive
pub found_alive : (ps : List Process) (at pid : ℕ) → (at < length ps) × (slice_get ps at ≡ process_at ps pid) → is_alive ps pid ≡ true
found_alive ps at pid (low, is) = elim ((slice_get_cases ps at).1) [
  | inl (p, _, there, _) ↦ ap (λ (o : Option Process). is_some o) (sym is ∙ there)
  | inr (past, _) ↦ absurd (grind (arith, low, past))
]

-- ---- one verdict and its kind
kind_yes : (x : Told) (bounds : Test) → AreOne (verdict_in x) (Yes bounds) → IsTrue (is_yes x)
kind_yes (TellsYes rows) bounds same = refl
kind_yes _ bounds same = absurd same

kind_no : (x : Told) (found : Found) → AreOne (verdict_in x) (No found) → IsTrue (is_no x)
kind_no (TellsNo found') found same = refl
kind_no _ found same = absurd same

kind_undecided : (x : Told) (blame : Blame) (below : Test) → AreOne (verdict_in x) (Undecided blame below) → IsTrue (is_undecided x)
kind_undecided (TellsUndecided blame' rows) blame below same = refl
kind_undecided _ blame below same = absurd same

module _ (w : World) (s : State) (members : List ℕ) (right : Right) where
  -- two verdicts on one question are one
  one : (x : Told) → IsVerdictOn w s members right x → (u : Verdict) → VerdictIn w s members right u → AreOne (verdict_in x) u
  unfolding OneVerdict
  one x is u there = one_verdict w s members right (verdict_in x) u is.verdict there

  -- ---- no
  no_found : (x : Told) → VerdictIn w s members right (verdict_in x) → IsTrue (is_no x) → FoundIn w s members right
  no_found (TellsNo found) there said = (found, there)
  no_found _ there said = absurd (cc)

  pub no : (x : Told) → IsVerdictOn w s members right x → IsTrue (is_no x) ↔ FoundIn w s members right
  no x is = (no_found x is.verdict, λ found. kind_no x found.0 (one x is (No found.0) found.1))

  run_by : (x : Told) → VerdictIn w s members right (verdict_in x) → PidsAscend members → NoIsFirst w s members right x
  unfolding NoIsFirstRun
  run_by (TellsNo found) there ascend = no_is_first_run w s members right found ascend there
  run_by _ there ascend = tt

  pub run : (x : Told) → IsVerdictOn w s members right x → PidsAscend members → NoIsFirst w s members right x
  run x is ascend = run_by x is.verdict ascend

  -- ---- yes
  least_by : (x : Told) → VerdictIn w s members right (verdict_in x) → YesIsLeast w s members x
  least_by (TellsYes rows) (none, least, apart) = least
  least_by _ there = tt

  pub least : (x : Told) → IsVerdictOn w s members right x → YesIsLeast w s members x
  least x is = least_by x is.verdict

  -- ---- with what the state and the files keep
  module _ (keeps : KeepsState s) (files : FilesFit w.files s.spaces) (standing : IsOverStanding s.spaces right) where
    never_by : (x : Told) → VerdictIn w s members right (verdict_in x) → IsTrue (is_yes x) → NeverHeld w s members right
    unfolding YesIsKept
    never_by (TellsYes rows) there said =
        yes_is_kept w s members right (bounds_hold rows) keeps files standing there
    never_by (TellsNo found) there said = absurd (cc)
    never_by (TellsUndecided blame rows) there said = absurd (cc)

    pub never_held : (x : Told) → IsVerdictOn w s members right x → IsTrue (is_yes x) → NeverHeld w s members right
    never_held x is said = never_by x is.verdict said

    yes_excluded : (x : Told) → VerdictIn w s members right (verdict_in x) → IsTrue (is_yes x) → ExcludedIn w s members right
    unfolding YesExactly
    yes_excluded (TellsYes rows) there said =
        (yes_exactly w s members right keeps files standing).0 (bounds_hold rows, there)
    yes_excluded (TellsNo found) there said = absurd (cc)
    yes_excluded (TellsUndecided blame rows) there said = absurd (cc)

    pub yes : (x : Told) → IsVerdictOn w s members right x → IsTrue (is_yes x) ↔ ExcludedIn w s members right
    unfolding YesExactly
    yes x is = (
      yes_excluded x is.verdict,
      λ excluded.
          let there : (bounds : Test) × VerdictIn w s members right (Yes bounds)
          = (yes_exactly w s members right keeps files standing).1 excluded in
          kind_yes x there.0 (one x is (Yes there.0) there.1),
    )

    -- ---- undecided
    undecided_open : (x : Told) → VerdictIn w s members right (verdict_in x) → IsTrue (is_undecided x) → OpenIn w s members right
    unfolding UndecidedExactly
    undecided_open (TellsUndecided blame rows) there said =
        (undecided_exactly w s members right keeps).0 (blame, bounds_hold rows, there)
    undecided_open (TellsYes rows) there said = absurd (cc)
    undecided_open (TellsNo found) there said = absurd (cc)

    pub undecided : (x : Told) → IsVerdictOn w s members right x → IsTrue (is_undecided x) ↔ OpenIn w s members right
    unfolding UndecidedExactly
    undecided x is = (
      undecided_open x is.verdict,
      λ it.
          let there : (blame : Blame) × (below : Test) × VerdictIn w s members right (Undecided blame below)
          = (undecided_exactly w s members right keeps).1 it in
          kind_undecided x there.0 there.1 (one x is (Undecided there.0 there.1) there.2),
    )

    settled_by : (x : Told) → VerdictIn w s members right (verdict_in x) → SettledIn w s members → is_undecided x ≡ false
    unfolding UndecidedIsUnsettled
    settled_by (TellsUndecided blame rows) there settled =
        absurd (undecided_is_unsettled w s members right blame (bounds_hold rows) keeps there settled)
    settled_by (TellsYes rows) there settled = refl
    settled_by (TellsNo found) there settled = refl

    pub settled : (x : Told) → IsVerdictOn w s members right x → SettledIn w s members → is_undecided x ≡ false
    settled x is = settled_by x is.verdict

    blame_by : (x : Told) → VerdictIn w s members right (verdict_in x) → UndecidedIsBlamed w s members right x
    blame_by (TellsUndecided blame rows) (none, met, blamed) = blamed
    blame_by _ there = tt

    pub blame : (x : Told) → IsVerdictOn w s members right x → UndecidedIsBlamed w s members right x
    blame x is = blame_by x is.verdict

    below_by : (x : Told) → UndecidedIsBlamed w s members right x → UndecidedIsBelow w s members right x
    unfolding BlameIsBelow
    below_by (TellsUndecided blame rows) blamed = blame_is_below w s members right blame (bounds_hold rows) (state_fits s keeps) blamed
    below_by _ there = tt

    pub below : (x : Told) → IsVerdictOn w s members right x → UndecidedIsBelow w s members right x
    below x is = below_by x (blame x is)
