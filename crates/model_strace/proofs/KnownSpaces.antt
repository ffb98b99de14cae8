-- A session learns of no more user namespaces in a line than the events that the line tells make.
use Rattle.std.proofs.Common.{◌≡◌, ℕ, zero, suc, ◌+◌, ◌≤◌, Bool, true, false, List, [], ◌∷◌, ◌++◌, length, Option, Some}
use Rattle.std.proofs.Common.{None, ap, ◌∙◌, arith, nat_lt, if◌then◌else◌}
use Rattle.std.proofs.lemmas.List.{map-append}
use Rattle.std.proofs.lemmas.List.Sums.{sum_by-append}
use Rattle.std.specs.Prelude.{cond}
use Rattle.cm_base.specs.Limited.{limit_number}
use Rattle.cm_base.specs.declared.limited.Limited.TheVariants as limit
use Rattle.cm_base.specs.declared.res.Res.{Res}
use Rattle.cm_base.specs.declared.res.Res.TheVariants as res
use Rattle.model_cred.specs.Call as model
use Rattle.model_cred.specs.Call.{Call}
use Rattle.model_cred.specs.Made.{makes_space, spaces_made}
use Rattle.model_cred.specs.World.{World}
use Rattle.model_strace.proofs.Ways.{Way, Rests, Drops, Follows, Begins, Makes, Births, Fails, Enters, Writes}
use Rattle.model_strace.proofs.Ways.{Unwritten, Exits, Resumes, turn_way}
use Rattle.model_strace.specs.After.{After, Goes, Halts, preceded, and_then}
use Rattle.model_strace.specs.Body.{PidLine, Blank, NoPid, Of, row_of}
use Rattle.model_strace.specs.Counts.{SpacesByEvents, spaces_known}
use Rattle.model_strace.specs.Lines.{Line, Read, Next, given_at, next_line, read_line}
use Rattle.model_strace.specs.Parts.{Parts, after_end, is_known, without_kept}
use Rattle.model_strace.specs.Rest.{Work, Going, answer_of, session_of, fed, held_fed, line_fed, read_fed, row_fed}
use Rattle.model_strace.specs.Rest.{released, then_released, without_first}
use Rattle.model_strace.specs.Turn.{Turn, Quiet, Gives, birth_call, done, turn, with_child}
use Rattle.model_text.specs.Reading.{Placed, Limit, events_of}

-- ---- turns
-- Where so many user namespaces were known, no more are after a turn than that, and those that its event makes.
abbrev TurnMakes : ℕ → Turn → Type 0
TurnMakes n (Quiet p) = p.spaces ≤ n
TurnMakes n (Gives p e born) = p.spaces ≤ n + spaces_made (e ∷ [])
TurnMakes n _ = Unit {0}

module _ (n pid : ℕ) where
  -- an event after which as many are known
  gives_makes : (p : Parts) (call : Call) (r : Res) (born : List ℕ) → p.spaces ≤ n
      → TurnMakes n (Gives p (record { pid = pid; call = call; res = r }) born)
  gives_makes p call r born low = omega (arith, low)

  done_makes : (call : Call) (r : Res) (p : Parts) → p.spaces ≤ n → TurnMakes n (done pid call r p)
  done_makes model.Unshare res.Done p low = omega (arith, low)
  done_makes (model.SetNs space) res.Done p low = omega (arith, low)
  done_makes (model.Exec file) res.Done p low = omega (arith, low)
  done_makes call r p low = omega (arith, low)

  child_makes : (child : ℕ) (user shares : Bool) (p : Parts) → p.spaces ≤ n
      → TurnMakes n (Gives (with_child pid child user shares p) (record { pid = pid; call = birth_call user; res = res.Child child }) (child ∷ []))
  child_makes child true shares p low = omega (arith, low)
  child_makes child false shares p low = omega (arith, low)

  way_makes : (p : Parts) (t : Turn) → Way (λ told. Unit {0}) pid p t → p.spaces ≤ n → TurnMakes n t
  way_makes p t Rests low = low
  way_makes p t (Drops number) low = low
  way_makes p t (Follows number until_exec file of task is) low = low
  way_makes p t (Begins text) low = low
  way_makes p t (Makes call r is) low = done_makes call r p low
  way_makes p t (Births user shares child is) low = child_makes child user shares p low
  way_makes p t (Fails user shares r is) low = gives_makes p (birth_call user) r [] low
  way_makes p t (Enters d known r may) low = done_makes (model.SetNs d.space) r p low
  way_makes p t (Writes d known text call is) low = done_makes call res.Done p low
  way_makes p t (Unwritten d known text call is e) low = gives_makes p call (res.Err e) [] low
  way_makes p t Exits low = gives_makes (after_end pid p) model.Exit res.Done [] low
  way_makes p t (Resumes _ way) low = way_makes (without_kept pid p) t way low
  way_makes p t _ low = tt

-- ---- one thing after another
-- how many of these events make one
abbrev made : List Placed → ℕ
made events = spaces_made (events_of events)

-- Where so many were known, no more are after these events than that, and those that the events make.
abbrev AfterMakes : {S : Type 0} → (S → Parts) → ℕ → After S → Type 0
AfterMakes parts n (Goes events s) = (parts s).spaces ≤ n + made events
AfterMakes parts n (Halts events stop) = Unit {0}

preceded_makes : {S : Type 0} (parts : S → Parts) (n : ℕ) (one : List Placed) (a : After S) → AfterMakes parts (n + made one) a
    → AfterMakes parts n (preceded one a)
preceded_makes parts n one (Goes events s) low =
    let both : made (one ++ events) ≡ made one + made events =
    ap spaces_made (map-append (λ (e : Placed). e.event) one events)
    ∙ sum_by-append (λ e. cond (makes_space e.call e.res) 1 0) (events_of one) (events_of events) in
    let is : (parts s).spaces ≤ n + made one + made events = low in
    omega (arith, both, is)
preceded_makes parts n one (Halts events stop) low = tt

then_makes : {S T : Type 0} (parts : S → Parts) (later : T → Parts) (n : ℕ) (a : After S) (next : S → After T) → AfterMakes parts n a
    → ((k : ℕ) (s : S) → (parts s).spaces ≤ k → AfterMakes later k (next s)) → AfterMakes later n (and_then a next)
then_makes parts later n (Goes events s) next low each = preceded_makes later n events (next s) (each (n + made events) s low)
then_makes parts later n (Halts events stop) next low each = tt

-- ---- lines
given_makes : (n number : ℕ) (t : Turn) → TurnMakes n t → AfterMakes (λ r. r.parts) n (given_at number t)
given_makes n number (Quiet p) low = omega (arith, low)
given_makes n number (Gives p e born) low = low
given_makes n number _ low = tt

module _ (w : World) where
  read_makes : (n : ℕ) (l : Line) (p : Parts) → p.spaces ≤ n → AfterMakes (λ r. r.parts) n (read_line w l p)
  read_makes n l p low =
      given_makes n l.number (turn w l.pid l.body p)
      (way_makes n l.pid p (turn w l.pid l.body p) (turn_way (λ told. Unit {0}) l.pid w (λ text. tt) l.body p) low)

  rest_makes : (n : ℕ) (x : Option Next) (t : Work) (rest : List ℕ → Work → After Work) → t.parts.spaces ≤ n
      → ((k : ℕ) (pids : List ℕ) (t' : Work) → t'.parts.spaces ≤ k → AfterMakes (λ t. t.parts) k (rest pids t'))
      → AfterMakes (λ t. t.parts) n (then_released w x t rest)
  rest_makes n None t rest low each = omega (arith, low)
  rest_makes n (Some x) t rest low each =
      then_makes (λ (r : Read). r.parts) (λ (t : Work). t.parts) n (read_line w x.line t.parts)
      (λ r. rest (r.born ++ x.pids) (record t { parts = r.parts; held = without_first x.line.pid t.held }))
      (read_makes n x.line t.parts low)
      (λ k r its. each k (r.born ++ x.pids) (record t { parts = r.parts; held = without_first x.line.pid t.held }) its)

  released_makes : (n left : ℕ) (pids : List ℕ) (t : Work) → t.parts.spaces ≤ n → AfterMakes (λ t. t.parts) n (released w left pids t)
  released_makes n zero pids t low = omega (arith, low)
  released_makes n (suc left) pids t low =
      rest_makes n (next_line t.parts t.held pids) t (λ pids' t'. released w left pids' t') low
      (λ k pids' t' its. released_makes k left pids' t' its)

  now_makes : (n : ℕ) (l : Line) (t : Work) → t.parts.spaces ≤ n → AfterMakes (λ t. t.parts) n (read_fed w l t)
  now_makes n l t low =
      then_makes (λ (r : Read). r.parts) (λ (t : Work). t.parts) n (read_line w l t.parts)
      (λ r. released w (length t.held) r.born (record t { parts = r.parts })) (read_makes n l t.parts low)
      (λ k r its. released_makes k (length t.held) r.born (record t { parts = r.parts }) its)

  hold_makes : (n : ℕ) (l : Line) (t : Work) → t.parts.spaces ≤ n → AfterMakes (λ t. t.parts) n (held_fed l t)
  hold_makes n l t low =
      elim (nat_lt (limit_number limit.Held) (length (t.held ++ l ∷ []))) as (λ (b : Bool). AfterMakes (λ (t : Work). t.parts) n
      (if b then Halts [] (Limit limit.Held) else Goes [] (record t { held = t.held ++ l ∷ [] }))) [
        | true ↦ tt
        | false ↦ omega (arith, low)
      ]

  line_makes : (n : ℕ) (l : Line) (t : Work) → t.parts.spaces ≤ n → AfterMakes (λ t. t.parts) n (line_fed w l t)
  line_makes n l t low =
      elim (is_known l.pid t.parts)
      as (λ (b : Bool). AfterMakes (λ (t : Work). t.parts) n (if b then read_fed w l t else held_fed l t)) [
        | true ↦ now_makes n l t low
        | false ↦ hold_makes n l t low
      ]

  row_makes : (n : ℕ) (row : PidLine) (t : Work) → t.parts.spaces ≤ n → AfterMakes (λ t. t.parts) n (row_fed w row t)
  row_makes n Blank t low = omega (arith, low)
  row_makes n NoPid t low = tt
  row_makes n (Of pid body) t low = line_makes n (record { number = t.count; pid = pid; body = body }) t low

-- what a session knows by what is answered
session_makes : (n count : ℕ) (a : After Work) → AfterMakes (λ t. t.parts) n a
    → spaces_known (session_of count a) ≤ n + made (answer_of a).events
session_makes n count (Goes events t) low = low
session_makes n count (Halts events stop) low = omega arith

pub spaces_by_events : SpacesByEvents
unfolding SpacesByEvents
spaces_by_events w (Going t) line =
    session_makes t.parts.spaces (t.count + 1) (fed w line t)
    (row_makes w t.parts.spaces (row_of line) (record t { count = t.count + 1 }) (omega arith))
spaces_by_events w _ line = omega arith
