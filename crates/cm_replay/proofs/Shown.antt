-- What is left of the lines of a replay that isn't shown.
use Rattle.std.proofs.Common.{◌≡◌, ◌≢◌, Bool, true, false, ℕ, List, [], ◌∷◌, ◌++◌, Option, Some, None, refl, sym, ap, ◌∙◌}
use Rattle.cm_base.specs.declared.res.Res.{Res}
use Rattle.cm_base.specs.declared.res.Res.TheVariants.{Child}
use Rattle.cm_base.specs.declared.status.Status.{Status}
use Rattle.cm_base.specs.declared.status.Status.TheVariants as status
use Rattle.cm_replay.specs.Shown.{shown_lines, shown_report}
use Rattle.model_cred.specs.Process.{Process, State, process_at}
use Rattle.model_cred.specs.World.{World}
use Rattle.model_report.proofs.Texts.{plain_append, silenced_other}
use Rattle.model_report.specs.Replay.{Report, ReportLine, Plain, after, plain_lines, silenced, credentials_if, child_lines}
use Rattle.model_report.specs.Replay.{step_lines, text_of}
use Rattle.model_text.specs.Reading.{Placed}

-- ---- the lines of plain text

credentials_plain : (w : World) (p : Option Process) → plain_lines (credentials_if w p) ≡ []
credentials_plain w None = refl
credentials_plain w (Some p) = refl

child_plain : (w : World) (s : State) (res : Res) → plain_lines (child_lines w s res) ≡ []
child_plain w s (Child pid) = credentials_plain w (process_at s.processes pid)
child_plain w s _ = refl

-- a step has none
pub step_plain : (w : World) (s : State) (e : Placed) → plain_lines (step_lines w s e) ≡ []
step_plain w s e =
    let own : List ReportLine = credentials_if w (process_at s.processes e.event.pid) in
    let child : List ReportLine = child_lines w s e.event.res in
    plain_append own child
    ∙ ap (λ (ls : List ReportLine). ls ++ plain_lines child) (credentials_plain w (process_at s.processes e.event.pid))
    ∙ child_plain w s e.event.res

-- ---- what is shown
-- whether it is shown or not, a report has one status
pub same_status : (b : Bool) (r : Report) → (shown_report b r).status ≡ r.status
same_status true r = refl
same_status false r = refl

-- one that isn't shown, and is accepted, has no lines
pub none_shown : (r : Report) → r.status ≡ status.Accepted → text_of (shown_report false r).lines ≡ []
none_shown r is = ap (λ (st : Status). text_of (shown_report false (record { status = st; lines = r.lines })).lines) is

silenced_on : (st : Status) (lines more : List ReportLine) → plain_lines lines ≡ [] → silenced st (lines ++ more) ≡ plain_lines lines ++ silenced st more
silenced_on status.Accepted lines more none = sym (ap (λ (ls : List ReportLine). ls ++ []) none)
silenced_on _ lines more none = plain_append lines more

-- lines without plain text before a report
pub shown_after : (shows : Bool) (lines : List ReportLine) (r : Report) → plain_lines lines ≡ []
    → shown_report shows (after lines r) ≡ after (shown_lines shows lines) (shown_report shows r)
shown_after true lines r none = refl
shown_after false lines r none =
    ap (λ (ls : List ReportLine). record { status = r.status; lines = ls }) (silenced_on r.status lines r.lines none)

-- a report that isn't accepted
pub shown_end : (shows : Bool) (st : Status) (lines : List ReportLine) → st ≢ status.Accepted
    → shown_report shows (record { status = st; lines = lines }) ≡ record { status = st; lines = shown_lines shows lines }
shown_end true st lines other = refl
shown_end false st lines other = ap (λ (ls : List ReportLine). record { status = st; lines = ls }) (silenced_other st lines other)

-- a line of plain text is shown always
pub shown_line : (shows : Bool) (text : List ℕ) (lines : List ReportLine) → lines ≡ Plain text ∷ [] → shown_lines shows lines ≡ Plain text ∷ []
shown_line true text lines is = is
shown_line false text lines is = ap plain_lines is

-- nor are there lines of a step that isn't shown
pub no_step_lines : (w : World) (s : State) (e : Placed) (shows : Bool) → shows ≡ false → shown_lines shows (step_lines w s e) ≡ []
no_step_lines w s e true is = absurd (cc)
no_step_lines w s e false is = step_plain w s e
