-- What is written before a fault of reading, by which read failed.
use Rattle.std.proofs.Common.{◌≡◌, ◌≢◌, ◌<◌, ◌∙◌, ℕ, Bool, true, false, IsTrue, List, [], ◌∷◌, ◌++◌, ◌⊎◌, Option, Ok, IfSome, arith}
use Rattle.std.proofs.Common.{ap, inl, inr, refl, subst, sym}
use Rattle.std.proofs.lemmas.Option.{IfSome_then}
use Rattle.cm_base.specs.declared.limited.Limited.{Limited}
use Rattle.cm_base.specs.declared.limited.Limited.TheVariants as limit
use Rattle.cm_base.specs.declared.status.Status.{Status}
use Rattle.cm_base.specs.declared.status.Status.TheVariants as answers
use Rattle.cm_cli.proofs.Replaying.{asking_names}
use Rattle.cm_cli.specs.BeforeFault.{HoldsLines, HoldsShown, HoldsStart, RoseAt, WritesBefore, WritesBeforeFault, WritesLines}
use Rattle.cm_cli.specs.Files.{ApartFor}
use Rattle.cm_cli.specs.Query.{file_of, shows_of}
use Rattle.cm_cli.specs.Reading.{IsWorldRead}
use Rattle.cm_cli.specs.Words.{asking, claiming}
use Rattle.cm_cli.specs.declared.query.Claim.{Claim}
use Rattle.cm_cli.specs.declared.query.ClaimKind.{ClaimKind}
use Rattle.cm_cli.specs.declared.query.ClaimKind.TheVariants as kind
use Rattle.cm_cli.specs.declared.query.Task.{Task}
use Rattle.cm_cli.specs.declared.query.Task.TheVariants as task
use Rattle.cm_declared.specs.World.{world_of}
use Rattle.cm_declared.specs.declared.world.World as code
use Rattle.cm_io.specs.Shelf.{CountsApart, Files, TakesAtMost, bytes_at}
use Rattle.cm_io.specs.Sink.{then_written}
use Rattle.cm_replay.proofs.Held.{always, if_both}
use Rattle.cm_replay.specs.Shown.{start_shown}
use Rattle.cm_replay.specs.Told.{TellsTaken, lines_report}
use Rattle.model_cred.specs.World.{World}
use Rattle.model_report.specs.Command.{Command, files_of, task_of}
use Rattle.model_report.specs.Replay.{text_of}
use Rattle.model_report.specs.Report.{shows, start_lines}
use Rattle.model_text.specs.WorldText.{Reads, WorldText}

-- no read failed
pub no_fault : (held : Option Files) (counted : List ℕ → Bool) (command : Command) (answer : Status)
    (before now : List ℕ → ℕ) (w w' : Option (List ℕ))
    → answer ≢ answers.ReadFault → WritesBeforeFault held counted command answer before now w w'
no_fault held counted command answer before now w w' other is = absurd (other is)

-- ---- the command that asks after a log
claiming_shows : (k : ClaimKind) (claim : Claim) (world log : List ℕ)
    → shows (task_of (claiming k claim.query world log claim.file.now) (λ name. [])) ≡ false
claiming_shows kind.Certificate claim world log = refl
claiming_shows kind.Run claim world log = refl

asking_shows : (t : Task) (world log : List ℕ) → shows (task_of (asking t world log) (λ name. [])) ≡ shows_of t
asking_shows task.Nothing world log = refl
asking_shows (task.Judge q) world log = refl
asking_shows (task.Claims claim) world log = claiming_shows claim.kind claim world log

-- the names of the first file, and of the second
first_name : List (List ℕ × Limited) → List ℕ
first_name [] = []
first_name (file ∷ files) = file.0

second_name : List (List ℕ × Limited) → List ℕ
second_name [] = []
second_name (file ∷ files) = first_name files

-- what holds of its names holds of those that the command has
names_asked : (t : Task) (world log world' log' : List ℕ) (more : List (List ℕ × Limited))
    (Holds : Bool → List ℕ → List ℕ → Type 0)
    → files_of (asking t world log) ≡ (world', limit.World) ∷ (log', limit.Log) ∷ more → Holds (shows_of t) world log
    → Holds (shows (task_of (asking t world log) (λ name. []))) world' log'
unfolding first_name second_name
names_asked t world log world' log' more Holds names here =
    let same = sym (asking_names t world log) ∙ names in
    subst (λ (b : Bool). Holds b world' log') (sym (asking_shows t world log))
    (subst (λ (n : List ℕ). Holds (shows_of t) world' n) (ap second_name same)
    (subst (λ (n : List ℕ). Holds (shows_of t) n log) (ap first_name same) here))

pub before_asked : (held : Option Files) (counted : List ℕ → Bool) (t : Task) (world log : List ℕ) (answer : Status)
    (before now : List ℕ → ℕ) (w w' : Option (List ℕ))
    → (answer ≡ answers.ReadFault → WritesBefore held counted (shows_of t) world log before now w w')
    → WritesBeforeFault held counted (asking t world log) answer before now w w'
before_asked held counted t world log answer before now w w' writes is world' log' more names =
    names_asked t world log world' log' more (λ b x y. WritesBefore held counted b x y before now w w')
    names (writes is)

-- ---- the world couldn't be read
pub world_before : (held : Option Files) (counted : List ℕ → Bool) (b : Bool) (world log : List ℕ)
    (before now reads reads' : List ℕ → ℕ) (w : Option (List ℕ))
    → CountsApart counted before now reads reads' world → WritesBefore held counted b world log before now w w
world_before held counted b world log before now reads reads' w apart = record {
  of_world = λ _ _ _. refl;
  unshown = λ _. refl;
  of_log = λ _ other counts rose.
      let stays = apart.faults_stay counts log (λ is. other (sym is)) in
      absurd (omega (arith, stays, rose));
  either = λ _. always held (λ files. inl refl);
}

-- ---- the world was read, and then the log or a third file couldn't be
world_in : WorldText → World → World
world_in (Reads w) other = w
world_in _ other = other

-- where this world was read of the bytes, and its lines are written, they hold the lines at its start
starts_in : (bytes : List ℕ) (c : code.World) (w w' : Option (List ℕ)) (b : Bool) → IsWorldRead (Ok c) bytes
    → HoldsShown b (world_of c) w w' → b ≡ true → HoldsStart bytes w w'
unfolding world_in
starts_in bytes c w w' true read holds is other reads =
    let same : world_of c ≡ other = ap (λ (text : WorldText). world_in text other) (sym read.text_is ∙ reads.text_is) in
    (holds.more, subst (λ (x : World). w' ≡ then_written w (text_of (start_lines x) ++ holds.more)) same holds.holds)
starts_in bytes c w w' false read holds is other reads = absurd (cc)

module _ (held : Option Files) (counted : List ℕ → Bool) (t : Task) (world log : List ℕ) (c : code.World)
    (before mid now reads reads' : List ℕ → ℕ) (w w' : Option (List ℕ))
    (read : IfSome held (λ files. IsWorldRead (Ok c) (bytes_at files world))) (same : (n : List ℕ) → mid n ≡ before n)
    (holds : HoldsShown (shows_of t) (world_of c) w w') where
  -- where its replay is shown, no third file is read, so it wasn't the world's count that rose
  not_world : (u : Task) → shows_of u ≡ true → ApartFor ((log, limit.Log) ∷ file_of u) counted mid now reads reads' → world ≢ log
      → IsTrue (counted log) → before world < now world → ⊥
  not_world task.Nothing shown apart other counts rose =
      let stays = apart.faults_stay counts world other in
      let was = same world in
      omega (arith, stays, was, rose)
  not_world (task.Judge q) shown apart other counts rose =
      let stays = apart.faults_stay counts world other in
      let was = same world in
      omega (arith, stays, was, rose)
  not_world (task.Claims claim) shown apart other counts rose = cc

  shown_or_not : (b : Bool) → (b ≡ true) ⊎ (b ≡ false)
  shown_or_not true = inl refl
  shown_or_not false = inr refl

  pub log_before : ApartFor ((log, limit.Log) ∷ file_of t) counted mid now reads reads'
      → WritesBefore held counted (shows_of t) world log before now w w'
  log_before apart = record {
    of_world = λ other counts rose. elim (shown_or_not (shows_of t)) [
      | inl shown ↦ absurd (not_world t shown apart other counts rose)
      | inr hidden ↦ holds.unshown hidden
    ];
    unshown = holds.unshown;
    of_log = λ shown _ _ _. IfSome_then held read
        (λ files is. starts_in (bytes_at files world) c w w' (shows_of t) is holds shown);
    either = λ shown. IfSome_then held read
        (λ files is. inr (starts_in (bytes_at files world) c w w' (shows_of t) is holds shown));
  }

-- ---- what is told of the lines
pub no_lines : (held : Option Files) (counted : List ℕ → Bool) (command : Command) (answer : Status)
    (before now taken taken' : List ℕ → ℕ) (w w' : Option (List ℕ))
    → answer ≢ answers.ReadFault → WritesLines held counted command answer before now taken taken' w w'
no_lines held counted command answer before now taken taken' w w' other is = absurd (other is)

-- the same of the names that a command has
abbrev pub LinesAsked : Option Files → (counted : List ℕ → Bool) → Bool → (world log : List ℕ) → (before now taken taken' : List ℕ → ℕ)
    → (w w' : Option (List ℕ)) → Type 0
LinesAsked held counted b world log before now taken taken' w w' =
    b ≡ true → world ≢ log → IsTrue (counted world) → RoseAt log before now
    → IfSome held (λ files. HoldsLines (bytes_at files world) (bytes_at files log) (taken log) (taken' log) w w')

pub lines_asked : (held : Option Files) (counted : List ℕ → Bool) (t : Task) (world log : List ℕ) (answer : Status)
    (before now taken taken' : List ℕ → ℕ) (w w' : Option (List ℕ))
    → (answer ≡ answers.ReadFault → LinesAsked held counted (shows_of t) world log before now taken taken' w w')
    → WritesLines held counted (asking t world log) answer before now taken taken' w w'
lines_asked held counted t world log answer before now taken taken' w w' writes is world' log' more names =
    names_asked t world log world' log' more (λ b x y. LinesAsked held counted b x y before now taken taken' w w')
    names (writes is)

-- where the world couldn't be read, no count of the log's rose
pub world_lines : (held : Option Files) (counted : List ℕ → Bool) (b : Bool) (world log : List ℕ)
    (before now reads reads' taken taken' : List ℕ → ℕ) (w w' : Option (List ℕ))
    → CountsApart counted before now reads reads' world → LinesAsked held counted b world log before now taken taken' w w'
world_lines held counted b world log before now reads reads' taken taken' w w' apart shown other counts rose =
    let stays = apart.faults_stay counts log (λ is. other (sym is)) in
    absurd (omega (arith, stays, rose))

-- where this world was read of the bytes
lines_in : (bytes log : List ℕ) (c : code.World) (taken taken' : ℕ) (w w' : Option (List ℕ)) (b : Bool) → IsWorldRead (Ok c) bytes → b ≡ true
    → TellsTaken b (lines_report b (world_of c)) log taken taken' (text_of (start_shown b (world_of c))) w w'
    → HoldsLines bytes log taken taken' w w'
unfolding world_in
lines_in bytes log c taken taken' w w' true read is tells other reads =
    let same : world_of c ≡ other = ap (λ (text : WorldText). world_in text other) (sym read.text_is ∙ reads.text_is) in
    subst (λ (x : World). TellsTaken true (lines_report true x) log taken taken' (text_of (start_lines x)) w w') same tells
lines_in bytes log c taken taken' w w' false read is tells other reads = absurd (cc)

pub log_lines : (held : Option Files) (counted : List ℕ → Bool) (b : Bool) (world log : List ℕ) (c : code.World)
    (before now taken mid taken' : List ℕ → ℕ) (w w' : Option (List ℕ)) (most : ℕ)
    → IfSome held (λ files. IsWorldRead (Ok c) (bytes_at files world)) → TakesAtMost taken mid world most
    → (b ≡ true → IfSome held (λ files. TellsTaken b (lines_report b (world_of c)) (bytes_at files log) (mid log) (taken' log)
    (text_of (start_shown b (world_of c))) w w'))
    → LinesAsked held counted b world log before now taken taken' w w'
log_lines held counted b world log c before now taken mid taken' w w' most read takes tells shown other counts rose =
    let same : mid log ≡ taken log = takes.others log (λ is. other (sym is)) in
    if_both held read (tells shown) (λ files is told.
    subst (λ (n : ℕ). HoldsLines (bytes_at files world) (bytes_at files log) n (taken' log) w w') same
    (lines_in (bytes_at files world) (bytes_at files log) c (mid log) (taken' log) w w' b is shown told))
