-- The events of the runs of plans are writable: so the lines of the run that an audit tells are read again as that run.
use Rattle.std.proofs.Common.{◌≡◌, ℕ, ◌<◌, ◌≤◌, ◌==◌, false, List, [], ◌∷◌, ◌++◌, length, map}
use Rattle.std.proofs.Common.{Option, Some, None, IfSome, IsTrue, All, refl, sym, ap, ◌∙◌, subst, arith, Bool}
use Rattle.std.proofs.lemmas.Bool.{cond_both, ltb-true}
use Rattle.std.proofs.lemmas.List.Elements.{All-nil, All-cons, All-weaker}
use Rattle.cm_base.specs.CapSet.{IsCapSet}
use Rattle.cm_base.specs.Limited.{limit_number}
use Rattle.cm_base.specs.Limits.{greatest_number}
use Rattle.cm_base.specs.declared.errno.Errno.TheVariants.{EINVAL, EPERM}
use Rattle.cm_base.specs.declared.limited.Limited.TheVariants as limit
use Rattle.cm_base.specs.declared.res.FileRef.{FileRef}
use Rattle.cm_filter.specs.declared.kind.CallKind.{CallKind}
use Rattle.cm_filter.specs.Filters.{permits}
use Rattle.model_cred.proofs.Lookups.{pid_of_found}
use Rattle.model_cred.proofs.Orders.{all_found}
use Rattle.model_cred.specs.Call.{Call, SetUid, SetReUid, SetResUid, SetGid, SetReGid, SetResGid, SetGroups, CapSet, SetNs, Exec, Event, kind_of}
use Rattle.model_cred.specs.Credential.{Credential, Keeps}
use Rattle.model_cred.specs.Files.{IsDeclared, KeepsFiles}
use Rattle.model_cred.specs.IdMap.{Extent, extents_of, up}
use Rattle.model_cred.specs.MapFault.{IsMap}
use Rattle.model_cred.specs.Process.{Process, State, KeepsState, is_pid, process_at}
use Rattle.model_cred.specs.Right.{Right}
use Rattle.model_cred.specs.Space.{KeepsSpace, Space, Spaces, space_of}
use Rattle.model_cred.specs.World.{World}
use Rattle.model_drill.proofs.Answers.{Fits, IsPlain, plain_capset, plain_done, plain_exec, plain_gids, plain_groups, plain_if}
use Rattle.model_drill.proofs.Answers.{plain_refused, plain_uids, up_fits}
use Rattle.model_laws.proofs.Keeping.{step_keeps}
use Rattle.model_laws.proofs.Owning.{own_step}
use Rattle.model_laws.specs.Runs.{StepKeeps}
use Rattle.model_plans.proofs.Calls.{Each, call_named, found_call}
use Rattle.model_plans.proofs.Laters.{MoveStands, MovesStand, all_plans, join_stands}
use Rattle.model_plans.proofs.Lists.{all_at}
use Rattle.model_plans.proofs.Walks.{IsOwn, own_alone, call_own}
use Rattle.model_plans.specs.Firsts.{IsFirst}
use Rattle.model_plans.specs.Move.{Move, Raise, BecomeZero, BecomeSought, BecomeGroup, TakeGroup, RunFile}
use Rattle.model_plans.specs.Move.{JoinSpace, Seat, Setting, seat_of}
use Rattle.model_plans.specs.Move.{becoming, call_of, calls_of, calls_with, gid_calls, group_calls, raising, sought_gid}
use Rattle.model_plans.specs.Move.{sought_uid, taking_group, uid_calls}
use Rattle.model_plans.specs.Plan.{Plan, plans}
use Rattle.model_plans.specs.PlanRun.{Found, PlanRun, call_made, move_made, moves_made, plan_run, setting_in}
use Rattle.model_plans.specs.Shortcuts.{then_made}
use Rattle.model_drill.proofs.Callers.{HasPid}
use Rattle.model_laws.proofs.MadeSpaces.{within_few}
use Rattle.model_report_laws.proofs.LivePids.{HavePids, run_has_pids, step_has_pids}
use Rattle.model_report.proofs.Replays.{run_of_within}
use Rattle.model_report_laws.proofs.Statuses.{accepted_fits}
use Rattle.model_report.specs.Causes.{IsAccepted, RunWithin}
use Rattle.model_report_laws.specs.Answers.{RunReadsBack}
use Rattle.model_report.specs.Answer.{event_lines}
use Rattle.model_report.specs.Replay.{text_of}
use Rattle.model_rules.proofs.Spaces.{keeps_space_of}
use Rattle.model_rules.specs.Namespaces.{join}
use Rattle.model_rules.specs.Reply.{reply}
use Rattle.model_rules.specs.SetId.{minus_one}
use Rattle.model_rules.specs.Zero.{zero_of}
use Rattle.model_run.specs.Ruling.{Ruling, own, reply_to}
use Rattle.model_run.specs.Step.{Step, names_no_space}
use Rattle.model_text.proofs.Keeping.{start_keeps}
use Rattle.model_text.proofs.KeepsNames.{declared_names_keep}
use Rattle.model_text.proofs.Starts.{start_pids, start_spaces}
use Rattle.model_text.proofs.WrittenLogs.{event_short, logs_read_back}
use Rattle.model_text.specs.Arguments.{Argument, Id, File, Set, Space as ASpace, arguments_of}
use Rattle.model_text.specs.Line.{groups_fit}
use Rattle.model_text.specs.Print.{event_text}
use Rattle.model_text.specs.Reading.{events_of, script_reading}
use Rattle.model_text.specs.WorldText.{Reads, world_text}
use Rattle.model_text.specs.Written.{DeclaredNamesKeep, IsInRange, IsWritable, KeepsNames, LogsReadBack}
use Rattle.model_text.specs.Written.{InstallsFilter, MayAnswer, events_text}
use Rattle.model_verdict.proofs.MapsBack.{map_is_tidy}

-- ---- answers
-- Joining a space is done or refused.
plain_join : (spaces : Spaces) (at : ℕ) (c : Credential) (n : ℕ) → IsPlain (join spaces at c n)
plain_join spaces at c n =
    plain_if _ _ _ (plain_refused EINVAL c) (plain_if _ _ _ (plain_refused EPERM c) (plain_done _))

-- ---- single calls
-- A call that can be written: its arguments, few, are in their ranges, and what the rules reply is of its kind.
record IsSpelled (w : World) (call : Call) : Type 0 where
  fit : All (IsInRange w) (arguments_of call)
  few : length (arguments_of call) ≤ 3
  groups : IsTrue (groups_fit call)
  filter : InstallsFilter call
  answers : (spaces : Spaces) (at : ℕ) (c : Credential) → MayAnswer (kind_of call) (reply w.files spaces at c call).res

minus_one_fits : Fits minus_one
minus_one_fits = omega arith

module _ (w : World) where
  one_fits : (a : Argument) → IsInRange w a → All (IsInRange w) (a ∷ [])
  one_fits a is = All-cons (IsInRange w) a [] is (All-nil (IsInRange w))

  two_fit : (a b : Argument) → IsInRange w a → IsInRange w b → All (IsInRange w) (a ∷ b ∷ [])
  two_fit a b is are = All-cons (IsInRange w) a (b ∷ []) is (one_fits b are)

  three_fit : (a b c : Argument) → IsInRange w a → IsInRange w b → IsInRange w c → All (IsInRange w) (a ∷ b ∷ c ∷ [])
  three_fit a b c is are too = All-cons (IsInRange w) a (b ∷ c ∷ []) is (two_fit b c are too)

  spelled : (call : Call) → All (IsInRange w) (arguments_of call) → length (arguments_of call) ≤ 3
      → IsTrue (groups_fit call) → InstallsFilter call
      → ((spaces : Spaces) (at : ℕ) (c : Credential) → MayAnswer (kind_of call) (reply w.files spaces at c call).res)
      → IsSpelled w call
  spelled call fit few groups filter answers = record {
    fit = fit;
    few = few;
    groups = groups;
    filter = filter;
    answers = answers;
  }

  capset_spelled : (e p i : ℕ) → IsCapSet e → IsCapSet p → IsCapSet i → IsSpelled w (CapSet e p i)
  capset_spelled e p i first second third =
      spelled (CapSet e p i) (three_fit (Set e) (Set p) (Set i) first second third) (omega arith) refl tt
      (λ spaces at c. (plain_capset c e p i).outcome)

  -- the calls that set one id: the other ids that they can name stay
  one_of_three : (id : ℕ) → Fits id → All (IsInRange w) (Id minus_one ∷ Id id ∷ Id minus_one ∷ [])
  one_of_three id fits = three_fit (Id minus_one) (Id id) (Id minus_one) minus_one_fits fits minus_one_fits

  one_of_two : (id : ℕ) → Fits id → All (IsInRange w) (Id minus_one ∷ Id id ∷ [])
  one_of_two id fits = two_fit (Id minus_one) (Id id) minus_one_fits fits

  uid_spelled : (id : ℕ) → Fits id → Each (IsSpelled w) (uid_calls id)
  uid_spelled id fits = (
    spelled (SetResUid minus_one id minus_one) (one_of_three id fits) (omega arith) refl tt
        (λ spaces at c. (plain_uids (space_of spaces at) c _).outcome),
    (
      spelled (SetReUid minus_one id) (one_of_two id fits) (omega arith) refl tt
          (λ spaces at c. (plain_uids (space_of spaces at) c _).outcome),
      (
        spelled (SetUid id) (one_fits (Id id) fits) (omega arith) refl tt
            (λ spaces at c. (plain_uids (space_of spaces at) c _).outcome),
        tt,
      ),
    ),
  )

  gid_spelled : (id : ℕ) → Fits id → Each (IsSpelled w) (gid_calls id)
  gid_spelled id fits = (
    spelled (SetResGid minus_one id minus_one) (one_of_three id fits) (omega arith) refl tt
        (λ spaces at c. (plain_gids c _).outcome),
    (
      spelled (SetReGid minus_one id) (one_of_two id fits) (omega arith) refl tt (λ spaces at c. (plain_gids c _).outcome),
      (spelled (SetGid id) (one_fits (Id id) fits) (omega arith) refl tt (λ spaces at c. (plain_gids c _).outcome), tt),
    ),
  )

  group_spelled : (id : ℕ) → Fits id → Each (IsSpelled w) (group_calls id)
  group_spelled id fits = (
    spelled (SetGroups (id ∷ [])) (one_fits (Id id) fits) (omega arith) refl tt
        (λ spaces at c. (plain_groups (space_of spaces at) c (id ∷ [])).outcome),
    tt,
  )

  exec_spelled : (file : FileRef) → IsDeclared w.files file → IsSpelled w (Exec file)
  exec_spelled file there =
      spelled (Exec file) (one_fits (File file) there) (omega arith) refl tt
      (λ spaces at c. (plain_exec w.files spaces at c file).outcome)

  join_spelled : (n : ℕ) → Fits n → IsSpelled w (SetNs n)
  join_spelled n fits =
      spelled (SetNs n) (one_fits (ASpace n) fits) (omega arith) refl tt
      (λ spaces at c. (plain_join spaces at c n).outcome)

-- ---- inside ids
-- the inside ids of a map that a space has are numbers of 32 bits
inside_fits : (map : Option (List Extent)) → IfSome map IsMap → (id : ℕ) → IfSome (up (extents_of map) id) Fits
inside_fits None is id = tt
inside_fits (Some map) is id = up_fits map id (map_is_tidy map is)

-- ---- the calls of moves
module _ (P : Call → Type 0) (calls : ℕ → List Call) (each : (id : ℕ) → Fits id → Each P (calls id)) where
  with_each : (o : Option ℕ) → IfSome o Fits → Each P (calls_with calls o)
  with_each None fits = tt
  with_each (Some id) fits = each id fits

  becoming_each : (map : Option (List Extent)) → IfSome map IsMap → (now : ℕ) (o : Option ℕ)
      → Each P (becoming calls (extents_of map) now o)
  becoming_each map is now None = tt
  becoming_each map is now (Some id) =
      cond_both (now == id) [] (calls_with calls (up (extents_of map) id)) (Each P)
      (λ _. tt)
      (λ _. with_each (up (extents_of map) id) (inside_fits map is id))

module _ (w : World) where
  raising_each : (c : Credential) → Keeps c → Each (IsSpelled w) (raising c)
  raising_each c keeps =
      cond_both (c.effective == c.permitted) [] (CapSet c.permitted c.permitted c.inheritable ∷ []) (Each (IsSpelled w))
      (λ _. tt)
      (λ _. (capset_spelled w c.permitted c.permitted c.inheritable keeps.permitted keeps.permitted keeps.inheritable, tt))

  taking_each : (s : Space) → KeepsSpace s → (o : Option ℕ) → Each (IsSpelled w) (taking_group s o)
  taking_each s keeps None = tt
  taking_each s keeps (Some id) =
      with_each (IsSpelled w) group_calls (group_spelled w) (up (extents_of s.gids) id)
      (inside_fits s.gids keeps.gid_map id)

  calls_each : (q : Setting) (seat : Seat) (move : Move) → All KeepsSpace q.spaces → Keeps seat.cred
      → length q.spaces ≤ greatest_number
      → MoveStands w.files q.spaces move → Each (IsSpelled w) (calls_of q seat move)
  calls_each q seat Raise spaces keeps few there = raising_each seat.cred keeps
  calls_each q seat BecomeZero spaces keeps few there =
      let s : Space = space_of q.spaces seat.space in
      becoming_each (IsSpelled w) uid_calls (uid_spelled w) s.uids
      (keeps_space_of q.spaces seat.space spaces).uid_map seat.cred.uid.effective (zero_of s)
  calls_each q seat BecomeSought spaces keeps few there =
      let s : Space = space_of q.spaces seat.space in
      becoming_each (IsSpelled w) uid_calls (uid_spelled w) s.uids
      (keeps_space_of q.spaces seat.space spaces).uid_map seat.cred.uid.effective
      (sought_uid q.spaces seat.space q.right)
  calls_each q seat BecomeGroup spaces keeps few there =
      let s : Space = space_of q.spaces seat.space in
      becoming_each (IsSpelled w) gid_calls (gid_spelled w) s.gids
      (keeps_space_of q.spaces seat.space spaces).gid_map seat.cred.gid.effective
      (sought_gid q.right)
  calls_each q seat TakeGroup spaces keeps few there =
      taking_each (space_of q.spaces seat.space) (keeps_space_of q.spaces seat.space spaces) (sought_gid q.right)
  calls_each q seat (RunFile file) spaces keeps few there = (exec_spelled w file there, tt)
  calls_each q seat (JoinSpace n) spaces keeps few there =
      let low : n < length q.spaces = ltb-true n (length q.spaces) there in (join_spelled w n (omega arith), tt)

  -- the call of a move
  call_spelled : (q : Setting) (seat : Seat) (move : Move) (call : Call) → All KeepsSpace q.spaces → Keeps seat.cred
      → length q.spaces ≤ greatest_number
      → MoveStands w.files q.spaces move → call_of q seat move ≡ Some call → IsSpelled w call
  call_spelled q seat move call spaces keeps few there is =
      (found_call (IsSpelled w) (λ c. q.permitted (kind_of c)) (calls_of q seat move) call
      (calls_each q seat move spaces keeps few there) is).0

-- ---- the events of moves
-- A state in which plans can be made and written: it keeps what a state keeps, each live process has a pid, and the
-- spaces
-- are few enough for numbers of 32 bits.
record IsReady (s : State) : Type 0 where
  keeps : KeepsState s
  pids : HavePids s
  few : length s.spaces ≤ greatest_number

-- an event that is writable, with few arguments
record IsBrief (w : World) (e : Event) : Type 0 where
  can : IsWritable w e
  few : length (arguments_of e.call) ≤ 3

module _ (permitted : CallKind → Bool) (w : World) (right : Right) (pid : ℕ) (has : KeepsFiles w.files) where
  -- the events are such
  abbrev AreBrief : PlanRun → Type 0
  AreBrief made = All (IsBrief w) made.events

  -- What is known of a call: it changes its caller alone, names spaces that stand, and can be written.
  record IsGood (s : State) (p : Process) (call : Call) : Type 0 where
    alone : IsOwn p call
    named : names_no_space s.spaces call ≡ false
    spelled : IsSpelled w call

  event_brief : (s : State) (p : Process) (call : Call) → IsReady s → process_at s.processes pid ≡ Some p
      → IsGood s p call
      → IsBrief w (record { pid = pid; call = call; res = (own w s p call).res })
  event_brief s p call ready lives good =
      let of_pid : HasPid p = all_found HasPid s.processes pid p ready.pids lives in
      let answers : (own w s p call).res ≡ (reply_to w s p call).res =
      ap (λ (r : Ruling). r.res) (own_alone w s p call good.alone) in
      record {
        can = record {
          pid = subst (λ (n : ℕ). IsTrue (is_pid n)) (pid_of_found s.processes pid p lives) of_pid;
          arguments = good.spelled.fit;
          groups = good.spelled.groups;
          filter = good.spelled.filter;
          result = subst (MayAnswer (kind_of call)) (sym answers) (good.spelled.answers s.spaces p.space p.cred);
        };
        few = good.spelled.few;
      }

  -- the state after a call is ready too, and has the same spaces
  ready_after : (s : State) (p : Process) (call : Call) → IsReady s → process_at s.processes pid ≡ Some p
      → IsGood s p call
      → IsReady (own w s p call).state × ((own w s p call).state.spaces ≡ s.spaces)
  unfolding StepKeeps
  ready_after s p call ready lives good =
      let e : Event = record { pid = pid; call = call; res = (own w s p call).res } in
      let step : Step w s e (own w s p call).state = own_step w s e p lives good.named refl in
      let same : (own w s p call).state.spaces ≡ s.spaces = ap (λ (r : Ruling). r.state.spaces)
      (own_alone w s p call good.alone) in (
        record {
          keeps = step_keeps w s e (own w s p call).state has ready.keeps step;
          pids = step_has_pids w s e (own w s p call).state ready.pids step;
          few = subst (λ (spaces : Spaces). length spaces ≤ greatest_number) (sym same) ready.few;
        },
        same,
      )

  -- an optional call, and more moves, of which this is known already
  call_brief : (s : State) (p : Process) (moves : List Move) (o : Option Call) → IsReady s
      → process_at s.processes pid ≡ Some p
      → ((call : Call) → o ≡ Some call → IsGood s p call)
      → ((t : State) → IsReady t → t.spaces ≡ s.spaces → AreBrief (moves_made permitted w t right pid moves))
      → AreBrief (then_made permitted w right pid (call_made w s pid p o) moves)
  call_brief s p moves None ready lives good rest = rest s ready refl
  call_brief s p moves (Some call) ready lives good rest =
      let is : IsGood s p call = good call refl in
      let next : IsReady (own w s p call).state × ((own w s p call).state.spaces ≡ s.spaces) =
      ready_after s p call ready lives is in
      All-cons (IsBrief w) (record { pid = pid; call = call; res = (own w s p call).res })
      (moves_made permitted w (own w s p call).state right pid moves).events
      (event_brief s p call ready lives is) (rest (own w s p call).state next.0 next.1)

  -- a move of an optional process, and more moves
  move_brief : (s : State) (o : Option Process) (move : Move) (moves : List Move) → IsReady s
      → process_at s.processes pid ≡ o
      → MoveStands w.files s.spaces move
      → ((t : State) → IsReady t → t.spaces ≡ s.spaces → AreBrief (moves_made permitted w t right pid moves))
      → AreBrief (then_made permitted w right pid (move_made permitted w s right pid o move) moves)
  move_brief s None move moves ready lives there rest = rest s ready refl
  move_brief s (Some p) move moves ready lives there rest =
      let q : Setting = setting_in permitted w s right p in
      call_brief s p moves (call_of q (seat_of p) move) ready lives (λ call is. record {
        alone = call_own permitted w s right p move call is;
        named = call_named q (seat_of p) move call (join_stands w.files s.spaces move there) is;
        spelled =
            call_spelled w q (seat_of p) move call ready.keeps.spaces
            (all_found (λ p. Keeps p.cred) s.processes pid p ready.keeps.credentials lives)
            ready.few there is;
      }) rest

  moves_brief : (s : State) (moves : List Move) → IsReady s → MovesStand w.files s.spaces moves
      → AreBrief (moves_made permitted w s right pid moves)
  moves_brief s [] ready stand = All-nil (IsBrief w)
  moves_brief s (move ∷ moves) ready stand =
      move_brief s (process_at s.processes pid) move moves ready refl stand.0
      (λ t next same. moves_brief t moves next
      (subst (λ (spaces : Spaces). MovesStand w.files spaces moves) (sym same) stand.1))

-- ---- the run that is found
found_brief : (permitted : CallKind → Bool) (w : World) (s : State) (members : List ℕ) (right : Right) (found : Found)
    → KeepsFiles w.files → IsReady s
    → IsFirst permitted w s members right found → All (IsBrief w) found.run
found_brief permitted w s members right found has ready is =
    let Brief : Plan → Type 0 = λ plan. All (IsBrief w) (plan_run permitted w s right plan).events in
    let all : All Brief (plans w s members right)
    =
    all_plans Brief w s members right (All-nil (IsBrief w))
    (λ pid moves member stand. moves_brief permitted w right pid has s moves ready stand) in
    subst (All (IsBrief w)) (sym is.run) (all_at Brief is.before is.after is.plan (subst (All Brief) is.listed all))

-- ---- the state after an accepted log
run_few : (w : World) (s : State) (es : List Event) (s' : State) → length s.spaces ≤ limit_number limit.Spaces
    → RunWithin w s es s'
    → length s'.spaces ≤ limit_number limit.Spaces
run_few w s [] s' few run = subst (λ (t : State). length t.spaces ≤ limit_number limit.Spaces) (sym run) few
run_few w s (e ∷ es) s' few run = run_few w run.0 es s' (within_few run.0 run.2) run.3

accepted_ready : (words : List (List ℕ)) (bytes : List ℕ → List ℕ) (is : IsAccepted words bytes) → IsReady is.state
accepted_ready words bytes is =
    let text : List ℕ = bytes is.comes.begins.names.world in
    let reads : world_text text ≡ Reads is.world = is.comes.begins.names.reads in
    let es : List Event = events_of is.comes.events in
    let few : length is.state.spaces ≤ limit_number limit.Spaces =
    run_few is.world is.world.start es is.state (start_spaces text is.world reads) is.comes.run in
    record {
      keeps = (accepted_fits words bytes is).keeps;
      pids =
          run_has_pids is.world is.world.start es is.state (start_pids text is.world reads)
          (run_of_within is.world is.world.start es is.state is.comes.run);
      few = omega arith;
    }

-- the bytes of the lines of events
event_bytes : (w : World) (events : List Event) → text_of (event_lines w events) ≡ events_text w events
event_bytes w [] = refl
event_bytes w (e ∷ events) = ap (λ (text : List ℕ). event_text w e ++ 10 ∷ [] ++ text) (event_bytes w events)

pub run_reads_back : RunReadsBack
unfolding RunReadsBack LogsReadBack DeclaredNamesKeep
run_reads_back words bytes lines shows =
    let is : IsAccepted words bytes = shows.asking.accepted in
    let w : World = is.world in
    let text : List ℕ = bytes is.comes.begins.names.world in
    let reads : world_text text ≡ Reads w = is.comes.begins.names.reads in
    let names : KeepsNames w = declared_names_keep text w reads in
    let brief : All (IsBrief w) shows.found.run = found_brief (permits w.filter) w is.state _ shows.asking.right shows.found
    (start_keeps text w reads).files
    (accepted_ready words bytes is) shows.run.first in
    ap (script_reading w) (event_bytes w shows.found.run)
    ∙ logs_read_back text w shows.found.run reads
    (All-weaker (IsBrief w) (IsWritable w) (λ e one. one.can) shows.found.run brief)
    (All-weaker (IsBrief w) (λ e. length (event_text w e) ≤ limit_number limit.Line)
    (λ e one. event_short w e names one.can (omega (arith, one.few))) shows.found.run brief)
