-- The user namespaces that the events of a log of strace name: their numbers are at most how many there were at its
-- begin, and
-- one for each event.
use Rattle.std.proofs.Common.{◌≡◌, ℕ, zero, suc, ◌+◌, ◌<◌, ◌≤◌, ◌||◌, Bool, true, false, not, List, [], ◌∷◌, ◌++◌}
use Rattle.std.proofs.Common.{length, map, filter, find, Option, Some, None, IfSome, All, refl, sym, arith, subst}
use Rattle.std.proofs.Common.{nat_lt, length-append}
use Rattle.std.proofs.lemmas.Bool.{cond_both}
use Rattle.std.proofs.lemmas.List.Elements.{All-nil, All-cons, All-head, All-tail, All-append, All-filter, All-map}
use Rattle.std.proofs.lemmas.List.Elements.{All-weaker}
use Rattle.std.specs.Prelude.{flat_map}
use Rattle.std.specs.Option.{option_map_or}
use Rattle.cm_base.specs.Limited.{limit_number}
use Rattle.cm_base.specs.declared.limited.Limited.TheVariants as limit
use Rattle.cm_base.specs.declared.res.Res.{Res}
use Rattle.cm_base.specs.declared.res.Res.TheVariants as res
use Rattle.model_cred.specs.Call as model
use Rattle.model_cred.specs.Call.{Call, Event}
use Rattle.model_cred.specs.IdMap.{Extent}
use Rattle.model_cred.specs.World.{World}
use Rattle.model_strace.proofs.ToldCalls.{ToldFits, call_told_fits, names_space}
use Rattle.model_strace.proofs.Ways.{Way, IsKnown, Rests, Drops, Follows, Begins, Makes, Births, Fails, Enters, Writes, Unwritten, Exits}
use Rattle.model_strace.proofs.Ways.{Resumes, turn_way}
use Rattle.model_strace.specs.After.{After, Goes, Halts, preceded, and_then}
use Rattle.model_strace.specs.Body.{PidLine, Blank, NoPid, Of, row_of}
use Rattle.model_strace.specs.Files.{Followed, UidMap, GidMap, SetgroupsWord, UserSpace, written_extents, written_word}
use Rattle.model_strace.specs.Lines.{Line, Read, Moment, Next, Progress, arrives, at_end, at_end_turn, beginning, ended}
use Rattle.model_strace.specs.Lines.{given_at, held, hold, line_read, log_end}
use Rattle.model_strace.specs.Lines.{moment_after, next_line, read_born, read_line, read_now, row_read, rows_read}
use Rattle.model_strace.specs.Lines.{strace_reading, then_rest}
use Rattle.model_strace.specs.Parts.{Parts, Task, Descriptor, after_birth, after_end, after_exec, copied_to, copies_for}
use Rattle.model_strace.specs.Parts.{descriptor_before, descriptor_of, first_parts, first_task, is_closed_at_exec}
use Rattle.model_strace.specs.Parts.{is_descriptor, is_known, is_of, is_task, keeping, moved, moved_task, moved_to_new}
use Rattle.model_strace.specs.Parts.{put, put_all, sharing_task, space_of, task_before, task_of, with_descriptor}
use Rattle.model_strace.specs.Parts.{without_any_kept, without_descriptor, without_kept}
use Rattle.model_strace.specs.Turn.{Turn, Quiet, Gives, Refused, Exceeds, after_call, birth_call, done, turn}
use Rattle.model_strace.specs.Turn.{with_child, written_call}
use Rattle.model_text.proofs.CapTexts.{if_mapped, if_there}
use Rattle.model_text.proofs.ToldEvents.{AreFew, SpacesWithin}
use Rattle.cm_filter.specs.Filters.{excluded_kinds}
use Rattle.cm_filter.specs.declared.kind.CallKind.{CallKind}
use Rattle.model_text.specs.Arguments.{Argument, Id, Space, Kind, arguments_of, triple_of}
use Rattle.cm_lines.specs.Cut.{Cut}
use Rattle.cm_lines.specs.declared.limits.Past.{Past}
use Rattle.model_text.specs.Reading.{Placed, Limit, Reading, log_cut}

-- ---- arguments and calls
pub spaces_more : (low high : ℕ) → low ≤ high → (arguments : List Argument) → SpacesWithin low arguments
    → SpacesWithin high arguments
spaces_more low high up [] within = tt
spaces_more low high up (Space n ∷ arguments) within =
    let first : n ≤ low = within.0 in (omega arith, spaces_more low high up arguments within.1)
spaces_more low high up (_ ∷ arguments) within = spaces_more low high up arguments within

pub ids_name_none : (most : ℕ) (ids : List ℕ) → SpacesWithin most (map Id ids)
ids_name_none most [] = tt
ids_name_none most (id ∷ ids) = ids_name_none most ids

pub triples_name_none : (most : ℕ) (list : List Extent) → SpacesWithin most (flat_map triple_of list)
triples_name_none most [] = tt
triples_name_none most (e ∷ list) = triples_name_none most list

pub kinds_name_none : (most : ℕ) (kinds : List CallKind) → SpacesWithin most (map Kind kinds)
kinds_name_none most [] = tt
kinds_name_none most (kind ∷ kinds) = kinds_name_none most kinds

-- a call that names none
none_named : (most : ℕ) (call : Call) → names_space call ≡ false → SpacesWithin most (arguments_of call)
none_named most (model.SetGroups ids) is = ids_name_none most ids
none_named most (model.SetNs n) is = absurd (cc)
none_named most (model.WriteUidMap n given) is = absurd (cc)
none_named most (model.WriteGidMap n given) is = absurd (cc)
none_named most (model.WriteSetgroups n deny) is = absurd (cc)
none_named most (model.Install more) is = kinds_name_none most (excluded_kinds more)
none_named most _ is = tt

-- the spaces that the event names are at most this
abbrev pub EventWithin : ℕ → Event → Type 0
EventWithin most e = SpacesWithin most (arguments_of e.call)

abbrev PlacedWithin : ℕ → Placed → Type 0
PlacedWithin most e = EventWithin most e.event

placed_more : (low high : ℕ) → low ≤ high → (events : List Placed) → All (PlacedWithin low) events
    → All (PlacedWithin high) events
placed_more low high up events all =
    All-weaker (PlacedWithin low) (PlacedWithin high)
    (λ e within. spaces_more low high up (arguments_of e.event.call) within) events all

-- ---- what is known
-- The spaces that are known, and how many there are, are at most this.
record KnowsWithin (most : ℕ) (p : Parts) : Type 0 where
  spaces : p.spaces ≤ most
  tasks : All (λ task. task.space ≤ most) p.tasks
  descriptors : All (λ d. d.space ≤ most) p.descriptors

knows_more : (low high : ℕ) → low ≤ high → (p : Parts) → KnowsWithin low p → KnowsWithin high p
knows_more low high up p knows = record {
  spaces = omega (arith, knows.spaces);
  tasks =
      All-weaker (λ task. task.space ≤ low) (λ task. task.space ≤ high)
      (λ task within. omega arith) p.tasks knows.tasks;
  descriptors =
      All-weaker (λ d. d.space ≤ low) (λ d. d.space ≤ high) (λ d within. omega arith) p.descriptors knows.descriptors;
}

-- what holds of each of some things holds with one more in its place
all_put : {A : Type 0} (P : A → Type 0) (before : A → A → Bool) (new : A) (xs : List A) → P new → All P xs
    → All P (put before new xs)
all_put P before new [] is all = All-cons P new [] is all
all_put P before new (x ∷ xs) is all =
    cond_both (before new x) (new ∷ x ∷ xs) _ (All P)
    (λ _. All-cons P new (x ∷ xs) is all)
    (λ _. cond_both (before x new) (x ∷ put before new xs) (new ∷ xs) (All P)
    (λ _. All-cons P x (put before new xs) (All-head P x xs all) (all_put P before new xs is (All-tail P x xs all)))
    (λ _. All-cons P new xs is (All-tail P x xs all)))

all_put_all : {A : Type 0} (P : A → Type 0) (before : A → A → Bool) (new xs : List A) → All P new → All P xs
    → All P (put_all before new xs)
all_put_all P before [] xs are all = all
all_put_all P before (x ∷ new) xs are all =
    all_put_all P before new (put before x xs) (All-tail P x new are) (all_put P before x xs (All-head P x new are) all)

-- the one that is found is one of them
found_is : {A : Type 0} (P : A → Type 0) (test : A → Bool) (xs : List A) → All P xs → IfSome (find test xs) P
found_is P test [] all = tt
found_is P test (x ∷ xs) all =
    cond_both (test x) (Some x) (find test xs) (λ o. IfSome o P) (λ _. All-head P x xs all)
    (λ _. found_is P test xs (All-tail P x xs all))

module _ (most : ℕ) (p : Parts) (knows : KnowsWithin most p) where
  -- what is left of the descriptors, and one more
  kept_descriptors : (test : Descriptor → Bool) → All (λ d. d.space ≤ most) (filter test p.descriptors)
  kept_descriptors test = All-filter test (λ d. d.space ≤ most) p.descriptors knows.descriptors

  without_known : (pid number : ℕ) → KnowsWithin most (without_descriptor pid number p)
  without_known pid number = record {
    spaces = knows.spaces;
    tasks = knows.tasks;
    descriptors = kept_descriptors (λ d. not (is_descriptor pid number d));
  }

  with_known : (d : Descriptor) → d.space ≤ most → KnowsWithin most (with_descriptor d p)
  with_known d low = record {
    spaces = knows.spaces;
    tasks = knows.tasks;
    descriptors = all_put (λ d. d.space ≤ most) descriptor_before d p.descriptors low knows.descriptors;
  }

  exec_known : (pid : ℕ) → KnowsWithin most (after_exec pid p)
  exec_known pid = record {
    spaces = knows.spaces;
    tasks = knows.tasks;
    descriptors = kept_descriptors (λ d. not (is_closed_at_exec pid d));
  }

  end_known : (pid : ℕ) → KnowsWithin most (after_end pid p)
  end_known pid = record {
    spaces = knows.spaces;
    tasks = All-filter (λ task. not (is_task pid task)) (λ task. task.space ≤ most) p.tasks knows.tasks;
    descriptors = kept_descriptors (λ d. not (is_of pid d));
  }

  same_known : (q : Parts) → q.spaces ≡ p.spaces → q.tasks ≡ p.tasks → q.descriptors ≡ p.descriptors
      → KnowsWithin most q
  same_known q spaces tasks descriptors = record {
    spaces = omega (arith, spaces, knows.spaces);
    tasks = subst (All (λ (task : Task). task.space ≤ most)) (sym tasks) knows.tasks;
    descriptors = subst (All (λ (d : Descriptor). d.space ≤ most)) (sym descriptors) knows.descriptors;
  }

  -- a process in another space
  moved_tasks : (pid space : ℕ) → space ≤ most → All (λ task. task.space ≤ most) (map (moved_task pid space) p.tasks)
  moved_tasks pid space low =
      All-map (λ task. task.space ≤ most) (moved_task pid space) p.tasks
      (All-weaker (λ task. task.space ≤ most) (λ task. (moved_task pid space task).space ≤ most)
      (λ task within. cond_both (is_task pid task) (record task { space = space }) task (λ (t : Task). t.space ≤ most)
      (λ _. low) (λ _. within))
      p.tasks knows.tasks)

  moved_known : (pid space : ℕ) → space ≤ most → KnowsWithin most (moved pid space p)
  moved_known pid space low =
      record { spaces = knows.spaces; tasks = moved_tasks pid space low; descriptors = knows.descriptors }

  new_known : (pid : ℕ) → KnowsWithin (most + 1) (moved_to_new pid p)
  new_known pid =
      let placed : KnowsWithin (most + 1) (moved pid p.spaces p) =
      knows_more most (most + 1) (omega arith) (moved pid p.spaces p) (moved_known pid p.spaces knows.spaces) in
      record { spaces = omega (arith, knows.spaces); tasks = placed.tasks; descriptors = placed.descriptors }

  -- the space of a process
  task_low : (pid : ℕ) → IfSome (task_of pid p) (λ task. task.space ≤ most)
  task_low pid = found_is (λ task. task.space ≤ most) (is_task pid) p.tasks knows.tasks

  space_low : (pid : ℕ) → space_of pid p ≤ most
  space_low pid = by_task (task_of pid p) (task_low pid)
    where
      by_task : (task : Option Task) → IfSome task (λ task. task.space ≤ most)
          → option_map_or (λ (task : Task). task.space) task 0 ≤ most
      by_task None low = omega arith
      by_task (Some task) low = low

  descriptor_low : (pid number : ℕ) → IfSome (descriptor_of pid number p) (λ d. d.space ≤ most)
  descriptor_low pid number = found_is (λ d. d.space ≤ most) (is_descriptor pid number) p.descriptors knows.descriptors

  birth_known : (parent child space : ℕ) (shares : Bool) → space ≤ most
      → KnowsWithin most (after_birth parent child space shares p)
  birth_known parent child space shares low = record {
    spaces = knows.spaces;
    tasks =
        all_put (λ task. task.space ≤ most) task_before (record { pid = child; space = space; shares = shares })
        (map (sharing_task parent shares) p.tasks) low
        (All-map (λ task. task.space ≤ most) (sharing_task parent shares) p.tasks
        (All-weaker (λ task. task.space ≤ most) (λ task. (sharing_task parent shares task).space ≤ most)
        (λ task within. cond_both (is_task parent task) (record task { shares = task.shares || shares }) task
        (λ (t : Task). t.space ≤ most)
        (λ _. within) (λ _. within))
        p.tasks knows.tasks));
    descriptors =
        cond_both shares p.descriptors (put_all descriptor_before (copies_for parent child p) p.descriptors)
        (All (λ (d : Descriptor). d.space ≤ most))
        (λ _. knows.descriptors)
        (λ _. all_put_all (λ d. d.space ≤ most) descriptor_before (copies_for parent child p) p.descriptors
        (All-map (λ d. d.space ≤ most) (copied_to child) (filter (is_of parent) p.descriptors)
        (kept_descriptors (is_of parent)))
        knows.descriptors);
  }

  child_known : (parent child : ℕ) (user shares : Bool) → KnowsWithin (most + 1) (with_child parent child user shares p)
  child_known parent child true shares =
      let born : KnowsWithin most (after_birth parent child p.spaces shares p) =
      birth_known parent child p.spaces shares knows.spaces in
      let placed : KnowsWithin (most + 1) (after_birth parent child p.spaces shares p) =
      knows_more most (most + 1) (omega arith) (after_birth parent child p.spaces shares p) born in
      record { spaces = omega (arith, knows.spaces); tasks = placed.tasks; descriptors = placed.descriptors }
  child_known parent child false shares =
      knows_more most (most + 1) (omega arith) (after_birth parent child (space_of parent p) shares p)
      (birth_known parent child (space_of parent p) shares (space_low parent))

-- ---- turns
-- What is known after a turn is within the number, and after an event within the next one; the event names spaces
-- within it.
abbrev TurnWithin : ℕ → Turn → Type 0
TurnWithin most (Quiet p) = KnowsWithin most p
TurnWithin most (Gives p e born) = KnowsWithin (most + 1) p × EventWithin most e
TurnWithin most _ = Unit {0}

module _ (most pid : ℕ) where
  -- an event after which as much is known
  gives_within : (p : Parts) (call : Call) (r : Res) (born : List ℕ) → KnowsWithin most p
      → SpacesWithin most (arguments_of call)
      → TurnWithin most (Gives p (record { pid = pid; call = call; res = r }) born)
  gives_within p call r born knows within = (knows_more most (most + 1) (omega arith) p knows, within)

  call_known : (call : Call) (r : Res) (p : Parts) → KnowsWithin most p → SpacesWithin most (arguments_of call)
      → KnowsWithin (most + 1) (after_call pid call r p)
  call_known model.Unshare res.Done p knows within = new_known most p knows pid
  call_known (model.SetNs n) res.Done p knows within =
      knows_more most (most + 1) (omega arith) (moved pid n p) (moved_known most p knows pid n within.0)
  call_known (model.Exec file) res.Done p knows within =
      knows_more most (most + 1) (omega arith) (after_exec pid p) (exec_known most p knows pid)
  call_known call r p knows within = knows_more most (most + 1) (omega arith) p knows

  done_within : (call : Call) (r : Res) (p : Parts) → KnowsWithin most p → SpacesWithin most (arguments_of call)
      → TurnWithin most (done pid call r p)
  done_within call r p knows within = (call_known call r p knows within, within)

  birth_names_none : (user : Bool) → SpacesWithin most (arguments_of (birth_call user))
  birth_names_none true = tt
  birth_names_none false = tt

  known_low : (d : Descriptor) (p : Parts) → KnowsWithin most p → IsKnown pid p d → d.space ≤ most
  known_low d p knows known = rw known.1 at (descriptor_low most p knows pid known.0)

  written_within : (file : Followed) (space : ℕ) (text : List ℕ) → space ≤ most
      → IfSome (written_call file space text) (λ call. SpacesWithin most (arguments_of call))
  written_within UidMap space text low =
      if_mapped (λ list. Unit {0}) (λ call. SpacesWithin most (arguments_of call)) (model.WriteUidMap space)
      (written_extents text)
      (if_there (λ list. Unit {0}) (written_extents text) (λ list _. tt)) (λ list _. (low, triples_name_none most list))
  written_within GidMap space text low =
      if_mapped (λ list. Unit {0}) (λ call. SpacesWithin most (arguments_of call)) (model.WriteGidMap space)
      (written_extents text)
      (if_there (λ list. Unit {0}) (written_extents text) (λ list _. tt)) (λ list _. (low, triples_name_none most list))
  written_within SetgroupsWord space text low =
      if_mapped (λ deny. Unit {0}) (λ call. SpacesWithin most (arguments_of call)) (model.WriteSetgroups space)
      (written_word text)
      (if_there (λ deny. Unit {0}) (written_word text) (λ deny _. tt)) (λ deny _. (low, tt))
  written_within UserSpace space text low = tt

  call_within : (d : Descriptor) (p : Parts) (text : List ℕ) (call : Call) → KnowsWithin most p → IsKnown pid p d
      → written_call d.file d.space text ≡ Some call → SpacesWithin most (arguments_of call)
  call_within d p text call knows known is = rw is at (written_within d.file d.space text (known_low d p knows known))

  way_within : (w : World) (p : Parts) (t : Turn) → Way (ToldFits w) pid p t → KnowsWithin most p → TurnWithin most t
  way_within w p t Rests knows = knows
  way_within w p t (Drops number) knows = without_known most p knows pid number
  way_within w p t (Follows number until_exec file of task is) knows =
      with_known most p knows (record { pid = pid; number = number; file = file; space = task.space; until_exec = until_exec })
      (rw is at (task_low most p knows of))
  way_within w p t (Begins text) knows = same_known most p knows (keeping pid text p) refl refl refl
  way_within w p t (Makes call r fits) knows = done_within call r p knows (none_named most call fits.1)
  way_within w p t (Births user shares child is) knows = (child_known most p knows pid child user shares, birth_names_none user)
  way_within w p t (Fails user shares r is) knows = gives_within p (birth_call user) r [] knows (birth_names_none user)
  way_within w p t (Enters d known r may) knows = done_within (model.SetNs d.space) r p knows (known_low d p knows known, tt)
  way_within w p t (Writes d known text call is) knows =
      done_within call res.Done p knows (call_within d p text call knows known is)
  way_within w p t (Unwritten d known text call is e) knows =
      gives_within p call (res.Err e) [] knows (call_within d p text call knows known is)
  way_within w p t Exits knows = gives_within (after_end pid p) model.Exit res.Done [] (end_known most p knows pid) tt
  way_within w p t (Resumes _ way) knows =
      way_within w (without_kept pid p) t way (same_known most p knows (without_kept pid p) refl refl refl)
  way_within w p t _ knows = tt

-- ---- one thing after another
-- Where so much was known, the events name spaces within that and one for each; and so is what is known after them.
abbrev AfterWithin : {S : Type 0} → (S → Parts) → ℕ → After S → Type 0
AfterWithin parts most (Goes events s) =
    KnowsWithin (most + length events) (parts s) × All (PlacedWithin (most + length events)) events
AfterWithin parts most (Halts events stop) = All (PlacedWithin (most + length events)) events

both_within : (most : ℕ) (one other : List Placed) → All (PlacedWithin (most + length one)) one
    → All (PlacedWithin (most + length one + length other)) other
    → All (PlacedWithin (most + length (one ++ other))) (one ++ other)
both_within most one other first second =
    let long : length (one ++ other) ≡ length one + length other = length-append one other in
    All-append (PlacedWithin (most + length (one ++ other))) one other
    (placed_more (most + length one) (most + length (one ++ other)) (omega (arith, long)) one first)
    (placed_more (most + length one + length other) (most + length (one ++ other)) (omega (arith, long)) other second)

preceded_within : {S : Type 0} (parts : S → Parts) (most : ℕ) (one : List Placed) (a : After S)
    → All (PlacedWithin (most + length one)) one
    → AfterWithin parts (most + length one) a → AfterWithin parts most (preceded one a)
preceded_within parts most one (Goes events s) first within =
    let long : length (one ++ events) ≡ length one + length events = length-append one events in (
      knows_more (most + length one + length events) (most + length (one ++ events)) (omega (arith, long))
          (parts s) within.0,
      both_within most one events first within.1,
    )
preceded_within parts most one (Halts events stop) first within = both_within most one events first within

then_within : {S T : Type 0} (parts : S → Parts) (later : T → Parts) (most : ℕ) (a : After S) (next : S → After T)
    → AfterWithin parts most a
    → ((n : ℕ) (s : S) → KnowsWithin n (parts s) → AfterWithin later n (next s))
    → AfterWithin later most (and_then a next)
then_within parts later most (Goes events s) next within each =
    preceded_within later most events (next s) within.1 (each (most + length events) s within.0)
then_within parts later most (Halts events stop) next within each = within

-- nothing given
still_within : {S : Type 0} (parts : S → Parts) (most : ℕ) (s : S) → KnowsWithin most (parts s)
    → AfterWithin parts most (Goes [] s)
still_within parts most s knows =
    (knows_more most (most + 0) (omega arith) (parts s) knows, All-nil (PlacedWithin (most + 0)))

-- ---- lines
given_within : (most number : ℕ) (t : Turn) → TurnWithin most t → AfterWithin (λ r. r.parts) most (given_at number t)
given_within most number (Quiet p) within =
    still_within (λ (r : Read). r.parts) most (record { parts = p; born = [] }) within
given_within most number (Gives p e born) within = (
  within.0,
  All-cons (PlacedWithin (most + 1)) (record { line = number; event = e }) []
      (spaces_more most (most + 1) (omega arith) (arguments_of e.call) within.1)
      (All-nil (PlacedWithin (most + 1))),
)
given_within most number (Refused why) within = All-nil (PlacedWithin (most + 0))
given_within most number (Exceeds l) within = All-nil (PlacedWithin (most + 0))

module _ (w : World) (few : AreFew w) where
  turn_within : (most pid : ℕ) (text : List ℕ) (p : Parts) → KnowsWithin most p → TurnWithin most (turn w pid text p)
  turn_within most pid text p knows =
      way_within most pid w p (turn w pid text p)
      (turn_way (ToldFits w) pid w (λ told. call_told_fits w pid told few) text p) knows

  read_within : (most : ℕ) (l : Line) (p : Parts) → KnowsWithin most p
      → AfterWithin (λ r. r.parts) most (read_line w l p)
  read_within most l p knows =
      given_within most l.number (turn w l.pid l.body p) (turn_within most l.pid l.body p knows)

  rest_within : (most : ℕ) (x : Option Next) (m : Moment) (rest : List ℕ → Moment → After Moment)
      → KnowsWithin most m.parts
      → ((n : ℕ) (pids : List ℕ) (m' : Moment) → KnowsWithin n m'.parts → AfterWithin (λ m. m.parts) n (rest pids m'))
      → AfterWithin (λ m. m.parts) most (then_rest w x m rest)
  rest_within most None m rest knows each = still_within (λ (m : Moment). m.parts) most m knows
  rest_within most (Some x) m rest knows each =
      then_within (λ (r : Read). r.parts) (λ (m : Moment). m.parts) most (read_line w x.line m.parts)
      (λ r. rest (r.born ++ x.pids) (moment_after x.line r m)) (read_within most x.line m.parts knows)
      (λ n r its. each n (r.born ++ x.pids) (moment_after x.line r m) its)

  born_within : (most left : ℕ) (lines : List Line) (pids : List ℕ) (m : Moment) → KnowsWithin most m.parts
      → AfterWithin (λ m. m.parts) most (read_born w left lines pids m)
  born_within most zero lines pids m knows = still_within (λ (m : Moment). m.parts) most m knows
  born_within most (suc left) lines pids m knows =
      rest_within most (next_line m.parts (held lines m.read) pids) m
      (λ pids' m'. read_born w left lines pids' m') knows
      (λ n pids' m' its. born_within n left lines pids' m' its)

  now_within : (most : ℕ) (lines : List Line) (l : Line) (m : Moment) → KnowsWithin most m.parts
      → AfterWithin (λ m. m.parts) most (read_now w lines l m)
  now_within most lines l m knows =
      then_within (λ (r : Read). r.parts) (λ (m : Moment). m.parts) most (read_line w l m.parts)
      (λ r. read_born w (length (held lines (l.number ∷ m.read))) lines r.born (moment_after l r m))
      (read_within most l m.parts knows)
      (λ n r its. born_within n (length (held lines (l.number ∷ m.read))) lines r.born (moment_after l r m) its)

  hold_within : (most : ℕ) (lines : List Line) (m : Moment) → KnowsWithin most m.parts
      → AfterWithin (λ m. m.parts) most (hold lines m)
  hold_within most lines m knows =
      cond_both (nat_lt (limit_number limit.Held) (length (held lines m.read))) (Halts [] (Limit limit.Held))
      (Goes [] m)
      (AfterWithin (λ (m : Moment). m.parts) most)
      (λ _. All-nil (PlacedWithin (most + 0)))
      (λ _. still_within (λ (m : Moment). m.parts) most m knows)

  arrives_within : (most : ℕ) (lines : List Line) (l : Line) (m : Moment) → KnowsWithin most m.parts
      → AfterWithin (λ m. m.parts) most (arrives w lines l m)
  arrives_within most lines l m knows =
      cond_both (is_known l.pid m.parts) (read_now w lines l m) (hold lines m)
      (AfterWithin (λ (m : Moment). m.parts) most)
      (λ _. now_within most lines l m knows) (λ _. hold_within most lines m knows)

  line_within : (most : ℕ) (lines : List Line) (l : Line) (m : Moment) → KnowsWithin most m.parts
      → AfterWithin (λ at. at.now.parts) most (line_read w lines l m)
  line_within most lines l m knows =
      then_within (λ (m : Moment). m.parts) (λ (at : Progress). at.now.parts) most (arrives w (lines ++ l ∷ []) l m)
      (λ m. Goes [] (record { lines = lines ++ l ∷ []; now = m })) (arrives_within most (lines ++ l ∷ []) l m knows)
      (λ n m its. still_within (λ (at : Progress). at.now.parts) n (record { lines = lines ++ l ∷ []; now = m }) its)

  row_within : (most number : ℕ) (row : PidLine) (at : Progress) → KnowsWithin most at.now.parts
      → AfterWithin (λ at. at.now.parts) most (row_read w number row at)
  row_within most number Blank at knows = still_within (λ (at : Progress). at.now.parts) most at knows
  row_within most number NoPid at knows = All-nil (PlacedWithin (most + 0))
  row_within most number (Of pid body) at knows =
      line_within most at.lines (record { number = number; pid = pid; body = body }) at.now knows

  rows_within : (most number : ℕ) (lines : List (List ℕ)) (at : Progress) → KnowsWithin most at.now.parts
      → AfterWithin (λ at. at.now.parts) most (rows_read w number lines at)
  rows_within most number [] at knows = still_within (λ (at : Progress). at.now.parts) most at knows
  rows_within most number (line ∷ lines) at knows =
      then_within (λ (at : Progress). at.now.parts) (λ (at : Progress). at.now.parts) most
      (row_read w number (row_of line) at)
      (λ at'. rows_read w (number + 1) lines at') (row_within most number (row_of line) at knows)
      (λ n at' its. rows_within n (number + 1) lines at' its)

  -- ---- the log's end
  abbrev ReadingWithin : ℕ → Reading → Type 0
  ReadingWithin most r = All (PlacedWithin (most + length r.events)) r.events

  end_turn_within : (most number : ℕ) (t : Turn) (later : Parts → Reading) → TurnWithin most t
      → ((p : Parts) → KnowsWithin most p → ReadingWithin most (later p))
      → ReadingWithin most (at_end_turn number t later)
  end_turn_within most number (Quiet p) later within each = each p within
  end_turn_within most number (Gives p e born) later within each =
      All-cons (PlacedWithin (most + 1)) (record { line = number; event = e }) []
      (spaces_more most (most + 1) (omega arith) (arguments_of e.call) within.1)
      (All-nil (PlacedWithin (most + 1)))
  end_turn_within most number (Refused why) later within each = All-nil (PlacedWithin (most + 0))
  end_turn_within most number (Exceeds l) later within each = All-nil (PlacedWithin (most + 0))

  end_within : (most : ℕ) (lines : List Line) (p : Parts) → KnowsWithin most p → ReadingWithin most (at_end w lines p)
  end_within most [] p knows = All-nil (PlacedWithin (most + 0))
  end_within most (l ∷ lines) p knows =
      end_turn_within most l.number (turn w l.pid l.body p) (λ p'. at_end w lines p')
      (turn_within most l.pid l.body p knows)
      (λ p' its. end_within most lines p' its)

  log_end_within : (most : ℕ) (stop : Option Past) (at : Progress) → KnowsWithin most at.now.parts → ReadingWithin most (log_end w stop at)
  log_end_within most None at knows =
      end_within most (held at.lines at.now.read) (without_any_kept at.now.parts)
      (same_known most at.now.parts knows (without_any_kept at.now.parts) refl refl refl)
  log_end_within most (Some past) at knows = All-nil (PlacedWithin (most + 0))

  ended_within : (most : ℕ) (stop : Option Past) (a : After Progress) → AfterWithin (λ at. at.now.parts) most a
      → ReadingWithin most (ended (log_end w stop) a)
  ended_within most stop (Goes events at) within =
      both_within most events (log_end w stop at).events within.1 (log_end_within (most + length events) stop at within.0)
  ended_within most stop (Halts events other) within = within

  first_within : All (λ p. p.space < length w.start.spaces) w.start.processes
      → KnowsWithin (length w.start.spaces) (first_parts w)
  first_within stand = record {
    spaces = omega arith;
    tasks =
        All-map (λ (task : Task). task.space ≤ length w.start.spaces) first_task w.start.processes
        (All-weaker (λ p. p.space < length w.start.spaces) (λ p. p.space ≤ length w.start.spaces)
        (λ p low. omega arith) w.start.processes stand);
    descriptors = All-nil (λ (d : Descriptor). d.space ≤ length w.start.spaces);
  }

  -- the spaces that the events of a log name
  pub log_within : (text : List ℕ) → All (λ p. p.space < length w.start.spaces) w.start.processes
      → All (λ e. EventWithin (length w.start.spaces + length (strace_reading w text).events) e.event) (strace_reading w text).events
  log_within text stand =
      let cut : Cut = log_cut text in
      ended_within (length w.start.spaces) cut.stop (rows_read w 1 cut.lines (beginning w))
      (rows_within (length w.start.spaces) 1 cut.lines (beginning w) (first_within stand))
