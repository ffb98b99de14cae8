-- The list of plans: which moves are tried, by whom, and in which order (choice).
use Rattle.std.specs.Prelude.{ℕ, ◌==◌, ◌||◌, Bool, false, not, bit_and, is_some, length, take, List, [], ◌∷◌, ◌++◌, map}
use Rattle.std.specs.Prelude.{filter, Option, None, Some, slice_get}
use Rattle.std.specs.List.{flat_map, range_with_len}
use Rattle.cm_base.specs.declared.res.FileRef.TheVariants.{Row, Plain}
use Rattle.model_cred.specs.Files.{FileRow, FileTable}
use Rattle.model_cred.specs.Process.{Process, State, process_at}
use Rattle.model_cred.specs.Right.{Right, Cap, Uid, Gid}
use Rattle.model_cred.specs.Space.{Spaces}
use Rattle.model_cred.specs.World.{World}
use Rattle.model_plans.specs.Move.{Move, Raise, BecomeZero, BecomeSought, BecomeGroup, TakeGroup, RunFile, JoinSpace}

-- a choice at one place of a plan: no move, one, or two, one after the other
abbrev pub Choice : Type 0
Choice = List Move

-- A plan: who moves, and the moves in their order.
pub record Plan : Type 0 where
  pub pid : ℕ
  pub moves : List Move

-- the numbers of the items of a list, from 0 on
abbrev pub numbers : {A : Type 0} → List A → List ℕ
numbers items = range_with_len 0 (length items)

-- the row has a set-id bit or an attribute
abbrev pub is_special : Option FileRow → Bool
is_special None = false
is_special (Some row) = not (bit_and row.mode 0o6000 == 0) || is_some row.caps

-- how many rows are tried in pairs
abbrev pub most_special : ℕ
most_special = 64

-- the rows that are tried in pairs: the first of those that have a set-id bit or an attribute
abbrev pub special_rows : List FileRow → List ℕ
special_rows rows = take most_special (filter (λ n. is_special (slice_get rows n)) (numbers rows))

-- the choice to run a row
abbrev pub run_row : ℕ → Choice
run_row row = RunFile (Row row) ∷ []

-- the choice to run two rows, one after the other
abbrev pub run_two : ℕ → ℕ → Choice
run_two first second = RunFile (Row first) ∷ RunFile (Row second) ∷ []

-- the choices to run two rows of the list, each pair in each order, a row with itself too
abbrev pub pairs : List ℕ → List Choice
pairs rows = flat_map (λ first. map (run_two first) rows) rows

-- the choices to join each space but the member's own
abbrev pub joins : Spaces → ℕ → List Choice
joins spaces at = map (λ n. JoinSpace n ∷ []) (filter (λ n. not (n == at)) (numbers spaces))

-- what is tried first: nothing, inside 0, or the user id that is sought
abbrev pub first_choices : List Choice
first_choices = [] ∷ (BecomeZero ∷ []) ∷ (BecomeSought ∷ []) ∷ []

-- What is tried in the middle by a member in the space `at`: nothing; to run each row; to run a file that isn't
-- declared; to join each other space; to run two rows, one after the other.
abbrev pub middle_choices : FileTable → Spaces → ℕ → List Choice
middle_choices files spaces at =
    ([] ∷ map run_row (numbers files.rows))
    ++ ((RunFile Plain ∷ []) ∷ joins spaces at)
    ++ pairs (special_rows files.rows)

-- what is tried at last for a group id besides: the effective group id, or the only supplementary group
abbrev pub group_choices : Right → List Choice
group_choices (Cap cap n) = []
group_choices (Uid id) = []
group_choices (Gid id) = (BecomeGroup ∷ []) ∷ (TakeGroup ∷ []) ∷ []

-- what is tried at last: as at first, and the group id that is sought
abbrev pub last_choices : Right → List Choice
last_choices right = first_choices ++ group_choices right

-- the moves of a choice, and a raise after them
abbrev pub then_raise : Choice → List Move
then_raise choice = choice ++ Raise ∷ []

-- The moves of three choices: the effective set is raised before the first, after the middle and after the last one.
abbrev pub moves_of : Choice → Choice → Choice → List Move
moves_of first middle last = (Raise ∷ first) ++ (then_raise middle ++ then_raise last)

-- the plan of three choices of a member
abbrev pub plan_of : ℕ → Choice → Choice → Choice → Plan
plan_of pid first middle last = record { pid = pid; moves = moves_of first middle last }

-- The plans of a member in the space `at`: each first choice, with each middle one, with each last one. The last choice
-- turns fastest.
abbrev pub plans_in : FileTable → Spaces → Right → ℕ → ℕ → List Plan
plans_in files spaces right pid at =
    flat_map (λ first.
    flat_map (λ middle.
    map (plan_of pid first middle) (last_choices right))
    (middle_choices files spaces at))
    first_choices

-- the plans of a member that lives
abbrev pub plans_for : FileTable → Spaces → Right → ℕ → Option Process → List Plan
plans_for files spaces right pid None = []
plans_for files spaces right pid (Some p) = plans_in files spaces right pid p.space

-- The list of plans: first the one without a move, then those of each member in turn.
abbrev pub plans : World → State → List ℕ → Right → List Plan
plans w s members right =
    record { pid = 0; moves = [] }
    ∷ flat_map (λ pid. plans_for w.files s.spaces right pid (process_at s.processes pid)) members
