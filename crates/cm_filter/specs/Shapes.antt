-- The shape of each kind of call: which arguments it has, what it may answer, and which errors may come from outside
-- (memory, signals, bad addresses, the disk). One table (choice; the SYNOPSIS, RETURN VALUE and ERRORS sections of the
-- calls' manual pages).
use Rattle.std.specs.Prelude.{List, [], ◌∷◌}
use Rattle.cm_filter.specs.declared.kind.CallKind.{CallKind}
use Rattle.cm_filter.specs.declared.kind.CallKind.TheVariants as kind
use Rattle.cm_filter.specs.declared.shape.Shape.{Shape}
use Rattle.cm_filter.specs.declared.shape.Shape.TheVariants.{Bare, OneId, TwoIds, ThreeIds, ManyIds, ThreeSets, OneCap, OneNumber}
use Rattle.cm_filter.specs.declared.shape.Shape.TheVariants.{OneSpace, SpaceAndWord, SpaceAndMap, OneFile, ManyKinds}

-- ---- arguments
-- What an argument is: an id; a number; a capability; a set of capabilities; a space; a word of a setgroups file; a
-- file; a kind of call.
pub data Form : Type 0 where
  AnId : Form
  ANumber : Form
  ACap : Form
  ASet : Form
  ASpace : Form
  AWord : Form
  AFile : Form
  AKind : Form

-- The arguments of a call: just these; any number of ids; a space, and after it any number of triples of numbers; any
-- number of kinds, which make a filter.
pub data Pattern : Type 0 where
  Just : List Form → Pattern
  Ids : Pattern
  Triples : Pattern
  Kinds : Pattern

-- the arguments of a call of the shape
abbrev pub arguments_by : Shape → Pattern
arguments_by Bare = Just []
arguments_by OneId = Just (AnId ∷ [])
arguments_by TwoIds = Just (AnId ∷ AnId ∷ [])
arguments_by ThreeIds = Just (AnId ∷ AnId ∷ AnId ∷ [])
arguments_by ManyIds = Ids
arguments_by ThreeSets = Just (ASet ∷ ASet ∷ ASet ∷ [])
arguments_by OneCap = Just (ACap ∷ [])
arguments_by OneNumber = Just (ANumber ∷ [])
arguments_by OneSpace = Just (ASpace ∷ [])
arguments_by SpaceAndWord = Just (ASpace ∷ AWord ∷ [])
arguments_by SpaceAndMap = Triples
arguments_by OneFile = Just (AFile ∷ [])
arguments_by ManyKinds = Kinds

-- ---- results
-- What a call may answer: done or an error; done alone; the id from before or EPERM; a child or an error.
pub data ResultForm : Type 0 where
  DoneOrError : ResultForm
  DoneAlone : ResultForm
  OldId : ResultForm
  ChildOrError : ResultForm

-- Which errors may come from outside: none; the common ones; those of calls that make or join a space; those of execve.
pub data OutsideForm : Type 0 where
  NoErrors : OutsideForm
  Common : OutsideForm
  OfSpaces : OutsideForm
  OfExecve : OutsideForm

-- ---- the table
-- What is said of a kind of call.
pub record Facts : Type 0 where
  pub shape : Shape
  pub result : ResultForm
  pub outside : OutsideForm

-- these facts
abbrev facts : Shape → ResultForm → OutsideForm → Facts
facts shape result outside = record { shape = shape; result = result; outside = outside }

-- of each kind
abbrev pub facts_of : CallKind → Facts
facts_of kind.SetUid = facts OneId DoneOrError Common
facts_of kind.SetReUid = facts TwoIds DoneOrError Common
facts_of kind.SetResUid = facts ThreeIds DoneOrError Common
facts_of kind.SetFsUid = facts OneId OldId NoErrors
facts_of kind.SetGid = facts OneId DoneOrError Common
facts_of kind.SetReGid = facts TwoIds DoneOrError Common
facts_of kind.SetResGid = facts ThreeIds DoneOrError Common
facts_of kind.SetFsGid = facts OneId OldId NoErrors
facts_of kind.SetGroups = facts ManyIds DoneOrError Common
facts_of kind.CapSet = facts ThreeSets DoneOrError Common
facts_of kind.BsetDrop = facts OneCap DoneOrError Common
facts_of kind.AmbRaise = facts OneCap DoneOrError Common
facts_of kind.AmbLower = facts OneCap DoneOrError Common
facts_of kind.AmbClear = facts Bare DoneOrError Common
facts_of kind.SecureBits = facts OneNumber DoneOrError Common
facts_of kind.KeepCaps = facts OneNumber DoneOrError Common
facts_of kind.NoNewPrivs = facts OneNumber DoneOrError Common
facts_of kind.Fork = facts Bare ChildOrError Common
facts_of kind.CloneUser = facts Bare ChildOrError OfSpaces
facts_of kind.Unshare = facts Bare DoneOrError OfSpaces
facts_of kind.SetNs = facts OneSpace DoneOrError OfSpaces
facts_of kind.WriteUidMap = facts SpaceAndMap DoneOrError Common
facts_of kind.WriteGidMap = facts SpaceAndMap DoneOrError Common
facts_of kind.WriteSetgroups = facts SpaceAndWord DoneOrError Common
facts_of kind.Exec = facts OneFile DoneOrError OfExecve
facts_of kind.Exit = facts Bare DoneAlone NoErrors
facts_of kind.Install = facts ManyKinds DoneOrError Common

-- ---- what the table says of a kind
-- the shape of its arguments
abbrev pub shape_of : CallKind → Shape
shape_of k = (facts_of k).shape

-- its arguments
abbrev pub pattern_of : CallKind → Pattern
pattern_of k = arguments_by (shape_of k)

-- what it may answer
abbrev pub result_form : CallKind → ResultForm
result_form k = (facts_of k).result

-- which errors may come from outside
abbrev pub outside_form : CallKind → OutsideForm
outside_form k = (facts_of k).outside
