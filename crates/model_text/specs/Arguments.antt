-- The arguments of calls in script lines: how many a call may have, what each stands for, and how it is written (choice).
-- One table, for reading and for writing. Which arguments each kind of call has is said with the kinds (`Shapes` of
-- cm_filter), what an argument is with the calls (`Arguments` of model_cred).
use Rattle.std.specs.Prelude.{ℕ, zero, suc, ◌%◌, ◌==◌, Bool, true, decimal, length, List, ◌∷◌, Option, option_map, flat_map, get_or}
pub use Rattle.cm_filter.specs.Shapes.{Form, AnId, ANumber, ACap, ASet, ASpace, AWord, AFile, AKind}
pub use Rattle.cm_filter.specs.Shapes.{Pattern, Just, Ids, Triples, Kinds, pattern_of}
pub use Rattle.model_cred.specs.Arguments.{Argument, Id, Number, Cap, Set, Space, Word, File, Kind}
pub use Rattle.model_cred.specs.Arguments.{ids_in, extents_in, kinds_in, value_in, values_in, carried_in, call_with}
pub use Rattle.model_cred.specs.Arguments.{triple_of, as_argument, as_arguments, carried_as, arguments_of}
use Rattle.cm_filter.specs.Kinds.{call_name}
use Rattle.model_cred.specs.World.{World}
use Rattle.model_text.specs.CapText.{set_of_text}
use Rattle.model_text.specs.Hex.{hex_set}
use Rattle.model_text.specs.SpaceToken.{space_of_token, space_token}
use Rattle.model_text.specs.Token.{number_token, id_token, id_text, cap_token, cap_name_or_number, word_token, word_text, file_token, file_text}
use Rattle.model_text.specs.Token.{kind_token}

-- ---- which arguments a call has
-- a call of the pattern may have so many arguments
abbrev pub takes : Pattern → ℕ → Bool
takes (Just forms) count = count == length forms
takes Ids count = true
takes Triples count = count % 3 == 1
takes Kinds count = true

-- the form of the argument at a place, from 0 on
abbrev pub form_at : Pattern → ℕ → Form
form_at (Just forms) place = get_or forms place ANumber
form_at Ids place = AnId
form_at Triples zero = ASpace
form_at Triples (suc place) = ANumber
form_at Kinds place = AKind

-- ---- what is read and written
-- what a token stands for as an argument of that form
abbrev pub argument_token : World → Form → List ℕ → Option Argument
argument_token w AnId token = option_map Id (id_token token)
argument_token w ANumber token = option_map Number (number_token token)
argument_token w ACap token = option_map Cap (cap_token token)
argument_token w ASet token = option_map Set (set_of_text token)
argument_token w ASpace token = option_map Space (space_of_token w.names token)
argument_token w AWord token = option_map Word (word_token token)
argument_token w AFile token = option_map File (file_token w.files token)
argument_token w AKind token = option_map Kind (kind_token token)

-- how an argument is written
abbrev pub argument_text : World → Argument → List ℕ
argument_text w (Id n) = id_text n
argument_text w (Number n) = decimal n
argument_text w (Cap n) = cap_name_or_number n
argument_text w (Set n) = hex_set n
argument_text w (Space n) = space_token w.names n
argument_text w (Word deny) = word_text deny
argument_text w (File file) = file_text w.files file
argument_text w (Kind kind) = call_name kind

-- an argument of a line, after the space in front of it
abbrev pub spaced_text : World → Argument → List ℕ
spaced_text w argument = 32 ∷ argument_text w argument

-- arguments of a line, each after a space
abbrev pub spaced_texts : World → List Argument → List ℕ
spaced_texts w arguments = flat_map (spaced_text w) arguments
