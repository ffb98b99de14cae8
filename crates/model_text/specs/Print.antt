-- The lines of a report: credentials and events, as text (choice).
use Rattle.std.specs.Prelude.{ℕ, codes, decimal, List, [], ◌∷◌, ◌++◌, if◌then◌else◌}
use Rattle.cm_filter.specs.Kinds.{call_name}
use Rattle.model_cred.specs.Call.{Call, Event, kind_of}
use Rattle.model_cred.specs.Credential.{Credential, FourIds}
use Rattle.model_cred.specs.Process.{Process}
use Rattle.model_cred.specs.World.{World}
use Rattle.model_text.specs.Arguments.{arguments_of, spaced_texts}
pub use Rattle.model_text.specs.Hex.{hex_set, hex_bits}
pub use Rattle.model_text.specs.SpaceToken.{space_token}
pub use Rattle.model_text.specs.Token.{res_text}

-- numbers, joined by commas
abbrev pub comma_list : List ℕ → List ℕ
comma_list [] = []
comma_list (n ∷ []) = decimal n
comma_list (n ∷ m ∷ more) = decimal n ++ 44 ∷ comma_list (m ∷ more)

-- real, effective, saved and fs id
unfoldable pub ids_text : FourIds → List ℕ
ids_text ids = comma_list (ids.real ∷ ids.effective ∷ ids.saved ∷ ids.fs ∷ [])

-- the supplementary groups, `-` where there is none
abbrev pub groups_text : List ℕ → List ℕ
groups_text [] = codes "-"
groups_text (g ∷ groups) = comma_list (g ∷ groups)

-- pid and space
unfoldable pub place_text : List (List ℕ) → Process → List ℕ
place_text names p = codes "> " ++ decimal p.pid ++ codes " " ++ space_token names p.space

-- the ids of a credential: of the user, of the group, and the supplementary groups
unfoldable pub all_ids_text : Credential → List ℕ
all_ids_text c = codes " uid=" ++ ids_text c.uid ++ codes " gid=" ++ ids_text c.gid ++ codes " groups=" ++ groups_text c.groups

-- its inheritable, permitted and effective sets
unfoldable pub sets_text : Credential → List ℕ
sets_text c = codes " inh=" ++ hex_set c.inheritable ++ codes " prm=" ++ hex_set c.permitted ++ codes " eff=" ++ hex_set c.effective

-- its bounding and its ambient set
unfoldable pub bounds_text : Credential → List ℕ
bounds_text c = codes " bnd=" ++ hex_set c.bounding ++ codes " amb=" ++ hex_set c.ambient

-- its securebits, and no_new_privs
unfoldable pub flags_text : Credential → List ℕ
flags_text c = codes " sec=" ++ hex_bits c.securebits ++ codes " nnp=" ++ (if c.no_new_privs then codes "1" else codes "0")

-- The credential line of a process, where the declared spaces have these names.
unfoldable pub credential_line : List (List ℕ) → Process → List ℕ
credential_line names p = place_text names p ++ all_ids_text p.cred ++ sets_text p.cred ++ bounds_text p.cred ++ flags_text p.cred

-- a call after a space: its name and its arguments
abbrev pub call_text : World → Call → List ℕ
call_text w call = codes " " ++ call_name (kind_of call) ++ spaced_texts w (arguments_of call)

-- an event as a script line
unfoldable pub event_text : World → Event → List ℕ
event_text w e = decimal e.pid ++ call_text w e.call ++ codes " = " ++ res_text e.res

-- the event of a line, with the line's number
unfoldable pub event_line : World → ℕ → Event → List ℕ
event_line w number e = decimal number ++ codes ": " ++ event_text w e
