-- What is asked before a call changes anything: an answer, as the call tells it, and what a write of a map stores.
use Rattle.std.specs.Prelude.{ℕ, List, [], Result, Ok, unwrap_or}
use Rattle.std.specs.declared.result.Result.TheVariants as result
use Rattle.cm_base.specs.declared.errno.Errno.{Errno}
use Rattle.cm_base.specs.declared.res.Res.{Res}
use Rattle.cm_base.specs.declared.res.Res.TheVariants as res
use Rattle.model_cred.specs.IdMap.{Extent}
use Rattle.model_cred.specs.Space.{Spaces, put_space, space_of}
use Rattle.model_rules.specs.Maps.{MapFile, list_down, parent_map, with_map}

-- what the call tells: done, or the refusal
abbrev pub res_of : {T : Type 0} → Result T Errno → Res
res_of (Ok _) = res.Done
res_of (result.Err e) = res.Err e

-- the list that a write of this one stores where it is done: its outside ids are then as the initial space sees them
abbrev pub stored_list : MapFile → Spaces → ℕ → List Extent → List Extent
stored_list file spaces target given = unwrap_or (list_down (parent_map file spaces (space_of spaces target)) given) []

-- the spaces after a write of the list that told this result
abbrev pub spaces_told : MapFile → Spaces → ℕ → List Extent → Res → Spaces
spaces_told file spaces target given res.Done = put_space target (with_map file (space_of spaces target) (stored_list file spaces target given)) spaces
spaces_told file spaces target given _ = spaces
