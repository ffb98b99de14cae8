use Rattle.std.proofs.Common.{◌≡◌, ◌++◌, drop}
use Rattle.std.specs.Prelude.{option_map}
use Rattle.model_cred.specs.IdMap.{extents_of}
use Rattle.model_rules.specs.SetGroups.{all_down}
use Rattle.cm_setid.proofs.groups.all_down.Given as goal

-- those before, and what the rest is mapped to, are what all are mapped to
abbrev pub invariant-loop-id : goal.invariant-loop-id
invariant-loop-id l = option_map (λ rest. l.all.items ++ rest) (all_down (extents_of l.map) (drop l.id-index l.ids)) ≡ all_down (extents_of l.map) l.ids
