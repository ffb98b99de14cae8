-- The code's rules as those of the definitions, and their order.
use Rattle.std.specs.Prelude.{◌||◌, Bool}
use Rattle.cm_box.specs.declared.rules.Rule.{Rule}
use Rattle.cm_box.specs.declared.rules.Rule.TheVariants as code
use Rattle.cm_filter.specs.declared.kind.CallKind.{CallKind}
use Rattle.cm_filter.specs.declared.kind.CallKind.TheVariants as kind
use Rattle.model_box.specs.Rule as model

-- the rule of the definitions
abbrev pub rule_of : Rule → model.Rule
rule_of code.SetUid = model.SetUid
rule_of code.SetFsUid = model.SetFsUid
rule_of code.SetGid = model.SetGid
rule_of code.SetFsGid = model.SetFsGid
rule_of code.SetGroups = model.SetGroups
rule_of code.CapSet = model.CapSet
rule_of code.SecureBits = model.SecureBits
rule_of code.ExecUid = model.ExecUid
rule_of code.ExecGid = model.ExecGid
rule_of code.ExecCaps = model.ExecCaps
rule_of code.ExecRoot = model.ExecRoot
rule_of code.Create = model.Create
rule_of code.Join = model.Join
rule_of code.Maps = model.Maps

-- a call is permitted on which the rule rests
abbrev pub is_permitted : (CallKind → Bool) → model.Rule → Bool
is_permitted permitted model.SetUid = permitted kind.SetUid || permitted kind.SetReUid || permitted kind.SetResUid
is_permitted permitted model.SetFsUid = permitted kind.SetFsUid
is_permitted permitted model.SetGid = permitted kind.SetGid || permitted kind.SetReGid || permitted kind.SetResGid
is_permitted permitted model.SetFsGid = permitted kind.SetFsGid
is_permitted permitted model.SetGroups = permitted kind.SetGroups
is_permitted permitted model.CapSet = permitted kind.CapSet
is_permitted permitted model.SecureBits = permitted kind.SecureBits
is_permitted permitted model.ExecUid = permitted kind.Exec
is_permitted permitted model.ExecGid = permitted kind.Exec
is_permitted permitted model.ExecCaps = permitted kind.Exec
is_permitted permitted model.ExecRoot = permitted kind.Exec
is_permitted permitted model.Create = permitted kind.Unshare || permitted kind.CloneUser
is_permitted permitted model.Join = permitted kind.SetNs
is_permitted permitted model.Maps = permitted kind.WriteUidMap || permitted kind.WriteGidMap
