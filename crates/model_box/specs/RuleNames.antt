-- The names of the closure rules, as reports have them (choice).
use Rattle.std.specs.Prelude.{ℕ, codes, List}
use Rattle.model_box.specs.Rule.{Rule, SetUid, SetFsUid, SetGid, SetFsGid, SetGroups, CapSet, SecureBits, ExecUid}
use Rattle.model_box.specs.Rule.{ExecGid, ExecCaps, ExecRoot, Create, Join, Maps}

-- the name of a rule
abbrev pub rule_name : Rule → List ℕ
rule_name SetUid = codes "setuid"
rule_name SetFsUid = codes "setfsuid"
rule_name SetGid = codes "setgid"
rule_name SetFsGid = codes "setfsgid"
rule_name SetGroups = codes "setgroups"
rule_name CapSet = codes "capset"
rule_name SecureBits = codes "securebits"
rule_name ExecUid = codes "exec_uid"
rule_name ExecGid = codes "exec_gid"
rule_name ExecCaps = codes "exec_caps"
rule_name ExecRoot = codes "exec_root"
rule_name Create = codes "create"
rule_name Join = codes "join"
rule_name Maps = codes "maps"
