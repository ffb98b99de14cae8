-- The closure rules, by the call or the event from which what they add comes.
use Rattle.std.specs.Prelude.{ℕ, List, [], ◌∷◌}

-- In their order. Each has the name of the call, or says what of execve it stands for.
pub data Rule : Type 0 where
  SetUid : Rule
  SetFsUid : Rule
  SetGid : Rule
  SetFsGid : Rule
  SetGroups : Rule
  CapSet : Rule
  SecureBits : Rule
  ExecUid : Rule
  ExecGid : Rule
  ExecCaps : Rule
  ExecRoot : Rule
  Create : Rule
  Join : Rule
  Maps : Rule

-- the rules in their order
abbrev pub rules_in_order : List Rule
rules_in_order =
    SetUid ∷ SetFsUid ∷ SetGid ∷ SetFsGid ∷ SetGroups ∷ CapSet ∷ SecureBits
    ∷ ExecUid ∷ ExecGid ∷ ExecCaps ∷ ExecRoot ∷ Create ∷ Join ∷ Maps ∷ []

-- the place of a rule in that order, from 0 on
abbrev pub rule_number : Rule → ℕ
rule_number SetUid = 0
rule_number SetFsUid = 1
rule_number SetGid = 2
rule_number SetFsGid = 3
rule_number SetGroups = 4
rule_number CapSet = 5
rule_number SecureBits = 6
rule_number ExecUid = 7
rule_number ExecGid = 8
rule_number ExecCaps = 9
rule_number ExecRoot = 10
rule_number Create = 11
rule_number Join = 12
rule_number Maps = 13
