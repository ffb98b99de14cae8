-- What the rules answer a caller, what becomes of the caller and of its filter, and what becomes of the spaces. What
-- births and exits answer, and what they do to the processes, stands apart (it depends on which pids are alive).
use Rattle.std.specs.Prelude.{ℕ, length, ◌∷◌}
use Rattle.cm_base.specs.declared.res.Res.{Res}
use Rattle.cm_base.specs.declared.res.Res.TheVariants.{Done}
use Rattle.cm_filter.specs.Filters.{Filter}
use Rattle.model_cred.specs.Call.{Call, SetUid, SetReUid, SetResUid, SetFsUid, SetGid, SetReGid, SetResGid, SetFsGid}
use Rattle.model_cred.specs.Call.{SetGroups, CapSet, BsetDrop, AmbRaise, AmbLower, AmbClear, SecureBits, KeepCaps}
use Rattle.model_cred.specs.Call.{NoNewPrivs, Fork, CloneUser, Unshare, SetNs, WriteUidMap, WriteGidMap, WriteSetgroups}
use Rattle.model_cred.specs.Call.{Exec, Exit, Install}
use Rattle.model_cred.specs.Credential.{Credential}
use Rattle.model_cred.specs.Files.{FileTable}
use Rattle.model_cred.specs.Space.{Spaces, space_of}
use Rattle.model_rules.specs.Answer.{Answer}
use Rattle.model_rules.specs.CapCalls.{capset, bset_drop, amb_raise, amb_lower, amb_clear, secure_bits, set_keep_caps, set_no_new_privs}
use Rattle.model_rules.specs.Exec.{execve}
use Rattle.model_rules.specs.Install.{install, installed}
use Rattle.model_rules.specs.Maps.{Written, write_uid_map, write_gid_map, write_setgroups}
use Rattle.model_rules.specs.Namespaces.{unshare, clone_user, created_by, join}
use Rattle.model_rules.specs.SetGroups.{setgroups}
use Rattle.model_rules.specs.SetId.{setuid, setreuid, setresuid, setfsuid, setgid, setregid, setresgid, setfsgid}

-- What a call answers, and the space and the credential in which it leaves its caller.
pub record Reply : Type 0 where
  pub res : Res
  pub space : ℕ
  pub cred : Credential

-- the caller stays in its space
abbrev pub stays : ℕ → Answer → Reply
stays at answer = record { res = answer.res; space = at; cred = answer.cred }

-- the second space where the call is done, else the first
abbrev pub place_after : Res → ℕ → ℕ → ℕ
place_after Done at target = target
place_after _ at target = at

-- the caller goes to another space where the call is done
abbrev pub goes_to : ℕ → ℕ → Answer → Reply
goes_to at target answer = record { res = answer.res; space = place_after answer.res at target; cred = answer.cred }

-- a write leaves its caller as it was
abbrev pub writes : ℕ → Credential → Written → Reply
writes at c w = record { res = w.res; space = at; cred = c }

-- what stands in the place of a reply to a birth or an exit, which has none
abbrev pub no_reply : ℕ → Credential → Reply
no_reply at c = record { res = Done; space = at; cred = c }

-- What the rules answer a caller in the space `at` with that credential. A birth and an exit have no reply: what they
-- give is said of a state with its processes.
abbrev pub reply : FileTable → Spaces → ℕ → Credential → Call → Reply
reply files spaces at c (SetUid id) = stays at (setuid (space_of spaces at) c id)
reply files spaces at c (SetReUid r e) = stays at (setreuid (space_of spaces at) c r e)
reply files spaces at c (SetResUid r e v) = stays at (setresuid (space_of spaces at) c r e v)
reply files spaces at c (SetFsUid id) = stays at (setfsuid (space_of spaces at) c id)
reply files spaces at c (SetGid id) = stays at (setgid (space_of spaces at) c id)
reply files spaces at c (SetReGid r e) = stays at (setregid (space_of spaces at) c r e)
reply files spaces at c (SetResGid r e v) = stays at (setresgid (space_of spaces at) c r e v)
reply files spaces at c (SetFsGid id) = stays at (setfsgid (space_of spaces at) c id)
reply files spaces at c (SetGroups ids) = stays at (setgroups (space_of spaces at) c ids)
reply files spaces at c (CapSet effective permitted inheritable) = stays at (capset c effective permitted inheritable)
reply files spaces at c (BsetDrop cap) = stays at (bset_drop c cap)
reply files spaces at c (AmbRaise cap) = stays at (amb_raise c cap)
reply files spaces at c (AmbLower cap) = stays at (amb_lower c cap)
reply files spaces at c AmbClear = stays at (amb_clear c)
reply files spaces at c (SecureBits bits) = stays at (secure_bits c bits)
reply files spaces at c (KeepCaps argument) = stays at (set_keep_caps c argument)
reply files spaces at c (NoNewPrivs argument) = stays at (set_no_new_privs c argument)
reply files spaces at c Fork = no_reply at c
reply files spaces at c CloneUser = no_reply at c
reply files spaces at c Unshare = goes_to at (length spaces) (unshare spaces at c)
reply files spaces at c (SetNs target) = goes_to at target (join spaces at c target)
reply files spaces at c (WriteUidMap target given) = writes at c (write_uid_map spaces at c target given)
reply files spaces at c (WriteGidMap target given) = writes at c (write_gid_map spaces at c target given)
reply files spaces at c (WriteSetgroups target deny) = writes at c (write_setgroups spaces at c target deny)
reply files spaces at c (Exec name) = stays at (execve files spaces at c name)
reply files spaces at c Exit = no_reply at c
reply files spaces at c (Install more) = stays at (install c)

-- the spaces and the new one where it is made, else the spaces
abbrev pub spaces_with : Res → Spaces → ℕ → Credential → Spaces
spaces_with Done spaces at c = created_by spaces at c ∷ spaces
spaces_with _ spaces at c = spaces

-- The spaces after a call: making one adds the newest, a write changes one, and all other calls leave them.
abbrev pub spaces_after : Spaces → ℕ → Credential → Call → Spaces
spaces_after spaces at c CloneUser = spaces_with (clone_user spaces at c) spaces at c
spaces_after spaces at c Unshare = spaces_with (unshare spaces at c).res spaces at c
spaces_after spaces at c (WriteUidMap target given) = (write_uid_map spaces at c target given).spaces
spaces_after spaces at c (WriteGidMap target given) = (write_gid_map spaces at c target given).spaces
spaces_after spaces at c (WriteSetgroups target deny) = (write_setgroups spaces at c target deny).spaces
spaces_after spaces at c _ = spaces

-- The caller's filter after a call: installing one adds to it, and all other calls leave it.
abbrev pub filter_after : Filter → Credential → Call → Filter
filter_after filter c (Install more) = installed (install c).res filter more
filter_after filter c _ = filter
