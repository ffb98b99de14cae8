-- Worked cases, by computation, of logs whose world declares user namespaces, and of logs of both forms.
use Rattle.std.proofs.Common.{◌≡◌, ℕ, [], ◌∷◌, ◌++◌}
use Rattle.std.specs.Prelude.{codes}
use Rattle.cm_base.specs.declared.faults.LineFault.TheVariants as fault
use Rattle.cm_base.specs.declared.res.Res.TheVariants.{Done, Child}
use Rattle.model_cred.specs.Call.{CloneUser, Unshare, SetNs, WriteUidMap}
use Rattle.model_cred.specs.Process.{Process}
use Rattle.model_cred.specs.Space.{initial_space}
use Rattle.model_cred.specs.World.{World, LogForm, Script, Strace}
use Rattle.model_strace.proofs.CaseWorld.{the_world, process, at_line, to_the_end, up_to_fault}
use Rattle.model_strace.specs.Lines.{reading}
use Rattle.model_strace.specs.Logs.{log_reading}
use Rattle.model_text.specs.NameText.{is_path}

-- ---- declared user namespaces
-- a process in the user namespace of that number
abbrev process_in : ℕ → ℕ → Process
process_in space pid = let p = process pid in record p { space = space }

-- the world with two declared user namespaces, and process 300 in the second one
abbrev two_declared : World
two_declared = record the_world {
  start = record {
    processes = process 200 ∷ process_in 2 300 ∷ [];
    spaces = initial_space ∷ initial_space ∷ initial_space ∷ [];
  };
  names = codes "pod" ∷ codes "box" ∷ [];
}

pub declared_spaces : record {
  a_process_of_the_world_stands_in_its_space : reading two_declared
      (codes "200 open(\"/proc/300/ns/user\", O_RDONLY) = 3" ∷ codes "200 setns(3, CLONE_NEWUSER) = 0"
      ∷ codes "300 open(\"/proc/200/uid_map\", O_WRONLY) = 4" ∷ codes "300 write(4, \"\", 0) = 0" ∷ [])
      ≡ to_the_end (at_line 2 200 (SetNs 2) Done ∷ at_line 4 300 (WriteUidMap 2 []) Done ∷ []);
  -- created ones have the numbers after those of the declared
  created_spaces_come_after_the_declared : reading two_declared
      (codes "300 unshare(CLONE_NEWUSER) = 0" ∷ codes "200 clone(flags=CLONE_NEWUSER) = 201"
      ∷ codes "200 open(\"/proc/300/uid_map\", O_WRONLY) = 3" ∷ codes "200 write(3, \"\", 0) = 0"
      ∷ codes "200 open(\"/proc/201/uid_map\", O_WRONLY) = 3" ∷ codes "200 write(3, \"\", 0) = 0" ∷ [])
      ≡ to_the_end (at_line 1 300 Unshare Done ∷ at_line 2 200 CloneUser (Child 201)
      ∷ at_line 4 200 (WriteUidMap 3 []) Done ∷ at_line 6 200 (WriteUidMap 4 []) Done ∷ []);
}
declared_spaces = search

-- ---- both forms
-- the world whose logs have that form
abbrev of_form : LogForm → World
of_form form = record the_world { form = form }

pub both_forms : record {
  -- logs of the two forms that stand for the same events read alike
  logs_of_both_forms_read_alike : log_reading (of_form Script)
      (codes "200 setresuid 1 2 -1 = 0\n200 fork = 201\n; a comment\n201 execve /bin/su = 0\n")
      ≡ log_reading (of_form Strace)
      (codes "200 setresuid(1, 2, -1) = 0\n200 vfork() = 201\n200 getpid() = 200\n"
      ++ codes "201 execve(\"/bin/su\", [\"su\"], NULL) = 0\n");
  and_so_they_end : log_reading (of_form Script) (codes "200 setuid 1 = 0\n200 setuid x = 0\n")
      ≡ log_reading (of_form Strace) (codes "200 setuid(1) = 0\n200 setuid(x) = 0");
  a_fault_of_a_strace_log : log_reading (of_form Strace) (codes "200 setuid 1 = 0\n") ≡ up_to_fault [] 1 fault.Shape;
}
unfolding is_path
both_forms = search
