-- Worked cases, by computation, of descriptors: opens, copies and closes, setns, and what is written to map files.
use Rattle.std.proofs.Common.{◌≡◌, ◌++◌, ℕ, true, false, List, [], ◌∷◌}
use Rattle.std.specs.Prelude.{codes}
use Rattle.cm_base.specs.declared.faults.LineFault.{LineFault}
use Rattle.cm_base.specs.declared.faults.LineFault.TheVariants as fault
use Rattle.cm_base.specs.declared.errno.Errno.TheVariants.{EPERM, EINVAL, EACCES}
use Rattle.cm_base.specs.declared.res.FileRef.TheVariants.{Plain}
use Rattle.cm_base.specs.declared.res.Res.TheVariants.{Done, Child, Err}
use Rattle.model_cred.specs.Call.{Fork, CloneUser, Unshare, SetNs, WriteUidMap, WriteGidMap, WriteSetgroups, Exec, Exit}
use Rattle.model_strace.proofs.CaseWorld.{the_world, at_line, extent, to_the_end, up_to_fault, TellNothing, Have}
use Rattle.model_strace.specs.Lines.{reading}

-- a map file is opened as descriptor 3
abbrev map_opened : List ℕ
map_opened = codes "200 open(\"/proc/self/uid_map\", O_WRONLY) = 3"

-- the line after it has this fault
abbrev SecondHas : LineFault → List ℕ → Type 0
SecondHas why line = reading the_world (map_opened ∷ line ∷ []) ≡ up_to_fault [] 2 why

-- ---- opens

pub opens : record {
  maps_of_a_child_are_written : reading the_world
      (codes "200 clone(flags=CLONE_NEWUSER|SIGCHLD) = 201"
      ∷ codes "200 openat(AT_FDCWD, \"/proc/201/setgroups\", O_WRONLY|O_CLOEXEC) = 3"
      ∷ codes "200 write(3, \"deny\", 4) = 4" ∷ codes "200 openat(AT_FDCWD, \"/proc/201/gid_map\", O_RDWR) = 4"
      ∷ (codes "200 pwrite64(4, \"         0       1000          1\\n1 5 2\", 39, 0) = -1 EPERM " ++ codes "(Operation not permitted)") ∷ [])
      ≡ to_the_end (at_line 1 200 CloneUser (Child 201) ∷ at_line 3 200 (WriteSetgroups 1 true) Done
      ∷ at_line 5 200 (WriteGidMap 1 (extent 0 1000 1 ∷ extent 1 5 2 ∷ [])) (Err EPERM) ∷ []);
  a_file_opened_to_be_read_is_not_followed : reading the_world
      (codes "200 open(\"/proc/self/uid_map\", O_RDONLY) = 3" ∷ codes "200 write(3, \"0 0 1\", 5) = 5"
      ∷ codes "200 open(\"/proc/self/uid_map\", O_WRONLY) = -1 EACCES (Permission denied)"
      ∷ codes "200 write(3, \"0 0 1\", 5) = 5" ∷ [])
      ≡ to_the_end [];
  creat_opens_for_writing : reading the_world
      (codes "200 creat(\"/proc/thread-self/setgroups\", 0600) = 3" ∷ codes "200 write(3, \"allow\\n\", 6) = 6" ∷ [])
      ≡ to_the_end (at_line 2 200 (WriteSetgroups 0 false) Done ∷ []);
  the_space_is_that_of_the_open : reading the_world
      (codes "200 fork() = 201" ∷ codes "200 open(\"/proc/201/uid_map\", O_WRONLY) = 3"
      ∷ codes "201 unshare(CLONE_NEWUSER) = 0" ∷ codes "200 write(3, \"\", 0) = 0" ∷ [])
      ≡ to_the_end
      (at_line 1 200 Fork (Child 201) ∷ at_line 3 201 Unshare Done ∷ at_line 4 200 (WriteUidMap 0 []) Done ∷ []);
  a_path_of_a_thread_names_the_thread : reading the_world
      (codes "200 clone(flags=CLONE_NEWUSER) = 201" ∷ codes "200 open(\"/proc/200/task/201/uid_map\", O_WRONLY) = 3"
      ∷ codes "200 write(3, \"\", 0) = 0" ∷ codes "200 open(\"/proc/self/task/200/uid_map\", O_WRONLY) = 3"
      ∷ codes "200 write(3, \"\", 0) = 0" ∷ [])
      ≡ to_the_end (at_line 1 200 CloneUser (Child 201) ∷ at_line 3 200 (WriteUidMap 1 []) Done
      ∷ at_line 5 200 (WriteUidMap 0 []) Done ∷ []);
  other_paths_are_not_followed : reading the_world
      (codes "200 open(\"/proc/thread-self/task/200/uid_map\", O_WRONLY) = 3"
      ∷ codes "200 open(\"/proc/self/task/self/uid_map\", O_WRONLY) = 4"
      ∷ codes "200 open(\"/proc/x/uid_map\", O_WRONLY) = 5" ∷ codes "200 open(\"/proc//self/uid_map\", O_WRONLY) = 6"
      ∷ codes "200 open(\"/proc/self/uid_map/\", O_WRONLY) = 7" ∷ codes "200 open(\"/sys/uid_map\", O_WRONLY) = 8"
      ∷ codes "200 open(\"/proc/self/ns/mnt\", O_RDONLY) = 9"
      ∷ codes "200 open(\"/proc/0/uid_map\", O_WRONLY) = 10" ∷ [])
      ≡ to_the_end [];
  a_file_of_an_unknown_process : Have fault.Descriptor
      (codes "200 open(\"/proc/201/uid_map\", O_WRONLY) = 3" ∷ codes "200 open(\"/proc/201/ns/user\", O_RDONLY) = 3"
      ∷ codes "200 openat(3, \"/proc/200/task/201/gid_map\", O_RDWR) = 4"
      ∷ codes "200 creat(\"/proc/1/setgroups\", 0600) = 3" ∷ []);
  a_failed_open_is_no_fault : TellNothing
      (codes "200 open(\"/proc/201/uid_map\", O_WRONLY) = -1 ENOENT (No such file or directory)"
      ∷ codes "200 openat(3, \"uid_map\", O_WRONLY) = -1 EACCES (Permission denied)"
      ∷ codes "200 open(\"/proc/201/uid_map\", O_RDONLY) = 3" ∷ []);
  a_map_file_by_a_relative_path : Have fault.Descriptor
      (codes "200 openat(3, \"uid_map\", O_WRONLY) = 4" ∷ codes "200 openat(3, \"gid_map\", O_RDWR|O_CLOEXEC) = 4"
      ∷ codes "200 open(\"self/setgroups\", O_WRONLY) = 4" ∷ codes "200 creat(\"x/uid_map\", 0) = 4"
      ∷ codes "200 openat(AT_FDCWD, \"./proc/self/gid_map\", O_WRONLY) = 4" ∷ []);
  a_user_namespace_by_a_relative_path : Have fault.Descriptor
      (codes "200 openat(3, \"ns/user\", O_RDONLY) = 4" ∷ codes "200 open(\"self/ns/user\", O_RDONLY|O_CLOEXEC) = 4"
      ∷ codes "200 creat(\"ns/user\", 0) = 4" ∷ []);
  relative_paths_of_other_files : TellNothing
      (codes "200 openat(3, \"uid_map\", O_RDONLY) = 4" ∷ codes "200 openat(3, \"xuid_map\", O_WRONLY) = 4"
      ∷ codes "200 openat(3, \"uid_map/x\", O_WRONLY) = 4" ∷ codes "200 openat(3, \"user\", O_RDONLY) = 4"
      ∷ codes "200 openat(3, \"xns/user\", O_RDONLY) = 4" ∷ codes "200 openat(3, \"\", O_RDWR) = 4" ∷ []);
  arguments_that_can_not_be_read : TellNothing
      (codes "200 openat(3, \"uid_map\"..., O_WRONLY) = 4" ∷ codes "200 open(\"\\8uid_map\", O_WRONLY) = 4"
      ∷ codes "200 open() = 3" ∷ codes "200 openat(3) = 3" ∷ codes "200 creat() = 3" ∷ codes "200 close() = 0"
      ∷ codes "200 close(x) = 0" ∷ codes "200 dup(x) = 3" ∷ codes "200 dup2() = 3" ∷ codes "200 dup3(x, y, 0) = 3"
      ∷ codes "200 fcntl() = 3" ∷ codes "200 fcntl(x, F_DUPFD, 0) = 3" ∷ codes "200 write() = 3"
      ∷ codes "200 write(x, \"y\", 1) = 1" ∷ []);
}
opens = search

-- ---- ends of descriptors

pub ends_of_descriptors : record {
  a_close_ends_it : reading the_world
      (map_opened ∷ codes "200 close(3) = -1 EINTR (Interrupted system call)" ∷ codes "200 write(3, \"\", 0) = 0"
      ∷ codes "200 close(3) = 0" ∷ codes "200 write(3, \"x\", 1) = 1" ∷ [])
      ≡ to_the_end (at_line 3 200 (WriteUidMap 0 []) Done ∷ []);
  another_open_ends_it : reading the_world
      (map_opened ∷ codes "200 open(\"/etc/passwd\", O_RDONLY) = 3" ∷ codes "200 write(3, \"x\", 1) = 1" ∷ [])
      ≡ to_the_end [];
  another_open_takes_its_place : reading the_world
      (map_opened ∷ codes "200 open(\"/proc/self/gid_map\", O_WRONLY) = 3" ∷ codes "200 write(3, \"\", 0) = 0" ∷ [])
      ≡ to_the_end (at_line 3 200 (WriteGidMap 0 []) Done ∷ []);
  dup2_of_another_ends_it : reading the_world
      (map_opened ∷ codes "200 dup2(1, 3) = -1 EINTR (Interrupted system call)" ∷ codes "200 write(3, \"\", 0) = 0"
      ∷ codes "200 dup2(1, 3) = 3" ∷ codes "200 write(3, \"x\", 1) = 1" ∷ map_opened
      ∷ codes "200 dup3(2, 3, O_CLOEXEC) = 3" ∷ codes "200 write(3, \"x\", 1) = 1" ∷ [])
      ≡ to_the_end (at_line 3 200 (WriteUidMap 0 []) Done ∷ []);
  dup_and_fcntl_do_not : reading the_world
      (map_opened ∷ codes "200 dup(1) = 3" ∷ codes "200 fcntl(1, F_DUPFD, 3) = 3"
      ∷ codes "200 fcntl(1, F_DUPFD_CLOEXEC, 3) = 3" ∷ codes "200 write(3, \"\", 0) = 0" ∷ [])
      ≡ to_the_end (at_line 5 200 (WriteUidMap 0 []) Done ∷ []);
  -- close-on-exec is what the open said
  an_execve_ends_those_that_say_so : reading the_world
      (codes "200 open(\"/proc/self/uid_map\", O_WRONLY|O_CLOEXEC) = 3"
      ∷ codes "200 open(\"/proc/self/gid_map\", O_WRONLY) = 4" ∷ codes "200 fcntl(4, F_SETFD, FD_CLOEXEC) = 0"
      ∷ codes "200 execve(\"/bin/ls\", []) = -1 EACCES (Permission denied)" ∷ codes "200 write(3, \"\", 0) = 0"
      ∷ codes "200 execve(\"/bin/ls\", []) = 0" ∷ codes "200 write(3, \"x\", 1) = 1"
      ∷ codes "200 write(4, \"\", 0) = 0" ∷ [])
      ≡ to_the_end (at_line 4 200 (Exec Plain) (Err EACCES) ∷ at_line 5 200 (WriteUidMap 0 []) Done
      ∷ at_line 6 200 (Exec Plain) Done ∷ at_line 8 200 (WriteGidMap 0 []) Done ∷ []);
  an_exit_ends_those_of_the_process : reading the_world
      (codes "200 fork() = 201" ∷ codes "201 open(\"/proc/self/uid_map\", O_WRONLY) = 3"
      ∷ codes "201 +++ exited with 0 +++" ∷ codes "200 fork() = 201" ∷ codes "201 write(3, \"x\", 1) = 1" ∷ [])
      ≡ to_the_end (at_line 1 200 Fork (Child 201) ∷ at_line 3 201 Exit Done ∷ at_line 4 200 Fork (Child 201) ∷ []);
}
ends_of_descriptors = search

-- ---- copies

pub copies : record {
  a_copy_by_dup_can_not_be_followed : SecondHas fault.Descriptor (codes "200 dup(3) = 4");
  a_copy_by_dup2_can_not_be_followed : SecondHas fault.Descriptor (codes "200 dup2(3, 4) = 4");
  a_copy_by_dup3_can_not_be_followed : SecondHas fault.Descriptor (codes "200 dup3(3, 4, 0) = 4");
  a_copy_by_fcntl_can_not_be_followed : SecondHas fault.Descriptor (codes "200 fcntl(3, F_DUPFD, 0) = 4");
  a_copy_by_fcntl_cloexec_can_not_be_followed : SecondHas fault.Descriptor
      (codes "200 fcntl(3, F_DUPFD_CLOEXEC, 0) = 4");
  a_failed_copy_is_none : reading the_world
      (map_opened ∷ codes "200 dup(3) = -1 EMFILE (Too many open files)" ∷ codes "200 dup2(3, 4) = x"
      ∷ codes "200 fcntl(3, F_GETFD) = 0x1 (flags FD_CLOEXEC)" ∷ codes "200 dup(4) = 5" ∷ [])
      ≡ to_the_end [];
  a_birth_copies_them : reading the_world
      (map_opened ∷ codes "200 fork() = 201" ∷ codes "200 close(3) = 0" ∷ codes "201 write(3, \"\", 0) = 0" ∷ [])
      ≡ to_the_end (at_line 2 200 Fork (Child 201) ∷ at_line 4 201 (WriteUidMap 0 []) Done ∷ []);
  they_can_not_be_shared : SecondHas fault.Descriptor (codes "200 clone(flags=CLONE_VM|CLONE_FILES) = 201");
  who_shares_can_open_none : reading the_world
      (codes "200 clone(flags=CLONE_VM|CLONE_FILES) = 201" ∷ codes "200 open(\"/etc/passwd\", O_RDONLY) = 3"
      ∷ codes "200 open(\"/proc/self/uid_map\", O_WRONLY) = 4" ∷ [])
      ≡ up_to_fault (at_line 1 200 Fork (Child 201) ∷ []) 3 fault.Descriptor;
  nor_can_who_was_born_so : reading the_world
      (codes "200 clone(flags=CLONE_VM|CLONE_FILES) = 201" ∷ codes "201 open(\"/proc/200/ns/user\", O_RDONLY) = 4" ∷ [])
      ≡ up_to_fault (at_line 1 200 Fork (Child 201) ∷ []) 2 fault.Descriptor;
  a_failed_birth_shares_nothing : reading the_world
      (codes "200 clone(flags=CLONE_NEWUSER|CLONE_FILES) = -1 EPERM (Operation not permitted)" ∷ map_opened
      ∷ codes "200 clone(flags=CLONE_FILES) = -1 EAGAIN (Resource temporarily unavailable)" ∷ [])
      ≡ to_the_end (at_line 1 200 CloneUser (Err EPERM) ∷ []);
}
copies = search

-- ---- setns

pub joins : record {
  a_process_joins_a_space : reading the_world
      (codes "200 clone(flags=CLONE_NEWUSER) = 201" ∷ codes "200 open(\"/proc/201/ns/user\", O_RDONLY) = 3"
      ∷ codes "200 setns(3, CLONE_NEWUSER) = -1 EPERM (Operation not permitted)"
      ∷ codes "200 open(\"/proc/self/uid_map\", O_WRONLY) = 4" ∷ codes "200 write(4, \"\", 0) = 0"
      ∷ codes "200 setns(3, 0) = 0" ∷ codes "200 open(\"/proc/self/uid_map\", O_WRONLY) = 4"
      ∷ codes "200 write(4, \"\", 0) = 0" ∷ [])
      ≡ to_the_end (at_line 1 200 CloneUser (Child 201) ∷ at_line 3 200 (SetNs 1) (Err EPERM)
      ∷ at_line 5 200 (WriteUidMap 0 []) Done ∷ at_line 6 200 (SetNs 1) Done
      ∷ at_line 8 200 (WriteUidMap 1 []) Done ∷ []);
  other_flags_tell_nothing : reading the_world
      (codes "200 open(\"/proc/self/ns/user\", O_RDONLY) = 3" ∷ codes "200 setns(3, CLONE_NEWNS) = 0"
      ∷ codes "200 setns(3, CLONE_NEWNS|CLONE_NEWUSER) = 0" ∷ codes "200 setns(3, CLONE_NEWNS) = x" ∷ [])
      ≡ to_the_end [];
  its_result_is_looked_at : reading the_world
      (codes "200 open(\"/proc/self/ns/user\", O_RDONLY) = 3" ∷ codes "200 setns(3, CLONE_NEWUSER) = -1 ESRCH" ∷ [])
      ≡ up_to_fault [] 2 fault.Outcome;
  a_setns_of_what_is_not_followed : Have fault.Descriptor
      (codes "200 setns(3, CLONE_NEWUSER) = 0" ∷ codes "200 setns(3, 0) = 0" ∷ codes "200 setns(x, CLONE_NEWUSER) = 0"
      ∷ codes "200 setns(3, CLONE_NEWNS|CLONE_NEWUSER) = 5" ∷ []);
  nor_of_a_map_file : SecondHas fault.Descriptor (codes "200 setns(3, 0) = 0");
  a_setns_without_a_descriptor : Have (fault.Argument 1)
      (codes "200 setns() = 0" ∷ codes "200 setns() = -1 EBADF (Bad file descriptor)" ∷ codes "200 setns() = x" ∷ []);
  a_setns_without_flags : Have (fault.Argument 2)
      (codes "200 setns(3) = 0" ∷ codes "200 setns(3) = -1 EBADF (Bad file descriptor)"
      ∷ codes "200 setns(x) = x" ∷ []);
  nor_on_one_that_is_followed : reading the_world
      (codes "200 open(\"/proc/self/ns/user\", O_RDONLY) = 3" ∷ codes "200 setns(3) = 0" ∷ [])
      ≡ up_to_fault [] 2 (fault.Argument 2);
}
joins = search

-- ---- what is written

pub writes : record {
  -- the text is 0 TAB 1 TAB 2 LF 003 CR 4 BLANK 5
  a_map_is_read_with_its_escapes : reading the_world
      (map_opened ∷ codes "200 write(3, \"0\\t1\\11\\62\\n\\60\\0603\\r4 5\", 13) = 13" ∷ [])
      ≡ to_the_end (at_line 2 200 (WriteUidMap 0 (extent 0 1 2 ∷ extent 3 4 5 ∷ [])) Done ∷ []);
  the_number_that_a_write_answers : SecondHas fault.Outcome (codes "200 write(3, \"0 1 2\", 5) = 4");
  nor_of_another_text : SecondHas fault.Outcome (codes "200 write(3, \"x\", 1) = 2");
  a_text_that_is_no_map : SecondHas (fault.Argument 2) (codes "200 write(3, \"x\", 1) = 1");
  an_empty_line_is_no_line_of_a_map : SecondHas (fault.Argument 2) (codes "200 write(3, \"0 1 2\\n\\n\", 7) = 7");
  nor_are_two_numbers : SecondHas (fault.Argument 2) (codes "200 write(3, \"0 1\\n2\", 5) = 5");
  nor_is_a_number_past_32_bits : SecondHas (fault.Argument 2) (codes "200 write(3, \"0 1 4294967296\", 14) = 14");
  nor_numbers_that_other_bytes_part : SecondHas (fault.Argument 2) (codes "200 write(3, \"0\\v1\\f2\", 5) = 5");
  -- whatever the number is
  a_text_that_is_cut : SecondHas (fault.Argument 2) (codes "200 write(3, \"0 1 2\"..., 9) = 4");
  a_write_without_a_text : SecondHas (fault.Argument 2) (codes "200 write(3) = 0");
  nor_where_it_fails : SecondHas (fault.Argument 2) (codes "200 write(3) = -1 EPERM (Operation not permitted)");
  a_write_keeps_the_fault_of_its_result : SecondHas fault.Outcome (codes "200 write(3) = x");
  a_failed_write_of_no_map_tells_nothing : reading the_world
      (map_opened ∷ codes "200 write(3, \"x\", 1) = -1 EINVAL (Invalid argument)"
      ∷ codes "200 write(3, \"0 1 2\"..., 9) = -1 EINVAL (Invalid argument)"
      ∷ codes "200 write(3, 0x7ffe, 9) = -1 EFAULT (Bad address)" ∷ codes "200 write(3, \"0 1 2\", 5) = ?"
      ∷ codes "200 write(3, \"0 1 4294967295\", 5) = -1 EINVAL (Invalid argument)" ∷ [])
      ≡ to_the_end (at_line 6 200 (WriteUidMap 0 (extent 0 1 4294967295 ∷ [])) (Err EINVAL) ∷ []);
  a_word_that_is_none : reading the_world
      (codes "200 open(\"/proc/self/setgroups\", O_WRONLY) = 3" ∷ codes "200 write(3, \"deny\\n\\n\", 6) = -1 EINVAL"
      ∷ codes "200 write(3, \"denied\", 6) = 6" ∷ [])
      ≡ up_to_fault [] 3 (fault.Argument 2);
  a_write_to_a_user_namespace_tells_nothing : reading the_world
      (codes "200 open(\"/proc/self/ns/user\", O_RDWR) = 3" ∷ codes "200 write(3, \"x\", 5) = x" ∷ [])
      ≡ to_the_end [];
  what_another_process_opened_is_its_own : reading the_world
      (map_opened ∷ codes "200 close(3) = 0" ∷ codes "200 fork() = 201"
      ∷ codes "201 open(\"/proc/self/uid_map\", O_WRONLY) = 3" ∷ codes "200 write(3, \"x\", 1) = 1"
      ∷ codes "201 write(3, \"\", 0) = 0" ∷ [])
      ≡ to_the_end (at_line 3 200 Fork (Child 201) ∷ at_line 6 201 (WriteUidMap 0 []) Done ∷ []);
}
writes = search
