-- Worked cases, by computation, of what whole logs read as.
use Rattle.std.proofs.Common.{◌≡◌, ℕ, List, [], ◌∷◌, ◌++◌, map, refl}
use Rattle.std.specs.List.{zip}
use Rattle.std.specs.Prelude.{codes}
use Rattle.cm_base.specs.declared.faults.LineFault.TheVariants as fault
use Rattle.cm_base.specs.declared.res.FileRef.TheVariants.{Plain}
use Rattle.cm_base.specs.declared.res.Res.{Res}
use Rattle.cm_base.specs.declared.res.Res.TheVariants.{Done, Child}
use Rattle.model_cred.specs.Call.{Call, SetUid, SetResUid, SetResGid, SetGroups, CapSet, KeepCaps, NoNewPrivs, Fork, Exec}
use Rattle.model_strace.proofs.CaseWorld.{the_world, at_line, to_the_end, up_to_fault}
use Rattle.model_strace.specs.Lines.{reading, strace_reading}
use Rattle.model_text.specs.Reading.{Reading}

-- ---- a line that is cut
pub a_cut_line_has_no_shape : strace_reading the_world (codes "200  setuid(0") ≡ up_to_fault [] 1 fault.Shape
a_cut_line_has_no_shape = refl

-- ---- calls that are no events, whatever they answer
abbrev probes : List ℕ
probes =
    codes "200   close(9)                          = -1 EBADF (Bad file descriptor)\n"
    ++ codes "200   fcntl(0, F_GETFL)                 = 0x8402 (flags O_RDWR|O_APPEND|O_LARGEFILE)\n"
    ++ codes "200   prctl(PR_GET_DUMPABLE)            = 1 (SUID_DUMP_USER)\n"
    ++ codes "200   setuid(5)                         = 0\n"

pub probes_are_no_events : strace_reading the_world probes ≡ to_the_end (at_line 4 200 (SetUid 5) Done ∷ [])
probes_are_no_events = refl

-- ---- a daemon and its worker
-- lines of a daemon, process 200, and of its worker, process 201
abbrev daemon : record { start : List ℕ; birth : List ℕ; wait : List ℕ }
daemon = record {
  start = codes "200   execve(\"/usr/sbin/exampled\", [\"exampled\"], [\"PATH=/usr/bin:/bin\"]) = 0";
  birth =
      codes "200   clone(child_stack=NULL, flags=CLONE_CHILD_CLEARTID|CLONE_CHILD_SETTID|SIGCHLD, "
      ++ codes "child_tidptr=0x7f10) = 201";
  wait = codes "200   wait4(-1,  <unfinished ...>";
}

abbrev keep : List ℕ
keep = codes "201   prctl(PR_SET_KEEPCAPS, 1)         = 0"

abbrev later : List (List ℕ)
later =
    codes "201   setgroups(1, [33])                = 0" ∷ codes "201   setresgid(33, 33, 33)             = 0"
    ∷ codes "201   setresuid(33, 33, 33)             = 0"
    ∷ (codes "201   capset({version=_LINUX_CAPABILITY_VERSION_3, pid=0}, {effective=1<<CAP_NET_BIND_SERVICE, "
    ++ codes "permitted=1<<CAP_NET_BIND_SERVICE, inheritable=0}) = 0")
    ∷ codes "201   prctl(PR_SET_NO_NEW_PRIVS, 1, 0, 0, 0) = 0"
    ∷ codes "201   execve(\"/usr/lib/worker\", [\"worker\"], [\"PATH=/usr/bin:/bin\"]) = 0" ∷ []

-- what they tell, in lines of these numbers
abbrev in_lines : List ℕ → Reading
in_lines numbers = to_the_end (map (λ (row : ℕ × (ℕ × Call × Res)). at_line row.0 row.1.0 row.1.1 row.1.2) (zip numbers
    ((200, Exec Plain, Done) ∷ (200, Fork, Child 201) ∷ (201, KeepCaps 1, Done) ∷ (201, SetGroups (33 ∷ []), Done)
    ∷ (201, SetResGid 33 33 33, Done) ∷ (201, SetResUid 33 33 33, Done) ∷ (201, CapSet 1024 1024 0, Done)
    ∷ (201, NoNewPrivs 1, Done) ∷ (201, Exec Plain, Done) ∷ [])))

pub one_worker : record {
  a_daemon_and_its_worker : reading the_world (daemon.start ∷ daemon.birth ∷ daemon.wait ∷ keep ∷ later)
      ≡ in_lines (1 ∷ 2 ∷ 4 ∷ 5 ∷ 6 ∷ 7 ∷ 8 ∷ 9 ∷ 10 ∷ []);
  -- the worker's first line comes before the wait of its parent
  two_lines_are_exchanged : reading the_world (daemon.start ∷ daemon.birth ∷ keep ∷ daemon.wait ∷ later)
      ≡ in_lines (1 ∷ 2 ∷ 3 ∷ 5 ∷ 6 ∷ 7 ∷ 8 ∷ 9 ∷ 10 ∷ []);
  -- the birth comes last: the worker's lines are held, and read after it, each with its own number
  the_birth_comes_last : reading the_world (daemon.start ∷ daemon.wait ∷ keep ∷ later ++ daemon.birth ∷ [])
      ≡ in_lines (1 ∷ 10 ∷ 3 ∷ 4 ∷ 5 ∷ 6 ∷ 7 ∷ 8 ∷ 9 ∷ []);
}
one_worker = search
