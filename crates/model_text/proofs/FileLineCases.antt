-- Worked cases, by computation, of script lines of execve(2), and of how such events are printed.
use Rattle.std.proofs.Common.{◌≡◌, ℕ, List, [], ◌∷◌, ◌++◌, map, replicate, refl}
use Rattle.std.specs.Prelude.{codes}
use Rattle.cm_base.specs.declared.faults.LineFault.TheVariants as fault
use Rattle.cm_base.specs.declared.res.FileRef.TheVariants.{Row, Plain}
use Rattle.cm_base.specs.declared.res.Res.TheVariants.{Done, Err}
use Rattle.cm_base.specs.declared.errno.Errno.TheVariants.{EPERM, EACCES, ENOENT}
use Rattle.model_cred.specs.Call.{Exec}
use Rattle.model_text.proofs.CaseWorld.{the_world}
use Rattle.model_text.proofs.LineCases.{IsEvent, Have, event_of}
use Rattle.model_text.proofs.PrintCases.{print_on_literals}
use Rattle.model_text.specs.Line.{Line, Tells, Faulty, script_line}
use Rattle.model_text.specs.NameText.{is_path}
use Rattle.model_text.specs.Print.{event_text}

pub execves : record {
  a_declared_file : IsEvent (codes "100 execve /bin/su = 0") (Exec (Row 0)) Done;
  another_declared_file : IsEvent (codes "100 execve /opt/x = EACCES") (Exec (Row 1)) (Err EACCES);
  a_path_without_a_slash : IsEvent (codes "100 execve pod = 0") (Exec (Row 2)) Done;
  a_file_that_is_not_declared : IsEvent (codes "100 execve /bin/sh = 0") (Exec Plain) Done;
  the_front_of_a_declared_path : IsEvent (codes "100 execve /bin/s = 0") (Exec Plain) Done;
  the_plain_file : IsEvent (codes "100 execve - = ENOENT") (Exec Plain) (Err ENOENT);
  other_tokens_are_paths_too : IsEvent (codes "100 execve -1 = 0") (Exec Plain) Done;
  even_a_result : IsEvent (codes "100 execve 0 = EPERM") (Exec Plain) (Err EPERM);
  equals_within_a_path : IsEvent (codes "100 execve a=b = 0") (Exec Plain) Done;
  bytes_that_are_no_ascii : IsEvent (codes "100 execve /é = 0") (Exec Plain) Done;
  shape_of_execve : Have fault.Shape
      (codes "100 execve" ∷ codes "100 execve /bin/su" ∷ codes "100 execve /bin/su =" ∷ codes "100 execve = = 0"
      ∷ codes "100 execve /bin/su = 0 0" ∷ []);
  count_of_execve : Have fault.Count
      (codes "100 execve = 0" ∷ codes "100 execve = =" ∷ codes "100 execve /bin/su -l = 0"
      ∷ codes "100 execve - - = 0" ∷ []);
  result_of_execve : Have fault.Outcome
      (codes "100 execve /bin/su = 1" ∷ codes "100 execve - = 00" ∷ codes "100 execve - = EFOO" ∷ []);
}
unfolding is_path
execves = search

-- ---- bytes and lengths of paths
-- the line of an execve of that path
abbrev of_path : List ℕ → List ℕ
of_path path = codes "100 execve " ++ path ++ codes " = 0"

-- what it stands for where the path ends in that byte
abbrev with_byte : ℕ → Line
with_byte byte = script_line the_world (of_path (codes "/a" ++ byte ∷ []))

pub paths : record {
  -- 0x0b and 0x0c are no blanks; 0x21 and 0x7e are the outermost bytes of ASCII that a path may have
  bytes_of_no_path : map with_byte (0 ∷ 1 ∷ 10 ∷ 11 ∷ 12 ∷ 31 ∷ 127 ∷ []) ≡ replicate 7 (Faulty (fault.Argument 1));
  bytes_of_paths : map with_byte (33 ∷ 59 ∷ 61 ∷ 126 ∷ 128 ∷ 255 ∷ [])
      ≡ replicate 6 (Tells (event_of (Exec Plain) Done));
  the_longest_path : script_line the_world (of_path (replicate 4095 97)) ≡ Tells (event_of (Exec Plain) Done);
  a_path_that_is_too_long : script_line the_world (of_path (replicate 4096 97)) ≡ Faulty (fault.Argument 1);
}
unfolding is_path
paths = search

-- ---- printed events
pub files_are_printed : map (λ file. event_text the_world (event_of (Exec file) Done)) (Row 0 ∷ Row 1 ∷ Row 2 ∷ Plain ∷ [])
    ≡ codes "100 execve /bin/su = 0" ∷ codes "100 execve /opt/x = 0" ∷ codes "100 execve pod = 0" ∷ codes "100 execve - = 0" ∷ []
unfolding print_on_literals
files_are_printed = refl
