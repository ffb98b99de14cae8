-- Worked cases, by computation, of the faults of script lines, of their order, and of lines that are no event.
use Rattle.std.proofs.Common.{◌≡◌, ℕ, List, [], ◌∷◌, map, refl}
use Rattle.std.specs.Prelude.{codes}
use Rattle.cm_base.specs.declared.faults.LineFault.TheVariants as fault
use Rattle.model_text.proofs.CaseWorld.{the_world}
use Rattle.model_text.proofs.LineCases.{Have}
use Rattle.model_text.specs.Line.{Faulty, NoEvent, script_line}

-- ---- no event
-- each of the lines tells nothing
abbrev AreNoEvent : List (List ℕ) → Type 0
AreNoEvent lines = map (script_line the_world) lines ≡ map (λ _. NoEvent) lines

pub no_events : record {
  blanks_alone : AreNoEvent (codes "" ∷ codes " " ∷ codes "\t" ∷ codes "\r" ∷ codes " \t \r " ∷ []);
  comments : AreNoEvent (codes ";" ∷ codes "; 100 exit = 0" ∷ codes ";100 exit = 0" ∷ codes "  ;x" ∷ codes "\t;;" ∷ []);
  -- 0x0b and 0x0c are no blanks, and a comment stands alone
  no_blanks : map (script_line the_world) ((11 ∷ []) ∷ (12 ∷ []) ∷ (11 ∷ codes "100 exit = 0") ∷ [])
      ≡ map (λ _. Faulty fault.Pid) ((11 ∷ []) ∷ (12 ∷ []) ∷ (11 ∷ codes "100 exit = 0") ∷ []);
}
no_events = search

-- ---- pid
pub first_tokens_that_are_no_pid : Have fault.Pid
    (codes "0 exit = 0" ∷ codes "00 exit = 0" ∷ codes "4194305 exit = 0" ∷ codes "4294967296 exit = 0" ∷ codes "-1 exit = 0"
    ∷ codes "+1 exit = 0" ∷ codes "x exit = 0" ∷ codes "exit = 0" ∷ codes "= 0" ∷ codes "=" ∷ codes "100; exit = 0" ∷ codes "0x1 exit = 0"
    ∷ codes "#1 exit = 0" ∷ [])
first_tokens_that_are_no_pid = refl

-- ---- call
pub second_tokens_that_are_no_call : Have fault.Call
    (codes "100" ∷ codes "100 " ∷ codes "100 =" ∷ codes "100 = 0" ∷ codes "100 getuid = 0" ∷ codes "100 SETUID 1 = 0"
    ∷ codes "100 setuid32 1 = 0" ∷ codes "100 set_uid 1 = 0" ∷ codes "100 setgroup 1 = 0" ∷ codes "100 100 exit = 0"
    ∷ codes "100 ; exit = 0" ∷ codes "100 exec - = 0" ∷ codes "100 write_map #1 = 0" ∷ codes "4194304 x" ∷ [])
second_tokens_that_are_no_call = refl

-- ---- the order of two faults of one line
pub order_of_faults : record {
  -- the pid before the call, before the shape, before all else
  pid_is_told_first : Have fault.Pid
      (codes "0 getuid = 0" ∷ codes "0 setuid" ∷ codes "x setuid = 0" ∷ codes "x setuid x = 0" ∷ codes "x setuid 1 = x"
      ∷ codes "x y z" ∷ []);
  -- the call before the shape, before all else
  then_the_call : Have fault.Call (codes "100 getuid" ∷ codes "100 getuid x = x" ∷ codes "100 x = = 0" ∷ []);
  -- the shape before the count, the kinds of arguments and the result
  then_the_shape : Have fault.Shape
      (codes "100 setresuid 1 = 0 0" ∷ codes "100 setuid x = 0 0" ∷ codes "100 setuid x" ∷ codes "100 setuid 1 = x y"
      ∷ codes "100 fork x = = 0" ∷ codes "100 write_uid_map x y = 0 0" ∷ []);
  -- the count before the kinds of arguments and the result
  then_the_count : Have fault.Count
      (codes "100 setresuid x = 0" ∷ codes "100 setresuid x y z w = 0" ∷ codes "100 setreuid 1 = x"
      ∷ codes "100 fork x = x" ∷ codes "100 exit x = EPERM" ∷ codes "100 write_uid_map x y = z"
      ∷ codes "100 keepcaps -1 -1 = 0" ∷ []);
  -- the first argument that isn't of its kind before a later one, and before the result
  then_the_first_argument : Have (fault.Argument 1)
      (codes "100 setresuid x y z = 0" ∷ codes "100 setuid x = x" ∷ codes "100 setns pud = 1"
      ∷ codes "100 write_setgroups pud maybe = x" ∷ []);
  then_a_later_one : Have (fault.Argument 2)
      (codes "100 setresuid 1 y z = x" ∷ codes "100 setgroups 1 y z = x"
      ∷ codes "100 write_setgroups pod maybe = x" ∷ []);
}
order_of_faults = search
