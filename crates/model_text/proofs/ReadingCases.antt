-- Worked cases, by computation, of what script logs read as.
use Rattle.std.proofs.Common.{◌≡◌, ℕ, [], ◌∷◌, ◌++◌, replicate, flat_map}
use Rattle.std.specs.Prelude.{codes}
use Rattle.cm_base.specs.declared.faults.LineFault.TheVariants as fault
use Rattle.cm_base.specs.declared.limited.Limited.TheVariants as limit
use Rattle.cm_base.specs.declared.res.FileRef.TheVariants.{Row}
use Rattle.cm_base.specs.declared.res.Res.TheVariants.{Done, Child}
use Rattle.model_cred.specs.Call.{Call, SetUid, Fork, SetNs, Exec}
use Rattle.cm_base.specs.declared.res.Res.{Res}
use Rattle.model_text.proofs.CaseWorld.{the_world}
use Rattle.model_text.proofs.LineCases.{event_of}
use Rattle.model_text.specs.NameText.{is_path}
use Rattle.model_text.specs.Reading.{Placed, AtEnd, Stops, Fault, Limit, ends_at, script_reading}

-- the event of a call of process 100 in the line of that number
abbrev pub at_line : ℕ → Call → Res → Placed
at_line number call res = record { line = number; event = event_of call res }

pub readings_of_scripts : record {
  nothing_is_read_to_the_end : script_reading the_world [] ≡ ends_at AtEnd;
  blank_lines_and_comments_have_numbers_too : script_reading the_world
      (codes "\n; a\n100 setuid 7 = 0\n \n100 fork = 101")
      ≡ record { events = at_line 3 (SetUid 7) Done ∷ at_line 5 Fork (Child 101) ∷ []; ending = AtEnd };
  -- names and paths are those of the world
  the_world_names_spaces_and_files : script_reading the_world (codes "100 setns pod = 0\r\n100 execve /opt/x = 0\r\n")
      ≡ record { events = at_line 1 (SetNs 1) Done ∷ at_line 2 (Exec (Row 1)) Done ∷ []; ending = AtEnd };
  nothing_is_read_after_a_fault : script_reading the_world
      (codes "100 setuid 7 = 0\n100 setuid = 0\n100 setuid 7 = 0\nx\n")
      ≡ record { events = at_line 1 (SetUid 7) Done ∷ []; ending = Stops (Fault 2 fault.Count) };
  a_fault_of_an_argument_has_its_number : script_reading the_world
      (codes "100 setuid 7 = 0\n\n100 setresuid 1 2 x = 0\nx\n")
      ≡ record { events = at_line 1 (SetUid 7) Done ∷ []; ending = Stops (Fault 3 (fault.Argument 3)) };
  -- a limit ends the reading, whatever stands after its line
  nor_after_a_limit : script_reading the_world
      (codes "100 setuid 7 = 0\n100 setgroups" ++ flat_map (λ group. codes " " ++ group) (replicate 1025 (codes "7"))
      ++ codes " = 0\nx\n")
      ≡ record { events = at_line 1 (SetUid 7) Done ∷ []; ending = Stops (Limit limit.Groups) };
}
unfolding is_path
readings_of_scripts = search
