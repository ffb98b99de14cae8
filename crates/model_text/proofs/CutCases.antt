-- Worked cases, by computation, of what comes of a log, and of the limits of lines and of the whole.
use Rattle.std.proofs.Common.{◌≡◌, ℕ, ◌+◌, ◌-◌, List, [], ◌∷◌, length, Option, None, Some, min, ap}
use Rattle.std.specs.Prelude.{codes}
use Rattle.cm_base.specs.Limited.{limit_number}
use Rattle.cm_base.specs.declared.faults.LineFault.TheVariants as fault
use Rattle.cm_base.specs.declared.limited.Limited.TheVariants as limit
use Rattle.cm_base.specs.declared.res.Res.TheVariants.{Done}
use Rattle.cm_lines.specs.Cut.{Cut, before, ends_by, cut_by, cut_lines, cut_of, past_of}
use Rattle.cm_lines.specs.declared.limits.Past.{Past}
use Rattle.cm_lines.specs.declared.limits.Past.TheVariants.{Line, Whole}
use Rattle.model_cred.specs.Call.{SetUid}
use Rattle.model_text.proofs.CaseWorld.{the_world}
use Rattle.model_text.proofs.ReadingCases.{at_line}
use Rattle.model_text.specs.Reading.{AtEnd, Stops, Fault, Limit, script_of_cut}

-- ---- the numbers of the limits
-- of a log, the line that begins at that place, and has so many bytes without its LF and so many with it
abbrev past_in_log : (place len size : ℕ) → Option Past
past_in_log place len size = past_of (limit_number limit.Line) (limit_number limit.Log) place len size

pub limits : record {
  -- the first line, with its LF and without one, at its limit and with a byte more
  lines_have_a_limit : past_in_log 0 1048576 1048577 ∷ past_in_log 0 1048576 1048576 ∷ past_in_log 0 1048577 1048578
      ∷ past_in_log 0 1048577 1048577 ∷ []
      ≡ None ∷ None ∷ Some Line ∷ Some Line ∷ [];
  -- a last line that ends with the last byte of the longest log, and one with a byte more, be it its LF
  logs_have_a_limit : past_in_log 1099511627773 3 3 ∷ past_in_log 1099511627773 2 3 ∷ past_in_log 1099511627773 4 4
      ∷ past_in_log 1099511627773 3 4 ∷ []
      ≡ None ∷ None ∷ Some Whole ∷ Some Whole ∷ [];
  -- where a line is past both, the limit whose byte comes first
  the_first_limit_is_told : past_in_log 1099510579199 1048577 1048577 ∷ past_in_log 1099510579200 1048577 1048577 ∷ []
      ≡ Some Line ∷ Some Whole ∷ [];
}
limits = search

-- the first line of a log comes by how long it is
from_length : (n size : ℕ) (line : List ℕ) (lines : List (List ℕ)) → length line ≡ n
    → cut_lines (limit_number limit.Line) (limit_number limit.Log) size 0 (line ∷ lines)
    ≡ cut_by (past_in_log 0 n (min (n + 1) (size - 0))) line
    (cut_lines (limit_number limit.Line) (limit_number limit.Log) size (0 + n + 1) lines)
from_length n size line lines long =
    ap (λ (m : ℕ). cut_by (past_in_log 0 m (min (m + 1) (size - 0))) line
    (cut_lines (limit_number limit.Line) (limit_number limit.Log) size (0 + m + 1) lines)) long

pub a_line_of_as_many_bytes_comes : (line : List ℕ) → length line ≡ 1048576
    → cut_lines (limit_number limit.Line) (limit_number limit.Log) 1048577 0 (line ∷ []) ≡ before line (ends_by None)
a_line_of_as_many_bytes_comes line long = from_length 1048576 1048577 line [] long

pub a_line_of_one_byte_more_does_not : (line : List ℕ) → length line ≡ 1048577
    → cut_lines (limit_number limit.Line) (limit_number limit.Log) 1048578 0 (line ∷ []) ≡ ends_by (Some Line)
a_line_of_one_byte_more_does_not line long = from_length 1048577 1048578 line [] long

-- ---- small limits in their place: 3 bytes a line
abbrev these : List (List ℕ) → Option Past → Cut
these lines stop = record { lines = lines; stop = stop }

pub small_limits : record {
  all_lines_come : cut_of 3 6 (codes "ab\nabc") ≡ these (codes "ab" ∷ codes "abc" ∷ []) None;
  the_lines_before_a_long_one_come : cut_of 3 20 (codes "ab\n\nabcd\nx\n") ≡ these (codes "ab" ∷ [] ∷ []) (Some Line);
  the_lines_before_the_last_byte_come : cut_of 3 5 (codes "ab\nabc") ≡ these (codes "ab" ∷ []) (Some Whole);
  a_last_newline_is_a_byte_too : cut_of 3 5 (codes "ab\nab\n") ≡ these (codes "ab" ∷ []) (Some Whole);
  a_line_that_ends_with_the_last_byte_comes : cut_of 3 3 (codes "ab\nab\n") ≡ these (codes "ab" ∷ []) (Some Whole);
  none_comes_of_an_empty_text : cut_of 3 0 [] ≡ these [] None;
}
small_limits = search

-- ---- readings
pub readings : record {
  -- the lines before the one that is past a limit tell what they tell, and then comes the limit
  a_long_line_ends_the_reading : script_of_cut the_world
      (cut_of 20 90 (codes "100 setuid 7 = 0\n; a comment that is too long\n100 setuid 7 = 0\n"))
      ≡ record { events = at_line 1 (SetUid 7) Done ∷ []; ending = Stops (Limit limit.Line) };
  a_byte_too_many_ends_it_too : script_of_cut the_world (cut_of 20 33 (codes "100 setuid 7 = 0\n100 setuid 7 = 0\n"))
      ≡ record { events = at_line 1 (SetUid 7) Done ∷ []; ending = Stops (Limit limit.Log) };
  not_a_byte_less : script_of_cut the_world (cut_of 20 34 (codes "100 setuid 7 = 0\n100 setuid 7 = 0\n"))
      ≡ record { events = at_line 1 (SetUid 7) Done ∷ at_line 2 (SetUid 7) Done ∷ []; ending = AtEnd };
  -- a fault of an earlier line comes first
  a_fault_comes_before_it : script_of_cut the_world (cut_of 20 34 (codes "100 setuid 7 = 0\n100 setuid x = 0\nx\n"))
      ≡ record { events = at_line 1 (SetUid 7) Done ∷ []; ending = Stops (Fault 2 (fault.Argument 1)) };
}
readings = search
