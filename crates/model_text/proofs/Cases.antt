-- Worked cases of the texts, by computation.
use Rattle.std.proofs.Common.{◌≡◌, [], ◌∷◌, Some, None}
use Rattle.std.specs.Prelude.{codes}
use Rattle.cm_base.specs.declared.res.Res.TheVariants.{Done, Err}
use Rattle.cm_base.specs.declared.errno.Errno.TheVariants.{ENOSPC}
use Rattle.cm_lines.specs.Lines.{lines_of}
use Rattle.model_text.specs.Cut.{tokens_of}
use Rattle.model_text.specs.Token.{number_token, pid_token, id_token, result_token}

-- ---- lines and tokens
pub lines_and_tokens : record {
  empty_text_has_no_line : lines_of [] ≡ [];
  last_line_needs_no_newline : lines_of (codes "a\nbc") ≡ codes "a" ∷ codes "bc" ∷ [];
  newline_ends_a_line : lines_of (codes "a\nbc\n") ≡ codes "a" ∷ codes "bc" ∷ [];
  empty_lines_count : lines_of (codes "\n\na") ≡ [] ∷ [] ∷ codes "a" ∷ [];
  blanks_part_tokens : tokens_of (codes "  ab\t c\r") ≡ codes "ab" ∷ codes "c" ∷ [];
  blanks_alone_are_no_token : tokens_of (codes " \t \r") ≡ [];
}
lines_and_tokens = search

-- ---- single tokens
pub single_tokens : record {
  leading_zeros_are_read : number_token (codes "00100") ≡ Some 100;
  largest_number : number_token (codes "4294967295") ≡ Some 4294967295;
  number_too_large : number_token (codes "4294967296") ≡ None;
  no_digits_are_no_number : number_token [] ≡ None;
  sign_is_no_digit : number_token (codes "+1") ≡ None;
  pid_zero_is_none : pid_token (codes "0") ≡ None;
  largest_pid : pid_token (codes "4194304") ≡ Some 4194304;
  pid_too_large : pid_token (codes "4194305") ≡ None;
  minus_one_is_no_pid : pid_token (codes "-1") ≡ None;
  minus_one_is_an_id : id_token (codes "-1") ≡ Some 4294967295;
  id_too_large : id_token (codes "4294967296") ≡ None;
  minus_two_is_no_id : id_token (codes "-2") ≡ None;
  done_is_one_zero : result_token (codes "0") ≡ Some Done;
  two_zeros_are_no_result : result_token (codes "00") ≡ None;
  error_by_its_name : result_token (codes "ENOSPC") ≡ Some (Err ENOSPC);
  unknown_error : result_token (codes "EFOO") ≡ None;
}
single_tokens = search
