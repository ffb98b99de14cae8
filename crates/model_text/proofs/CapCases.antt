-- Worked cases, by computation, of the texts of sets of capabilities (the numbers are those of capabilities(7)).
use Rattle.std.proofs.Common.{◌≡◌, ℕ, List, [], ◌∷◌, map, Some, None}
use Rattle.std.specs.Prelude.{codes}
use Rattle.model_text.specs.CapText.{set_of_text}

-- each of the texts is none of a set
abbrev pub AreNone : List (List ℕ) → Type 0
AreNone texts = map set_of_text texts ≡ map (λ _. None) texts

-- each of the texts is of this set
abbrev pub AreAll : ℕ → List (List ℕ) → Type 0
AreAll set texts = map set_of_text texts ≡ map (λ _. Some set) texts

-- ---- words
pub words : record {
  all_is_each_capability : set_of_text (codes "all") ≡ Some 0x1ffffffffff;
  none_is_none : set_of_text (codes "none") ≡ Some 0;
  words_are_lower_case_and_stand_alone : AreNone (codes "All" ∷ codes "ALL" ∷ codes "None" ∷ codes " all" ∷ codes "all "
      ∷ codes "all,none" ∷ codes "all,CAP_KILL" ∷ codes "CAP_KILL,none" ∷ codes "al" ∷ codes "alls" ∷ []);
}
words = search

-- ---- digits
pub digits : record {
  digits_of_all : AreAll 0x1ffffffffff
      (codes "000001ffffffffff" ∷ codes "000001FFFFFFFFFF" ∷ codes "000001fFfFFfFfFF" ∷ []);
  digits_of_none : set_of_text (codes "0000000000000000") ≡ Some 0;
  -- CAP_NET_BIND_SERVICE is 10
  digits_of_one : set_of_text (codes "0000000000000400") ≡ Some 1024;
  -- each digit of either case at its place, in the low bits alone
  digits_of_each_kind : AreAll 0x10123456789 (codes "0000010123456789" ∷ []);
  letters_of_each_kind : AreAll 0x1abcdefabcd
      (codes "000001abcdefabcd" ∷ codes "000001ABCDEFABCD" ∷ codes "000001AbCdEfaBcD" ∷ []);
  -- capabilities end at 40
  bits_above_forty_are_dropped : AreAll 0x1ffffffffff
      (codes "ffffffffffffffff" ∷ codes "FFFFFFFFFFFFFFFF" ∷ codes "000003ffffffffff" ∷ []);
  the_last_capability_stays : set_of_text (codes "0000010000000000") ≡ Some 1099511627776;
  the_bit_past_it_goes : set_of_text (codes "0000020000000000") ≡ Some 0;
  the_highest_bit_goes : set_of_text (codes "8000000000000001") ≡ Some 1;
  other_lengths_are_none : AreNone (codes "000000000000400" ∷ codes "00000000000000400" ∷ codes "0" ∷ codes "400"
      ∷ codes "000001ffffffffff0" ∷ codes "00001ffffffffff" ∷ codes "00000000000000000000000000000400" ∷ []);
  other_bytes_are_none : AreNone (codes "000000000000040g" ∷ codes "000000000000040G" ∷ codes "0x00000000000400"
      ∷ codes " 00000000000400 " ∷ codes "-000000000000400" ∷ codes "000000000000040/" ∷ codes "000000000000040:"
      ∷ codes "000000000000040@" ∷ codes "000000000000040`" ∷ []);
}
digits = search

-- ---- names
pub names : record {
  -- CAP_CHOWN is 0, CAP_KILL 5, CAP_NET_BIND_SERVICE 10, CAP_CHECKPOINT_RESTORE 40
  first_name : set_of_text (codes "CAP_CHOWN") ≡ Some 1;
  last_name : set_of_text (codes "CAP_CHECKPOINT_RESTORE") ≡ Some 1099511627776;
  one_name : set_of_text (codes "CAP_NET_BIND_SERVICE") ≡ Some 1024;
  names_in_any_order : AreAll 1057
      (codes "CAP_KILL,CAP_CHOWN,CAP_NET_BIND_SERVICE" ∷ codes "CAP_CHOWN,CAP_NET_BIND_SERVICE,CAP_KILL" ∷ []);
  a_name_may_stand_twice : set_of_text (codes "CAP_KILL,CAP_CHOWN,CAP_KILL") ≡ Some 33;
  -- a name of 16 bytes is no digits
  name_of_sixteen_bytes : set_of_text (codes "CAP_DAC_OVERRIDE") ≡ Some 2;
  no_names : AreNone (codes "" ∷ codes "," ∷ codes "CAP_KILL," ∷ codes ",CAP_KILL" ∷ codes "CAP_KILL,,CAP_CHOWN"
      ∷ codes "CAP_KILL, CAP_CHOWN" ∷ codes "CAP_KILL CAP_CHOWN" ∷ codes "CAP_KILL|CAP_CHOWN" ∷ codes "CAP_FOO"
      ∷ codes "CAP_KILL,CAP_FOO" ∷ codes "cap_kill" ∷ codes "Cap_Kill" ∷ codes "KILL" ∷ codes "CAP_" ∷ codes "CAP_KILLS"
      ∷ codes "CAP_41" ∷ codes "5" ∷ codes "CAP_KILL,0000000000000400" ∷ []);
}
names = search
