-- Worked cases of attribute bytes (capabilities(7), "File capability extended attribute versioning").
use Rattle.std.proofs.Common.{◌≡◌, ℕ, ◌++◌, true, false, List, [], ◌∷◌, Ok, Err}
use Rattle.model_cred.specs.Attribute.{attribute_of, attribute_bytes, Size, Version}
use Rattle.model_cred.specs.Files.{FileCaps}

-- CAP_NET_RAW (13) permitted, with the effective bit, as setcap(8) gives it to a program: version 2
abbrev net_raw_2 : List ℕ
net_raw_2 = 1 ∷ 0 ∷ 0 ∷ 2 ∷ 0 ∷ 0x20 ∷ 0 ∷ 0 ∷ 0 ∷ 0 ∷ 0 ∷ 0 ∷ 0 ∷ 0 ∷ 0 ∷ 0 ∷ 0 ∷ 0 ∷ 0 ∷ 0 ∷ []

-- the same of version 3, without a root id
abbrev net_raw_3 : List ℕ
net_raw_3 = 1 ∷ 0 ∷ 0 ∷ 3 ∷ 0 ∷ 0x20 ∷ 0 ∷ 0 ∷ 0 ∷ 0 ∷ 0 ∷ 0 ∷ 0 ∷ 0 ∷ 0 ∷ 0 ∷ 0 ∷ 0 ∷ 0 ∷ 0 ∷ []

abbrev net_raw : ℕ → FileCaps
net_raw root = record { permitted = 0x2000; inheritable = 0; effective = true; root = root }

pub attributes : record {
  version_2_has_root_0 : attribute_of net_raw_2 ≡ Ok (net_raw 0);
  -- 100000 is 0x000186a0
  version_3_has_its_root : attribute_of (net_raw_3 ++ 0xa0 ∷ 0x86 ∷ 1 ∷ 0 ∷ []) ≡ Ok (net_raw 100000);
  version_3_may_have_root_0 : attribute_of (net_raw_3 ++ 0 ∷ 0 ∷ 0 ∷ 0 ∷ []) ≡ Ok (net_raw 0);
  -- The low words come first, then the high ones, permitted before inheritable; CAP_CHECKPOINT_RESTORE (40) is the last
  -- bit.
  words_stand_in_their_order : attribute_of
      (0 ∷ 0 ∷ 0 ∷ 2 ∷ 1 ∷ 0 ∷ 0 ∷ 0 ∷ 2 ∷ 0 ∷ 0 ∷ 0 ∷ 0 ∷ 1 ∷ 0 ∷ 0 ∷ 0x80 ∷ 0 ∷ 0 ∷ 0 ∷ [])
      ≡ Ok (record { permitted = 0x10000000001; inheritable = 0x8000000002; effective = false; root = 0 });
  -- bits 41 and up are dropped
  higher_bits_are_dropped : attribute_of
      (0 ∷ 0 ∷ 0 ∷ 2 ∷ 0 ∷ 0 ∷ 0 ∷ 0x80 ∷ 0 ∷ 0 ∷ 0 ∷ 0 ∷ 0xff ∷ 3 ∷ 0 ∷ 0 ∷ 0 ∷ 0xfe ∷ 0xff ∷ 0xff ∷ [])
      ≡ Ok (record { permitted = 0x1ff80000000; inheritable = 0; effective = false; root = 0 });
}
attributes = search

pub no_attributes : record {
  no_bytes_are_none : attribute_of [] ≡ Err (Size 0);
  one_byte_less_is_none : attribute_of
      (1 ∷ 0 ∷ 0 ∷ 2 ∷ 0 ∷ 0x20 ∷ 0 ∷ 0 ∷ 0 ∷ 0 ∷ 0 ∷ 0 ∷ 0 ∷ 0 ∷ 0 ∷ 0 ∷ 0 ∷ 0 ∷ 0 ∷ [])
      ≡ Err (Size 19);
  -- each version by its own number of bytes
  version_2_of_24_bytes_is_none : attribute_of (net_raw_2 ++ 0 ∷ 0 ∷ 0 ∷ 0 ∷ []) ≡ Err (Version 0x02000001);
  version_3_of_20_bytes_is_none : attribute_of net_raw_3 ≡ Err (Version 0x03000001);
  -- no other bit may stand in the first word
  another_bit_is_none : attribute_of
      (3 ∷ 0 ∷ 0 ∷ 2 ∷ 0 ∷ 0x20 ∷ 0 ∷ 0 ∷ 0 ∷ 0 ∷ 0 ∷ 0 ∷ 0 ∷ 0 ∷ 0 ∷ 0 ∷ 0 ∷ 0 ∷ 0 ∷ 0 ∷ [])
      ≡ Err (Version 0x02000003);
}
no_attributes = search

pub written_attributes : record {
  -- an attribute is written in version 3
  net_raw_is_written : attribute_bytes (net_raw 100000) ≡ net_raw_3 ++ 0xa0 ∷ 0x86 ∷ 1 ∷ 0 ∷ [];
  all_words_are_written : attribute_bytes
      (record { permitted = 0x10000000001; inheritable = 0x8000000002; effective = false; root = 0 })
      ≡ 0 ∷ 0 ∷ 0 ∷ 3 ∷ 1 ∷ 0 ∷ 0 ∷ 0 ∷ 2 ∷ 0 ∷ 0 ∷ 0 ∷ 0 ∷ 1 ∷ 0 ∷ 0 ∷ 0x80 ∷ 0 ∷ 0 ∷ 0 ∷ 0 ∷ 0 ∷ 0 ∷ 0 ∷ [];
}
written_attributes = search
