-- The bytes of a file's attribute security.capability (capabilities(7), "File capability extended attribute versioning";
-- linux/capability.h, struct vfs_ns_cap_data): words of 32 bits, the low byte first.
use Rattle.std.specs.Prelude.{ℕ, ◌+◌, ◌*◌, ◌/◌, ◌%◌, ◌^◌, ◌==◌, Bool, not, bit_and, length, slice_index, List, [], ◌∷◌, ◌++◌}
use Rattle.std.specs.Prelude.{Result, Ok, Err, if◌then◌else◌}
use Rattle.std.specs.Int.{w32, from_le_bytes, to_le_bytes}
use Rattle.cm_base.specs.CapSet.{full, meet, minus}
use Rattle.model_cred.specs.Files.{FileCaps}

-- Why bytes are no attribute: how many they are, or their first word, whatever its effective bit.
pub data AttributeFault : Type 0 where
  Size : ℕ → AttributeFault
  Version : ℕ → AttributeFault

-- how many bytes an attribute of version 2 has (XATTR_CAPS_SZ_2)
abbrev pub size_2 : ℕ
size_2 = 20

-- and one of version 3 (XATTR_CAPS_SZ_3)
abbrev pub size_3 : ℕ
size_3 = 24

-- the first word of version 2 without the effective bit (VFS_CAP_REVISION_2)
abbrev pub version_2 : ℕ
version_2 = 0x02000000

-- and that of version 3 (VFS_CAP_REVISION_3)
abbrev pub version_3 : ℕ
version_3 = 0x03000000

-- the effective bit of the first word (VFS_CAP_FLAGS_EFFECTIVE)
abbrev pub effective_bit : ℕ
effective_bit = 1

-- the word that stands from a place on
abbrev pub word_at : List ℕ → ℕ → ℕ
word_at bytes i = from_le_bytes w32
    (slice_index bytes i ∷ slice_index bytes (i + 1) ∷ slice_index bytes (i + 2) ∷ slice_index bytes (i + 3) ∷ [])

-- the set of a low and a high word: a bit above the last capability stands for none and is dropped
abbrev pub set_of_words : ℕ → ℕ → ℕ
set_of_words low high = meet (low + 2 ^ 32 * high) full

-- The attribute with that root id: after the first word the low words of the permitted and the inheritable set, and then
-- their high words.
abbrev pub caps_with : ℕ → List ℕ → FileCaps
caps_with root bytes = record {
  permitted = set_of_words (word_at bytes 4) (word_at bytes 12);
  inheritable = set_of_words (word_at bytes 8) (word_at bytes 16);
  effective = not (bit_and (word_at bytes 0) effective_bit == 0);
  root = root;
}

-- the attribute with that root id, where its first word is the version's
abbrev pub attribute_as : ℕ → ℕ → List ℕ → Result FileCaps AttributeFault
attribute_as version root bytes =
    if minus (word_at bytes 0) effective_bit == version then Ok (caps_with root bytes) else Err (Version (word_at bytes 0))

-- The attribute that the bytes are: of version 2 by their number, with root id 0 (choice), or of version 3, whose last word
-- is its root id.
abbrev pub attribute_of : List ℕ → Result FileCaps AttributeFault
attribute_of bytes =
    if length bytes == size_2 then attribute_as version_2 0 bytes
    else if length bytes == size_3 then attribute_as version_3 (word_at bytes 20) bytes
    else Err (Size (length bytes))

-- the first word of version 3
abbrev pub first_word : Bool → ℕ
first_word effective = version_3 + (if effective then effective_bit else 0)

-- the low word of a set
abbrev pub low_word : ℕ → ℕ
low_word set = set % 2 ^ 32

-- the high word of a set
abbrev pub high_word : ℕ → ℕ
high_word set = set / 2 ^ 32

-- the bytes of a word
abbrev pub word_bytes : ℕ → List ℕ
word_bytes word = to_le_bytes w32 word

-- the bytes of an attribute, of version 3
abbrev pub attribute_bytes : FileCaps → List ℕ
attribute_bytes caps =
    word_bytes (first_word caps.effective)
    ++ word_bytes (low_word caps.permitted) ++ word_bytes (low_word caps.inheritable)
    ++ word_bytes (high_word caps.permitted) ++ word_bytes (high_word caps.inheritable)
    ++ word_bytes caps.root
