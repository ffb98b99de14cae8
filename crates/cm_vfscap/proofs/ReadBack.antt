-- The bytes of an attribute, read again, are the attribute.
use Rattle.std.proofs.Common.{◌≡◌, ℕ, ◌+◌, ◌*◌, ◌^◌, ◌<◌, ◌==◌, Bool, true, false, not, Ok, Err, refl, ap, ◌∙◌, arith}
use Rattle.std.specs.Prelude.{bit_and}
use Rattle.std.specs.Int.{w32, from_le_bytes}
use Rattle.std.proofs.lemmas.Bool.{eqb-true, cond-true}
use Rattle.std.proofs.lemmas.Nat.{from_le_bytes-to_le_bytes_4}
use Rattle.cm_base.specs.CapSet.{IsCapSet, full, meet, minus}
use Rattle.cm_base.proofs.CapSets.{within_full}
use Rattle.model_cred.specs.Attribute.{Version, attribute_bytes, caps_with, set_of_words, word_bytes}
use Rattle.model_cred.specs.Attribute.{low_word, high_word, first_word, version_3}
use Rattle.model_cred.specs.Files.{FileCaps, KeepsCaps}
use Rattle.cm_vfscap.specs.Law.{WrittenIsReadBack}

-- the word that four bytes are
abbrev word_of : ℕ → ℕ
word_of word = from_le_bytes w32 (word_bytes word)

set_again : (set : ℕ) → IsCapSet set → set_of_words (word_of (low_word set)) (word_of (high_word set)) ≡ set
set_again set small =
    let low : word_of (low_word set) ≡ low_word set = from_le_bytes-to_le_bytes_4 (low_word set) (omega arith) in
    let high : word_of (high_word set) ≡ high_word set = from_le_bytes-to_le_bytes_4 (high_word set) (omega arith) in
    let whole : low_word set + 2 ^ 32 * high_word set ≡ set = omega arith in
    ap (λ (l : ℕ). set_of_words l (word_of (high_word set))) low
    ∙ ap (λ (h : ℕ). set_of_words (low_word set) h) high
    ∙ ap (λ (s : ℕ). meet s full) whole
    ∙ eqb-true (meet set full) set (within_full set small)

effective_again : (effective : Bool) → not (bit_and (word_of (first_word effective)) 1 == 0) ≡ effective
effective_again true = refl
effective_again false = refl

version_again : (effective : Bool) → (minus (word_of (first_word effective)) 1 == version_3) ≡ true
version_again true = refl
version_again false = refl

caps_again : (caps : FileCaps) → KeepsCaps caps → caps.root < 2 ^ 32 → caps_with (word_of caps.root) (attribute_bytes caps) ≡ caps
caps_again caps keeps root =
    let made : FileCaps = caps_with (word_of caps.root) (attribute_bytes caps) in
    ap (λ (set : ℕ). record made { permitted = set }) (set_again caps.permitted keeps.permitted)
    ∙ ap (λ (set : ℕ). record made { permitted = caps.permitted; inheritable = set }) (set_again caps.inheritable keeps.inheritable)
    ∙ ap (λ (effective : Bool). record caps { effective = effective; root = made.root }) (effective_again caps.effective)
    ∙ ap (λ (id : ℕ). record caps { root = id }) (from_le_bytes-to_le_bytes_4 caps.root root)

pub written_is_read_back : WrittenIsReadBack
written_is_read_back caps keeps root =
    cond-true (minus (word_of (first_word caps.effective)) 1 == version_3) (Ok (caps_with (word_of caps.root) (attribute_bytes caps)))
    (Err (Version (word_of (first_word caps.effective)))) (version_again caps.effective)
    ∙ ap Ok (caps_again caps keeps root)
