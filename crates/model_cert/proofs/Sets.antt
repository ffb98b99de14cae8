-- Sets as the values that are written for them stand for them.
use Rattle.std.proofs.Common.{◌≡◌, ℕ, ◌+◌, ◌<◌, ◌^◌, List, [], ◌∷◌, map, Some, IsTrue, refl, arith}
use Rattle.std.proofs.lemmas.Bool.Decides.{nat_tests}
use Rattle.std.proofs.lemmas.Slice.Eq.{bytes_eq-Decides}
use Rattle.cm_base.specs.CapSet.{IsCapSet}
use Rattle.model_cert.specs.Json.{number_of}
use Rattle.model_cert.specs.Sets.{intervals_of, ids_of, set_of}
use Rattle.model_cert.specs.Written.{interval_data, ids_data}
use Rattle.model_cred.proofs.Intervals.{ascend_parts}
use Rattle.model_cred.specs.Intervals.{Interval, ascend_from, IsCanonical}
use Rattle.model_text.proofs.HexTexts.{set_back}
use Rattle.model_text.specs.Hex.{hex_set}
use Rattle.serde_json.specs.Data.{number, unsigned}
use Rattle.serde_json.specs.View.{items_of}

number_again : (n : ℕ) → n < 2 ^ 32 → number_of (number (unsigned n)) ≡ Some n
number_again n small = grind (arith, nat_tests)

intervals_again : (low : ℕ) (list : List Interval) → IsTrue (ascend_from low list)
    → intervals_of (items_of (map interval_data list)) ≡ Some list
intervals_again low [] h = refl
intervals_again low (i ∷ list) h =
    let a = ascend_parts low i list h in
    rw (
      number_again i.first (omega (arith, a.full, a.ids)),
      number_again i.last (omega (arith, a.ids)),
      intervals_again (i.last + 2) list a.rest,
    )

pub ids_again : (list : List Interval) → IsCanonical list → ids_of (ids_data list) ≡ Some list
ids_again list h = intervals_again 0 list h

pub set_again : (set : ℕ) → IsCapSet set → set_of (hex_set set) ≡ Some set
unfolding set_of
set_again set small = rw (set_back set small, (bytes_eq-Decides (hex_set set) (hex_set set)).1 refl)
