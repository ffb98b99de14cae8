-- The order of paths, by their keys and then byte by byte: none comes before itself, and of two that differ one comes
-- before the other.
use Rattle.std.proofs.Common.{◌≡◌, ◌≢◌, ℕ, true, false, List, refl, sym, ap, ◌∙◌}
use Rattle.std.specs.Prelude.{IsTrue, bytes_eq}
use Rattle.std.specs.Cmp.Lexicographic.{slice_cmp}
use Rattle.std.specs.Ordering.{is_lt, is_eq, nat_cmp, ordering_reverse}
use Rattle.std.specs.declared.cmp.Ordering.{Ordering}
use Rattle.std.specs.declared.cmp.Ordering.TheVariants.{Less, Equal, Greater}
use Rattle.std.proofs.lemmas.Bool.{false≢true}
use Rattle.std.proofs.lemmas.Cmp.{nat_list_cmp_total, tied_itself}
use Rattle.std.proofs.lemmas.Map.Text.{is_eq-slice_cmp}
use Rattle.std.proofs.lemmas.Slice.Eq.{bytes_eq-Decides}
use Rattle.cm_base.proofs.Texts.{text_other}
use Rattle.cm_files.specs.Index.{is_before, keyed}

pub equal_path : (path other : List ℕ) → path ≡ other → bytes_eq path other ≡ true
equal_path path other is = (bytes_eq-Decides path other).1 is

less_is : (o : Ordering) → is_lt o ≡ true → o ≡ Less
less_is Less is = refl
less_is _ wrong = absurd (false≢true wrong)

turned : (o p : Ordering) → p ≡ ordering_reverse o → is_lt o ≡ false → is_eq o ≡ false → is_lt p ≡ true
turned Less p back less equal = absurd (false≢true (sym less))
turned Equal p back less equal = absurd (false≢true (sym equal))
turned Greater p back less equal = ap is_lt back

pub before_itself : (path : List ℕ) → is_before path path ≡ false
before_itself path = ap is_lt (tied_itself nat_list_cmp_total (keyed path))

pub before_through : (a b c : List ℕ) → IsTrue (is_before a b) → IsTrue (is_before b c) → IsTrue (is_before a c)
before_through a b c first second =
    ap is_lt (nat_list_cmp_total.trans (keyed a) (keyed b) (keyed c) (less_is _ first) (less_is _ second))

pub before_other : (a b : List ℕ) → is_before a b ≡ false → a ≢ b → IsTrue (is_before b a)
before_other a b less apart =
    let differ : keyed a ≢ keyed b = λ same. apart (cc) in
    turned (slice_cmp nat_cmp (keyed a) (keyed b)) (slice_cmp nat_cmp (keyed b) (keyed a)) (nat_list_cmp_total.antisymm (keyed b) (keyed a)) less
    (is_eq-slice_cmp (keyed a) (keyed b) ∙ text_other (keyed a) (keyed b) differ)
