-- Texts that stand in a part of their room.
use Rattle.std.proofs.Common.{◌≡◌, ℕ, ◌+◌, ◌-◌, ◌<◌, ◌≤◌, List, ◌++◌, length, set, take, drop, sym, ap, ◌∙◌, arith, length-drop, length-take-le}
use Rattle.std.proofs.Math.Seq.{drop-set-add, take-append-add, take-set-lt}

-- as much of two pieces as the first has, and some more
front_more : (ys rest : List ℕ) (n m : ℕ) → n ≡ length ys + m → take n (ys ++ rest) ≡ ys ++ take m rest
front_more ys rest n m is = rw is (take-append-add ys rest m)

-- a text with digits written before it
pub digits_before : (old new digits : List ℕ) (from end : ℕ) → drop from new ≡ digits ++ drop end old → from + length digits ≡ end → end ≤ 48
    → take (48 - from) (drop from new) ≡ digits ++ take (48 - end) (drop end old)
digits_before old new digits from end written is within =
    rw written (front_more digits (drop end old) (48 - from) (48 - end) (omega arith))

-- a piece put after another, of which what is too much is cut off
pub put_and_cut : (old more cut bytes piece : List ℕ) (end n : ℕ) → more ≡ old ++ bytes → cut ≡ take end more → end ≡ length old + n
    → take n bytes ≡ piece → cut ≡ old ++ piece
put_and_cut old more cut bytes piece end n put is_cut is_end is =
    is_cut ∙ rw put (front_more old bytes end n is_end) ∙ ap (λ t. old ++ t) is

-- a byte of a text made another
set_within : (bytes text : List ℕ) (from at x : ℕ) → take (48 - from) (drop from bytes) ≡ text → at < 48 - from
    → take (48 - from) (drop from (set bytes (from + at) x)) ≡ set text at x
set_within bytes text from at x is within =
    ap (λ (t : List ℕ). take (48 - from) t) (drop-set-add from bytes at x)
    ∙ take-set-lt (48 - from) (drop from bytes) at x within
    ∙ ap (λ (t : List ℕ). set t at x) is

-- the third byte from its end, since a text ends at 48
pub third_last : (bytes text : List ℕ) (from x : ℕ) → take (48 - from) (drop from bytes) ≡ text → from ≤ 48 → length bytes ≡ 96 → 3 ≤ length text
    → take (48 - from) (drop from (set bytes 45 x)) ≡ set text (length text - 3) x
third_last bytes text from x is within room long =
    let fits : 48 - from ≤ length (drop from bytes) = simp length-drop (omega arith) in
    let whole : length text ≡ 48 - from = sym (ap length is) ∙ length-take-le (48 - from) (drop from bytes) fits in
    let at : 45 ≡ from + (length text - 3) = omega (arith, whole) in
    ap (λ (k : ℕ). take (48 - from) (drop from (set bytes k x))) at
    ∙ set_within bytes text from (length text - 3) x is (omega (arith, whole))
