-- What a cutter keeps in its buffer, from one place of it to another.
use Rattle.std.proofs.Common.{◌≡◌, ℕ, ◌+◌, ◌-◌, ◌≤◌, min, length, List, ◌++◌, take, drop, refl, ◌∙◌, sym, ap, ap₂, subst, arith, length-take, length-drop}
use Rattle.std.proofs.Common.{Bool, Option, None, Some, IfSome, Result, Ok, Err, OnErr}
use Rattle.std.proofs.Math.Seq.{take-add}
use Rattle.std.proofs.lemmas.List.{drop-take, take-take, drop-drop}
use Rattle.cm_lines.specs.Lines.{line_len}
use Rattle.cm_lines.proofs.Lengths.{len_within, len_from, len_take}
use Rattle.cm_io.specs.Cutter.{Cutting, FitsText, Fits, read_to}
use Rattle.cm_io.specs.CutterSteps.{KeepsMore}
use Rattle.cm_io.specs.Shelf.{Files, bytes_at}

-- the bytes of a buffer from one place to another
abbrev pub part : List ℕ → ℕ → ℕ → List ℕ
part xs a b = take (b - a) (drop a xs)

-- there are as many as lie between
pub part_len : (xs : List ℕ) (a b : ℕ) → b ≤ length xs → length (part xs a b) ≡ b - a
part_len xs a b within = omega (arith, length-take (b - a) (drop a xs), length-drop a xs)

-- they are the same in buffers of which the front is
pub same_part : (xs ys : List ℕ) (a b : ℕ) → a ≤ b → take b ys ≡ take b xs → part ys a b ≡ part xs a b
same_part xs ys a b ordered same =
    let sum : a + (b - a) ≡ b = omega arith in
    sym (drop-take a (b - a) ys) ∙ ap (λ n. drop a (take n ys)) sum ∙ ap (drop a) same ∙ sym (ap (λ n. drop a (take n xs)) sum) ∙ drop-take a (b - a) xs

-- bytes that come behind them
pub part_front : (xs ys : List ℕ) (a b n : ℕ) → a ≤ b → take b ys ≡ take b xs → take (b - a) (part ys a (b + n)) ≡ part xs a b
part_front xs ys a b n ordered same = take-take (b - a) (b + n - a) (drop a ys) (omega arith) ∙ same_part xs ys a b ordered same

-- a part, and bytes more
pub part_more : (xs ys : List ℕ) (a b n : ℕ) → a ≤ b → take b ys ≡ take b xs → part ys a (b + n) ≡ part xs a b ++ take n (drop b ys)
part_more xs ys a b n ordered same =
    let size : b + n - a ≡ (b - a) + n = omega arith in
    let back : drop (b - a) (drop a ys) ≡ drop b ys = drop-drop (b - a) a ys ∙ ap (λ k. drop k ys) (omega arith) in
    ap (λ k. take k (drop a ys)) size ∙ take-add (b - a) n (drop a ys)
    ∙ ap₂ (λ (l : List ℕ) (r : List ℕ). l ++ take n r) (same_part xs ys a b ordered same) back

-- they go on as the text does
pub part_reads : (xs ys text : List ℕ) (a b n place : ℕ) → a ≤ b → take b ys ≡ take b xs → part xs a b ≡ take (b - a) (drop place text)
    → take n (drop b ys) ≡ take n (drop (place + (b - a)) text) → part ys a (b + n) ≡ take (b + n - a) (drop place text)
part_reads xs ys text a b n place ordered same old got =
    let size : b + n - a ≡ (b - a) + n = omega arith in
    part_more xs ys a b n ordered same ∙ ap₂ (λ (l : List ℕ) (r : List ℕ). l ++ r) old got
    ∙ sym (ap (λ k. take k (drop place text)) size ∙ take-add (b - a) n (drop place text)
    ∙ ap (λ r. take (b - a) (drop place text) ++ take n r) (drop-drop (b - a) place text))

-- after bytes that are kept
pub part_after : (xs : List ℕ) (a b n : ℕ) → n ≤ b - a → drop n (part xs a b) ≡ part xs (a + n) b
part_after xs a b n within =
    let size : n + (b - (a + n)) ≡ b - a = omega arith in
    ap (λ k. drop n (take k (drop a xs))) (sym size) ∙ drop-take n (b - (a + n)) (drop a xs) ∙ ap (λ l. take (b - (a + n)) l) (drop-drop n a xs)

-- a cutter with such a buffer
abbrev pub cutting : (name : List ℕ) (line whole place : ℕ) (ended : Bool) (xs : List ℕ) (a b : ℕ) → Cutting
cutting name line whole place ended xs a b =
    record { name = name; line = line; whole = whole; place = place; kept = part xs a b; ended = ended }

-- its first line is no longer than what is kept
pub len_part : (xs : List ℕ) (a b len : ℕ) → b ≤ length xs → len ≡ line_len (part xs a b) → len ≤ b - a
len_part xs a b len within is = omega (arith, is, len_within (part xs a b), part_len xs a b within)

-- After a read of n bytes behind what is kept.
pub keeps_read : (old : Cutting) (name : List ℕ) (line whole place : ℕ) (e : Bool) (xs ys : List ℕ) (a b n : ℕ)
    → cutting name line whole place e xs a b ≡ old → a ≤ b → b ≤ length xs → b + n ≤ length ys → take b ys ≡ take b xs
    → place + (b + n - a) ≤ whole + 1 → KeepsMore old (cutting name line whole place e ys a (b + n)) n
keeps_read old name line whole place e xs ys a b n is ordered within room same few =
    let was : length (part xs a b) ≡ b - a = part_len xs a b within in
    let now : length (part ys a (b + n)) ≡ b + n - a = part_len ys a (b + n) room in
    subst (λ (o : Cutting). KeepsMore o (cutting name line whole place e ys a (b + n)) n) is (record {
      same = record { name = refl; line = refl; whole = refl };
      place = refl;
      front = ap (λ k. take k (part ys a (b + n))) was ∙ part_front xs ys a b n ordered same;
      len = omega (arith, was, now);
      few = omega (arith, now, few);
    })

pub fits_read : (held : Option Files) (old : Cutting) (name : List ℕ) (line whole place : ℕ) (e : Bool) (xs ys : List ℕ) (a b n : ℕ)
    → cutting name line whole place e xs a b ≡ old → a ≤ b → b ≤ length xs → b + n ≤ length ys → take b ys ≡ take b xs
    → Fits held old → IfSome held (λ files. take n (drop b ys) ≡ take n (drop (place + (b - a)) (bytes_at files name)))
    → Fits held (cutting name line whole place e ys a (b + n))
fits_read None old name line whole place e xs ys a b n is ordered within room same fits got = tt
fits_read (Some files) old name line whole place e xs ys a b n is ordered within room same fits got =
    let text = bytes_at files name in
    let before : FitsText (cutting name line whole place e xs a b) text =
    subst (λ (o : Cutting). FitsText o (bytes_at files o.name)) (sym is) fits in
    let was : length (part xs a b) ≡ b - a = part_len xs a b within in
    let now : length (part ys a (b + n)) ≡ b + n - a = part_len ys a (b + n) room in
    part_reads xs ys text a b n place ordered same (before ∙ ap (λ k. take k (drop place text)) was) got
    ∙ ap (λ k. take k (drop place text)) (sym now)

-- Where a read gave none, the text ends after what is kept.
pub none_more : (held : Option Files) (old : Cutting) (name : List ℕ) (line whole place : ℕ) (e : Bool) (xs : List ℕ) (a b n : ℕ)
    → cutting name line whole place e xs a b ≡ old → b ≤ length xs
    → IfSome held (λ files. n ≡ 0 → length (bytes_at files name) ≤ place + (b - a))
    → n ≡ 0 → IfSome held (λ files. length (bytes_at files old.name) ≤ read_to old)
none_more None old name line whole place e xs a b n is within end none = tt
none_more (Some files) old name line whole place e xs a b n is within end none =
    subst (λ (o : Cutting). length (bytes_at files o.name) ≤ read_to o) is
    (let most = end none in omega (arith, most, part_len xs a b within))

-- So it is told.
pub told_more : (Told : List ℕ → ℕ → Type 0) (old : Cutting) (name : List ℕ) (line whole place : ℕ) (e : Bool) (xs : List ℕ) (a b n : ℕ)
    → cutting name line whole place e xs a b ≡ old → b ≤ length xs → (n ≡ 0 → Told name (place + (b - a)))
    → n ≡ 0 → Told old.name (read_to old)
told_more Told old name line whole place e xs a b n is within end =
    subst (λ (o : Cutting). n ≡ 0 → Told o.name (read_to o)) is
    (λ none. subst (λ (k : ℕ). Told name (place + k)) (sym (part_len xs a b within)) (end none))

-- the first line goes on where it had no LF
pub len_read : (xs ys : List ℕ) (a b n : ℕ) → a ≤ b → take b ys ≡ take b xs → b ≤ length xs
    → length (part xs a b) ≤ line_len (part xs a b) → b - a + line_len (take n (drop b ys)) ≡ line_len (part ys a (b + n))
len_read xs ys a b n ordered same within no_lf =
    let was : length (part xs a b) ≡ b - a = part_len xs a b within in
    let all : line_len (part xs a b) ≡ b - a = omega (arith, was, no_lf, len_within (part xs a b)) in
    let front : take (b - a) (part ys a (b + n)) ≡ part xs a b = part_front xs ys a b n ordered same in
    let len_front : line_len (take (b - a) (part ys a (b + n))) ≡ b - a = ap line_len front ∙ all in
    let below : b - a ≤ line_len (part ys a (b + n)) = omega (arith, sym len_front ∙ len_take (part ys a (b + n)) (b - a)) in
    let rest : drop (b - a) (part ys a (b + n)) ≡ take n (drop b ys) =
    part_after ys a (b + n) (b - a) (omega (arith, ordered))
    ∙ ap₂ (λ (k : ℕ) (l : List ℕ). take k l) (omega (arith, ordered)) (ap (λ k. drop k ys) (omega (arith, ordered))) in
    sym (len_from (part ys a (b + n)) (b - a) below ∙ ap (λ l. b - a + line_len l) rest)

-- it is the same where the front of the buffer is
pub len_same : (xs ys : List ℕ) (a b len : ℕ) → len ≡ line_len (part xs a b) → a ≤ b → take b ys ≡ take b xs → len ≡ line_len (part ys a b)
len_same xs ys a b len is ordered same = is ∙ ap line_len (sym (same_part xs ys a b ordered same))

-- and no longer than what is kept of it
pub len_kept : (xs : List ℕ) (a b len k : ℕ) → len ≡ line_len (part xs a b) → k ≤ b - a → min len k ≡ line_len (part xs a (a + k))
len_kept xs a b len k is within =
    let front : take k (part xs a b) ≡ part xs a (a + k) =
    take-take k (b - a) (drop a xs) within ∙ ap (λ n. take n (drop a xs)) (omega arith) in
    omega (arith, is, len_take (part xs a b) k, ap line_len front)

-- Where the front of the buffer is the same.
pub same_cutting : (old : Cutting) (name : List ℕ) (line whole place : ℕ) (ended : Bool) (xs ys : List ℕ) (a b : ℕ)
    → cutting name line whole place ended xs a b ≡ old → a ≤ b → take b ys ≡ take b xs → cutting name line whole place ended ys a b ≡ old
same_cutting old name line whole place ended xs ys a b is ordered same =
    ap (λ (kept : List ℕ). let c : Cutting = record { name = name; line = line; whole = whole; place = place; kept = kept; ended = ended } in c)
    (same_part xs ys a b ordered same) ∙ is

pub same_fits : (held : Option Files) (old new : Cutting) → new ≡ old → Fits held old → Fits held new
same_fits held old new same fits = subst (λ (c : Cutting). Fits held c) (sym same) fits

-- what holds holds at an error
pub on_err : {T E : Type 0} → (r : Result T E) (P : Type 0) → P → OnErr r P
on_err (Ok x) P holds = tt
on_err (Err e) P holds = holds
