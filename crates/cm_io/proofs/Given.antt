-- A cutter after the line that it gave.
use Rattle.std.proofs.Common.{◌≡◌, ℕ, ◌+◌, ◌-◌, ◌≤◌, length, List, take, drop, ◌∙◌, sym, ap, ap₂, subst, arith}
use Rattle.std.proofs.Common.{Bool, IsTrue, Option, None, Some, IfSome, Result, Ok, Err, Bor}
use Rattle.std.proofs.lemmas.List.{drop-take, take-take, drop-drop}
use Rattle.cm_lines.specs.Lines.{line_size}
use Rattle.cm_lines.specs.declared.limits.Past.TheVariants.{Line, Whole}
use Rattle.cm_io.specs.Cutter.{Cutting, Fits, Gives, IsAfter, IsCut, Moves, SameFile, next_of, read_to, ends}
use Rattle.cm_io.specs.CutterSteps.{KeepsMore, FindsLine, IsFound, Stays, Tells}
use Rattle.cm_io.specs.Account.{Account, ReadsFile}
use Rattle.cm_io.specs.Shelf.{Files, bytes_at}
use Rattle.cm_io.specs.declared.cutter.CutError.{CutError}
use Rattle.cm_io.specs.declared.cutter.CutError.TheVariants.{TooLong, TooMuch}
use Rattle.cm_io.specs.declared.cutter.Found.{Found}
use Rattle.cm_io.proofs.Coming.{gives_line, gives_limit}
use Rattle.cm_io.proofs.Cutting.{no_bytes}
use Rattle.cm_io.proofs.Kept.{part, part_len, part_after, cutting}

-- what fits fits past some bytes of it
fits_after : (held : Option Files) (name : List ℕ) (line whole place : ℕ) (ended : Bool) (xs : List ℕ) (a b n : ℕ)
    → n ≤ b - a → b ≤ length xs
    → Fits held (cutting name line whole place ended xs a b) → Fits held (cutting name line whole (place + n) ended xs (a + n) b)
fits_after None name line whole place ended xs a b n within room fits = tt
fits_after (Some files) name line whole place ended xs a b n within room fits =
    let text = bytes_at files name in
    let size : length (part xs a b) ≡ b - a = part_len xs a b room in
    let less : length (part xs (a + n) b) ≡ b - (a + n) = part_len xs (a + n) b room in
    let sum : b - a ≡ n + (b - (a + n)) = omega arith in
    sym (part_after xs a b n within)
    ∙ ap (λ l. drop n l) (fits ∙ ap (λ k. take k (drop place text)) (size ∙ sum))
    ∙ drop-take n (b - (a + n)) (drop place text)
    ∙ ap₂ (λ (k : ℕ) (l : List ℕ). take k l) (sym less) (drop-drop n place text)

-- A line of so many bytes was given, and its size is passed.
pub given_after : {F : Type 0} → (account account' : Account) (old mid : Cutting) (name : List ℕ)
    (line whole place : ℕ) (ended : Bool) (xs : List ℕ) (a b more : ℕ) (f : Found) (l : Bor (List ℕ)) → cutting name line whole place ended xs a b ≡ mid → b ≤ length xs
    → length l.now ≤ f.len
    → KeepsMore old mid more → FindsLine old mid f → Fits account.held mid → Tells mid (Some f)
    → (IsTrue mid.ended → IfSome account.held (λ files. length (bytes_at files old.name) ≤ read_to mid))
    → IfSome account.held (λ files. f.size ≡ line_size (drop old.place (bytes_at files old.name)))
    → IfSome account.held (λ files. next_of old (bytes_at files old.name) ≡ Ok (Some l.now))
    → ReadsFile account account' old.name (length mid.kept - length old.kept) (ends mid) F
    → IsAfter account account' old (cutting name line whole (place + f.size) ended xs (a + f.size) b) (Ok (Some l))
given_after {F} account account' old mid name line whole place ended xs a b more f l is room few =
    let held = account.held in
    subst (λ (m : Cutting). KeepsMore old m more → FindsLine old m f → Fits held m → Tells m (Some f)
    → (IsTrue m.ended → IfSome held (λ files. length (bytes_at files old.name) ≤ read_to m))
    → IfSome held (λ files. f.size ≡ line_size (drop old.place (bytes_at files old.name)))
    → IfSome held (λ files. next_of old (bytes_at files old.name) ≡ Ok (Some l.now))
    → ReadsFile account account' old.name (length m.kept - length old.kept) (ends m) F
    → IsAfter account account' old (cutting name line whole (place + f.size) ended xs (a + f.size) b) (Ok (Some l))) is
    (λ keeps finds fits tells end size next file.
    let before : length (part xs a b) ≡ b - a = part_len xs a b room in
    let now : length (part xs (a + f.size) b) ≡ b - (a + f.size) = part_len xs (a + f.size) b room in
    record {
      same = record { name = keeps.same.name; line = keeps.same.line; whole = keeps.same.whole };
      fits = fits_after held name line whole place ended xs a b f.size (omega (arith, finds.kept, before)) room fits;
      moves = record {
        on = omega (arith, finds.some, keeps.place);
        within = omega (arith, finds.within, keeps.place);
        place = moved held (λ files. f.size ≡ line_size (drop old.place (bytes_at files old.name))) _
            (λ files e. omega (arith, keeps.place, e)) size;
        lf = λ open_. let more_is = tells.1 open_ in omega (arith, few, more_is, keeps.place);
      };
      gives = both held (λ files. f.size ≡ line_size (drop old.place (bytes_at files old.name)))
          (λ files. next_of old (bytes_at files old.name) ≡ Ok (Some l.now)) _
          (λ files s n. gives_line old (cutting name line whole (place + f.size) ended xs (a + f.size) b) (bytes_at files old.name) l.now
          keeps.same.line keeps.same.whole (omega (arith, keeps.place, s)) n) size next;
      takes = omega (arith, file.takes.here, keeps.len, keeps.place, finds.kept, before, now);
      reads = file.reads;
      last = λ is_end. no_bytes (part xs (a + f.size) b) (let all = tells.0 is_end in omega (arith, now, before, all));
      whole = λ is_end. moved held (λ files. length (bytes_at files old.name) ≤ place + length (part xs a b)) _
          (λ files all. omega (arith, all, before, now, finds.kept)) (end is_end);
    })
  where
    moved : (held' : Option Files) (P Q : Files → Type 0) → ((files : Files) → P files → Q files) → IfSome held' P → IfSome held' Q
    moved None P Q goes holds = tt
    moved (Some files) P Q goes holds = goes files holds

    both : (held' : Option Files) (P P' Q : Files → Type 0) → ((files : Files) → P files → P' files → Q files)
        → IfSome held' P → IfSome held' P' → IfSome held' Q
    both None P P' Q goes holds holds' = tt
    both (Some files) P P' Q goes holds holds' = goes files holds holds'

-- The line that was given is what was found.
pub is_given : (held : Option Files) (old mid : Cutting) (name : List ℕ) (line whole place : ℕ) (ended : Bool) (xs ys : List ℕ) (a b : ℕ)
    (f : Found) (given : List ℕ) → cutting name line whole place ended xs a b ≡ mid → b ≤ length xs → FindsLine old mid f
    → ys ≡ xs → given ≡ take (a + f.len - a) (drop a ys)
    → IfSome held (λ files. (next_of old (bytes_at files old.name) ≡ Ok (Some (take f.len mid.kept)))
    × (f.size ≡ line_size (drop old.place (bytes_at files old.name))))
    → IfSome held (λ files. next_of old (bytes_at files old.name) ≡ Ok (Some given))
is_given None old mid name line whole place ended xs ys a b f given is room finds same now found = tt
is_given (Some files) old mid name line whole place ended xs ys a b f given is room finds same now found =
    let kept : part xs a b ≡ mid.kept = ap (λ (c : Cutting). c.kept) is in
    let size : length (part xs a b) ≡ b - a = part_len xs a b room in
    let len : f.len ≤ b - a = omega (arith, finds.len, finds.kept, ap length kept, size) in
    let line_is : take f.len mid.kept ≡ given =
    ap (λ k. take f.len k) (sym kept) ∙ take-take f.len (b - a) (drop a xs) len
    ∙ ap₂ (λ (n : ℕ) (zs : List ℕ). take n (drop a zs)) (omega arith) (sym same) ∙ sym now in
    found.0 ∙ ap (λ k. Ok (Some k)) line_is

pub size_found : (held : Option Files) (P Q : Files → Type 0) → IfSome held (λ files. P files × Q files) → IfSome held Q
size_found None P Q holds = tt
size_found (Some files) P Q holds = holds.1

-- It gave an error.
after_error : (a a' : Account) (old new : Cutting) (e : CutError) → Stays old new (Err e) → Fits a.held new
    → IfSome a.held (λ files. IsFound old new (bytes_at files old.name) (Err e)) → IsAfter a a' old new (Err e)
after_error a a' old new e stays fits found = record {
  same = same_file e stays;
  fits = fits;
  moves = moves e stays;
  gives = gives a.held e found;
  takes = tt;
  reads = tt;
  last = tt;
  whole = tt;
}
  where
    same_file : (e' : CutError) → Stays old new (Err e') → SameFile old new
    same_file TooLong is = is.0
    same_file TooMuch is = is.0
    same_file _ is = record { name = ap (λ (c : Cutting). c.name) is; line = ap (λ (c : Cutting). c.line) is; whole = ap (λ (c : Cutting). c.whole) is }

    moves : (e' : CutError) → Stays old new (Err e') → Moves a.held old new (Err e')
    moves TooLong is = is.1
    moves TooMuch is = is.1
    moves _ is = is

    gives : (held' : Option Files) (e' : CutError) → IfSome held' (λ files. IsFound old new (bytes_at files old.name) (Err e'))
        → IfSome held' (λ files. Gives old new (bytes_at files old.name) (Err e'))
    gives (Some files) TooLong is = gives_limit old (bytes_at files old.name) Line is
    gives (Some files) TooMuch is = gives_limit old (bytes_at files old.name) Whole is
    gives _ _ is = tt

pub error_after : (a a' : Account) (old mid new : Cutting) (e : CutError) → new ≡ mid → Stays old mid (Err e)
    → Fits a.held mid → IfSome a.held (λ files. IsFound old mid (bytes_at files old.name) (Err e)) → IsAfter a a' old new (Err e)
error_after a a' old mid new e is stays fits found =
    subst (λ (c : Cutting). IsAfter a a' old c (Err e)) (sym is) (after_error a a' old mid e stays fits found)

pub error_is : (held : Option Files) (old mid : Cutting) (e : CutError) (r : Result (Option (Bor (List ℕ))) CutError) → r ≡ Err e
    → IfSome held (λ files. IsFound old mid (bytes_at files old.name) (Err e)) → IfSome held (λ files. IsCut old (bytes_at files old.name) r)
error_is None old mid e r same found = tt
error_is (Some files) old mid e r same found =
    subst (λ (x : Result (Option (Bor (List ℕ))) CutError). IsCut old (bytes_at files old.name) x) (sym same) (by_error e found)
  where
    by_error : (e' : CutError) → IsFound old mid (bytes_at files old.name) (Err e') → IsCut old (bytes_at files old.name) (Err e')
    by_error TooLong is = is
    by_error TooMuch is = is
    by_error _ is = tt
