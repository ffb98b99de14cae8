-- A cutter that gave a line: where it stands then, and what was read for it.
use Rattle.std.proofs.Common.{◌≡◌, ◌≤◌, ◌<◌, ℕ, ◌+◌, ◌-◌, List, [], length, drop, length-drop, Bool, false, IsTrue, ap, Option, None, Some, Result, Ok, Err, IfOk, IfSome, Bor}
use Rattle.std.proofs.Common.{sym, cond, subst, ◌∙◌, arith}
use Rattle.std.specs.Prelude.{OnOk}
use Rattle.cm_base.specs.Limited.{limit_number}
use Rattle.cm_base.specs.declared.limited.Limited.TheVariants as limit
use Rattle.cm_io.proofs.FileReads.{file_then, file_within}
use Rattle.cm_io.proofs.Coming.{gives_end}
use Rattle.cm_io.proofs.Cutting.{next_end}
use Rattle.cm_io.specs.Account.{Account, ReadsFile}
use Rattle.cm_io.specs.Cutter.{Cutting, GoesPast, IsAfter, IsCut, Moves, begun, ends, left_of, next_of, read_to}
use Rattle.cm_lines.specs.Cut.{ends_by}
use Rattle.cm_io.specs.Shelf.{Files, ReadsByBytes, bytes_at}
use Rattle.cm_io.specs.declared.cutter.CutError.{CutError}
use Rattle.cm_io.specs.declared.cutter.CutError.TheVariants.{Read}

-- what a cutter answers
abbrev Answer : Type 0
Answer = Result (Option (Bor (List ℕ))) CutError

pub line_goes : (held : Option Files) (old new : Cutting) (line : Bor (List ℕ)) (r : Answer) → r ≡ Ok (Some line) → Moves held old new r
    → GoesPast held old new line.now
line_goes held old new line r is moves = subst (λ (x : Answer). Moves held old new x) is moves

-- it is what comes next
pub line_cut : (held : Option Files) (old : Cutting) (line : Bor (List ℕ)) (r : Answer) → r ≡ Ok (Some line)
    → IfSome held (λ files. IsCut old (bytes_at files old.name) r) → IfSome held (λ files. next_of old (bytes_at files old.name) ≡ Ok (Some line.now))
line_cut held old line r is cut = subst (λ (x : Answer). IfSome held (λ files. IsCut old (bytes_at files old.name) x)) is cut

-- it is within its limit
pub line_is_short : (line : Bor (List ℕ)) (most : ℕ) (r : Answer) → most ≡ limit_number limit.Line → r ≡ Ok (Some line)
    → IfOk r (λ given. IfSome given (λ l. length l.now ≤ most)) → length line.now < 4294967296
line_is_short line most r limited is short =
    let low : length line.now ≤ most = subst (λ (x : Answer). IfOk x (λ given. IfSome given (λ l. length l.now ≤ most))) is short in
    omega (arith, low, limited)

-- What was read of the file until then is what was read before it, and for the line: what was taken is what it gave and
-- keeps, and each read gave a byte, but for the one that told the end.
pub line_file : (a b c : Account) (name : List ℕ) (old new : Cutting) (line : Bor (List ℕ)) (r : Answer) (most idle : ℕ)
    → old.name ≡ name → r ≡ Ok (Some line) → old.ended ≡ false → ReadsFile a b name (read_to old) (ends old) ⊥
    → IsAfter b c old new r → ReadsFile b c old.name most idle (r ≡ Err Read) → ReadsFile a c name (read_to new) (ends new) ⊥
line_file a b c name old new line r most idle named is open_ before after file =
    let none : ends old ≡ 0 = ap (λ (e : Bool). cond e 1 0) open_ in
    let given : c.taken old.name + read_to old ≤ b.taken old.name + read_to new
    = subst (λ (x : Answer). OnOk x (c.taken old.name + read_to old ≤ b.taken old.name + read_to new)) is after.takes in
    let gives = subst (λ (x : Answer). OnOk x (ReadsByBytes b.reads c.reads b.taken c.taken old.name (ends new))) is after.reads in
    let later = file.reads.later in
    let next : ReadsFile b c old.name (read_to new - read_to old) (ends new) ⊥ = record {
      held = file.held;
      counted = file.counted;
      faults = record {
        later = file.faults.later;
        fault = λ never. absurd never;
        others = λ _. file.faults.others (λ bad. let two = sym is ∙ bad in cc);
      };
      takes = record { here = omega (arith, given, later); others = file.takes.others };
      reads = gives;
      apart = file.apart;
      pieces = file.pieces;
    } in
    file_then a b c name (read_to old) (read_to new - read_to old) (read_to new) (ends old) (ends new) (ends new) (λ never. never) before
    (subst (λ (n : List ℕ). ReadsFile b c n (read_to new - read_to old) (ends new) ⊥) named next)
    (omega (arith, given, later)) (omega (arith, none)) (λ never. never) (λ never. never)

-- Where it has ended, it keeps nothing, and the file has nothing more.
abbrev pub EndsIn : Option Files → List ℕ → Cutting → Type 0
EndsIn held name c = IsTrue c.ended → (c.kept ≡ []) × IfSome held (λ files. length (bytes_at files name) ≤ read_to c)

pub begun_ends : (held : Option Files) (name n : List ℕ) (l m : ℕ) (c : Cutting) → c ≡ begun n l m → EndsIn held name c
begun_ends held name n l m c is = subst (λ (x : Cutting). EndsIn held name x) (sym is) (λ ended. absurd (cc))

pub line_ends : (held h : Option Files) (name : List ℕ) (old new : Cutting) (line : Bor (List ℕ)) (r : Answer) → r ≡ Ok (Some line) → h ≡ held → old.name ≡ name
    → OnOk r (IsTrue new.ended → new.kept ≡ [])
    → OnOk r (IsTrue new.ended → IfSome h (λ files. length (bytes_at files old.name) ≤ read_to new)) → EndsIn held name new
line_ends held h name old new line r is same named last whole ended = (
  subst (λ (x : Answer). OnOk x (IsTrue new.ended → new.kept ≡ [])) is last ended,
  subst (λ (x : Option Files). IfSome x (λ files. length (bytes_at files name) ≤ read_to new)) same
      (subst (λ (n : List ℕ). IfSome h (λ files. length (bytes_at files n) ≤ read_to new)) named
      (subst (λ (x : Answer). OnOk x (IsTrue new.ended → IfSome h (λ files. length (bytes_at files old.name) ≤ read_to new))) is whole ended)),
)

-- What was read of the file until then, and for an answer more.
pub file_on : {F : Type 0} (a b c : Account) (name : List ℕ) (old : Cutting) (r : Answer)
    → old.name ≡ name → old.whole ≡ limit_number limit.Log → old.ended ≡ false → read_to old ≤ old.whole + 1
    → ReadsFile a b name (read_to old) (ends old) ⊥
    → ReadsFile b c old.name (old.whole + 1 - read_to old) 1 (r ≡ Err Read) → (r ≡ Err Read → F) → (F → r ≡ Err Read)
    → ReadsFile a c name (limit_number limit.Log + 1) 1 F
file_on a b c name old r named whole open_ few before file to from =
    let none : ends old ≡ 0 = ap (λ (e : Bool). cond e 1 0) open_ in
    file_then a b c name (read_to old) (old.whole + 1 - read_to old) (limit_number limit.Log + 1) (ends old) 1 1 (λ never. never) before
    (subst (λ (n : List ℕ). ReadsFile b c n (old.whole + 1 - read_to old) 1 (r ≡ Err Read)) named file)
    (omega (arith, few, whole)) (omega (arith, none)) to from

-- the same where it has ended, and no more is read
pub file_ended : {F : Type 0} (held : Option Files) (a b : Account) (name : List ℕ) (c : Cutting)
    → c.whole ≡ limit_number limit.Log → c.place ≤ c.whole → EndsIn held name c → IsTrue c.ended
    → ReadsFile a b name (read_to c) (ends c) ⊥ → (F → ⊥) → ReadsFile a b name (limit_number limit.Log + 1) 1 F
file_ended held a b name c whole within ends_in ended file never =
    let none : length c.kept ≡ 0 = ap length (ends_in ended).0 in
    let one : ends c ≡ 1 = ap (λ (e : Bool). cond e 1 0) ended in
    file_within a b name (read_to c) (limit_number limit.Log + 1) (ends c) 1 file (omega (arith, none, within, whole))
    (omega (arith, one)) (λ is. absurd is) never

-- what it still gives where it has ended
pub ended_left : (held : Option Files) (c : Cutting) (name : List ℕ) → EndsIn held name c → IsTrue c.ended → IfSome held (λ files. left_of c (bytes_at files name) ≡ ends_by None)
ended_left None c name ends_in ended = tt
ended_left (Some files) c name ends_in ended =
    let none : length c.kept ≡ 0 = ap length (ends_in ended).0 in
    let most = (ends_in ended).1 in
    gives_end c (bytes_at files name) (next_end c.line c.whole c.place (drop c.place (bytes_at files name))
    (omega (arith, length-drop c.place (bytes_at files name), most, none)))
