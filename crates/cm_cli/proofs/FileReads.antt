-- How often files are read, what is taken of them, and which counts of faults rise: of one file, and of some after
-- others.
use Rattle.std.proofs.Common.{◌≡◌, ◌≢◌, ◌<◌, ◌≤◌, ◌+◌, ◌∙◌, ℕ, Bool, List, [], ◌∷◌, ◌++◌, true, false, not}
use Rattle.std.proofs.Common.{arith, bytes_eq, inl, inr, refl, subst, sym, ap}
use Rattle.std.proofs.lemmas.Bool.{cases_Bool}
use Rattle.std.proofs.lemmas.Slice.Eq.{bytes_eq-Decides}
use Rattle.cm_base.specs.declared.limited.Limited.{Limited}
use Rattle.cm_cli.specs.Files.{AnyRose, ApartFor, FilesFaults, IsFileOf, ReadsFiles, ReadsFor, TakesFor}
use Rattle.cm_cli.specs.Files.{for_files, one_past, under}
use Rattle.cm_io.proofs.ReadCounts.{each_then, pieces_none}
use Rattle.cm_io.specs.Account.{Account, ReadsFile}
use Rattle.cm_io.specs.Shelf.{CountsApart, EachGives, FileFaults, ReadsByBytes, Rose, TakesAtMost}

-- ---- some files and then others
count_both : (one more : List (List ℕ × Limited)) (many : Limited → ℕ) (n : List ℕ)
    → for_files (one ++ more) many n ≡ for_files one many n + for_files more many n
count_both [] more many n = omega arith
count_both (file ∷ one) more many n =
    let rest : for_files (one ++ more) many n ≡ for_files one many n + for_files more many n = count_both one more many
    n in
    omega (arith, rest)

in_first : (one more : List (List ℕ × Limited)) (n : List ℕ) → IsFileOf one n → IsFileOf (one ++ more) n
in_first [] more n is = absurd is
in_first (file ∷ one) more n (inl same) = inl same
in_first (file ∷ one) more n (inr is) = inr (in_first one more n is)

in_later : (one more : List (List ℕ × Limited)) (n : List ℕ) → IsFileOf more n → IsFileOf (one ++ more) n
in_later [] more n is = is
in_later (file ∷ one) more n is = inr (in_later one more n is)

-- ---- what is taken
pub takes_none : (taken : List ℕ → ℕ) → TakesFor [] taken taken
takes_none taken n = omega arith

pub takes_one : (taken taken' : List ℕ → ℕ) (name : List ℕ) (l : Limited) → TakesAtMost taken taken' name (one_past l)
    → TakesFor ((name, l) ∷ []) taken taken'
takes_one taken taken' name l takes n = elim (cases_Bool (bytes_eq n name)) [
  | inl is ↦
      let same : n ≡ name = (bytes_eq-Decides n name).0 is in
      let here = takes.here in
      rw is (rw same (omega (arith, here)))
  | inr isnt ↦
      let other : n ≢ name = λ e. let is = (bytes_eq-Decides n name).1 e in let never : true ≡ false = sym is ∙ isnt in
      cc in
      let still = takes.others n other in
      rw isnt (omega (arith, still))
]

pub takes_then : (one more : List (List ℕ × Limited)) (taken taken' taken'' : List ℕ → ℕ) → TakesFor one taken taken'
    → TakesFor more taken' taken'' → TakesFor (one ++ more) taken taken''
takes_then one more taken taken' taken'' first second n =
    let a = first n in
    let b = second n in
    let both = count_both one more one_past n in
    omega (arith, a, b, both)

-- ---- how often they are read
pub reads_none : (reads taken : List ℕ → ℕ) → ReadsFor [] reads reads taken taken
reads_none reads taken = record { later = λ n. omega arith; others = λ n isnt. refl; each = λ n. inl (omega arith) }

-- the reads of any name, where one was read
record OneRead (reads reads' taken taken' idle : ℕ) : Type 0 where
  later : taken ≤ taken'
  each : EachGives reads reads' taken taken' idle

one_read : (reads reads' taken taken' : List ℕ → ℕ) (name : List ℕ) (most : ℕ)
    → ReadsByBytes reads reads' taken taken' name 1
    → TakesAtMost taken taken' name most → (n : List ℕ)
    → OneRead (reads n) (reads' n) (taken n) (taken' n) (under name 1 n + 0)
one_read reads reads' taken taken' name most gives takes n = elim (cases_Bool (bytes_eq n name)) [
  | inl is ↦
      let same : n ≡ name = (bytes_eq-Decides n name).0 is in
      subst (λ (m : List ℕ). OneRead (reads m) (reads' m) (taken m) (taken' m) (under name 1 n + 0)) (sym same)
      (rw is (record { later = gives.later; each = gives.here }))
  | inr isnt ↦
      let other : n ≢ name = λ e. let is = (bytes_eq-Decides n name).1 e in let never : true ≡ false = sym is ∙ isnt in
      cc in
      let reads_same = gives.others n other in
      let taken_same = takes.others n other in
      rw isnt (record { later = omega (arith, taken_same); each = inl (omega (arith, reads_same, taken_same)) })
]

pub reads_one : (reads reads' taken taken' : List ℕ → ℕ) (name : List ℕ) (l : Limited) (most : ℕ)
    → ReadsByBytes reads reads' taken taken' name 1 → TakesAtMost taken taken' name most
    → ReadsFor ((name, l) ∷ []) reads reads' taken taken'
reads_one reads reads' taken taken' name l most gives takes = record {
  later = λ n. (one_read reads reads' taken taken' name most gives takes n).later;
  others = λ n isnt. gives.others n (λ same. isnt (inl same));
  each = λ n. (one_read reads reads' taken taken' name most gives takes n).each;
}

pub reads_then : (one more : List (List ℕ × Limited)) (reads reads' reads'' taken taken' taken'' : List ℕ → ℕ)
    → ReadsFor one reads reads' taken taken' → ReadsFor more reads' reads'' taken' taken''
    → ReadsFor (one ++ more) reads reads'' taken taken''
reads_then one more reads reads' reads'' taken taken' taken'' first second = record {
  later = λ n. let a = first.later n in let b = second.later n in omega (arith, a, b);
  others = λ n isnt.
      second.others n (λ is. isnt (in_later one more n is)) ∙ first.others n (λ is. isnt (in_first one more n is));
  each = λ n.
      subst (EachGives (reads n) (reads'' n) (taken n) (taken'' n)) (sym (count_both one more (λ l. 1) n))
      (each_then (reads n) (reads' n) (reads'' n) (taken n) (taken' n) (taken'' n) (for_files one (λ l. 1) n)
      (for_files more (λ l. 1) n)
      (second.later n) (first.each n) (second.each n));
}

-- files that aren't read
pub reads_more : (one more : List (List ℕ × Limited)) (reads reads' taken taken' : List ℕ → ℕ)
    → ReadsFor one reads reads' taken taken'
    → ReadsFor (one ++ more) reads reads' taken taken'
reads_more one more reads reads' taken taken' first = record {
  later = first.later;
  others = λ n isnt. first.others n (λ is. isnt (in_first one more n is));
  each = λ n.
      let both = count_both one more (λ l. 1) n in
      elim (first.each n) [
        | inl gives ↦ inl (omega (arith, gives, both))
        | inr last ↦ inr last
      ];
}

pub takes_more : (one more : List (List ℕ × Limited)) (taken taken' : List ℕ → ℕ) → TakesFor one taken taken'
    → TakesFor (one ++ more) taken taken'
takes_more one more taken taken' first n = let a = first n in let both = count_both one more one_past n in
    omega (arith, a, both)

-- ---- faults
pub rose_first : (one more : List (List ℕ × Limited)) (before now : List ℕ → ℕ) → AnyRose one before now
    → AnyRose (one ++ more) before now
rose_first [] more before now rose = absurd rose
rose_first (file ∷ one) more before now (inl rose) = inl rose
rose_first (file ∷ one) more before now (inr rose) = inr (rose_first one more before now rose)

-- a count that rose after one that stayed
pub rose_since : (before mid now : List ℕ → ℕ) (n : List ℕ) → mid n ≡ before n → Rose (mid n) (now n)
    → Rose (before n) (now n)
rose_since before mid now n same (inl less) = inl (omega (arith, same, less))
rose_since before mid now n same (inr last) = inr last

pub rose_later : (one more : List (List ℕ × Limited)) (before mid now : List ℕ → ℕ) → ((n : List ℕ) → mid n ≡ before n)
    → AnyRose more mid now → AnyRose (one ++ more) before now
rose_later [] [] before mid now same rose = absurd rose
rose_later [] (file ∷ more) before mid now same (inl rose) = inl (rose_since before mid now file.0 (same file.0) rose)
rose_later [] (file ∷ more) before mid now same (inr rose) = inr (rose_later [] more before mid now same rose)
rose_later (file ∷ one) more before mid now same rose = inr (rose_later one more before mid now same rose)

-- one file
pub faults_one : (before now : List ℕ → ℕ) (name : List ℕ) (l : Limited) (failed : Type 0)
    → FileFaults before now name failed → FilesFaults before now ((name, l) ∷ []) failed
faults_one before now name l failed faults = record {
  later = faults.later;
  fault = λ is. inl (faults.fault is);
  others = faults.others;
}

-- some files, and others after them that weren't read
pub faults_more : (one more : List (List ℕ × Limited)) (before now : List ℕ → ℕ) (failed : Type 0)
    → FilesFaults before now one failed → FilesFaults before now (one ++ more) failed
faults_more one more before now failed faults = record {
  later = faults.later;
  fault = λ is. rose_first one more before now (faults.fault is);
  others = faults.others;
}

-- some files without a fault, and then others
pub faults_then : (one more : List (List ℕ × Limited)) (before mid now : List ℕ → ℕ) (failed : Type 0)
    → ((n : List ℕ) → mid n ≡ before n) → FilesFaults mid now more failed → FilesFaults before now (one ++ more) failed
faults_then one more before mid now failed same second = record {
  later = λ n. let a = second.later n in let b = same n in omega (arith, a, b);
  fault = λ is. rose_later one more before mid now same (second.fault is);
  others = λ none n. second.others none n ∙ same n;
}

-- what failed, told another way
pub faults_as : (files : List (List ℕ × Limited)) (before now : List ℕ → ℕ) (one other : Type 0) → (one → other)
    → (other → one)
    → FilesFaults before now files one → FilesFaults before now files other
faults_as files before now one other to back faults = record {
  later = faults.later;
  fault = λ is. faults.fault (back is);
  others = λ none n. faults.others (λ is. none (to is)) n;
}

-- A file whose reads are apart, after others that raised no count: where the count of another name rose, it wasn't
-- read.
pub unread_apart : (counted : List ℕ → Bool) (faults faults' reads reads' : List ℕ → ℕ) (name other : List ℕ)
    → CountsApart counted faults faults' reads reads' name → other ≢ name → faults other < faults' other
    → reads' name ≡ reads name
unread_apart counted faults faults' reads reads' name other apart not_it rose =
    elim (cases_Bool (counted name)) [
      | inl is ↦ let same = apart.faults_stay is other not_it in absurd (omega (arith, same, rose))
      | inr isnt ↦ apart.reads_stay (ap not isnt)
    ]

-- files of which none was read
pub takes_still : (files : List (List ℕ × Limited)) (taken : List ℕ → ℕ) → TakesFor files taken taken
takes_still files taken = takes_more [] files taken taken (takes_none taken)

pub reads_still : (files : List (List ℕ × Limited)) (reads taken : List ℕ → ℕ) → ReadsFor files reads reads taken taken
reads_still files reads taken = reads_more [] files reads reads taken taken (reads_none reads taken)

pub faults_still : {failed : Type 0} (files : List (List ℕ × Limited)) (before : List ℕ → ℕ) → (failed → ⊥)
    → FilesFaults before before files failed
faults_still files before never = record {
  later = λ n. omega arith;
  fault = λ is. absurd (never is);
  others = λ none n. refl;
}

pub apart_still : (file : List ℕ × Limited) (counted : List ℕ → Bool) (faults reads : List ℕ → ℕ)
    → ApartFor (file ∷ []) counted faults faults reads reads
apart_still file counted faults reads = record { faults_stay = λ _ n other. refl; reads_stay = λ _. refl }

-- ---- accounts
-- one file
pub files_one : (a b : Account) (name : List ℕ) (l : Limited) (failed : Type 0) → ReadsFile a b name (one_past l) 1 failed
    → ReadsFiles a b ((name, l) ∷ []) failed
files_one a b name l failed file = record {
  held = file.held;
  faults = faults_one a.faults b.faults name l failed file.faults;
  takes = takes_one a.taken b.taken name l file.takes;
  reads = reads_one a.reads b.reads a.taken b.taken name l (one_past l) file.reads file.takes;
  apart = file.apart;
  pieces = file.pieces;
}

-- what failed, told another way
pub files_as : (files : List (List ℕ × Limited)) (a b : Account) (one other : Type 0) → (one → other) → (other → one)
    → ReadsFiles a b files one → ReadsFiles a b files other
files_as files a b one other to back reads = record {
  held = reads.held;
  faults = faults_as files a.faults b.faults one other to back reads.faults;
  takes = reads.takes;
  reads = reads.reads;
  apart = reads.apart;
  pieces = reads.pieces;
}

-- the file of a claim, by another name of its limit, and what failed told another way
pub claim_file : (a b : Account) (name : List ℕ) (l k : Limited) (one other : Type 0) → l ≡ k
    → ReadsFile a b name (one_past l) 1 one → (one → other) → (other → one) → ReadsFiles a b ((name, k) ∷ []) other
claim_file a b name l k one other same file to back =
    files_as ((name, k) ∷ []) a b one other to back
    (files_one a b name k one (subst (λ (m : Limited). ReadsFile a b name (one_past m) 1 one) same file))

-- none of one file, or of no file, was read
pub none_of : (files : List (List ℕ × Limited)) (a : Account) (failed : Type 0) → (failed → ⊥)
    → ApartFor files a.counted a.faults a.faults a.reads a.reads → ReadsFiles a a files failed
none_of files a failed never apart = record {
  held = refl;
  faults = faults_still files a.faults never;
  takes = takes_still files a.taken;
  reads = reads_still files a.reads a.taken;
  apart = apart;
  pieces = pieces_none a.widest;
}
