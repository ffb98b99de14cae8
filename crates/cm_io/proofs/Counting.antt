-- What is counted under names, row by row.
use Rattle.std.proofs.Common.{◌≡◌, ◌≢◌, ◌+◌, ◌-◌, ◌^◌, ◌<◌, ◌≤◌, ℕ, min, List, [], ◌∷◌, ◌++◌, length, get_or, set, map, zero, suc}
use Rattle.std.proofs.Common.{Bool, true, false, IsTrue, cond, String, string_bytes, Result, Ok, Err, OnOk}
use Rattle.std.proofs.Common.{refl, ap, sym, ◌∙◌, subst, inl, inr, arith, add-one}
use Rattle.std.specs.Str.{bytes_eq}
use Rattle.std.specs.declared.alloc.Global.{Global}
use Rattle.std.proofs.lemmas.Bool.{cases_Bool, cases_lt}
use Rattle.std.proofs.lemmas.List.{length-map, map_push}
use Rattle.std.proofs.lemmas.Slice.Eq.{bytes_eq-Decides}
use Rattle.cm_io.specs.Names.{place_of, is_among}
use Rattle.cm_io.specs.Counts.{name_of, count_of, with_more, with_read, NoneFalls, names_of, counts_name, CountsRead, NotesName, StartsCounts}
use Rattle.cm_io.specs.Counts.{faults_of, reads_of, taken_of}
use Rattle.cm_io.specs.Shelf.{CountsOn, ReadFaults, Rose, reads_made, bytes_given}
use Rattle.cm_io.specs.declared.counts.Count.{Count}
use Rattle.cm_io.specs.declared.counts.Counts.{Counts}
use Rattle.cm_io.specs.declared.outside.Outside.{Outside}
use Rattle.cm_io.specs.declared.outside.Outside.TheVariants.{Failed, NoMemory}
use Rattle.cm_io.proofs.Places.{never_not, same_name, other_name, among_below, among_past, among_noted}

-- a name under which nothing is counted yet
abbrev pub fresh : String Global → Count
fresh name = record { name = name; faults = 0; reads = 0; taken = 0 }

-- the faults of a row
abbrev faults : Count → ℕ
faults row = row.faults

-- such rows have the names from which they were made
pub names-fresh : (names : List (String Global)) → map name_of (map fresh names) ≡ map string_bytes names
names-fresh [] = refl
names-fresh (name ∷ names) = ap (λ rest. string_bytes name ∷ rest) (names-fresh names)

-- and each count that is 0 in them is 0
pub none_in_fresh : (f : Count → ℕ) (names : List (String Global)) (n : List ℕ) → ((name : String Global) → f (fresh name) ≡ 0)
    → count_of f (map fresh names) n ≡ 0
none_in_fresh f [] n none = refl
none_in_fresh f (name ∷ names) n none = elim (cases_Bool (bytes_eq (string_bytes name) n)) [
  | inl is ↦ rw is (none name)
  | inr isnt ↦ rw isnt (none_in_fresh f names n none)
]

-- the count of a name is that of the row at its place
pub count_at : (f : Count → ℕ) (rows : List Count) (name : List ℕ) (d : Count) → place_of (map name_of rows) name < length rows
    → count_of f rows name ≡ f (get_or rows (place_of (map name_of rows) name) d)
count_at f [] name d below = absurd (omega arith)
count_at f (row ∷ rows) name d below = elim (cases_Bool (bytes_eq (name_of row) name)) [
  | inl is ↦ rw is
  | inr isnt ↦
      let below_rest = rw isnt at below in
      rw (isnt, add-one) (count_at f rows name d (omega arith))
]

-- a name without a place has no count
pub count_past : (f : Count → ℕ) (rows : List Count) (name : List ℕ) → length rows ≤ place_of (map name_of rows) name
    → count_of f rows name ≡ 0
count_past f [] name past = refl
count_past f (row ∷ rows) name past = elim (cases_Bool (bytes_eq (name_of row) name)) [
  | inl is ↦ absurd (let none = rw is at past in omega arith)
  | inr isnt ↦
      let past_rest = rw isnt at past in
      rw isnt (count_past f rows name (omega arith))
]

-- a row with the same name in the place of one leaves the names
pub names-set : (rows : List Count) (i : ℕ) (new d : Count) → i < length rows → name_of new ≡ name_of (get_or rows i d)
    → map name_of (set rows i new) ≡ map name_of rows
names-set [] i new d below same = refl
names-set (row ∷ rows) zero new d below same = ap (λ first. first ∷ map name_of rows) same
names-set (row ∷ rows) (suc i) new d below same = ap (λ rest. name_of row ∷ rest) (names-set rows i new d (omega arith) same)

-- what is counted under the name of the row that comes in
pub count_set : (f : Count → ℕ) (rows : List Count) (name : List ℕ) (new : Count) → place_of (map name_of rows) name < length rows
    → name_of new ≡ name → count_of f (set rows (place_of (map name_of rows) name) new) name ≡ f new
count_set f [] name new below same = absurd (omega arith)
count_set f (row ∷ rows) name new below same = elim (cases_Bool (bytes_eq (name_of row) name)) [
  | inl is ↦ rw (is, same_name (name_of new) name same)
  | inr isnt ↦
      let below_rest = rw isnt at below in
      rw (isnt, add-one, isnt) (count_set f rows name new (omega arith) same)
]

-- and under any other name
pub count_set_other : (f : Count → ℕ) (rows : List Count) (name n : List ℕ) (new : Count) → place_of (map name_of rows) name < length rows
    → name_of new ≡ name → n ≢ name → count_of f (set rows (place_of (map name_of rows) name) new) n ≡ count_of f rows n
count_set_other f [] name n new below same other = absurd (omega arith)
count_set_other f (row ∷ rows) name n new below same other = elim (cases_Bool (bytes_eq (name_of row) name)) [
  | inl is ↦
      let here = (bytes_eq-Decides (name_of row) name).0 is in
      let not_old = other_name (name_of row) n (λ e. other (e ∙ here)) in
      let not_new = other_name (name_of new) n (λ e. other (e ∙ same)) in
      rw (is, not_old, not_new)
  | inr isnt ↦
      let below_rest = rw isnt at below in
      rw (isnt, add-one) (ap (λ rest. cond (bytes_eq (name_of row) n) (f row) rest) (count_set_other f rows name n new (omega arith) same other))
]

-- a row more with nothing counted leaves all counts
pub count_push : (f : Count → ℕ) (rows : List Count) (new : Count) (n : List ℕ) → f new ≡ 0
    → count_of f (rows ++ new ∷ []) n ≡ count_of f rows n
count_push f [] new n none = elim (cases_Bool (bytes_eq (name_of new) n)) [ inl is ↦ rw is none | inr isnt ↦ rw isnt ]
count_push f (row ∷ rows) new n none = ap (λ rest. cond (bytes_eq (name_of row) n) (f row) rest) (count_push f rows new n none)

-- a count rises by so many, or to its last value
pub record RisesBy (old new more : ℕ) : Type 0 where
  pub later : old ≤ new
  pub most : new ≤ old + more
  pub all : min (old + more) (2 ^ 64 - 1) ≤ new

-- a count that rises by so many, at the place of a name
pub counts_at : (f : Count → ℕ) (rows : List Count) (name : List ℕ) (old new : Count) (more : ℕ)
    → place_of (map name_of rows) name < length rows → old ≡ get_or rows (place_of (map name_of rows) name) old
    → name_of new ≡ name → RisesBy (f old) (f new) more
    → CountsOn (is_among (map name_of rows)) (count_of f rows) (count_of f (set rows (place_of (map name_of rows) name) new)) name more
counts_at f rows name old new more below here same rises =
    let after = count_set f rows name new below same in
    let before : count_of f rows name ≡ f old = count_at f rows name old below ∙ ap f (sym here) in
    record {
      later = rw (after, before) rises.later;
      most = rw (after, before) rises.most;
      all = λ _. rw (after, before) rises.all;
      uncounted = λ isnt. absurd (let is = among_below (map name_of rows) name (rw length-map below) in never_not _ is isnt);
      others = λ n other. count_set_other f rows name n new below same other;
    }

-- nothing is counted under a name without a place
pub counts_past : (f : Count → ℕ) (rows : List Count) (name : List ℕ) (more : ℕ) → length rows ≤ place_of (map name_of rows) name
    → CountsOn (is_among (map name_of rows)) (count_of f rows) (count_of f rows) name more
counts_past f rows name more past = record {
  later = omega arith;
  most = omega arith;
  all = λ is. absurd (let isnt = among_past (map name_of rows) name (rw length-map past) in cc);
  uncounted = λ _. count_past f rows name past;
  others = λ n other. refl;
}

-- what holds of a name, and of each other one, holds of all
of_each : (P : List ℕ → Type 0) (name : List ℕ) → P name → ((n : List ℕ) → n ≢ name → P n) → (n : List ℕ) → P n
of_each P name here others n = elim (cases_Bool (bytes_eq n name)) [
  | inl is ↦ subst P (sym ((bytes_eq-Decides n name).0 is)) here
  | inr isnt ↦ others n (λ e. let is = same_name n name e in let never : true ≡ false = sym is ∙ isnt in cc)
]

-- a count of faults after a read
abbrev faults_after : ℕ → Result ℕ Outside → ℕ
faults_after count (Err Failed) = with_more count 1
faults_after count _ = count

-- a count with one more rose, or stands at its last value
rose_by_one : (before now : ℕ) → now ≡ with_more before 1 → Rose before now
rose_by_one before now is = elim (cases_lt before (2 ^ 64 - 1)) [ inl below ↦ inl (omega arith) | inr last ↦ inr (omega arith) ]

-- counts of faults of which that of a name is what a read made it, and no other one changed
pub faults_by : (before now : List ℕ → ℕ) (name : List ℕ) (read : Result ℕ Outside) → now name ≡ faults_after (before name) read
    → before name ≤ now name → ((n : List ℕ) → n ≢ name → now n ≡ before n) → ReadFaults before now name read
faults_by before now name (Ok n) here rose others =
    let same = of_each (λ m. now m ≡ before m) name here others in
    record { later = λ m. omega (arith, same m); ok = same; failed = λ e. absurd (cc); no_memory = λ e. absurd (cc) }
faults_by before now name (Err Failed) here rose others = record {
  later = of_each (λ m. before m ≤ now m) name rose (λ m other. omega (arith, others m other));
  ok = tt;
  failed = λ _. rose_by_one _ _ here;
  no_memory = λ e. absurd (cc);
}
faults_by before now name (Err NoMemory) here rose others =
    let same = of_each (λ m. now m ≡ before m) name here others in
    record { later = λ m. omega (arith, same m); ok = tt; failed = λ e. absurd (cc); no_memory = λ _. same }

-- the faults of a row after a read
faults-with_read : (row : Count) (read : Result ℕ Outside) → faults (with_read row read) ≡ faults_after (faults row) read
faults-with_read row (Err Failed) = refl
faults-with_read row _ = refl

-- the row at the place of a name has it
name_at : (rows : List Count) (name : List ℕ) (d : Count) → place_of (map name_of rows) name < length rows
    → name_of (get_or rows (place_of (map name_of rows) name) d) ≡ name
name_at [] name d below = absurd (omega arith)
name_at (row ∷ rows) name d below = elim (cases_Bool (bytes_eq (name_of row) name)) [
  | inl is ↦ rw is ((bytes_eq-Decides (name_of row) name).0 is)
  | inr isnt ↦ let rest = rw isnt at below in rw (isnt, add-one) (name_at rows name d (omega arith))
]

-- a read leaves the name of its row
name-with_read : (row : Count) (read : Result ℕ Outside) → name_of (with_read row read) ≡ name_of row
name-with_read row (Err Failed) = refl
name-with_read row _ = refl

-- it counts a read, where one was made
reads-with_read : (row : Count) (read : Result ℕ Outside) → row.reads ≤ (with_read row read).reads
    → RisesBy row.reads (with_read row read).reads (reads_made read)
reads-with_read row (Err Failed) later = record { later = later; most = omega arith; all = omega arith }
reads-with_read row _ later = record { later = later; most = omega arith; all = omega arith }

-- and the bytes that it gave
taken-with_read : (row : Count) (read : Result ℕ Outside) → row.taken ≤ (with_read row read).taken
    → RisesBy row.taken (with_read row read).taken (bytes_given read)
taken-with_read row (Err Failed) later = record { later = later; most = omega arith; all = omega arith }
taken-with_read row _ later = record { later = later; most = omega arith; all = omega arith }

-- a read that is counted in the row of its name
pub counts_read : (old new : Counts) (name : List ℕ) (row : Count) (read : Result ℕ Outside)
    → place_of (names_of old) name < length old.rows.items → row ≡ get_or old.rows.items (place_of (names_of old) name) row
    → new.rows.items ≡ set old.rows.items (place_of (names_of old) name) (with_read row read)
    → NoneFalls row (with_read row read) → CountsRead old new name read
counts_read old new name row read below here is later =
    let rows = old.rows.items in
    let has : name_of row ≡ name = ap name_of here ∙ name_at rows name row below in
    let same : name_of (with_read row read) ≡ name = name-with_read row read ∙ has in
    let was : count_of faults rows name ≡ row.faults = count_at faults rows name row below ∙ ap faults (sym here) in
    let now : count_of faults new.rows.items name ≡ faults (with_read row read) = rw is (count_set faults rows name (with_read row read) below same) in
    let others : (n : List ℕ) → n ≢ name → faults_of new n ≡ faults_of old n =
    λ n other. rw is (count_set_other faults rows name n (with_read row read) below same other) in
    let OfReads : List Count → Type 0 = λ rs. CountsOn (counts_name old) (reads_of old) (count_of (λ r. r.reads) rs) name (reads_made read) in
    let OfTaken : List Count → Type 0 = λ rs. CountsOn (counts_name old) (taken_of old) (count_of (λ r. r.taken) rs) name (bytes_given read) in
    record {
      names = ap (λ rs. map name_of rs) is ∙ names-set rows _ (with_read row read) row below (same ∙ sym has ∙ ap name_of here);
      faults = λ _. faults_by (faults_of old) (faults_of new) name read (rw was (now ∙ faults-with_read row read)) (rw (was, now) later.faults) others;
      other_faults = others;
      reads = subst OfReads (sym is) (counts_at (λ r. r.reads) rows name row (with_read row read) _ below here same (reads-with_read row read later.reads));
      taken = subst OfTaken (sym is) (counts_at (λ r. r.taken) rows name row (with_read row read) _ below here same (taken-with_read row read later.taken));
    }

-- a read of a name without counts
pub counts_none : (old new : Counts) (name : List ℕ) (read : Result ℕ Outside) → length old.rows.items ≤ place_of (names_of old) name
    → new.rows ≡ old.rows → CountsRead old new name read
counts_none old new name read past is = rw is (record {
  names = refl;
  faults = λ counted. absurd (let none = among_past (names_of old) name (rw length-map past) in cc);
  other_faults = λ n other. refl;
  reads = counts_past (λ r. r.reads) old.rows.items name (reads_made read) past;
  taken = counts_past (λ r. r.taken) old.rows.items name (bytes_given read) past;
})

-- a name that has counts is noted
pub noted_known : (counts : Counts) (name : List ℕ) → place_of (names_of counts) name < length (names_of counts)
    → NotesName counts counts name true
noted_known counts name below =
    let among = among_below (names_of counts) name below in
    record { known = λ _. refl; names = rw among; faults = λ _. refl; reads = λ _. refl; taken = λ _. refl }

-- a name that gets counts
pub noted_new : (old new : Counts) (name : List ℕ) (copy : String Global) → length (names_of old) ≤ place_of (names_of old) name
    → string_bytes copy ≡ name → new.rows.items ≡ old.rows.items ++ fresh copy ∷ [] → NotesName old new name true
noted_new old new name copy past has is =
    let none = among_past (names_of old) name past in
    let more : names_of new ≡ names_of old ++ name ∷ [] =
    ap (λ rs. map name_of rs) is ∙ map_push name_of old.rows.items (fresh copy) ∙ ap (λ n. names_of old ++ n ∷ []) has in
    record {
      known = λ _. refl;
      names = rw none more;
      faults = λ n. ap (λ rs. count_of (λ r. r.faults) rs n) is ∙ count_push (λ r. r.faults) old.rows.items (fresh copy) n refl;
      reads = λ n. ap (λ rs. count_of (λ r. r.reads) rs n) is ∙ count_push (λ r. r.reads) old.rows.items (fresh copy) n refl;
      taken = λ n. ap (λ rs. count_of (λ r. r.taken) rs n) is ∙ count_push (λ r. r.taken) old.rows.items (fresh copy) n refl;
    }

-- a name without counts that gets none
pub noted_not : (old new : Counts) (name : List ℕ) (done : Bool) → length (names_of old) ≤ place_of (names_of old) name
    → new.rows.items ≡ old.rows.items → done ≡ false → NotesName old new name done
noted_not old new name done past is not_done =
    let none = among_past (names_of old) name past in
    record {
      known = λ counted. absurd (cc);
      names = rw not_done (ap (λ rs. map name_of rs) is);
      faults = λ n. ap (λ rs. count_of (λ r. r.faults) rs n) is;
      reads = λ n. ap (λ rs. count_of (λ r. r.reads) rs n) is;
      taken = λ n. ap (λ rs. count_of (λ r. r.taken) rs n) is;
    }

-- rows in which nothing is counted
pub starts_fresh : (counts : Counts) (names : List (String Global)) → counts.rows.items ≡ map fresh names → StartsCounts counts
starts_fresh counts names is = record {
  faults = λ n. ap (λ rs. count_of (λ r. r.faults) rs n) is ∙ none_in_fresh (λ r. r.faults) names n (λ _. refl);
  reads = λ n. ap (λ rs. count_of (λ r. r.reads) rs n) is ∙ none_in_fresh (λ r. r.reads) names n (λ _. refl);
  taken = λ n. ap (λ rs. count_of (λ r. r.taken) rs n) is ∙ none_in_fresh (λ r. r.taken) names n (λ _. refl);
}

-- counts that stayed while a name was noted, and then rose
counts_noted : (counted : List ℕ → Bool) (before mid now : List ℕ → ℕ) (name : List ℕ) (more : ℕ) → ((n : List ℕ) → mid n ≡ before n)
    → IsTrue (counted name) → CountsOn counted mid now name more → CountsOn (λ _. true) before now name more
counts_noted counted before mid now name more stays is on = record {
  later = let here = stays name in omega (arith, on.later);
  most = let here = stays name in omega (arith, on.most);
  all = λ _. let here = stays name in omega (arith, on.all is);
  uncounted = λ never. absurd (never_not true refl never);
  others = λ n other. on.others n other ∙ stays n;
}

-- the same of faults
faults_noted : (before mid now : List ℕ → ℕ) (name : List ℕ) (read : Result ℕ Outside) → ((n : List ℕ) → mid n ≡ before n)
    → ReadFaults mid now name read → ReadFaults before now name read
faults_noted before mid now name read stays by = record {
  later = λ n. rw (← stays n) (by.later n);
  ok = ok_noted read by.ok;
  failed = λ e. rw (← stays name) (by.failed e);
  no_memory = λ e n. by.no_memory e n ∙ stays n;
} where
  ok_noted : (r : Result ℕ Outside) → OnOk r ((n : List ℕ) → now n ≡ mid n) → OnOk r ((n : List ℕ) → now n ≡ before n)
  ok_noted (Ok k) same = λ n. same n ∙ stays n
  ok_noted (Err e) _ = tt

-- what a read leaves of the counts where its name was noted before
pub record ReadNoted (old new : Counts) (name : List ℕ) (read : Result ℕ Outside) : Type 0 where
  pub cause : ReadFaults (faults_of old) (faults_of new) name read
  pub others : (n : List ℕ) → n ≢ name → faults_of new n ≡ faults_of old n
  pub reads : CountsOn (λ _. true) (reads_of old) (reads_of new) name (reads_made read)
  pub taken : CountsOn (λ _. true) (taken_of old) (taken_of new) name (bytes_given read)

-- a name is noted, and then its read is counted
pub read_noted : (old mid new : Counts) (name : List ℕ) (read : Result ℕ Outside) → NotesName old mid name true → CountsRead mid new name read
    → ReadNoted old new name read
read_noted old mid new name read noting counting =
    let counted : IsTrue (counts_name mid name) = rw noting.names (among_noted (names_of old) name) in
    record {
      cause = faults_noted (faults_of old) (faults_of mid) (faults_of new) name read noting.faults (counting.faults counted);
      others = λ n other. counting.other_faults n other ∙ noting.faults n;
      reads = counts_noted (counts_name mid) (reads_of old) (reads_of mid) (reads_of new) name (reads_made read) noting.reads counted counting.reads;
      taken = counts_noted (counts_name mid) (taken_of old) (taken_of mid) (taken_of new) name (bytes_given read) noting.taken counted counting.taken;
    }
