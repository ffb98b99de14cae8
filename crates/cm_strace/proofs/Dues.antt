-- Pids whose lines come.
use Rattle.std.proofs.Common.{◌≡◌, ℕ, zero, suc, find, ◌+◌, ◌<◌, Bool, true, false, length, List, [], ◌∷◌, ◌++◌, refl, sym}
use Rattle.std.proofs.Common.{◌∙◌, ap, arith, get_or, slice_get, slice_set, take, reverse, Some, map}
use Rattle.std.proofs.lemmas.List.{drop_all, length-set, set_split, take_all, take_more, reverse-append}
use Rattle.std.proofs.lemmas.List.Elements.{All-cons, All-tail, All-weaker}
use Rattle.model_strace.specs.Lines.{Line, is_line_of}
use Rattle.cm_strace.specs.Taken.{waits_before}
use Rattle.cm_strace.specs.Queues.{Queue, Keeps, first_line, gone_on}
use Rattle.cm_strace.specs.declared.agenda.Due.{Due}
use Rattle.cm_strace.proofs.Taken.{still_none}

-- the last of a list is changed: the first of what it is from its end
pub last_changed : (dues : List Due) (n : ℕ) (due : Due) (from : ℕ) → length dues ≡ suc n → due ≡ get_or dues n due
    → reverse (slice_set dues n (record due { from = from })) ≡ gone_on from (reverse dues)
last_changed dues n due from size is =
    let whole : dues ≡ take n dues ++ due ∷ [] =
    sym (take_all (n + 1) dues (omega arith)) ∙ take_more dues n due (omega arith) ∙ ap (λ d. take n dues ++ d ∷ []) (sym is) in
    let set : slice_set dues n (record due { from = from }) ≡ take n dues ++ record due { from = from } ∷ [] =
    set_split dues n (record due { from = from }) (omega arith)
    ∙ ap (λ l. take n dues ++ record due { from = from } ∷ l) (drop_all (suc n) dues (omega arith)) in
    ap reverse set ∙ reverse-append (take n dues) (record due { from = from } ∷ [])
    ∙ sym (ap (λ l. gone_on from (reverse l)) whole ∙ ap (gone_on from) (reverse-append (take n dues) (due ∷ [])))

-- none of the lines that are left stands before its pid's place, also after one of the first pid was taken
pub still_kept : (lines : List Line) (taken : List Bool) (at : ℕ) (due : Due) (dues : List Due)
    → slice_get dues 0 ≡ Some due → Keeps lines taken dues
    → waits_before due.pid (at + 1) lines (slice_set taken at true) ≡ false
    → Keeps lines (slice_set taken at true) (gone_on (at + 1) dues)
still_kept lines taken at due [] is keeps past = absurd (cc)
still_kept lines taken at due (x ∷ dues) is keeps past =
    let same : x ≡ due = cc in
    record {
      flags = length-set taken at true ∙ keeps.flags;
      places = All-cons (λ due. waits_before due.pid due.from lines (slice_set taken at true) ≡ false)
          (record x { from = at + 1 }) dues
          (rw same past)
          (All-weaker (λ due. waits_before due.pid due.from lines taken ≡ false)
          (λ due. waits_before due.pid due.from lines (slice_set taken at true) ≡ false)
          (λ due none. still_none due.pid (take due.from lines) taken at none) dues
          (All-tail (λ due. waits_before due.pid due.from lines taken ≡ false) x dues keeps.places));
    }

-- the first pid is that of the first entry
pub pids_gone_on : (from : ℕ) (dues : List Due) → map (λ (due : Due). due.pid) (gone_on from dues) ≡ map (λ (due : Due). due.pid) dues
pids_gone_on from [] = refl
pids_gone_on from (due ∷ dues) = refl

-- the first line of the first pid
pub first_of : (dues : List Due) (due : Due) (lines : List Line) → slice_get dues 0 ≡ Some due
    → first_line (map (λ (due : Due). due.pid) dues) lines ≡ find (is_line_of due.pid) lines
first_of [] due lines is = absurd (cc)
first_of (x ∷ dues) due lines is = let same : x ≡ due = cc in ap (λ (d : Due). find (is_line_of d.pid) lines) same

-- a line by its place
pub line_at : (lines : List Line) (at : ℕ) (l : Line) → at < length lines → slice_get lines at ≡ Some (get_or lines at l)
line_at [] at l within = absurd (omega arith)
line_at (x ∷ lines) zero l within = refl
line_at (x ∷ lines) (suc at) l within = line_at lines at l (omega arith)

-- what is left, by its parts
pub queue_by : (all left rest : List Line) (pids others : List ℕ) → left ≡ rest → pids ≡ others
    → record { all = all; left = left; pids = pids } ≡ (let q : Queue = record { all = all; left = rest; pids = others } in q)
queue_by all left rest pids others lines same = rw (lines, same) refl
