-- The start bounds: the rows of all standing spaces, two by two, and what they come to.
use Rattle.std.proofs.Common.{◌≡◌, ℕ, ◌+◌, ◌*◌, ◌<◌, ◌≤◌}
use Rattle.std.proofs.Common.{List, [], ◌∷◌, ◌++◌, Option, length, get_or, sym, ap, subst, ◌∙◌}
use Rattle.std.proofs.Common.{inl, inr, arith, length-append}
use Rattle.std.specs.Prelude.{◌↔◌, All, unwrap_or}
use Rattle.std.proofs.lemmas.Bool.{cases_lt, false≢true, lt-ltb}
use Rattle.std.proofs.lemmas.List.{get_or_past, get_or_append_left}
use Rattle.std.proofs.Math.Seq.{get_or-append_seam}
use Rattle.model_cred.specs.Process.{Process, State}
use Rattle.model_cred.specs.Space.{Space, Spaces, no_space, space_of}
use Rattle.model_box.specs.Bounds.{BoxRow, no_row}
use Rattle.model_box.specs.Laws.{tested}
use Rattle.model_box.specs.Row.{Part, MappedUids}
use Rattle.model_box.specs.Row.{MappedGids}
use Rattle.model_box.specs.Row.{Row, Standing, Fresh, space_under, row_number}
use Rattle.model_box.specs.Covers.{Covers}
use Rattle.model_box.specs.Start.{HoldsStartAt, SpaceMaps, StartHas}
use Rattle.model_box.proofs.Excludes.{all_named}
use Rattle.model_box.proofs.Starts.{covers_standing, holds_start}
use Rattle.cm_box_rows.specs.Members.{IsLeastCover}
use Rattle.cm_box_rows.specs.Rows.{RowHolds, RowsHold, AreSameRows}
use Rattle.cm_box_rows.proofs.RowParts.{none_in}
use Rattle.cm_state.proofs.SpacePlaces.{not_found}

changed : (one other : BoxRow) (Q : Part → ℕ → Type 0) → other ≡ one → AreSameRows (RowHolds one) Q
    → AreSameRows (RowHolds other) Q
changed one other Q is same = subst (λ (r : BoxRow). AreSameRows (RowHolds r) Q) (sym is) same

module _ (rows : List BoxRow) (new empty : BoxRow) where
  at_old : (y : ℕ) → y < length rows → get_or ((rows ++ new ∷ []) ++ empty ∷ []) y no_row ≡ get_or rows y no_row
  at_old y low =
      let longer : length (rows ++ new ∷ []) ≡ length rows + 1 = length-append rows (new ∷ []) in
      get_or_append_left (rows ++ new ∷ []) (empty ∷ []) no_row y (omega arith) ∙ get_or_append_left rows (new ∷ [])
      no_row y low

  at_new : (y : ℕ) → y ≡ length rows → get_or ((rows ++ new ∷ []) ++ empty ∷ []) y no_row ≡ new
  at_new y is =
      let longer : length (rows ++ new ∷ []) ≡ length rows + 1 = length-append rows (new ∷ []) in
      get_or_append_left (rows ++ new ∷ []) (empty ∷ []) no_row y (omega arith)
      ∙ ap (λ (k : ℕ). get_or (rows ++ new ∷ []) k no_row) is ∙ get_or-append_seam rows new [] no_row

  at_empty : (y : ℕ) → y ≡ length rows + 1 → get_or ((rows ++ new ∷ []) ++ empty ∷ []) y no_row ≡ empty
  at_empty y is =
      let longer : length (rows ++ new ∷ []) ≡ length rows + 1 = length-append rows (new ∷ []) in
      ap (λ (k : ℕ). get_or ((rows ++ new ∷ []) ++ empty ∷ []) k no_row) (is ∙ sym longer) ∙ get_or-append_seam
      (rows ++ new ∷ []) empty [] no_row

  pub two_more : (P : Row → Part → ℕ → Type 0) (n : ℕ) → length rows ≡ 2 * n → empty ≡ no_row
      → ((row : Row) → space_under row < n → AreSameRows (RowsHold rows row) (P row))
      → AreSameRows (RowHolds new) (P (Standing n)) → ((part : Part) (x : ℕ) → P (Fresh n) part x → ⊥)
      → (row : Row) → space_under row < n + 1 → AreSameRows (RowsHold ((rows ++ new ∷ []) ++ empty ∷ []) row) (P row)
  two_more P n count least before here none (Standing m) low = elim (cases_lt m n) [
    | inl old ↦ changed (get_or rows (2 * m) no_row) _ (P (Standing m)) (at_old (2 * m) (omega arith))
        (before (Standing m) old)
    | inr last ↦
        let is : n ≡ m = omega arith in
        changed new _ (P (Standing m)) (at_new (2 * m) (omega arith))
        (subst (λ (k : ℕ). AreSameRows (RowHolds new) (P (Standing k))) is here)
  ]
  two_more P n count least before here none (Fresh m) low = elim (cases_lt m n) [
    | inl old ↦ changed (get_or rows (2 * m + 1) no_row) _ (P (Fresh m)) (at_old (2 * m + 1) (omega arith))
        (before (Fresh m) old)
    | inr last ↦
        let is : n ≡ m = omega arith in
        changed no_row _ (P (Fresh m)) (at_empty (2 * m + 1) (omega arith) ∙ least) (λ part x. (
          λ held. absurd (none_in part x held),
          λ has. absurd (subst (λ (k : ℕ). P (Fresh k) part x → ⊥) is (none part x) has),
        ))
  ]

-- a space that doesn't stand maps nothing
no_maps : (spaces : Spaces) (n : ℕ) → length spaces ≤ n → (part : Part) (x : ℕ) → SpaceMaps (space_of spaces n) part x
    → ⊥
no_maps spaces n past part x has = by part (subst (λ (o : Option Space). SpaceMaps (unwrap_or o no_space) part x)
    (not_found spaces n past) has) where
      by : (part : Part) → SpaceMaps no_space part x → ⊥
      by MappedUids out = false≢true out
      by MappedGids out = false≢true out
      by _ out = out

-- what the start bounds hold is in rows of standing spaces
pub start_stands : (s : State) (members : List ℕ) → All (λ p. p.space < length s.spaces) s.processes
    → (row : Row) (part : Part) (x : ℕ)
    → StartHas s members row part x → space_under row < length s.spaces
start_stands s members stand (Standing n) part x (inl (pid, p, member, at, same, has)) =
    let low : p.space < length s.spaces = all_named (λ (q : Process). q.space < length s.spaces) s.processes stand pid p
    at in
    omega arith
start_stands s members stand (Standing n) part x (inr maps) = elim (cases_lt n (length s.spaces)) [
  | inl low ↦ low
  | inr past ↦ absurd (no_maps s.spaces n past part x maps)
]
start_stands s members stand (Fresh n) part x wrong = absurd wrong

number_past : (row : Row) (n : ℕ) → n ≤ space_under row → 2 * n ≤ row_number row
number_past (Standing m) n past = omega arith
number_past (Fresh m) n past = omega arith

-- the rows of the standing spaces are all that the start bounds are
pub start_holds : (s : State) (members : List ℕ) (rows : List BoxRow) → All (λ p. p.space < length s.spaces) s.processes
    → length rows ≡ 2 * length s.spaces
    → ((row : Row) → space_under row < length s.spaces → AreSameRows (RowsHold rows row) (StartHas s members row))
    → (row : Row) → AreSameRows (RowsHold rows row) (StartHas s members row)
start_holds s members rows stand count each row part x = elim (cases_lt (space_under row) (length s.spaces)) [
  | inl low ↦ each row low part x
  | inr past ↦
      let out : length rows ≤ row_number row = (let far = number_past row (length s.spaces) past in omega arith) in (
        λ held. absurd
            (none_in part x (subst (λ (r : BoxRow). RowHolds r part x) (get_or_past rows (row_number row) no_row out)
            held)),
        λ has. absurd (let low = start_stands s members stand row part x has in omega arith),
      )
]

-- they cover the members now, and are within all that do, where each process is in a space that stands
pub is_least : (s : State) (members : List ℕ) (bounds : Row → Part → ℕ → Type 0)
    → ((row : Row) (part : Part) (x : ℕ) → bounds row part x ↔ StartHas s members row part x)
    → All (λ p. p.space < length s.spaces) s.processes → IsLeastCover s members bounds
is_least s members bounds same stand = record {
  covers = covers_standing s members bounds stand (λ row standing part x has. (same row part x).1 has);
  least = λ other covers row part x held.
      let has : StartHas s members row part x = (same row part x).0 held in
      holds_start s members (tested other) covers row
      (lt-ltb (space_under row) (length s.spaces) (start_stands s members stand row part x has)) part x has;
}

-- each process of a state is in a space that stands, in the words of its value
pub standing : {inside value : State} → inside ≡ value → All (λ p. p.space < length inside.spaces) inside.processes
    → All (λ p. p.space < length value.spaces) value.processes
standing same stand = subst (λ (s : State). All (λ p. p.space < length s.spaces) s.processes) same stand

-- bounds that lack what the start bounds hold in the row of a standing space don't cover the members now
pub lacks_cover : (s : State) (members : List ℕ) (bounds : Row → Part → ℕ → Type 0) (row : Row)
    → space_under row < length s.spaces → ¬ HoldsStartAt s members bounds row → ¬ Covers s members s members bounds
lacks_cover s members bounds row low lacks covers =
    lacks (holds_start s members bounds covers row (lt-ltb (space_under row) (length s.spaces) low))
