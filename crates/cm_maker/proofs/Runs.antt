-- A program that is run for the members of a row.
use Rattle.std.proofs.Common.{◌≡◌, ◌⊎◌, ℕ, ◌/◌, ◌<◌, Option, None, Some, Bool, true, false, ◌||◌, List, length, set, refl, sym, ap, ◌∙◌, subst, inl, inr}
use Rattle.std.specs.Prelude.{IsTrue, IfSome}
use Rattle.std.proofs.lemmas.Bool.{false≢true}
use Rattle.cm_filter.specs.declared.kind.CallKind.{CallKind}
use Rattle.cm_filter.specs.declared.kind.CallKind.TheVariants as call
use Rattle.model_cred.specs.Files.{FileTable}
use Rattle.model_cred.specs.Space.{Spaces}
use Rattle.model_box.specs.Bounds.{BoxRow, row_in}
use Rattle.model_box.specs.Closed.{Adds}
use Rattle.model_box.specs.Row.{Part, row_at, row_number, space_under, HasMembers}
use Rattle.model_box.specs.Rule.{Rule, ExecUid, ExecGid}
use Rattle.model_box.proofs.Numbers.{under_half}
use Rattle.model_box.proofs.Starts.{number_back}
use Rattle.cm_box.proofs.RowRules.{ByFile, by_file}
use Rattle.cm_box_rows.specs.declared.kind.IdKind.{IdKind}
use Rattle.cm_box_rows.specs.declared.kind.IdKind.TheVariants.{Users}
use Rattle.cm_box_rows.specs.declared.kind.IdKind.TheVariants as kinds
use Rattle.cm_box_rows.specs.Kinds.{effective, SpreadsId}
use Rattle.cm_box_rows.specs.Programs.{IdGiven}
use Rattle.cm_box_rows.specs.Rows.{RowHolds, RowsHold, AreSameRows, InEitherRow}
use Rattle.cm_box_rows.proofs.IdKinds.{spread_more}
use Rattle.cm_maker.specs.Running.{Comes}
use Rattle.cm_maker.specs.Widening.{Visits}
use Rattle.cm_maker.proofs.Widenings.{put_visits, held_put}
use Rattle.model_verdict.specs.Sweep.{row_count}

-- an id that a file gives comes, where the row lacks it
pub id_comes : (permitted : CallKind → Bool) (files : FileTable) (spaces : Spaces) (rows : List BoxRow) (y : ℕ) (kind : IdKind) (k id : ℕ)
    (here : BoxRow) → here ≡ row_in rows y → IsTrue (permitted call.Exec) → HasMembers (RowHolds here)
    → IdGiven kind files spaces (y / 2) (RowHolds here) k id → (RowHolds here (effective kind) id → ⊥)
    → Comes permitted files spaces rows y kind id
id_comes permitted files spaces rows y kind k id here is may members given lacking = record {
  may = may;
  members = subst (λ (r : BoxRow). HasMembers (RowHolds r)) at members;
  given = (
    k,
    subst (λ (n : ℕ). IdGiven kind files spaces n (RowsHold rows (row_at y)) k id) (sym (under_half y))
        (subst (λ (r : BoxRow). IdGiven kind files spaces (y / 2) (RowHolds r) k id) at given),
  );
  lacking = λ held. lacking (subst (λ (r : BoxRow). RowHolds r (effective kind) id) (sym at) held);
} where
  at : here ≡ row_in rows (row_number (row_at y))
  at = is ∙ ap (row_in rows) (sym (number_back y))

-- what each answer is, the answer is
pub if_some : (o : Option ℕ) (P : ℕ → Type 0) → ((x : ℕ) → o ≡ Some x → P x) → IfSome o P
if_some None P each = tt
if_some (Some x) P each = each x refl

-- a row, and what is the same as what is added
pub either_same : (row : BoxRow) (One Two Three : Part → ℕ → Type 0) → AreSameRows Two Three → AreSameRows (RowHolds row) (InEitherRow One Two)
    → AreSameRows (RowHolds row) (InEitherRow One Three)
either_same row One Two Three same told part x = (
  λ held. elim ((told part x).0 held) [ inl one ↦ inl one | inr two ↦ inr ((same part x).0 two) ],
  λ either. (told part x).1 (elim either [ inl one ↦ inl one | inr three ↦ inr ((same part x).1 three) ]),
)

pub or_first : (a b : Bool) → a ≡ true → a ≡ a || b
or_first true b is = refl
or_first false b is = absurd (false≢true is)

-- the rule by which programs give ids of the kind
abbrev rule_of_kind : IdKind → Rule
rule_of_kind Users = ExecUid
rule_of_kind kinds.Groups = ExecGid

module _ (permitted : CallKind → Bool) (files : FileTable) (spaces : Spaces) (rows : List BoxRow) (y : ℕ) (kind : IdKind) (id : ℕ)
    (comes : Comes permitted files spaces rows y kind id) where
  gives : (x : ℕ) → x ≡ id → ByFile files spaces (space_under (row_at y)) (RowsHold rows (row_at y)) kind x
  gives x is =
      subst (λ (n : ℕ). ByFile files spaces (space_under (row_at y)) (RowsHold rows (row_at y)) kind n) (sym is)
      ((by_file files spaces (space_under (row_at y)) (RowsHold rows (row_at y)) kind id).0 comes.given)

  -- what becomes of it is what the rule adds
  spread_added : (part : Part) (x : ℕ) → SpreadsId kind (RowsHold rows (row_at y)) (λ n. n ≡ id) part x
      → SpreadsId kind (RowsHold rows (row_at y)) (ByFile files spaces (space_under (row_at y)) (RowsHold rows (row_at y)) kind) part x
  spread_added part x has =
      spread_more (RowsHold rows (row_at y)) kind (λ n. n ≡ id)
      (ByFile files spaces (space_under (row_at y)) (RowsHold rows (row_at y)) kind) gives part x has

added : (permitted : CallKind → Bool) (files : FileTable) (spaces : Spaces) (rows : List BoxRow) (y : ℕ) (kind : IdKind) (id : ℕ)
    → Comes permitted files spaces rows y kind id → (part : Part) (x : ℕ)
    → SpreadsId kind (RowsHold rows (row_at y)) (λ n. n ≡ id) part x
    → Adds permitted files spaces (RowsHold rows) (rule_of_kind kind) (row_at y) part x
added permitted files spaces rows y Users id comes part x has =
    (comes.may, comes.members, spread_added permitted files spaces rows y Users id comes part x has)
added permitted files spaces rows y kinds.Groups id comes part x has =
    (comes.may, comes.members, spread_added permitted files spaces rows y kinds.Groups id comes part x has)

it_comes : (kind : IdKind) (row : Part → ℕ → Type 0) (id : ℕ) → SpreadsId kind row (λ n. n ≡ id) (effective kind) id
it_comes Users row id = refl
it_comes kinds.Groups row id = refl

pub run_visits : (permitted : CallKind → Bool) (files : FileTable) (spaces : Spaces) (rows : List BoxRow) (y : ℕ) (kind : IdKind) (id : ℕ)
    (wider : BoxRow) → y < length rows → y < row_count spaces → Comes permitted files spaces rows y kind id
    → AreSameRows (RowHolds wider) (InEitherRow (RowHolds (row_in rows y)) (SpreadsId kind (RowHolds (row_in rows y)) (λ n. n ≡ id)))
    → Visits permitted files spaces y rows (set rows y wider) true
run_visits permitted files spaces rows y kind id wider there low comes same =
    let at : AreSameRows (RowHolds wider) (InEitherRow (RowsHold rows (row_at y)) (SpreadsId kind (RowsHold rows (row_at y)) (λ n. n ≡ id)))
    = subst (λ (k : ℕ). AreSameRows (RowHolds wider) (InEitherRow (RowHolds (row_in rows k)) (SpreadsId kind (RowHolds (row_in rows k)) (λ n. n ≡ id))))
    (sym (number_back y)) same in
    let holds : (part : Part) (x : ℕ) → RowsHold rows (row_at y) part x → RowHolds wider part x
    = (λ part x held. (at part x).1 (inl held)) in
    let adds : (part : Part) (x : ℕ) → RowHolds wider part x
    → RowsHold rows (row_at y) part x ⊎ Adds permitted files spaces (RowsHold rows) (rule_of_kind kind) (row_at y) part x
    = (λ part x held. elim ((at part x).0 held) [
      | inl old ↦ inl old
      | inr new ↦ inr (added permitted files spaces rows y kind id comes part x new)
    ]) in
    put_visits permitted files spaces (rule_of_kind kind) y rows wider there low holds adds
    (λ back. comes.lacking
    (back (row_at y) (effective kind) id
    (held_put permitted files spaces (rule_of_kind kind) y rows wider there low holds adds (effective kind) id
    ((at (effective kind) id).1 (inr (it_comes kind (RowsHold rows (row_at y)) id))))))
