-- A row is looked at: the others that aren't on the list still rest, and at the end all do.
use Rattle.std.proofs.Common.{◌≡◌, ◌⊎◌, ℕ, ◌+◌, ◌<◌, Bool, true, false, List, length, set, refl, sym, ap, ◌∙◌, subst, inl, inr, arith}
use Rattle.std.specs.Prelude.{◌≢◌}
use Rattle.std.proofs.lemmas.Bool.{false≢true}
use Rattle.std.proofs.lemmas.List.{get_or-set_same, get_or-set_other}
use Rattle.cm_filter.specs.declared.kind.CallKind.{CallKind}
use Rattle.model_cred.specs.Files.{FileTable}
use Rattle.model_cred.specs.Process.{State, KeepsState}
use Rattle.model_cred.specs.Space.{Spaces}
use Rattle.model_box.specs.Bounds.{BoxRow, bounds_hold}
use Rattle.model_box.specs.Closed.{Closed, ClosedAt}
use Rattle.model_box.specs.Covers.{Earlier}
use Rattle.model_box.specs.Encloses.{Encloses}
use Rattle.model_box.specs.Laws.{tested}
use Rattle.model_box.specs.Reads.{Reads, IsAbove}
use Rattle.model_box.specs.Row.{Part, Row, row_at, row_number, space_under, IsWithin}
use Rattle.model_box.specs.Rule.{Rule}
use Rattle.model_box.specs.Start.{StartHas}
use Rattle.model_box.proofs.Readers.{reads_alone, read_rows_are_above}
use Rattle.model_box.proofs.Starts.{row_back, number_back, covers_start, holds_start}
use Rattle.model_box.proofs.Worlds.{state_fits}
use Rattle.cm_box_rows.specs.Rows.{RowHolds, RowsHold}
use Rattle.cm_box.specs.declared.setting.Setting.{Setting}
use Rattle.cm_maker.specs.Widening.{Widens, Visits, Rests, OthersRest, Passes, MayRead, is_listed}
use Rattle.cm_maker.proofs.Widenings.{then_widens}
use Rattle.model_verdict.specs.Least.{Test, IsLeast}
use Rattle.model_verdict.specs.Rows.{AreLow}
use Rattle.model_verdict.specs.Sweep.{row_count}
use Rattle.model_verdict.proofs.Deciding.{Decided, same_number}
use Rattle.model_verdict.proofs.Limits.{start_low}
use Rattle.model_verdict.proofs.Rounds.{standing_low}
use Rattle.model_verdict.proofs.Sweeps.{row_stands, start_stands}

module _ {permitted : CallKind → Bool} {files : FileTable} {spaces : Spaces} where
  -- a row that doesn't read the one that changed still rests
  module _ {y : ℕ} {old new : List BoxRow} {more : Bool} (visits : Visits permitted files spaces y old new more) where
    same_elsewhere : (from : Row) → (row_number from ≡ y → ⊥) → (part : Part) (x : ℕ) → RowsHold new from part x → RowsHold old from part x
    same_elsewhere from other part x held =
        subst (λ (r : BoxRow). RowHolds r part x) (visits.elsewhere (row_number from) other) held

    not_read : Earlier spaces → (z : ℕ) → z < row_count spaces → z ≢ y → (MayRead spaces y z → ⊥) → (rule : Rule) (from : Row)
        → Reads spaces rule (row_at z) from → row_number from ≡ y → ⊥
    not_read earlier z low other apart rule from reads is =
        elim (read_rows_are_above spaces earlier rule (row_at z) from (row_stands spaces z low) reads) [
          | inl own ↦ other (sym (number_back z) ∙ ap row_number (sym own) ∙ is)
          | inr above ↦
              apart (subst (λ (r : Row). IsAbove spaces (space_under (row_at z)) r) (sym (row_back from) ∙ ap row_at is) above)
        ]

    pub still_rests : Earlier spaces → (z : ℕ) → z < row_count spaces → z ≢ y → (MayRead spaces y z → ⊥) → Rests permitted files spaces old z
        → Rests permitted files spaces new z
    still_rests earlier z low other apart rests rule part x added =
        visits.widens.grown (row_at z) part x
        (rests rule part x
        (reads_alone permitted files spaces (RowsHold new) (RowsHold old) rule (row_at z)
        (λ from reads. same_elsewhere from (not_read earlier z low other apart rule from reads)) part x added))

    same_rests : more ≡ false → (z : ℕ) → Rests permitted files spaces old z → Rests permitted files spaces new z
    same_rests none z rests = subst (λ (rows : List BoxRow). Rests permitted files spaces rows z) (sym (visits.same none)) rests

    -- where nothing changed
    pub none_looked : (list : List Bool) → more ≡ false → Rests permitted files spaces new y → OthersRest permitted files spaces list old
        → OthersRest permitted files spaces (set list y false) new
    none_looked list none here rests z low listed = by (same_number z y) where
      by : Decided (z ≡ y) → Rests permitted files spaces new z
      by (inl is) = subst (λ (n : ℕ). Rests permitted files spaces new n) (sym is) here
      by (inr other) = same_rests none z (rests z low (sym (get_or-set_other list y z false false other) ∙ listed))

    -- where the row changed, and those that may read it were put on the list
    pub more_looked : (list mid : List Bool) → Earlier spaces → Rests permitted files spaces new y
        → OthersRest permitted files spaces list old → ((z : ℕ) → is_listed list z ≡ true → is_listed mid z ≡ true)
        → ((z : ℕ) → z < row_count spaces → MayRead spaces y z → is_listed mid z ≡ true)
        → OthersRest permitted files spaces (set mid y false) new
    more_looked list mid earlier here rests kept put z low listed = by (same_number z y) where
      apart : is_listed mid z ≡ false → is_listed mid z ≡ true → ⊥
      apart unlisted listed_too = false≢true (sym unlisted ∙ listed_too)

      was : is_listed mid z ≡ false → (b : Bool) → is_listed list z ≡ b → is_listed list z ≡ false
      was unlisted false is = is
      was unlisted true is = absurd (apart unlisted (kept z is))

      by : Decided (z ≡ y) → Rests permitted files spaces new z
      by (inl is) = subst (λ (n : ℕ). Rests permitted files spaces new n) (sym is) here
      by (inr other) =
          let unlisted : is_listed mid z ≡ false = sym (get_or-set_other mid y z false false other) ∙ listed in
          still_rests earlier z low other (λ reads. apart unlisted (put z low reads)) (rests z low (was unlisted (is_listed list z) refl))

module _ (permitted : CallKind → Bool) (files : FileTable) (spaces : Spaces) where
  -- an empty list: all rests
  pub all_rest : (list : List Bool) (rows : List BoxRow) → OthersRest permitted files spaces list rows
      → ((y : ℕ) → y < row_count spaces → is_listed list y ≡ false) → Closed permitted files spaces (RowsHold rows)
  all_rest list rows rests empty rule row standing =
      let low : row_number row < row_count spaces = standing_low spaces row standing in
      subst (λ (r : Row). ClosedAt permitted files spaces (RowsHold rows) rule r) (row_back row)
      (rests (row_number row) low (empty (row_number row) low) rule)

  -- a full one: nothing is said
  pub none_said : (list : List Bool) (rows : List BoxRow) (n : ℕ) → ((y : ℕ) → y < n → is_listed list y ≡ true) → n ≡ row_count spaces
      → OthersRest permitted files spaces list rows
  none_said list rows n full is y low unlisted =
      absurd (false≢true (sym unlisted ∙ full y (subst (λ (m : ℕ). y < m) (sym is) low)))

-- ---- a pass
module _ {setting : Setting} {waiting list after : List Bool} {old mid new : List BoxRow} {a b : Bool}
    (first : Passes setting waiting list old mid a) (second : Passes setting list after mid new b) where
  -- a row after which they hold more
  pub passes_more : b ≡ true → Passes setting waiting after old new true
  passes_more is = record {
    widens = then_widens first.widens second.widens;
    list = second.list ∙ first.list;
    rest = second.rest;
    larger = λ _ back. second.larger is (λ row part x held. first.widens.grown row part x (back row part x held));
  }

  -- and one after which nothing is said of that
  pub passes_same : Passes setting waiting after old new a
  passes_same = record {
    widens = then_widens first.widens second.widens;
    list = second.list ∙ first.list;
    rest = second.rest;
    larger = λ is back. first.larger is (λ row part x held. back row part x (second.widens.grown row part x held));
  }

pub earlier_or_here : (i k : ℕ) → i < k + 1 → (i < k) ⊎ (i ≡ k)
earlier_or_here i k low = grind (arith, low)

-- the list is empty up to a row that isn't on it
pub empty_next : (list : List Bool) (k : ℕ) → is_listed list k ≡ false → ((y : ℕ) → y < k → is_listed list y ≡ false)
    → (y : ℕ) → y < k + 1 → is_listed list y ≡ false
empty_next list k here empty y low =
    elim (earlier_or_here y k low) [
      | inl earlier ↦ empty y earlier
      | inr is ↦ subst (λ (n : ℕ). is_listed list n ≡ false) (sym is) here
    ]

-- and up to one that is taken off
pub emptied_next : (list new : List Bool) (k : ℕ) → new ≡ set list k false → k < length list → ((y : ℕ) → y < k → is_listed list y ≡ false)
    → (y : ℕ) → y < k + 1 → is_listed new y ≡ false
emptied_next list new k is low empty y below =
    subst (λ (l : List Bool). is_listed l y ≡ false) (sym is) (elim (earlier_or_here y k below) [
      | inl earlier ↦ get_or-set_other list k y false false (λ same. omega (arith, earlier, same)) ∙ empty y earlier
      | inr here ↦ subst (λ (n : ℕ). is_listed (set list k false) n ≡ false) (sym here) (get_or-set_same list k false false low)
    ])

-- ---- the start, and the end
pub low_start : (s : State) (members : List ℕ) (rows : List BoxRow) → KeepsState s
    → ((row : Row) (part : Part) (x : ℕ) → RowsHold rows row part x → StartHas s members row part x) → AreLow s.spaces (RowsHold rows)
low_start s members rows keeps has = record {
  stand = λ row part x held. start_stands s members (state_fits s keeps) row part x (has row part x held);
  low = λ row part x held. start_low s members keeps row part x (has row part x held);
}

pub start_within : (permitted : CallKind → Bool) (files : FileTable) (s : State) (members : List ℕ) (rows : List BoxRow) → KeepsState s
    → ((row : Row) (part : Part) (x : ℕ) → RowsHold rows row part x → StartHas s members row part x)
    → (other : Test) → Encloses permitted files s members (tested other) → IsWithin (RowsHold rows) (tested other)
start_within permitted files s members rows keeps has other encloses row part x held =
    let start : StartHas s members row part x = has row part x held in
    holds_start s members (tested other) encloses.covers row (start_stands s members (state_fits s keeps) row part x start) part x start

pub then_within : (permitted : CallKind → Bool) (files : FileTable) (s : State) (members : List ℕ) (old new : List BoxRow)
    → Widens permitted files s.spaces old new
    → ((other : Test) → Encloses permitted files s members (tested other) → IsWithin (RowsHold old) (tested other))
    → (other : Test) → Encloses permitted files s members (tested other) → IsWithin (RowsHold new) (tested other)
then_within permitted files s members old new widens within other encloses = widens.within other encloses.closed (within other encloses)

pub they_are_least : (permitted : CallKind → Bool) (files : FileTable) (s : State) (members : List ℕ) (rows : List BoxRow) → KeepsState s
    → Closed permitted files s.spaces (RowsHold rows) → IsWithin (StartHas s members) (RowsHold rows)
    → ((other : Test) → Encloses permitted files s members (tested other) → IsWithin (RowsHold rows) (tested other))
    → IsLeast permitted files s members (bounds_hold rows)
they_are_least permitted files s members rows keeps closed covers within = record {
  encloses = record {
    closed = closed;
    covers = covers_start s members (tested (bounds_hold rows)) (state_fits s keeps) (λ row standing part x has. covers row part x has);
  };
  within = within;
}
