-- The sweep: its turns, that it grows, and that it stays within all bounds that are closed and cover the members.
use Rattle.std.proofs.Common.{◌≡◌, ◌⊎◌, ℕ, zero, suc, ◌+◌, ◌*◌, ◌/◌, ◌%◌, ◌<◌, ◌≤◌, ◌==◌, Bool, true, false, List, [], ◌∷◌, Option, Some}
use Rattle.std.proofs.Common.{if◌then◌else◌, length, refl, sym, ap, ◌∙◌, inl, inr, subst, arith}
use Rattle.std.specs.Prelude.{IsTrue, unwrap_or}
use Rattle.std.proofs.Math.Nat.{mod-lt}
use Rattle.std.proofs.lemmas.Nat.{div-mul-add, mod-mul-add}
use Rattle.std.proofs.lemmas.Bool.{lt-ltb}
use Rattle.cm_filter.specs.declared.kind.CallKind.{CallKind}
use Rattle.model_cred.specs.Files.{FileTable}
use Rattle.model_cred.specs.Process.{Process, State}
use Rattle.model_cred.specs.Space.{Space, Spaces, IsTree, stands, space_at, space_of, no_space}
use Rattle.model_box.specs.Row.{Part, MappedUids, MappedGids, Row, Standing, Fresh, row_at, space_under, IsWithin}
use Rattle.model_box.specs.Rule.{Rule, Maps, rule_number}
use Rattle.model_box.specs.Closed.{Closed}
use Rattle.model_box.specs.Covers.{Covers, StateFits}
use Rattle.model_box.specs.Laws.{tested}
use Rattle.model_box.specs.Start.{StartHas, SpaceMaps}
use Rattle.model_box.proofs.Excludes.{all_named}
use Rattle.model_box.proofs.Monotone.{adds_more}
use Rattle.model_box.proofs.Numbers.{rule_low, under_half}
use Rattle.model_box.proofs.Starts.{holds_start}
use Rattle.model_box.proofs.Stated.{rules_by_number}
use Rattle.model_verdict.specs.Sweep.{Turn, row_count, rule_at, turn_at, swept, TurnsGoByRounds, SweepGrows, SweepStaysWithin}

-- ---- turns
pub rule_back : (rule : Rule) → rule_at (rule_number rule) ≡ rule
rule_back rule = ap (λ (o : Option Rule). unwrap_or o Maps) (rules_by_number rule)

place_back : (round n : ℕ) → n < 14 → (14 * round + n) % 14 ≡ n
place_back round n low = omega arith

pub turns_go_by_rounds : TurnsGoByRounds
unfolding TurnsGoByRounds
turns_go_by_rounds spaces round rule y low =
    let rows : ℕ = row_count spaces in
    let place : ℕ = 14 * round + rule_number rule in
    let row : (place * rows + y) % rows ≡ y = mod-mul-add place rows y low in
    let whole : (place * rows + y) / rows ≡ place = div-mul-add place rows y low in
    let number : (place * rows + y) / rows % 14 ≡ rule_number rule
    = ap (λ (n : ℕ). n % 14) whole ∙ place_back round (rule_number rule) (rule_low rule) in
    ap (λ (n : ℕ). record { rule = rule_at n; row = row_at ((place * rows + y) % rows) }) number
    ∙ ap (λ (m : ℕ). record { rule = rule_at (rule_number rule); row = row_at m }) row
    ∙ ap (λ (r : Rule). record { rule = r; row = row_at y }) (rule_back rule)

-- the row of a number stands where there are so many rows
pub row_stands : (spaces : Spaces) (y : ℕ) → y < row_count spaces → IsTrue (stands spaces (space_under (row_at y)))
row_stands spaces y low =
    subst (λ (n : ℕ). IsTrue (stands spaces n)) (sym (under_half y))
    (lt-ltb (y / 2) (length spaces) (omega arith))

pub tree_has_one : (spaces : Spaces) → IsTree spaces → 0 < length spaces
tree_has_one [] wrong = absurd wrong
tree_has_one (s ∷ older) tree = omega arith

pub turn_stands : (spaces : Spaces) (k : ℕ) → IsTree spaces → IsTrue (stands spaces (space_under (turn_at spaces k).row))
turn_stands spaces k tree =
    let one : 0 < length spaces = tree_has_one spaces tree in
    row_stands spaces (k % row_count spaces) (mod-lt k (omega arith))

-- ---- the start
past : (spaces : Spaces) (n : ℕ) → length spaces ≤ n → space_of spaces n ≡ no_space
past [] n high = refl
past (s ∷ older) n high =
    let apart : (n == length older) ≡ false = grind arith in
    ap (λ (b : Bool). unwrap_or (if b then Some s else space_at older n) no_space) apart ∙ past older n (omega arith)

maps_nothing : (part : Part) (x : ℕ) → SpaceMaps no_space part x → ⊥
maps_nothing MappedUids x held = absurd (cc)
maps_nothing MappedGids x held = absurd (cc)
maps_nothing _ x held = held

pub start_stands : (s : State) (members : List ℕ) → StateFits s → (row : Row) (part : Part) (x : ℕ) → StartHas s members row part x
    → IsTrue (stands s.spaces (space_under row))
start_stands s members fits (Standing n) part x (inl (pid, p, member, at, same, has)) =
    let here : p.space < length s.spaces = all_named (λ (q : Process). q.space < length s.spaces) s.processes fits.stands pid p at in
    lt-ltb n (length s.spaces) (subst (λ (m : ℕ). m < length s.spaces) same here)
start_stands s members fits (Standing n) part x (inr maps) = by (stands s.spaces n) refl where
  by : (b : Bool) → stands s.spaces n ≡ b → b ≡ true
  by true is = refl
  by false not_there =
      let high : length s.spaces ≤ n = grind arith in
      absurd (maps_nothing part x (subst (λ (t : Space). SpaceMaps t part x) (past s.spaces n high) maps))
start_stands s members fits (Fresh n) part x wrong = absurd wrong

-- ---- the bounds
earlier_or_last : (j later : ℕ) → (j ≤ later) ⊎ (later < j)
earlier_or_last j later = grind arith

module _ (permitted : CallKind → Bool) (files : FileTable) (s : State) (members : List ℕ) where
  pub grows : (k later : ℕ) → k ≤ later → IsWithin (swept permitted files s members k) (swept permitted files s members later)
  grows k zero low row part x held =
      let same : k ≡ 0 = omega arith in
      subst (λ (j : ℕ). swept permitted files s members j row part x) same held
  grows k (suc later) low row part x held = elim (earlier_or_last k later) [
    | inl earlier ↦ inl (grows k later earlier row part x held)
    | inr last ↦
        let same : k ≡ suc later = omega arith in
        subst (λ (j : ℕ). swept permitted files s members j row part x) same held
  ]

  pub stays_within : (other : Row → Part → ℕ → Type 0) → StateFits s → Closed permitted files s.spaces other → Covers s members s members other
      → (k : ℕ) → IsWithin (swept permitted files s members k) other
  stays_within other fits closed covers zero row part x held =
      holds_start s members other covers row (start_stands s members fits row part x held) part x held
  stays_within other fits closed covers (suc k) row part x (inl held) = stays_within other fits closed covers k row part x held
  stays_within other fits closed covers (suc k) row part x (inr (same, added)) =
      let turn : Turn = turn_at s.spaces k in
      subst (λ (r : Row). other r part x) (sym same)
      (closed turn.rule turn.row (turn_stands s.spaces k fits.tree) part x
      (adds_more permitted files s.spaces (swept permitted files s members k) other (stays_within other fits closed covers k)
      turn.rule turn.row part x added))

pub sweep_grows : SweepGrows
unfolding SweepGrows
sweep_grows permitted files s members k later low = grows permitted files s members k later low

pub sweep_stays_within : SweepStaysWithin
unfolding SweepStaysWithin
sweep_stays_within permitted files s members k other fits encloses =
    stays_within permitted files s members (tested other) fits encloses.closed encloses.covers k
