-- Chains of spaces: what is above a space, and which row it has.
use Rattle.std.proofs.Common.{◌≡◌, ℕ, zero, suc, ◌<◌, ◌≤◌, Bool, false, ◌&&◌, eqb, Option, None, Some, List, [], ◌∷◌}
use Rattle.std.proofs.Common.{length, refl, sym, ap, ◌∙◌, inl, inr, arith}
use Rattle.std.specs.Prelude.{◌⊎◌, IsTrue, unwrap_or}
use Rattle.std.specs.List.{list_any}
use Rattle.std.proofs.lemmas.Bool.{false≢true, cases_lt, cases_eq, eqb-true, eq-eqb, ne_eqb, and_parts, or_cases, or_left, or_right}
use Rattle.cm_base.specs.CapSet.{holds}
use Rattle.model_cred.proofs.Spaces.{chain_none, chain_empty}
use Rattle.model_cred.specs.IdMap.{is_the}
use Rattle.model_cred.specs.Space.{Space, Spaces, space_at, space_of, no_space, chain, is_at_or_above}
use Rattle.model_rules.specs.Power.{over, gives_power, is_owned}
use Rattle.model_box.specs.Row.{Row, Standing, Fresh}
use Rattle.model_box.specs.Covers.{RowOf, own, child, deeper}
pub use Rattle.model_box.specs.Covers.{Earlier}

-- ---- tests over lists
pub any_item : (test : ℕ → Bool) (xs : List ℕ) → IsTrue (list_any test xs)
    → (m : ℕ) × IsTrue (list_any (λ k. eqb k m) xs) × IsTrue (test m)
any_item test [] held = absurd (false≢true held)
any_item test (x ∷ xs) held =
    elim (or_cases (test x) (list_any test xs) held) [
      | inl here ↦ (x, or_left (eqb x x) (list_any (λ k. eqb k x) xs) (eq-eqb x x refl), here)
      | inr there ↦ let rest = any_item test xs there in (rest.0, or_right (eqb x rest.0) (list_any (λ k. eqb k rest.0) xs) rest.1, rest.2)
    ]

-- ---- spaces of a list
pub space_of_newest : (t : Space) (older : Spaces) → space_of (t ∷ older) (length older) ≡ t
space_of_newest t older = rw (eq-eqb (length older) (length older) refl)

pub space_of_older : (t : Space) (older : Spaces) (n : ℕ) → (n ≡ length older → ⊥) → space_of (t ∷ older) n ≡ space_of older n
space_of_older t older n other = rw (ne_eqb n (length older) other)

pub has_parent_stands : (spaces : Spaces) (n p : ℕ) → (space_of spaces n).parent ≡ Some p → n < length spaces
has_parent_stands [] n p parent = absurd (cc)
has_parent_stands (t ∷ older) n p parent =
    elim (cases_eq n (length older)) [
      | inl same ↦ omega arith
      | inr other ↦ let low : n < length older =
          has_parent_stands older n p (sym (ap (λ (s : Space). s.parent) (space_of_older t older n other)) ∙ parent) in
          omega arith
    ]

-- ---- chains
chain_older : (t : Space) (older : Spaces) (n : ℕ) → (n ≡ length older → ⊥) → chain (t ∷ older) n ≡ chain older n
chain_older t older n other = rw (ne_eqb (length older) n (λ same. other (sym same)))

pub chain_next : (spaces : Spaces) (n p : ℕ) → (space_of spaces n).parent ≡ Some p → p < n → chain spaces n ≡ n ∷ chain spaces p
chain_next [] n p parent low = absurd (cc)
chain_next (t ∷ older) n p parent low =
    elim (cases_eq n (length older)) [
      | inl same ↦
          let up : t.parent ≡ Some p = sym (ap (λ (s : Space). s.parent) (space_of_newest t older)) ∙ (rw same at parent) in
          let below : length older ≡ p → ⊥ = λ e. omega arith in
          rw same (rw (eq-eqb (length older) (length older) refl, up, ne_eqb (length older) p below))
      | inr other ↦
          let up : (space_of older n).parent ≡ Some p = sym (ap (λ (s : Space). s.parent) (space_of_older t older n other)) ∙ parent in
          let stands : n < length older = has_parent_stands older n p up in
          chain_older t older n other ∙ chain_next older n p up low ∙ ap (λ (c : List ℕ). n ∷ c) (sym (chain_older t older p (λ e. omega arith)))
    ]

pub chain_top : (spaces : Spaces) (n : ℕ) → (space_of spaces n).parent ≡ None → n < length spaces → chain spaces n ≡ n ∷ []
chain_top [] n parent low = absurd (omega arith)
chain_top (t ∷ older) n parent low =
    elim (cases_eq n (length older)) [
      | inl same ↦
          let up : t.parent ≡ None = sym (ap (λ (s : Space). s.parent) (space_of_newest t older)) ∙ (rw same at parent) in
          rw same (rw (eq-eqb (length older) (length older) refl, up, chain_none older))
      | inr other ↦
          let up : (space_of older n).parent ≡ None = sym (ap (λ (s : Space). s.parent) (space_of_older t older n other)) ∙ parent in
          chain_older t older n other ∙ chain_top older n up (omega arith)
    ]

-- ---- what is above a space
pub at_or_above_self : (spaces : Spaces) → Earlier spaces → (n : ℕ) → n < length spaces → IsTrue (is_at_or_above spaces n n)
at_or_above_self spaces earlier n low = at_parent (space_of spaces n).parent refl where
  at_parent : (o : Option ℕ) → (space_of spaces n).parent ≡ o → IsTrue (is_at_or_above spaces n n)
  at_parent None parent = rw (chain_top spaces n parent low) (or_left (eqb n n) false (eq-eqb n n refl))
  at_parent (Some p) parent = rw (chain_next spaces n p parent (earlier n p parent)) (or_left (eqb n n) (is_at_or_above spaces n p) (eq-eqb n n refl))

pub at_or_above_up : (spaces : Spaces) → Earlier spaces → (m n p : ℕ) → (space_of spaces n).parent ≡ Some p → IsTrue (is_at_or_above spaces m p)
    → IsTrue (is_at_or_above spaces m n)
at_or_above_up spaces earlier m n p parent above =
    rw (chain_next spaces n p parent (earlier n p parent)) (or_right (eqb n m) (is_at_or_above spaces m p) above)

pub at_or_above_cases : (spaces : Spaces) → Earlier spaces → (m n : ℕ) → IsTrue (is_at_or_above spaces m n)
    → (m ≡ n) ⊎ ((p : ℕ) × ((space_of spaces n).parent ≡ Some p) × IsTrue (is_at_or_above spaces m p))
at_or_above_cases spaces earlier m n above = at_parent (space_of spaces n).parent refl where
  one : (xs : List ℕ) → chain spaces n ≡ n ∷ xs → (m ≡ n) ⊎ IsTrue (list_any (λ k. eqb k m) xs)
  one xs same =
      elim (or_cases (eqb n m) (list_any (λ k. eqb k m) xs) (sym (ap (list_any (λ k. eqb k m)) same) ∙ above)) [
        | inl here ↦ inl (sym (eqb-true n m here))
        | inr there ↦ inr there
      ]

  top : (m ≡ n) ⊎ IsTrue (list_any (λ k. eqb k m) []) → (m ≡ n) ⊎ ((p : ℕ) × ((space_of spaces n).parent ≡ Some p) × IsTrue (is_at_or_above spaces m p))
  top (inl same) = inl same
  top (inr wrong) = absurd (false≢true wrong)

  next : (p : ℕ) → (space_of spaces n).parent ≡ Some p → (m ≡ n) ⊎ IsTrue (is_at_or_above spaces m p)
      → (m ≡ n) ⊎ ((p : ℕ) × ((space_of spaces n).parent ≡ Some p) × IsTrue (is_at_or_above spaces m p))
  next p parent (inl same) = inl same
  next p parent (inr there) = inr (p, parent, there)

  past : length spaces ≤ n → ⊥
  past high = false≢true (sym (ap (list_any (λ k. eqb k m)) (chain_empty spaces n high)) ∙ above)

  at_parent : (o : Option ℕ) → (space_of spaces n).parent ≡ o → (m ≡ n) ⊎ ((p : ℕ) × ((space_of spaces n).parent ≡ Some p) × IsTrue (is_at_or_above spaces m p))
  at_parent None parent =
      elim (cases_lt n (length spaces)) [
        | inl low ↦ top (one [] (chain_top spaces n parent low))
        | inr high ↦ absurd (past high)
      ]
  at_parent (Some p) parent = next p parent (one (chain spaces p) (chain_next spaces n p parent (earlier n p parent)))

-- Induction from a space up to one above it.
pub at_or_above_ind : (spaces : Spaces) → Earlier spaces → (m : ℕ) (P : ℕ → Type 0) → P m
    → ((n p : ℕ) → (space_of spaces n).parent ≡ Some p → IsTrue (is_at_or_above spaces m p) → P p → P n)
    → (fuel n : ℕ) → n < fuel → IsTrue (is_at_or_above spaces m n) → P n
at_or_above_ind spaces earlier m P base step zero n low above = absurd (omega arith)
at_or_above_ind spaces earlier m P base step (suc fuel) n low above =
    elim (at_or_above_cases spaces earlier m n above) [
      | inl same ↦ rw (← same) base
      | inr up ↦
          let before : up.0 < n = earlier n up.0 up.1 in
          step n up.0 up.1 up.2 (at_or_above_ind spaces earlier m P base step fuel up.0 (omega arith) up.2)
    ]

pub at_or_above_low : (spaces : Spaces) → Earlier spaces → (m n : ℕ) → IsTrue (is_at_or_above spaces m n) → m ≤ n
at_or_above_low spaces earlier m n above =
    at_or_above_ind spaces earlier m (λ k. m ≤ k) (omega arith) (λ k p parent up low. let before : p < k = earlier k p parent in omega arith)
    (suc n) n (omega arith) above

-- Above a space there is a next one on its chain.
pub next_exists : (spaces : Spaces) → Earlier spaces → (a n : ℕ) → IsTrue (is_at_or_above spaces a n) → (a ≡ n → ⊥)
    → (m : ℕ) × IsTrue (is_at_or_above spaces m n) × ((space_of spaces m).parent ≡ Some a)
next_exists spaces earlier a n above other =
    at_or_above_ind spaces earlier a (λ k. (a ≡ k → ⊥) → (m : ℕ) × IsTrue (is_at_or_above spaces m k) × ((space_of spaces m).parent ≡ Some a))
    (λ wrong. absurd (wrong refl))
    (λ k p parent up rest apart.
    elim (cases_eq a p) [
      | inl same ↦ (k, at_or_above_self spaces earlier k (has_parent_stands spaces k p parent), parent ∙ ap Some (sym same))
      | inr more ↦ let found = rest more in (found.0, at_or_above_up spaces earlier found.0 k p parent found.1, found.2)
    ])
    (suc n) n (omega arith) above other

-- ---- power
owned_parts : (spaces : Spaces) (m at euid : ℕ) → IsTrue (is_owned at euid (space_at spaces m))
    → ((space_of spaces m).parent ≡ Some at) × ((space_of spaces m).owner ≡ euid)
owned_parts spaces m at euid held = parts (space_at spaces m) held where
  the_one : (o : Option ℕ) → IsTrue (is_the o at) → o ≡ Some at
  the_one None wrong = absurd (false≢true wrong)
  the_one (Some p) same = ap Some (sym (eqb-true at p same))

  parts : (o : Option Space) → IsTrue (is_owned at euid o) → ((unwrap_or o no_space).parent ≡ Some at) × ((unwrap_or o no_space).owner ≡ euid)
  parts None wrong = absurd (false≢true wrong)
  parts (Some s) both =
      let two = and_parts (is_the s.parent at) (eqb s.owner euid) both in
      (the_one s.parent two.0, eqb-true s.owner euid two.1)

-- Whoever has power over a space has it by a space on the chain: its own, or one that it owns and whose parent is its own.
pub power_cases : (spaces : Spaces) (at effective euid cap n : ℕ) → IsTrue (over spaces at effective euid cap n)
    → (m : ℕ) × IsTrue (is_at_or_above spaces m n)
    × (((m ≡ at) × IsTrue (holds effective cap)) ⊎ (((space_of spaces m).parent ≡ Some at) × ((space_of spaces m).owner ≡ euid)))
power_cases spaces at effective euid cap n held =
    let found = any_item (gives_power spaces at effective euid cap) (chain spaces n) held in (
      found.0,
      found.1,
      elim (or_cases (eqb found.0 at && holds effective cap) (is_owned at euid (space_at spaces found.0)) found.2) [
        | inl here ↦ let two = and_parts (eqb found.0 at) (holds effective cap) here in inl (eqb-true found.0 at two.0, two.1)
        | inr owned ↦ inr (owned_parts spaces found.0 at euid owned)
      ],
    )

-- ---- two states of the spaces
pub same_chain : (old new : Spaces) → Earlier old → Earlier new → length old ≤ length new
    → ((n : ℕ) → n < length old → (space_of new n).parent ≡ (space_of old n).parent)
    → (fuel n : ℕ) → n < fuel → n < length old → chain new n ≡ chain old n
same_chain old new before after grown same zero n low stands = absurd (omega arith)
same_chain old new before after grown same (suc fuel) n low stands =
    at_parent (space_of old n).parent refl (same_chain old new before after grown same fuel) where
      at_parent : (o : Option ℕ) → (space_of old n).parent ≡ o
          → ((k : ℕ) → k < fuel → k < length old → chain new k ≡ chain old k) → chain new n ≡ chain old n
      at_parent None parent rest = chain_top new n (same n stands ∙ parent) (omega arith) ∙ sym (chain_top old n parent stands)
      at_parent (Some p) parent rest =
          let earlier : p < n = before n p parent in
          chain_next new n p (same n stands ∙ parent) earlier ∙ ap (λ (c : List ℕ). n ∷ c) (rest p (omega arith) (omega arith))
          ∙ sym (chain_next old n p parent earlier)

-- ---- rows
pub row_standing : {k : ℕ} {spaces : Spaces} {n a : ℕ} → RowOf k spaces n (Standing a) → (n ≡ a) × (n < k)
row_standing (own n low) = (refl, low)

pub row_same : {k : ℕ} (new old : Spaces) {n : ℕ} {row : Row} → ((m : ℕ) → (space_of new m).parent ≡ (space_of old m).parent)
    → RowOf k new n row → RowOf k old n row
row_same new old same (own n low) = own n low
row_same new old same (child n p a late parent up) = child n p a late (sym (same n) ∙ parent) (row_same new old same up)
row_same new old same (deeper n p a late parent up) = deeper n p a late (sym (same n) ∙ parent) (row_same new old same up)

-- the parent of an older space is older too
older_parent : (t : Space) (older : Spaces) → Earlier (t ∷ older) → (n p : ℕ) → (space_of (t ∷ older) n).parent ≡ Some p
    → n < length older
    → ((space_of older n).parent ≡ Some p) × (p < length older)
older_parent t older earlier n p parent stands =
    let before : p < n = earlier n p parent in
    (sym (ap (λ (s : Space). s.parent) (space_of_older t older n (λ e. omega arith))) ∙ parent, omega arith)

pub row_older : {k : ℕ} (t : Space) (older : Spaces) → Earlier (t ∷ older) → {n : ℕ} {row : Row} → RowOf k (t ∷ older) n row → n < length older
    → RowOf k older n row
row_older t older earlier (own n low) stands = own n low
row_older t older earlier (child n p a late parent up) stands =
    let was = older_parent t older earlier n p parent stands in
    child n p a late was.0 (row_older t older earlier up was.1)
row_older t older earlier (deeper n p a late parent up) stands =
    let was = older_parent t older earlier n p parent stands in
    deeper n p a late was.0 (row_older t older earlier up was.1)

-- the standing space of a fresh row stands
pub row_stands : {k : ℕ} {spaces : Spaces} {n a : ℕ} → RowOf k spaces n (Fresh a) → (a < k) × (k ≤ n)
row_stands (child n p a late parent up) = let two = row_standing up in (rw (← two.0) two.1, late)
row_stands (deeper n p a late parent up) = ((row_stands up).0, late)

-- what is at or above a space with a parent is that space, or at or above the parent
above_parent : (spaces : Spaces) → Earlier spaces → (m t p : ℕ) → (space_of spaces t).parent ≡ Some p
    → IsTrue (is_at_or_above spaces m t)
    → (m ≡ t) ⊎ IsTrue (is_at_or_above spaces m p)
above_parent spaces earlier m t p parent above =
    elim (at_or_above_cases spaces earlier m t above) [
      | inl same ↦ inl same
      | inr more ↦
          let both : Some more.0 ≡ Some p = sym more.1 ∙ parent in
          let one : more.0 ≡ p = cc in
          inr (rw one at more.2)
    ]

-- What is above a later space has its row, or is the standing space of that row or above it.
pub split_chain : {k : ℕ} {spaces : Spaces} → Earlier spaces → (m : ℕ) → {t a : ℕ} → RowOf k spaces t (Fresh a) → IsTrue (is_at_or_above spaces m t)
    → RowOf k spaces m (Fresh a) ⊎ IsTrue (is_at_or_above spaces m a)
split_chain {spaces = spaces} earlier m (child t p a late parent up) above =
    elim (above_parent spaces earlier m t p parent above) [
      | inl same ↦ inl (rw same (child t p a late parent up))
      | inr more ↦ inr (rw (row_standing up).0 at more)
    ]
split_chain {spaces = spaces} earlier m (deeper t p a late parent up) above =
    elim (above_parent spaces earlier m t p parent above) [
      | inl same ↦ inl (rw same (deeper t p a late parent up))
      | inr more ↦ split_chain earlier m up more
    ]
