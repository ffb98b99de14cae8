-- Where rows first fail is found, or they enclose the members: the first row that lacks what the start bounds hold; the
-- first rule and row at which they aren't closed; the first row by which they meet a right.
use Rattle.std.proofs.Common.{◌⊎◌, ℕ, ◌<◌, ◌≤◌, Bool, true, List, nat_le, refl, sym, inl, inr, subst, arith}
use Rattle.std.proofs.lemmas.Bool.{agree_below_at, cases_lt, leb-true}
use Rattle.std.specs.Prelude.{IsTrue}
use Rattle.cm_base.specs.CapSet.{cap_count}
use Rattle.cm_base.specs.Limits.{id_count}
use Rattle.cm_filter.specs.declared.kind.CallKind.{CallKind}
use Rattle.model_box.proofs.Numbers.{rule_low}
use Rattle.model_box.proofs.Starts.{row_back, number_back}
use Rattle.model_box.specs.Closed.{Adds, Closed, ClosedAt}
use Rattle.model_box.specs.Firsts.{IsFirstLacking, ClosedIn, IsFirstOpen}
use Rattle.model_box.specs.Meets.{MeetsAt, Meets, IsFirstMet}
use Rattle.model_box.specs.Row.{Part, Row, row_at, row_number, space_under}
use Rattle.model_box.specs.Rule.{Rule, rule_number}
use Rattle.model_box.specs.Start.{HoldsStart, HoldsStartAt, StartHas}
use Rattle.model_cred.specs.Files.{FileTable}
use Rattle.model_cred.specs.Process.{State, KeepsState}
use Rattle.model_cred.specs.Right.{Right}
use Rattle.model_cred.specs.Space.{stands}
use Rattle.model_verdict.proofs.Deciding.{Decided, some_below, FirstOf, first_of_which}
use Rattle.model_verdict.proofs.DecidedRules.{Fine, adds_decided, meets_at_decided}
use Rattle.model_verdict.proofs.Exists.{start_decided}
use Rattle.model_verdict.proofs.Limits.{adds_low, start_low, limit_low, one_bar}
use Rattle.model_verdict.proofs.RowLimits.{holds_all_decided}
use Rattle.model_verdict.proofs.Rounds.{standing_low}
use Rattle.model_verdict.proofs.Sweeps.{row_stands, rule_back}
use Rattle.model_verdict.specs.Sweep.{row_count, rule_at}

-- ---- the first of which it isn't so
not_so : {A : Type 0} → Decided A → Decided (A → ⊥)
not_so (inl is) = inr (λ never. never is)
not_so (inr never) = inl never

so_again : {A : Type 0} → Decided A → ((A → ⊥) → ⊥) → A
so_again (inl is) never = is
so_again (inr is_not) never = absurd (never is_not)

-- the first number below a limit of which it isn't so, with all before it so
pub record FirstNot (P : ℕ → Type 0) (limit : ℕ) : Type 0 where
  pub at : ℕ
  pub low : at < limit
  pub fails : P at → ⊥
  pub earlier : (x : ℕ) → x < at → P x

pub first_not : (P : ℕ → Type 0) → ((x : ℕ) → Decided (P x)) → (limit : ℕ) → FirstNot P limit ⊎ ((x : ℕ) → x < limit → P x)
first_not P each limit = by (some_below (λ x. P x → ⊥) (λ x. not_so (each x)) limit) where
  by : Decided ((x : ℕ) × (x < limit) × (P x → ⊥)) → FirstNot P limit ⊎ ((x : ℕ) → x < limit → P x)
  by (inr none) = inr (λ x low. so_again (each x) (λ fails. none (x, low, fails)))
  by (inl t) =
      let first : FirstOf (λ x. P x → ⊥) = first_of_which (λ x. P x → ⊥) (λ x. not_so (each x)) t.0 t.2 in
      inl (record {
        at = first.at;
        low = near first t.0 t.1 t.2;
        fails = first.is;
        earlier = λ x low. so_again (each x) (first.earlier x low);
      })
    where
      near : (first : FirstOf (λ x. P x → ⊥)) (n : ℕ) → n < limit → (P n → ⊥) → first.at < limit
      near first n low fails = elim (le_or n first.at) [
        | inl less ↦ absurd (first.earlier n less fails)
        | inr more ↦ omega (arith, more, low)
      ]
        where
          le_or : (a b : ℕ) → (a < b) ⊎ (b ≤ a)
          le_or a b = grind arith

-- the rule of a place has no greater number
rule_at_low : (m : ℕ) → rule_number (rule_at m) ≤ m
rule_at_low m =
    elim (cases_lt m 14) [
      | inl low ↦
          leb-true (rule_number (rule_at m)) m
          (agree_below_at (λ n. nat_le (rule_number (rule_at n)) n) (λ _. true) 14 m refl low)
      | inr high ↦ let few = rule_low (rule_at m) in omega (arith, few)
    ]

module _ (permitted : CallKind → Bool) (files : FileTable) (s : State) (members : List ℕ) (keeps : KeepsState s)
    (limit : ℕ) (high : cap_count ≤ limit) (bounds : Row → Part → ℕ → Type 0) (fine : Fine limit bounds) where
  -- what holds of the rows below the count holds of all rows of standing spaces
  each_row : (P : Row → Type 0) → ((y : ℕ) → y < row_count s.spaces → P (row_at y)) → (row : Row) → IsTrue (stands s.spaces (space_under row)) → P row
  each_row P all row standing = subst P (row_back row) (all (row_number row) (standing_low s.spaces row standing))

  -- ---- the start
  start_at : (row : Row) → Decided (HoldsStartAt s members bounds row)
  start_at row =
      holds_all_decided (StartHas s members row) (bounds row) id_count (start_decided s members row) (fine.each row)
      (λ part x has. omega (arith, start_low s members keeps row part x has, limit_low part))

  pub first_lacking : ((y : ℕ) × IsFirstLacking s members bounds y) ⊎ HoldsStart s members bounds
  first_lacking = elim (first_not (λ y. HoldsStartAt s members bounds (row_at y)) (λ y. start_at (row_at y)) (row_count s.spaces)) [
    | inl first ↦ inl (first.at, record { stands = row_stands s.spaces first.at first.low; lacks = first.fails; earlier = first.earlier })
    | inr all ↦ inr (each_row (λ row. HoldsStartAt s members bounds row) all)
  ]

  -- ---- the rules
  closed_at : (rule : Rule) (row : Row) → Decided (ClosedAt permitted files s.spaces bounds rule row)
  closed_at rule row =
      holds_all_decided (Adds permitted files s.spaces bounds rule row) (bounds row) limit
      (adds_decided permitted files s.spaces keeps.tree limit bounds fine rule row) (fine.each row)
      (λ part x added. subst (λ (n : ℕ). x < n) (one_bar limit part)
      (adds_low limit limit limit permitted files s.spaces bounds
      (λ row part x held. subst (λ (n : ℕ). x < n) (sym (one_bar limit part)) (fine.low row part x held)) high (omega (arith, high))
      rule row part x added))

  -- the first row at which a rule is open, or it is closed
  abbrev OpenAt : Rule → Type 0
  OpenAt rule = FirstNot (λ y. ClosedAt permitted files s.spaces bounds rule (row_at y)) (row_count s.spaces)

  first_row : (rule : Rule) → OpenAt rule ⊎ ClosedIn permitted files s.spaces bounds rule
  first_row rule =
      elim (first_not (λ y. ClosedAt permitted files s.spaces bounds rule (row_at y)) (λ y. closed_at rule (row_at y)) (row_count s.spaces)) [
        | inl first ↦ inl first
        | inr all ↦ inr (each_row (λ row. ClosedAt permitted files s.spaces bounds rule row) all)
      ]

  not_closed : (rule : Rule) → OpenAt rule → ClosedIn permitted files s.spaces bounds rule → ⊥
  not_closed rule open_at closed = open_at.fails (closed (row_at open_at.at) (row_stands s.spaces open_at.at open_at.low))

  closed_in : (rule : Rule) → Decided (ClosedIn permitted files s.spaces bounds rule)
  closed_in rule = elim (first_row rule) [ inl open_at ↦ inr (not_closed rule open_at) | inr closed ↦ inl closed ]

  pub first_open : ((rule : Rule) × (y : ℕ) × IsFirstOpen permitted files s.spaces bounds rule y) ⊎ Closed permitted files s.spaces bounds
  first_open = elim (first_not (λ m. ClosedIn permitted files s.spaces bounds (rule_at m)) (λ m. closed_in (rule_at m)) 14) [
    | inl first ↦ inl (open_there first (first_row (rule_at first.at)))
    | inr all ↦ inr (λ rule. subst (λ (r : Rule). ClosedIn permitted files s.spaces bounds r) (rule_back rule) (all (rule_number rule) (rule_low rule)))
  ]
    where
      open_there : (first : FirstNot (λ m. ClosedIn permitted files s.spaces bounds (rule_at m)) 14)
          → OpenAt (rule_at first.at) ⊎ ClosedIn permitted files s.spaces bounds (rule_at first.at)
          → (rule : Rule) × (y : ℕ) × IsFirstOpen permitted files s.spaces bounds rule y
      open_there first (inr closed) = absurd (first.fails closed)
      open_there first (inl row) = (
        rule_at first.at,
        row.at,
        record {
          row = record { stands = row_stands s.spaces row.at row.low; unmet = row.fails; earlier = row.earlier };
          earlier = λ other less.
              subst (λ (r : Rule). ClosedIn permitted files s.spaces bounds r) (rule_back other)
              (first.earlier (rule_number other) (omega (arith, less, rule_at_low first.at)));
        },
      )

  -- ---- a right
  pub first_met : (right : Right) → ((row : Row) × IsFirstMet s.spaces bounds right row) ⊎ (Meets s.spaces bounds right → ⊥)
  first_met right = elim (first_not (λ y. MeetsAt s.spaces bounds right (row_at y) → ⊥) (λ y. not_so (meets_at (row_at y))) (row_count s.spaces)) [
    | inl first ↦ inl (
      row_at first.at,
      record {
        standing = row_stands s.spaces first.at first.low;
        meets = so_again (meets_at (row_at first.at)) first.fails;
        first = λ earlier less met.
            first.earlier (row_number earlier) (subst (λ (n : ℕ). row_number earlier < n) (number_back first.at) less)
            (subst (λ (r : Row). MeetsAt s.spaces bounds right r) (sym (row_back earlier)) met);
      },
    )
    | inr none ↦ inr (λ met. each_row (λ row. MeetsAt s.spaces bounds right row → ⊥) none met.0 met.1 met.2)
  ]
    where
      meets_at : (row : Row) → Decided (MeetsAt s.spaces bounds right row)
      meets_at row = meets_at_decided permitted files s.spaces keeps.tree limit bounds fine right row
