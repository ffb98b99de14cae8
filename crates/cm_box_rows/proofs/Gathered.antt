-- Sets that grow as a loop goes over numbers: what they hold so far is what some number below the next one gives.
use Rattle.std.proofs.Common.{◌≡◌, ℕ, ◌+◌, ◌<◌, ◌≤◌, inl, inr, arith, subst}
use Rattle.std.specs.Prelude.{◌↔◌, ◌⊎◌}
use Rattle.std.proofs.lemmas.Bool.{cases_lt}

-- a number below that one gives it
abbrev pub GivenBelow : (ℕ → ℕ → Type 0) → ℕ → ℕ → Type 0
GivenBelow Gives n x = (k : ℕ) × (k < n) × Gives k x

-- with what one number gives, the next one's turn comes
pub gathered_more : (Gives : ℕ → ℕ → Type 0) (Set More : ℕ → Type 0) (n : ℕ) → ((x : ℕ) → Set x ↔ GivenBelow Gives n x)
    → ((x : ℕ) → More x ↔ (Set x ⊎ Gives n x)) → (x : ℕ) → More x ↔ GivenBelow Gives (n + 1) x
gathered_more Gives Set More n so_far here x = (to, from) where
  to : More x → GivenBelow Gives (n + 1) x
  to has = elim ((here x).0 has) [
    | inl old ↦
        let below : GivenBelow Gives n x = (so_far x).0 old in
        let low : below.0 < n = below.1 in
        (below.0, omega arith, below.2)
    | inr new ↦ (n, omega arith, new)
  ]

  from : GivenBelow Gives (n + 1) x → More x
  from (k, low, gives) = (here x).1 (elim (cases_lt k n) [
    | inl lower ↦ inl ((so_far x).1 (k, lower, gives))
    | inr high ↦ let same : k ≡ n = omega arith in inr (subst (λ (j : ℕ). Gives j x) same gives)
  ])

-- the same where what the number gives was gathered into a set of its own
pub gathered_join : (Gives : ℕ → ℕ → Type 0) (Set Here More : ℕ → Type 0) (n : ℕ)
    → ((x : ℕ) → Set x ↔ GivenBelow Gives n x) → ((x : ℕ) → Here x ↔ Gives n x)
    → ((x : ℕ) → More x ↔ (Set x ⊎ Here x)) → (x : ℕ) → More x ↔ GivenBelow Gives (n + 1) x
gathered_join Gives Set Here More n so_far here both =
    gathered_more Gives Set More n so_far (λ x. (
      λ has. elim ((both x).0 has) [ inl old ↦ inl old | inr new ↦ inr ((here x).0 new) ],
      λ has. (both x).1 (elim has [ inl old ↦ inl old | inr new ↦ inr ((here x).1 new) ]),
    ))

-- and where it gives none, nothing more comes
pub gathered_none : (Gives : ℕ → ℕ → Type 0) (Set : ℕ → Type 0) (n : ℕ) → ((x : ℕ) → Set x ↔ GivenBelow Gives n x)
    → ((x : ℕ) → Gives n x → ⊥) → (x : ℕ) → Set x ↔ GivenBelow Gives (n + 1) x
gathered_none Gives Set n so_far none =
    gathered_more Gives Set Set n so_far (λ x. (inl, λ has. elim has [ inl old ↦ old | inr new ↦ absurd (none x new) ]))

-- where no later number gives any, all is gathered
pub gathered_all : (Gives : ℕ → ℕ → Type 0) (Set : ℕ → Type 0) (n : ℕ) → ((x : ℕ) → Set x ↔ GivenBelow Gives n x)
    → ((k x : ℕ) → n ≤ k → Gives k x → ⊥) → (x : ℕ) → Set x ↔ ((k : ℕ) × Gives k x)
gathered_all Gives Set n so_far none x = (to, from) where
  to : Set x → (k : ℕ) × Gives k x
  to has = let below : GivenBelow Gives n x = (so_far x).0 has in (below.0, below.2)

  from : ((k : ℕ) × Gives k x) → Set x
  from (k, gives) = elim (cases_lt k n) [
    | inl low ↦ (so_far x).1 (k, low, gives)
    | inr past ↦ absurd (none k x past gives)
  ]
