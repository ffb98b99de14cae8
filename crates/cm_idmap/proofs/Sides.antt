-- One side of a list of extents at a time: what the first extent that holds an id makes of it, and that this is what
-- any extent makes of it where no two have an id in common on that side.
use Rattle.std.proofs.Common.{◌≡◌, ℕ, zero, suc, ◌+◌, ◌-◌, ◌<◌, ◌≤◌, true, false, List, [], ◌∷◌, Option, None, Some}
use Rattle.std.proofs.Common.{if◌then◌else◌, refl, sym, ap, subst, ◌∙◌, inl, inr, arith}
use Rattle.std.specs.Prelude.{All, Any}
use Rattle.std.proofs.lemmas.Bool.{cases_Bool, and_from, cond-true, cond-false, lt-ltb}
use Rattle.model_cred.specs.IdMap.{Extent, lies_in}
use Rattle.model_cred.specs.MapFault.{ranges_meet}
use Rattle.model_rules.proofs.Ranges.{lies_parts, lies_from}

-- The extent holds the id, and the other id lies as far after its other side.
pub record Holds (from to : Extent → ℕ) (id out : ℕ) (e : Extent) : Type 0 where
  pub low : from e ≤ id
  pub high : id < from e + e.length
  pub image : out ≡ to e + (id - from e)

-- what the first extent that holds the id makes of it
abbrev pub image : (Extent → ℕ) → (Extent → ℕ) → List Extent → ℕ → Option ℕ
image from to [] id = None
image from to (e ∷ map) id = if lies_in (from e) e.length id then Some (to e + (id - from e)) else image from to map id

-- the two extents have no id in common on that side
abbrev pub Apart : (Extent → ℕ) → Extent → Extent → Type 0
Apart from e f = ranges_meet (from e) e.length (from f) f.length ≡ false

-- no two extents have an id in common on that side
abbrev pub AllApart : (Extent → ℕ) → List Extent → Type 0
AllApart from [] = Unit {0}
AllApart from (e ∷ map) = All (Apart from e) map × AllApart from map

-- two ranges that hold one id meet
pub meet_at : (first count other other_count id : ℕ)
    → first ≤ id → id < first + count → other ≤ id → id < other + other_count → ranges_meet first count other other_count ≡ true
meet_at first count other other_count id low high other_low other_high =
    and_from _ _ (lt-ltb first (other + other_count) (omega arith)) (lt-ltb other (first + count) (omega arith))

-- what holds of one of the extents does so after another is put in front
pub later : (P : Extent → Type 0) (e : Extent) (map : List Extent) → Any P map → Any P (e ∷ map)
later P e map (k, x, below, is, holds) = (suc k, x, omega (arith, below), is, holds)

-- what is made of an id is made of it by an extent
pub found : (from to : Extent → ℕ) (map : List Extent) (id out : ℕ) → image from to map id ≡ Some out → Any (Holds from to id out) map
found from to [] id out is = absurd (cc)
found from to (e ∷ map) id out is =
    elim (cases_Bool (lies_in (from e) e.length id)) [
      | inl within ↦
          let it : Some (to e + (id - from e)) ≡ Some out
          = sym (cond-true (lies_in (from e) e.length id) (Some (to e + (id - from e))) (image from to map id) within)
          ∙ is in
          let made : to e + (id - from e) ≡ out = cc in
          let parts : (from e ≤ id) × (id < from e + e.length) = lies_parts (from e) e.length id within in
          (0, e, omega arith, refl, record { low = parts.0; high = parts.1; image = sym made })
      | inr outside ↦
          later _ e map (found from to map id out
          (sym (cond-false (lies_in (from e) e.length id) (Some (to e + (id - from e)))
          (image from to map id) outside)
          ∙ is))
    ]

-- what an extent makes of an id is made of it, where no two have an id in common
pub given : (from to : Extent → ℕ) (map : List Extent) (id out : ℕ) → AllApart from map → Any (Holds from to id out) map → image from to map id ≡ Some out
given from to [] id out apart (k, x, below, is, holds) = absurd (omega (arith, below))
given from to (e ∷ map) id out apart (zero, x, below, is, holds) =
    let here : Holds from to id out e = subst (Holds from to id out) (sym is) holds in
    cond-true (lies_in (from e) e.length id) (Some (to e + (id - from e))) (image from to map id) (lies_from (from e) e.length id here.low here.high)
    ∙ ap Some (sym here.image)
given from to (e ∷ map) id out apart (suc k, x, below, is, holds) =
    elim (cases_Bool (lies_in (from e) e.length id)) [
      | inl within ↦
          let parts : (from e ≤ id) × (id < from e + e.length) = lies_parts (from e) e.length id within in
          let none : Apart from e x = subst (Apart from e) is (apart.0 k x (omega (arith, below))) in
          let some : ranges_meet (from e) e.length (from x) x.length ≡ true
          = meet_at (from e) e.length (from x) x.length id parts.0 parts.1 holds.low holds.high in
          absurd (cc)
      | inr outside ↦
          cond-false (lies_in (from e) e.length id) (Some (to e + (id - from e))) (image from to map id) outside
          ∙ given from to map id out apart.1 (k, x, omega (arith, below), is, holds)
    ]
