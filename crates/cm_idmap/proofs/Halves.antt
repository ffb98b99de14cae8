-- How far a search by halves has come in a list of extents in the order of one side, and what it has cost.
use Rattle.std.proofs.Common.{◌≡◌, ℕ, suc, ◌+◌, ◌-◌, ◌*◌, ◌^◌, ◌<◌, ◌≤◌, false, List, None, Some, sym, subst, ◌∙◌, ap, inl, inr, length, arith, slice_index_or}
use Rattle.std.specs.Prelude.{find, slice_get}
use Rattle.std.proofs.Math.Nat.{pow-suc, le-mul_of_pos_right, mul-le-mul_left}
use Rattle.std.proofs.lemmas.Bool.{cases_lt}
use Rattle.std.proofs.lemmas.Option.{get_or_from_slice_get, slice_get_within}
use Rattle.model_cred.specs.IdMap.{Extent, lies_in}
use Rattle.model_rules.proofs.Ranges.{lies_from}
use Rattle.cm_idmap.specs.declared.side.Side.{Side}
use Rattle.cm_idmap.specs.Sides.{first_of, holds, AscendsOn}
use Rattle.cm_idmap.proofs.Finds.{find_first, find_none}

-- No extent before low holds the id, none from high on; and what the steps since the first one have cost.
pub record Halved (side : Side) (list : List Extent) (id low high before steps : ℕ) : Type 0 where
  pub ordered : low ≤ high
  pub within : high ≤ length list
  pub below : (k : ℕ) (d : Extent) → k < low → holds side id (slice_index_or list k d) ≡ false
  pub above : (k : ℕ) (d : Extent) → high ≤ k → k < length list → holds side id (slice_index_or list k d) ≡ false
  pub counted : before ≤ steps
  pub left : 2 ^ (steps - before) * (high - low) ≤ length list
  pub cost : 2 ^ (steps - before) ≤ 2 * length list + 1

-- ---- ids before and after an extent
before_it : (first count id : ℕ) → id < first → lies_in first count id ≡ false
before_it first count id low = grind (arith, low)

after_it : (first count id : ℕ) → first + count ≤ id → lies_in first count id ≡ false
after_it first count id high = grind (arith, high)

-- an id past an extent is in none before it
none_before : (side : Side) (list : List Extent) (id m k : ℕ) (d : Extent) → AscendsOn side list → m < length list
    → first_of side (slice_index_or list m d) + (slice_index_or list m d).length ≤ id → k < suc m → holds side id (slice_index_or list k d) ≡ false
none_before side list id m k d order within past low =
    elim (cases_lt k m) [
      | inl less ↦ after_it _ _ id (omega (arith, order k m d less within, past))
      | inr same ↦ let it : k ≡ m = omega (arith, same, low) in subst (λ i. holds side id (slice_index_or list i d) ≡ false) (sym it) (after_it _ _ id past)
    ]

-- an id before an extent is in none from there on
none_after : (side : Side) (list : List Extent) (id m k : ℕ) (d : Extent) → AscendsOn side list → k < length list
    → id < first_of side (slice_index_or list m d) → m ≤ k → holds side id (slice_index_or list k d) ≡ false
none_after side list id m k d order within before from =
    elim (cases_lt m k) [
      | inl less ↦ before_it _ _ id (omega (arith, order m k d less within, before))
      | inr same ↦ let it : k ≡ m = omega (arith, same, from) in subst (λ i. holds side id (slice_index_or list i d) ≡ false) (sym it) (before_it _ _ id before)
    ]

-- an id in an extent is in none before it
none_earlier : (side : Side) (list : List Extent) (id m k : ℕ) (d : Extent) → AscendsOn side list → m < length list
    → first_of side (slice_index_or list m d) ≤ id → k < m → holds side id (slice_index_or list k d) ≡ false
none_earlier side list id m k d order within from low = after_it _ _ id (omega (arith, order k m d low within, from))

-- ---- the cost
doubled : (before steps : ℕ) → before ≤ steps → 2 ^ (steps + 1 - before) ≡ 2 * 2 ^ (steps - before)
doubled before steps low =
    let more : steps + 1 - before ≡ suc (steps - before) = omega arith in
    rw (more, pow-suc) (omega arith)

half_left : (p n r less : ℕ) → 2 * less ≤ r → p * r ≤ n → 2 * p * less ≤ n
half_left p n r less half left = let it : p * (2 * less) ≤ p * r = mul-le-mul_left p half in omega arith

half_cost : (p n r : ℕ) → 0 < r → p * r ≤ n → 2 * p ≤ 2 * n + 1
half_cost p n r some left = let it : p ≤ p * r = le-mul_of_pos_right p some in omega arith

record Cost (count before steps less : ℕ) : Type 0 where
  pub counted : before ≤ steps
  pub left : 2 ^ (steps - before) * less ≤ count
  pub cost : 2 ^ (steps - before) ≤ 2 * count + 1

cost_more : (count before steps after r less : ℕ) → before ≤ steps → 2 ^ (steps - before) * r ≤ count → 0 < r → 2 * less ≤ r → after ≡ steps + 1
    → Cost count before after less
cost_more count before steps after r less low left some half is =
    let more : 2 ^ (after - before) ≡ 2 * 2 ^ (steps - before) = ap (λ n. 2 ^ (n - before)) is ∙ doubled before steps low in
    record {
      counted = omega (arith, low, is);
      left = rw more (half_left _ count r less half left);
      cost = rw more (half_cost _ count r some left);
    }

-- ---- one look
-- the id is below the extent at a place: what is left are those before it, at most half of them
pub halved_below : (side : Side) (list : List Extent) (id low high before steps after m : ℕ) (e : Extent) → AscendsOn side list
    → Halved side list id low high before steps → slice_get list m ≡ Some e → id < first_of side e → low ≤ m → m < high → 2 * (m - low) ≤ high - low
    → after ≡ steps + 1 → Halved side list id low m before after
halved_below side list id low high before steps after m e order h is under from some half counted =
    let cost = cost_more (length list) before steps after (high - low) (m - low) h.counted h.left (omega (arith, some, from)) half counted in
    record {
      ordered = from;
      within = omega (arith, h.within, some);
      below = h.below;
      above = λ k d past within. none_after side list id m k d order within (rw (get_or_from_slice_get list m e d is) under) past;
      counted = cost.counted;
      left = cost.left;
      cost = cost.cost;
    }

-- the id is above it: what is left are those after it
pub halved_above : (side : Side) (list : List Extent) (id low high before steps after m next : ℕ) (e : Extent) → AscendsOn side list
    → Halved side list id low high before steps → slice_get list m ≡ Some e → first_of side e + e.length ≤ id → low ≤ m → m < high → next ≡ m + 1
    → 2 * (high - next) ≤ high - low → after ≡ steps + 1 → Halved side list id next high before after
halved_above side list id low high before steps after m next e order h is over from some follows half counted =
    let within : m < length list = slice_get_within list m e is in
    let cost = cost_more (length list) before steps after (high - low) (high - next) h.counted h.left (omega (arith, some, from)) half counted in
    record {
      ordered = omega (arith, some, follows);
      within = h.within;
      below = λ k d less. none_before side list id m k d order within (rw (get_or_from_slice_get list m e d is) over) (omega (arith, less, follows));
      above = h.above;
      counted = cost.counted;
      left = cost.left;
      cost = cost.cost;
    }

-- the id is in the extent: it is the first that holds it
pub halved_in : (side : Side) (list : List Extent) (id m : ℕ) (e : Extent) → AscendsOn side list → slice_get list m ≡ Some e
    → first_of side e ≤ id → id < first_of side e + e.length → find (holds side id) list ≡ Some e
halved_in side list id m e order is from below =
    find_first (holds side id) list m e is (lies_from (first_of side e) e.length id from below)
    (λ k d less. none_earlier side list id m k d order (slice_get_within list m e is) (rw (get_or_from_slice_get list m e d is) from) less)

-- the steps up to the look that finds it
pub halved_cost : (side : Side) (list : List Extent) (id low high before steps after : ℕ) → Halved side list id low high before steps → low < high
    → after ≡ steps + 1 → 2 ^ (after - before) ≤ 2 * length list + 1
halved_cost side list id low high before steps after h some counted =
    (cost_more (length list) before steps after (high - low) 0 h.counted h.left (omega (arith, some)) (omega arith) counted).cost

-- nothing is left to look at
pub halved_all : (side : Side) (list : List Extent) (id low high before steps : ℕ) → Halved side list id low high before steps → high ≤ low
    → find (holds side id) list ≡ None
halved_all side list id low high before steps h none =
    find_none (holds side id) list (λ k d within.
    elim (cases_lt k low) [ inl less ↦ h.below k d less | inr more ↦ h.above k d (omega (arith, none, more)) within ])
