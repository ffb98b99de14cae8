-- The outside ids of a map, line by line.
use Rattle.std.proofs.Common.{◌≡◌, ℕ, zero, suc, ◌+◌, ◌<◌, ◌||◌, Bool, true, false, List, [], ◌∷◌, ◌++◌, length, get_or}
use Rattle.std.proofs.Common.{take, refl, sym, ap, ◌∙◌, inl, inr}
use Rattle.std.specs.Prelude.{IsTrue, if◌then◌else◌}
use Rattle.std.proofs.lemmas.Bool.{false≢true, or_cases, or_left, or_right}
use Rattle.std.proofs.lemmas.List.{take_more}
use Rattle.cm_sets.specs.Sets.{AreSame, InEither}
use Rattle.cm_idset.specs.Held.{Held}
use Rattle.model_cred.specs.IdMap.{Extent, is_outside, lies_in}
use Rattle.model_cred.specs.Intervals.{Interval}

abbrev pub Outside : List Extent → ℕ → Type 0
Outside map x = IsTrue (is_outside map x)

if_either : (b r s t : Bool) → r ≡ (s || t) → (if b then true else r) ≡ ((if b then true else s) || t)
if_either true r s t is = refl
if_either false r s t is = is

if_test : (b : Bool) → (if b then true else false) ≡ b
if_test true = refl
if_test false = refl

if_more : (b r s : Bool) → (IsTrue r → IsTrue s) → IsTrue (if b then true else r) → IsTrue (if b then true else s)
if_more true r s more _ = refl
if_more false r s more is = more is

-- a map with one line more
outside_more : (map : List Extent) (e : Extent) (x : ℕ)
    → is_outside (map ++ e ∷ []) x ≡ (is_outside map x || lies_in e.outside e.length x)
outside_more [] e x = if_test (lies_in e.outside e.length x)
outside_more (f ∷ map) e x =
    if_either (lies_in f.outside f.length x) (is_outside (map ++ e ∷ []) x) (is_outside map x)
    (lies_in e.outside e.length x) (outside_more map e x)

-- the first lines of a map, and the next one
pub outside_taken : (map : List Extent) (k : ℕ) (e : Extent) → k < length map → e ≡ get_or map k e → (x : ℕ)
    → is_outside (take (k + 1) map) x ≡ (is_outside (take k map) x || lies_in e.outside e.length x)
outside_taken map k e low at x =
    ap (λ (m : List Extent). is_outside m x) (take_more map k e low ∙ ap (λ (f : Extent). take k map ++ f ∷ [])
    (sym at))
    ∙ outside_more (take k map) e x

-- an outside id of the first lines is one of the map
pub outside_kept : (map : List Extent) (k : ℕ) (x : ℕ) → Outside (take k map) x → Outside map x
outside_kept map zero x out = absurd (false≢true out)
outside_kept [] (suc k) x out = out
outside_kept (e ∷ map) (suc k) x out = if_more (lies_in e.outside e.length x) (is_outside (take k map) x)
    (is_outside map x) (outside_kept map k x) out

pub outside_step : (map : List Extent) (k : ℕ) (e : Extent) (ids more both : List Interval) → k < length map
    → e ≡ get_or map k e
    → AreSame (Held ids) (Outside (take k map)) → AreSame (Held more) (λ x. IsTrue (lies_in e.outside e.length x))
    → AreSame (Held both) (InEither (Held ids) (Held more)) → AreSame (Held both) (Outside (take (k + 1) map))
outside_step map k e ids more both low at so_far line either x = (to, from) where
  whole : is_outside (take (k + 1) map) x ≡ (is_outside (take k map) x || lies_in e.outside e.length x)
  whole = outside_taken map k e low at x

  to : Held both x → Outside (take (k + 1) map) x
  to held = whole ∙ elim ((either x).0 held) [
    | inl a ↦ or_left (is_outside (take k map) x) (lies_in e.outside e.length x) ((so_far x).0 a)
    | inr b ↦ or_right (is_outside (take k map) x) (lies_in e.outside e.length x) ((line x).0 b)
  ]

  from : Outside (take (k + 1) map) x → Held both x
  from out = (either x).1 (elim (or_cases (is_outside (take k map) x) (lies_in e.outside e.length x) (sym whole ∙ out)) [
    | inl a ↦ inl ((so_far x).1 a)
    | inr b ↦ inr ((line x).1 b)
  ])
