-- What a map takes an id to, both ways: `down` and `up` compute the relation, and give ids.
use Rattle.std.proofs.Common.{◌≡◌, ℕ, ◌+◌, ◌-◌, ◌<◌, ◌↔◌, length, List, [], ◌∷◌, Option, Some, if◌then◌else◌, get_or, refl, sym, ap, subst, ◌∙◌, arith}
use Rattle.std.specs.Prelude.{Any}
use Rattle.model_cred.specs.IdMap.{Extent, down, up, lies_in, Maps, TakesTo}
use Rattle.model_cred.specs.MapFault.{IsMap}
use Rattle.cm_idmap.proofs.Sides.{Holds, image, found, given}
use Rattle.cm_idmap.proofs.Faultless.{Fits, map_fits, map_apart}

down_image : (map : List Extent) (id : ℕ) → down map id ≡ image (λ e. e.inside) (λ e. e.outside) map id
down_image [] id = refl
down_image (e ∷ map) id = ap (λ rest. if lies_in e.inside e.length id then Some (e.outside + (id - e.inside)) else rest) (down_image map id)

up_image : (map : List Extent) (id : ℕ) → up map id ≡ image (λ e. e.outside) (λ e. e.inside) map id
up_image [] id = refl
up_image (e ∷ map) id = ap (λ rest. if lies_in e.outside e.length id then Some (e.inside + (id - e.outside)) else rest) (up_image map id)

any_as : (P Q : Extent → Type 0) (map : List Extent) → ((e : Extent) → P e → Q e) → Any P map → Any Q map
any_as P Q map as_q (k, e, below, is, holds) = (k, e, below, is, as_q e holds)

-- `down` gives just the outside id that the map takes the inside id to
pub down_maps : (map : List Extent) (id out : ℕ) → IsMap map → (down map id ≡ Some out) ↔ Maps map id out
down_maps map id out is = (
  λ gives.
      any_as _ _ map (λ e h. record { from_first = h.low; before_end = h.high; to = h.image })
      (found (λ e. e.inside) (λ e. e.outside) map id out (sym (down_image map id) ∙ gives)),
  λ takes. down_image map id
      ∙ given (λ e. e.inside) (λ e. e.outside) map id out (map_apart map is).0
      (any_as _ _ map (λ e t. record { low = t.from_first; high = t.before_end; image = t.to }) takes),
)

held_outside : (id out : ℕ) (e : Extent) → Holds (λ e. e.outside) (λ e. e.inside) out id e → TakesTo id out e
held_outside id out e h = record { from_first = omega (arith, h.image); before_end = omega (arith, h.low, h.high, h.image); to = omega (arith, h.low, h.image) }

holds_outside : (id out : ℕ) (e : Extent) → TakesTo id out e → Holds (λ e. e.outside) (λ e. e.inside) out id e
holds_outside id out e t = record {
  low = omega (arith, t.to);
  high = omega (arith, t.from_first, t.before_end, t.to);
  image = omega (arith, t.from_first, t.to);
}

-- `up` gives just the inside id that the map takes to the outside id
pub up_maps : (map : List Extent) (id out : ℕ) → IsMap map → (up map out ≡ Some id) ↔ Maps map id out
up_maps map id out is = (
  λ gives. any_as _ _ map (held_outside id out) (found (λ e. e.outside) (λ e. e.inside) map out id (sym (up_image map out) ∙ gives)),
  λ takes. up_image map out ∙ given (λ e. e.outside) (λ e. e.inside) map out id (map_apart map is).1 (any_as _ _ map (holds_outside id out) takes),
)

-- an answer that is what `down` computes is there just where the map takes the id to it
pub down_answer : (map : List Extent) (id : ℕ) (answer : Option ℕ) → IsMap map → answer ≡ down map id → (out : ℕ) → (answer ≡ Some out) ↔ Maps map id out
down_answer map id answer is same out = (λ it. (down_maps map id out is).0 (sym same ∙ it), λ takes. same ∙ (down_maps map id out is).1 takes)

-- an answer that is what `up` computes is there just where the map takes it to the id
pub up_answer : (map : List Extent) (out : ℕ) (answer : Option ℕ) → IsMap map → answer ≡ up map out → (id : ℕ) → (answer ≡ Some id) ↔ Maps map id out
up_answer map out answer is same id = (λ it. (up_maps map id out is).0 (sym same ∙ it), λ takes. same ∙ (up_maps map id out is).1 takes)

-- each extent of a map, at its place, ends within the ids
pub fits_at : (map : List Extent) (k : ℕ) (e : Extent) → IsMap map → k < length map → get_or map k e ≡ e → Fits e
fits_at map k e is below at = subst Fits at (map_fits map is k e below)
