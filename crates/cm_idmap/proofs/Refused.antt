-- Lists that are refused are no maps.
use Rattle.std.proofs.Common.{◌≡◌, false, List, refl, sym, ap, ◌∙◌}
use Rattle.std.specs.Prelude.{is_none}
use Rattle.cm_idmap.specs.Fault.{fault_of}
use Rattle.cm_idmap.specs.declared.fault.BadMap.{BadMap}
use Rattle.cm_idmap.specs.declared.fault.BadMap.TheVariants as answer
use Rattle.model_cred.specs.IdMap.{Extent}
use Rattle.model_cred.specs.MapFault.{is_map, map_fault}

-- each refusal but NoMemory tells a fault
fault_told : (e : BadMap) → (e ≡ answer.NoMemory → ⊥) → is_none (fault_of e) ≡ false
fault_told answer.NoMemory other = absurd (other refl)
fault_told _ other = refl

-- so that the list is no map
pub refused_no_map : (list : List Extent) (e : BadMap) → map_fault list ≡ fault_of e → (e ≡ answer.NoMemory → ⊥)
    → false ≡ is_map list
refused_no_map list e is other = sym (ap is_none is ∙ fault_told e other)
