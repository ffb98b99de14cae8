-- Calls of all shapes but one carry no filter, and so install none.
use Rattle.std.proofs.Common.{◌≡◌, sym, subst}
use Rattle.cm_filter.specs.declared.kind.CallKind.{CallKind}
use Rattle.cm_filter.specs.declared.shape.Shape.{Shape}
use Rattle.cm_filter.specs.declared.shape.Shape.TheVariants.{ManyKinds}
use Rattle.cm_filter.specs.Shapes.{arguments_by, shape_of}
use Rattle.model_cred.specs.Call.{Call, kind_of}
use Rattle.model_cred.specs.Carried.{Carries}
use Rattle.model_text.specs.Written.{CarriesFilter, InstallsFilter}

-- a call of the shape carries no filter
abbrev pub IsBare : Shape → Type 0
IsBare ManyKinds = ⊥
IsBare _ = Unit {0}

carries_none : (shape : Shape) → IsBare shape → (carried : Carries (arguments_by shape))
    → CarriesFilter (arguments_by shape) carried
carries_none ManyKinds bare carried = absurd bare
carries_none _ bare carried = tt

-- so a call of such a kind installs none
pub installs_none : (kind : CallKind) (call : Call) → IsBare (shape_of kind) → kind_of call ≡ kind → InstallsFilter call
installs_none kind call bare is =
    carries_none (shape_of (kind_of call)) (subst (λ (k : CallKind). IsBare (shape_of k)) (sym is) bare) call.1
