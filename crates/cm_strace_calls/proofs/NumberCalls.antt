-- Calls of a number, by their shapes.
use Rattle.std.proofs.Common.{◌≡◌, ℕ, [], ◌∷◌, refl, sym, ap, subst, ◌∙◌}
use Rattle.cm_filter.specs.declared.kind.CallKind.{CallKind}
use Rattle.cm_filter.specs.declared.shape.Shape.TheVariants.{OneCap, OneNumber}
use Rattle.cm_filter.specs.Shapes.{shape_of}
use Rattle.cm_strace_calls.specs.Made.{number_argument, number_call}
use Rattle.model_cred.specs.Arguments.{Cap, Number, arguments_of}
use Rattle.model_cred.specs.Call.{Call, kind_of}
use Rattle.model_text.proofs.BareCalls.{IsBare, installs_none}
use Rattle.model_text.proofs.ReadBack.{made_call}

-- the call that has that argument
is_made : (kind : CallKind) (n : ℕ) (call : Call) → IsBare (shape_of kind) → kind_of call ≡ kind
    → arguments_of call ≡ number_argument (shape_of kind) n ∷ [] → call ≡ number_call kind n
is_made kind n call bare is from =
    rw (made_call kind (number_argument (shape_of kind) n ∷ []) call (installs_none kind call bare is) is from) refl

-- one of a capability
pub of_cap : (kind : CallKind) (n : ℕ) (call : Call) → shape_of kind ≡ OneCap → kind_of call ≡ kind
    → arguments_of call ≡ Cap n ∷ [] → call ≡ number_call kind n
of_cap kind n call shape is from =
    is_made kind n call (subst IsBare (sym shape) tt) is (from ∙ sym (ap (λ s. number_argument s n ∷ []) shape))

-- one of a number
pub of_number : (kind : CallKind) (n : ℕ) (call : Call) → shape_of kind ≡ OneNumber → kind_of call ≡ kind
    → arguments_of call ≡ Number n ∷ [] → call ≡ number_call kind n
of_number kind n call shape is from =
    is_made kind n call (subst IsBare (sym shape) tt) is (from ∙ sym (ap (λ s. number_argument s n ∷ []) shape))
