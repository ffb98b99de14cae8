-- A code of calls, by which a proof tells them apart: a call is stored as the number of its kind and what it carries.
use Rattle.std.specs.Prelude.{◌≡◌, ℕ, List, [], ◌∷◌, Option, Some, None, refl, slice_get, unwrap_or}
use Rattle.std.specs.Coded.{Coded, code_by, coded×, coded_ℕ, coded_bool, coded_list, coded_option}
use base.Stored.{coded_unit}
use denote.Struct.Codes.{also_coded}
use Rattle.cm_base.specs.declared.res.FileRef.{FileRef}
use Rattle.cm_base.specs.declared.res.FileRef.TheVariants.{Row, Plain}
use Rattle.cm_filter.specs.declared.kind.CallKind.{CallKind}
use Rattle.cm_filter.specs.declared.kind.CallKind.TheVariants as kind
use Rattle.cm_filter.specs.Kinds.{call_kinds, kind_number}
use Rattle.cm_filter.specs.Shapes.{Form, AWord, AFile, AKind, Pattern, Just, Ids, Triples, Kinds, pattern_of}
use Rattle.model_cred.specs.Call.{Call}
use Rattle.model_cred.specs.Carried.{Value, Values, Carries}
use Rattle.model_cred.specs.IdMap.{Extent}

-- a file as the number of its row, if it has one
abbrev row_number : FileRef → Option ℕ
row_number (Row n) = Some n
row_number Plain = None

abbrev file_at : Option ℕ → FileRef
file_at (Some n) = Row n
file_at None = Plain

pub file_back : (file : FileRef) → file_at (row_number file) ≡ file
file_back (Row n) = refl
file_back Plain = refl

abbrev coded_file : Coded FileRef
coded_file = code_by (Option ℕ) (coded_option coded_ℕ) row_number file_at file_back

-- a kind as its number
abbrev kind_at : ℕ → CallKind
kind_at n = unwrap_or (slice_get call_kinds n) kind.Exit

pub kind_back : (k : CallKind) → kind_at (kind_number k) ≡ k
kind_back kind.Exit = refl
kind_back _ = refl

abbrev coded_kind : Coded CallKind
coded_kind = code_by ℕ coded_ℕ kind_number kind_at kind_back

-- an extent as its three numbers
abbrev coded_extent : Coded Extent
coded_extent = code_by (ℕ × (ℕ × ℕ)) (coded× coded_ℕ (coded× coded_ℕ coded_ℕ)) (λ e. (e.inside, (e.outside, e.length)))
    (λ p. record { inside = p.0; outside = p.1.0; length = p.1.1 }) (λ _. refl)

-- what a call carries
abbrev coded_value : (form : Form) → Coded (Value form)
coded_value AWord = coded_bool
coded_value AFile = coded_file
coded_value AKind = coded_kind
coded_value _ = coded_ℕ

abbrev coded_values : (forms : List Form) → Coded (Values forms)
coded_values [] = coded_unit
coded_values (form ∷ forms) = coded× (coded_value form) (coded_values forms)

abbrev coded_carried : (pattern : Pattern) → Coded (Carries pattern)
coded_carried (Just forms) = coded_values forms
coded_carried Ids = coded_list coded_ℕ
coded_carried Triples = coded× coded_ℕ (coded_list coded_extent)
coded_carried Kinds = coded_ℕ

-- a call
abbrev pub coded_call : Coded Call
coded_call = also_coded coded_kind (λ k. coded_carried (pattern_of k))
