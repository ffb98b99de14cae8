-- The calls that set ids, by their arguments one after the other.
use Rattle.std.proofs.Common.{◌≡◌, ℕ, ◌+◌, true, false, take, length, List, [], ◌∷◌, Option, Some, None, Result, Ok, Err}
use Rattle.std.proofs.Common.{IsTrue, refl, sym, ◌∙◌, ap, subst, inl, inr}
use Rattle.std.specs.Prelude.{is_none, option_map, ok_or}
use Rattle.cm_base.specs.declared.faults.LineFault.{LineFault}
use Rattle.cm_base.specs.declared.faults.LineFault.TheVariants as fault
use Rattle.cm_tokens.proofs.Options.{cases_Option}
use Rattle.cm_filter.specs.declared.kind.CallKind.{CallKind}
use Rattle.cm_filter.specs.declared.shape.Shape.{Shape}
use Rattle.cm_filter.specs.declared.shape.Shape.TheVariants.{OneId, TwoIds, ThreeIds, ManyKinds}
use Rattle.cm_filter.specs.Shapes.{Pattern, arguments_by, pattern_of, shape_of}
use Rattle.cm_strace_calls.specs.Made.{has_ids}
use Rattle.cm_strace_calls.specs.Readers.{next_read}
use Rattle.cm_strace_calls.specs.Told.{then_read}
use Rattle.model_cred.specs.Arguments.{Argument, Id, arguments_of, carried_in}
use Rattle.model_cred.specs.Call.{Call, kind_of}
use Rattle.model_cred.specs.World.{World}
use Rattle.model_strace.specs.Calls.{argument_count, ids_call, ids_read}
use Rattle.model_text.proofs.BareCalls.{IsBare, installs_none}
use Rattle.model_text.proofs.ReadBack.{made_call}
use Rattle.model_text.specs.Line.{arguments_from}
use Rattle.model_text.specs.Token.{id_token}

-- the call of ids
abbrev pub made : CallKind → List Argument → Result Call LineFault
made kind ids = ids_call kind (Ok ids)

-- what is read of arguments of a pattern
abbrev read_by : World → List (List ℕ) → Pattern → Result (List Argument) ℕ
read_by w arguments pattern = arguments_from w pattern 0 (take (argument_count pattern) arguments)

-- nothing is made where one is missing
none_made : {A : Type 0} (f : A → Call) (carried : Option A) (why : LineFault) → is_none carried ≡ true
    → ok_or (option_map f carried) why ≡ Err why
none_made f None why none = refl
none_made f (Some x) why none = absurd (cc)

lacks : (kind : CallKind) (ids : List Argument) → is_none (carried_in (pattern_of kind) ids) ≡ true
    → made kind ids ≡ Err (fault.Argument (length ids + 1))
lacks kind ids none =
    none_made (λ carried. (kind, carried)) (carried_in (pattern_of kind) ids) (fault.Argument (length ids + 1)) none

-- what is read after a first id, in a call of the shape
abbrev pub ids_after : CallKind → Shape → ℕ → List (List ℕ) → Result Call LineFault
ids_after kind OneId a texts = made kind (Id a ∷ [])
ids_after kind TwoIds a texts = then_read (next_read id_token 2 texts) (λ b. made kind (Id a ∷ Id b.0 ∷ []))
ids_after kind _ a texts =
    then_read (next_read id_token 2 texts) (λ b.
    then_read (next_read id_token 3 b.1) (λ c. made kind (Id a ∷ Id b.0 ∷ Id c.0 ∷ [])))

-- what is read of arguments in a call of the shape
abbrev in_turn : CallKind → Shape → List (List ℕ) → Result Call LineFault
in_turn kind shape arguments = then_read (next_read id_token 1 arguments) (λ a. ids_after kind shape a.0 a.1)

-- a call of one id
one : (w : World) (kind : CallKind) (arguments : List (List ℕ)) → shape_of kind ≡ OneId
    → ids_read w kind arguments ≡ in_turn kind OneId arguments
one w kind [] shape =
    ap (λ s. ids_call kind (read_by w [] (arguments_by s))) shape ∙ lacks kind [] (rw shape refl)
one w kind (a ∷ more) shape =
    ap (λ s. ids_call kind (read_by w (a ∷ more) (arguments_by s))) shape
    ∙ elim (cases_Option (id_token a)) [ inl none ↦ rw none refl | inr n ↦ rw n.1 refl ]

-- a call of two ids
two : (w : World) (kind : CallKind) (arguments : List (List ℕ)) → shape_of kind ≡ TwoIds
    → ids_read w kind arguments ≡ in_turn kind TwoIds arguments
two w kind [] shape =
    ap (λ s. ids_call kind (read_by w [] (arguments_by s))) shape ∙ lacks kind [] (rw shape refl)
two w kind (a ∷ []) shape =
    ap (λ s. ids_call kind (read_by w (a ∷ []) (arguments_by s))) shape
    ∙ elim (cases_Option (id_token a)) [
      | inl none ↦ rw none refl
      | inr n ↦ rw n.1 (lacks kind (Id n.0 ∷ []) (rw shape refl))
    ]
two w kind (a ∷ b ∷ more) shape =
    ap (λ s. ids_call kind (read_by w (a ∷ b ∷ more) (arguments_by s))) shape
    ∙ elim (cases_Option (id_token a)) [
      | inl none ↦ rw none refl
      | inr n ↦ elim (cases_Option (id_token b)) [ inl none ↦ rw (n.1, none) refl | inr m ↦ rw (n.1, m.1) refl ]
    ]

-- a call of three ids
three : (w : World) (kind : CallKind) (arguments : List (List ℕ)) → shape_of kind ≡ ThreeIds
    → ids_read w kind arguments ≡ in_turn kind ThreeIds arguments
three w kind [] shape =
    ap (λ s. ids_call kind (read_by w [] (arguments_by s))) shape ∙ lacks kind [] (rw shape refl)
three w kind (a ∷ []) shape =
    ap (λ s. ids_call kind (read_by w (a ∷ []) (arguments_by s))) shape
    ∙ elim (cases_Option (id_token a)) [
      | inl none ↦ rw none refl
      | inr n ↦ rw n.1 (lacks kind (Id n.0 ∷ []) (rw shape refl))
    ]
three w kind (a ∷ b ∷ []) shape =
    ap (λ s. ids_call kind (read_by w (a ∷ b ∷ []) (arguments_by s))) shape
    ∙ elim (cases_Option (id_token a)) [
      | inl none ↦ rw none refl
      | inr n ↦ elim (cases_Option (id_token b)) [
        | inl none ↦ rw (n.1, none) refl
        | inr m ↦ rw (n.1, m.1) (lacks kind (Id n.0 ∷ Id m.0 ∷ []) (rw shape refl))
      ]
    ]
three w kind (a ∷ b ∷ c ∷ more) shape =
    ap (λ s. ids_call kind (read_by w (a ∷ b ∷ c ∷ more) (arguments_by s))) shape
    ∙ elim (cases_Option (id_token a)) [
      | inl none ↦ rw none refl
      | inr n ↦ elim (cases_Option (id_token b)) [
        | inl none ↦ rw (n.1, none) refl
        | inr m ↦ elim (cases_Option (id_token c)) [
          | inl none ↦ rw (n.1, m.1, none) refl
          | inr k ↦ rw (n.1, m.1, k.1) refl
        ]
      ]
    ]

-- a call of ids, by its shape
by_shape : (w : World) (kind : CallKind) (shape : Shape) (arguments : List (List ℕ)) → shape_of kind ≡ shape
    → IsTrue (has_ids shape) → ids_read w kind arguments ≡ in_turn kind shape arguments
by_shape w kind OneId arguments is has = one w kind arguments is
by_shape w kind TwoIds arguments is has = two w kind arguments is
by_shape w kind ThreeIds arguments is has = three w kind arguments is
by_shape w kind _ arguments is has = absurd (cc)

-- the same where what is read of the first argument is at hand
pub after_first : (w : World) (kind : CallKind) (arguments : List (List ℕ))
    (first : Result (ℕ × List (List ℕ)) LineFault) → IsTrue (has_ids (shape_of kind)) → first ≡ next_read id_token 1 arguments
    → ids_read w kind arguments ≡ then_read first (λ a. ids_after kind (shape_of kind) a.0 a.1)
after_first w kind arguments first has is =
    by_shape w kind (shape_of kind) arguments refl has
    ∙ ap (λ read. then_read read (λ a. ids_after kind (shape_of kind) a.0 a.1)) (sym is)

-- and of the second
pub two_after : (kind : CallKind) (a : ℕ) (texts : List (List ℕ)) (second : Result (ℕ × List (List ℕ)) LineFault)
    → shape_of kind ≡ TwoIds → second ≡ next_read id_token 2 texts
    → ids_after kind (shape_of kind) a texts ≡ then_read second (λ b. made kind (Id a ∷ Id b.0 ∷ []))
two_after kind a texts second shape is =
    ap (λ s. ids_after kind s a texts) shape
    ∙ ap (λ read. then_read read (λ b. made kind (Id a ∷ Id b.0 ∷ []))) (sym is)

pub three_after : (kind : CallKind) (a : ℕ) (texts : List (List ℕ)) (second : Result (ℕ × List (List ℕ)) LineFault)
    → shape_of kind ≡ ThreeIds → second ≡ next_read id_token 2 texts
    → ids_after kind (shape_of kind) a texts
    ≡ then_read second (λ b. then_read (next_read id_token 3 b.1) (λ c. made kind (Id a ∷ Id b.0 ∷ Id c.0 ∷ [])))
three_after kind a texts second shape is =
    ap (λ s. ids_after kind s a texts) shape
    ∙ ap (λ read. then_read read (λ b.
    then_read (next_read id_token 3 b.1) (λ c. made kind (Id a ∷ Id b.0 ∷ Id c.0 ∷ [])))) (sym is)

-- and of the third
pub last_after : (kind : CallKind) (a b : ℕ) (texts : List (List ℕ)) (third : Result (ℕ × List (List ℕ)) LineFault)
    → third ≡ next_read id_token 3 texts
    → then_read (next_read id_token 3 texts) (λ c. made kind (Id a ∷ Id b ∷ Id c.0 ∷ []))
    ≡ then_read third (λ c. made kind (Id a ∷ Id b ∷ Id c.0 ∷ []))
last_after kind a b texts third is =
    ap (λ read. then_read read (λ c. made kind (Id a ∷ Id b ∷ Id c.0 ∷ []))) (sym is)

-- shapes of ids carry no filter
ids_bare : (shape : Shape) → IsTrue (has_ids shape) → IsBare shape
ids_bare ManyKinds has = absurd (cc)
ids_bare _ has = tt

-- the call that is made of its own ids
pub made_is : (kind : CallKind) (ids : List Argument) (call : Call) → IsTrue (has_ids (shape_of kind)) → kind_of call ≡ kind
    → arguments_of call ≡ ids → made kind ids ≡ Ok call
made_is kind ids call has is from =
    rw (made_call kind ids call (installs_none kind call (ids_bare (shape_of kind) has) is) is from) refl

-- the shape of a kind that has ids, and not one nor two
pub third : (kind : CallKind) (shape : Shape) → shape ≡ shape_of kind → IsTrue (has_ids (shape_of kind)) → (shape ≡ OneId → ⊥)
    → (shape ≡ TwoIds → ⊥) → shape_of kind ≡ ThreeIds
third kind OneId same has not_one not_two = absurd (not_one refl)
third kind TwoIds same has not_one not_two = absurd (not_two refl)
third kind ThreeIds same has not_one not_two = sym same
third kind _ same has not_one not_two =
    let none : IsTrue false = subst (λ s. IsTrue (has_ids s)) (sym same) has in absurd (cc)
