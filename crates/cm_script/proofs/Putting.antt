-- The arguments of a call, as they are written one after the other.
use Rattle.std.proofs.Common.{◌≡◌, ℕ, ◌+◌, ◌<◌, ◌≤◌, Bool, true, false, not, List, [], ◌∷◌, ◌++◌, Result, Ok, Err, ◌⊎◌, inl, inr, refl, sym, ap, subst, ◌∙◌}
use Rattle.std.proofs.Common.{append_assoc, append-nil, drop, filter, get_or, length, map}
use Rattle.std.proofs.lemmas.List.{drop_all}
use Rattle.cm_base.specs.Outcome.{OrNoMemory}
use Rattle.cm_filter.specs.Filters.{Filter, excluded_kinds, excludes, permits}
use Rattle.cm_filter.specs.Kinds.{call_kinds, call_name}
use Rattle.cm_filter.specs.declared.kind.CallKind.{CallKind}
use Rattle.cm_script.proofs.Items.{failing_next, passing_next}
use Rattle.cm_state.specs.Call.{call_of}
use Rattle.cm_state.specs.declared.call.Call.{Call}
use Rattle.cm_tokens.specs.Pieces.{Appends}
use Rattle.model_cred.specs.Call as model
use Rattle.model_cred.specs.World.{World}
use Rattle.model_text.specs.Arguments.{Argument, Kind, arguments_of, spaced_text, spaced_texts}

-- ---- what is written
-- arguments
abbrev pub Puts : {T E : Type 0} → World → Result T E → List ℕ → List ℕ → List Argument → Type 0
Puts w r old new arguments = OrNoMemory r (λ _. Appends old new (spaced_texts w arguments))

-- the last one
pub last_put : {T E : Type 0} (w : World) (a : Argument) (r : Result T E) (old new : List ℕ) → OrNoMemory r (λ _. Appends old new (spaced_text w a))
    → Puts w r old new (a ∷ [])
last_put w a (Ok x) old new is = is ∙ ap (λ (t : List ℕ). old ++ t) (sym (append-nil (spaced_text w a)))
last_put w a (Err why) old new is = tt

-- one, and those after it
pub more_put : {T E : Type 0} (w : World) (a : Argument) (rest : List Argument) (r : Result T E) (old mid new : List ℕ)
    → Appends old mid (spaced_text w a) → Puts w r mid new rest → Puts w r old new (a ∷ rest)
more_put w a rest (Ok x) old mid new first is =
    is ∙ ap (λ (t : List ℕ). t ++ spaced_texts w rest) first ∙ append_assoc old (spaced_text w a) (spaced_texts w rest)
more_put w a rest (Err why) old mid new first is = tt

-- those of a call
pub call_put : {T E : Type 0} (w : World) (call : model.Call) (arguments : List Argument) (r : Result T E) (old new : List ℕ)
    → arguments_of call ≡ arguments → Puts w r old new arguments → Puts w r old new (arguments_of call)
call_put w call arguments r old new are = subst (λ (list : List Argument). Puts w r old new list) (sym are)

-- ---- which call it is
-- one of so many
pub of_two : (call a b : Call) (list : List Argument) → (call ≡ a) ⊎ (call ≡ b) → arguments_of (call_of a) ≡ list → arguments_of (call_of b) ≡ list
    → arguments_of (call_of call) ≡ list
of_two call a b list (inl is) first second = ap (λ (c : Call). arguments_of (call_of c)) is ∙ first
of_two call a b list (inr is) first second = ap (λ (c : Call). arguments_of (call_of c)) is ∙ second

pub of_three : (call a b c : Call) (list : List Argument) → (call ≡ a) ⊎ (call ≡ b) ⊎ (call ≡ c) → arguments_of (call_of a) ≡ list
    → arguments_of (call_of b) ≡ list → arguments_of (call_of c) ≡ list → arguments_of (call_of call) ≡ list
of_three call a b c list (inl is) first second third = ap (λ (x : Call). arguments_of (call_of x)) is ∙ first
of_three call a b c list (inr more) first second third = of_two call b c list more second third

pub of_four : (call a b c d : Call) (list : List Argument) → (call ≡ a) ⊎ (call ≡ b) ⊎ (call ≡ c) ⊎ (call ≡ d) → arguments_of (call_of a) ≡ list
    → arguments_of (call_of b) ≡ list → arguments_of (call_of c) ≡ list → arguments_of (call_of d) ≡ list → arguments_of (call_of call) ≡ list
of_four call a b c d list (inl is) first second third fourth = ap (λ (x : Call). arguments_of (call_of x)) is ∙ first
of_four call a b c d list (inr more) first second third fourth = of_three call b c d list more second third fourth

-- ---- kinds of a filter
-- the texts of the kinds from a place on that a filter excludes
abbrev pub kinds_from : World → Filter → List CallKind → ℕ → List ℕ
kinds_from w f kinds k = spaced_texts w (map Kind (filter (excludes f) (drop k kinds)))

-- one that it excludes was written
pub name_put : (w : World) (f : Filter) (kinds : List CallKind) (k : ℕ) (other : CallKind) (old new : List ℕ) → k < length kinds
    → permits f (get_or kinds k other) ≡ false → Appends old new (32 ∷ call_name (get_or kinds k other))
    → new ++ kinds_from w f kinds (k + 1) ≡ old ++ kinds_from w f kinds k
name_put w f kinds k other old new below excluded put =
    let kind = get_or kinds k other in
    ap (λ (t : List ℕ). t ++ kinds_from w f kinds (k + 1)) put
    ∙ append_assoc old (32 ∷ call_name kind) (kinds_from w f kinds (k + 1))
    ∙ ap (λ (left : List CallKind). old ++ spaced_texts w (map Kind left))
    (sym (passing_next (excludes f) kinds k other below (held (excludes f kind) excluded)))
  where
    held : (b : Bool) → not b ≡ false → b ≡ true
    held true e = refl
    held false e = absurd (cc)

-- one that it permits is passed over
pub name_passed : (w : World) (f : Filter) (kinds : List CallKind) (k : ℕ) (other : CallKind) (old : List ℕ) → k < length kinds
    → permits f (get_or kinds k other) ≡ true
    → old ++ kinds_from w f kinds (k + 1) ≡ old ++ kinds_from w f kinds k
name_passed w f kinds k other old below permitted =
    ap (λ (left : List CallKind). old ++ spaced_texts w (map Kind left))
    (sym (failing_next (excludes f) kinds k other below (free (excludes f (get_or kinds k other)) permitted)))
  where
    free : (b : Bool) → not b ≡ true → b ≡ false
    free true e = absurd (cc)
    free false e = refl

-- after all kinds those that it excludes were written
pub kinds_put : (w : World) (f : Filter) (kinds : List CallKind) (k : ℕ) (old new : List ℕ) → length kinds ≤ k → kinds ≡ call_kinds
    → new ++ kinds_from w f kinds k ≡ old ++ spaced_texts w (map Kind (filter (excludes f) kinds))
    → Appends old new (spaced_texts w (map Kind (excluded_kinds f)))
kinds_put w f kinds k old new past are all =
    sym (append-nil new)
    ∙ ap (λ (left : List CallKind). new ++ spaced_texts w (map Kind (filter (excludes f) left))) (sym (drop_all k kinds past))
    ∙ all ∙ ap (λ (ks : List CallKind). old ++ spaced_texts w (map Kind (filter (excludes f) ks))) are
