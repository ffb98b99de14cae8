-- What the text of a call tells is a call whose parts are in their ranges, or a birth with a result that it may have.
use Rattle.std.proofs.Common.{◌≡◌, ℕ, ◌-◌, ◌==◌, Bool, true, false, List, [], ◌∷◌}
use Rattle.std.proofs.Common.{length}
use Rattle.std.proofs.Common.{Option, Some, None, Result, Ok, Err, IfSome, All, IsTrue, refl, sym, ap, ◌∙◌}
use Rattle.std.proofs.Common.{subst, if◌then◌else◌}
use Rattle.std.proofs.lemmas.Bool.{cond_both}
use Rattle.std.proofs.lemmas.List.Elements.{All-nil, All-cons, All-map}
use Rattle.std.specs.Prelude.{IfOk, bytes_eq, codes, drop, find, ok_or}
use Rattle.std.specs.Prelude.{slice_get}
use Rattle.cm_base.specs.declared.faults.LineFault.{LineFault}
use Rattle.cm_base.specs.declared.faults.LineFault.TheVariants as fault
use Rattle.cm_base.specs.declared.limited.Limited.TheVariants as limit
use Rattle.cm_base.specs.declared.res.Res.{Res}
use Rattle.cm_base.specs.declared.res.Res.TheVariants as res
use Rattle.cm_filter.specs.declared.kind.CallKind.{CallKind}
use Rattle.cm_filter.specs.declared.kind.CallKind.TheVariants as kind
use Rattle.model_cred.specs.Call as model
use Rattle.model_cred.specs.Call.{Call, kind_of}
use Rattle.model_cred.specs.Files.{IsDeclared, file_named}
use Rattle.model_cred.specs.World.{World}
use Rattle.model_strace.specs.Calls as calls
use Rattle.model_strace.specs.Calls.{Listed, SetsIds, SetsGroups, SetsCaps, Prctl, Birth, Unshare, SetNs, Execve}
use Rattle.model_strace.specs.Calls.{ExecveAt, OpenFile, OpenAt, Creat, Close, Dup, DupTo, Fcntl, Write, listed_calls}
use Rattle.model_strace.specs.Calls.{listed_named, opening, Told, Nothing, Faulty, Does, Bears, Joins, Opens, Closes}
use Rattle.model_strace.specs.Calls.{Copies, CopiesTo, Writes, then_tells, where_some, read_argument, needed, deciding}
use Rattle.model_strace.specs.Calls.{text_of, number_of, with_result, plain_call, ids_result, ids_call, ids_read}
use Rattle.model_strace.specs.Calls.{ids_told, ids_of_length, groups_call, groups_told, own_header, caps_call}
use Rattle.model_strace.specs.Calls.{caps_told, number_told, capability_argument, cap_told, ambient_told, option_told}
use Rattle.model_strace.specs.Calls.{birth_with, unshare_told, file_quoted, execve_told, execve_at, dup_told}
use Rattle.model_strace.specs.Calls.{makes_copy, returned, outcome_told, written_told, listed_told, call_told}
use Rattle.model_strace.specs.Flags.{birth_flags, has_flag}
use Rattle.model_strace.specs.Numbers.{capability}
use Rattle.model_strace.specs.Numbers.{id_list}
use Rattle.model_strace.specs.Numbers.{securebits}
use Rattle.model_strace.specs.Numbers.{sets_of}
use Rattle.model_strace.specs.Outcome.{Outcome, NoReturn, Number, Error, Other, birth_result}
use Rattle.model_strace.specs.Outcome.{outcome_of, plain_result, success}
use Rattle.model_strace.specs.Quoted.{quote_of, whole_text}
use Rattle.model_strace.specs.Written.{Written, arguments_of as parts_of, call_name}
use Rattle.model_strace.specs.Written.{written_of}
use Rattle.model_text.proofs.CapTexts.{if_then, if_mapped}
use Rattle.model_text.proofs.ToldEvents.{AreFew, Fits, IsCallOf, SpacesFit, arguments_fit, calls_made}
use Rattle.model_text.proofs.ToldEvents.{named_declared, number_fits}
use Rattle.model_text.specs.Arguments.{Argument, Id, Cap, File, Set, arguments_of, call_with, pattern_of}
use Rattle.model_text.specs.Arguments.{Number as ANumber}
use Rattle.model_text.specs.Line.{arguments_from, groups_fit}
use Rattle.model_text.specs.Token.{number_token}
use Rattle.model_text.specs.Written.{InstallsFilter, IsBirth, IsInRange, IsOutcome, MayAnswer}
use Rattle.model_strace.proofs.ToldValues.{any_some, any_ok, ok_from, found_good, capability_fits, bits_fit, AreSets}
use Rattle.model_strace.proofs.ToldValues.{sets_are, list_fits, OutcomeFits, outcome_fits, plain_may, id_may}
use Rattle.model_strace.proofs.ToldValues.{birth_may}

-- ---- what a call that is told is
-- A call with its result: its arguments are in their ranges, where the spaces among them are, its groups are within
-- their limit, and its result is one that it may have.
pub record CallFits (w : World) (call : Call) (result : Res) : Type 0 where
  pub arguments : SpacesFit (arguments_of call) → All (IsInRange w) (arguments_of call)
  pub groups : IsTrue (groups_fit call)
  pub filter : InstallsFilter call
  pub may : MayAnswer (kind_of call) result

-- the call names a space
abbrev pub names_space : Call → Bool
names_space (model.SetNs n) = true
names_space (model.WriteUidMap n given) = true
names_space (model.WriteGidMap n given) = true
names_space (model.WriteSetgroups n deny) = true
names_space _ = false

-- a call of its line alone, which names none
abbrev pub CallTold : World → Call → Res → Type 0
CallTold w call result = CallFits w call result × (names_space call ≡ false)

-- What is told is such a call, or a birth with a result that it may have, or neither.
abbrev pub ToldFits : World → Told → Type 0
ToldFits w (Does call result) = CallTold w call result
ToldFits w (Bears user shares result) = IsBirth result
ToldFits w _ = Unit {0}

module _ (w : World) where
  then_fits : {A : Type 0} (P : A → Type 0) (r : Result A LineFault) (tells : A → Told) → IfOk r P
      → ((x : A) → P x → ToldFits w (tells x))
      → ToldFits w (then_tells r tells)
  then_fits P (Ok x) tells is each = each x is
  then_fits P (Err why) tells is each = tt

  where_fits : {A : Type 0} (o : Option A) (tells : A → Told) → ((x : A) → ToldFits w (tells x))
      → ToldFits w (where_some o tells)
  where_fits None tells each = tt
  where_fits (Some x) tells each = each x

  result_fits : (P : Res → Type 0) (result : Option Res) (tells : Res → Told) → IfSome result P
      → ((r : Res) → P r → ToldFits w (tells r))
      → ToldFits w (with_result result tells)
  result_fits P result tells is each =
      then_fits P (ok_or result fault.Outcome) tells (ok_from P result fault.Outcome is) each

  if_fits : (b : Bool) (x y : Told) → ToldFits w x → ToldFits w y → ToldFits w (if b then x else y)
  if_fits true x y first second = first
  if_fits false x y first second = second

  argument_is : {A : Type 0} (P : A → Type 0) (read : List ℕ → Option A) → ((text : List ℕ) → IfSome (read text) P)
      → (number : ℕ)
      (arguments : List (List ℕ)) → IfOk (read_argument read number arguments) P
  argument_is P read each number arguments =
      ok_from P _ (fault.Argument number)
      (if_then (λ text. Unit {0}) P read (slice_get arguments _) (any_some (slice_get arguments _))
      (λ text _. each text))

  plain_fits : {A : Type 0} (P : A → Type 0) (outcome : Outcome) (value : Result A LineFault) (call : A → Call)
      → IfOk value P
      → ((v : A) (r : Res) → P v → IsOutcome r → CallTold w (call v) r) → ToldFits w (plain_call outcome value call)
  plain_fits P outcome value call is each =
      result_fits IsOutcome (plain_result outcome) (λ result. then_tells value (λ v. Does (call v) result))
      (plain_may outcome)
      (λ r may. then_fits P value (λ v. Does (call v) r) is (λ v fits. each v r fits may))

  -- ---- calls that set ids
  -- the call sets ids
  abbrev sets_ids : CallKind → Bool
  sets_ids kind.SetUid = true
  sets_ids kind.SetReUid = true
  sets_ids kind.SetResUid = true
  sets_ids kind.SetFsUid = true
  sets_ids kind.SetGid = true
  sets_ids kind.SetReGid = true
  sets_ids kind.SetResGid = true
  sets_ids kind.SetFsGid = true
  sets_ids _ = false

  ids_may : (kind : CallKind) (outcome : Outcome) → sets_ids kind ≡ true → OutcomeFits outcome
      → IfSome (ids_result kind outcome) (MayAnswer kind)
  ids_may kind.SetUid outcome is fits = plain_may outcome
  ids_may kind.SetReUid outcome is fits = plain_may outcome
  ids_may kind.SetResUid outcome is fits = plain_may outcome
  ids_may kind.SetFsUid outcome is fits = id_may outcome fits
  ids_may kind.SetGid outcome is fits = plain_may outcome
  ids_may kind.SetReGid outcome is fits = plain_may outcome
  ids_may kind.SetResGid outcome is fits = plain_may outcome
  ids_may kind.SetFsGid outcome is fits = id_may outcome fits
  ids_may _ outcome is fits = absurd (cc)

  no_groups : (call : Call) → sets_ids (kind_of call) ≡ true → IsTrue (groups_fit call)
  no_groups (model.SetGroups ids) is = absurd (cc)
  no_groups _ is = refl

  no_space : (call : Call) → sets_ids (kind_of call) ≡ true → names_space call ≡ false
  no_space (model.SetNs n) is = absurd (cc)
  no_space (model.WriteUidMap n given) is = absurd (cc)
  no_space (model.WriteGidMap n given) is = absurd (cc)
  no_space (model.WriteSetgroups n deny) is = absurd (cc)
  no_space _ is = refl

  ids_call_is : (kind : CallKind) (read : Result (List Argument) ℕ)
      → ((arguments : List Argument) → read ≡ Ok arguments → All (IsInRange w) arguments)
      → IfOk (ids_call kind read) (IsCallOf w kind)
  ids_call_is kind (Err number) fit = tt
  ids_call_is kind (Ok ids) fit =
      ok_from (IsCallOf w kind) (call_with kind ids) _ (calls_made w kind ids (fit ids refl))

  ids_told_fits : (kind : CallKind) (arguments : List (List ℕ)) (outcome : Outcome) → AreFew w → sets_ids kind ≡ true
      → OutcomeFits outcome
      → ToldFits w (ids_told w kind arguments outcome)
  ids_told_fits kind arguments outcome few is fits =
      let read : Result Call LineFault = ids_read w kind arguments in
      let good : IfOk read (IsCallOf w kind) = ids_call_is kind (arguments_from w (pattern_of kind) 0 _)
      (λ found there. arguments_fit w (pattern_of kind) 0 _ found few there) in
      result_fits (MayAnswer kind) (ids_result kind outcome) (λ result. then_tells read (λ call. Does call result))
      (ids_may kind outcome is fits)
      (λ r may. then_fits (IsCallOf w kind) read (λ call. Does call r) good (λ call its. (
        record {
          arguments = λ _. its.fit;
          groups = no_groups call (ap sets_ids its.is ∙ is);
          filter = its.filter;
          may = subst (λ (k : CallKind). MayAnswer k r) (sym its.is) may;
        },
        no_space call (ap sets_ids its.is ∙ is),
      )))

  -- ---- setgroups and capset
  groups_told_fits : (arguments : List (List ℕ)) (outcome : Outcome) → ToldFits w (groups_told arguments outcome)
  groups_told_fits arguments outcome =
      result_fits IsOutcome (plain_result outcome) _ (plain_may outcome) (λ r may.
      then_fits (λ n. Unit {0}) (read_argument number_token 1 arguments) _
      (any_ok (read_argument number_token 1 arguments)) (λ n _.
      then_fits (All Fits) (read_argument (ids_of_length n) 2 arguments) _
      (argument_is (All Fits) (ids_of_length n) (length_fits n) 2 arguments)
      (λ ids all. call_fits ids r all may)))
    where
      length_fits : (n : ℕ) (text : List ℕ) → IfSome (ids_of_length n text) (All Fits)
      length_fits n text =
          if_then (All Fits) (All Fits) (λ ids. if length ids == n then Some ids else None) (id_list text)
          (list_fits text)
          (λ ids all. cond_both (length ids == n) (Some ids) None (λ o. IfSome o (All Fits)) (λ _. all) (λ _. tt))

      call_fits : (ids : List ℕ) (r : Res) → All Fits ids → IsOutcome r → ToldFits w (groups_call ids r)
      call_fits ids r all may =
          cond_both (groups_fit (model.SetGroups ids)) (Does (model.SetGroups ids) r) (calls.Exceeds limit.Groups)
          (ToldFits w)
          (λ fit. (record { arguments = λ _. All-map (IsInRange w) Id ids all; groups = fit; filter = tt; may = may }, refl))
          (λ _. tt)

  -- the arguments of calls
  pub one_fits : (a : Argument) → IsInRange w a → All (IsInRange w) (a ∷ [])
  one_fits a is = All-cons (IsInRange w) a [] is (All-nil (IsInRange w))

  caps_told_fits : (pid : ℕ) (arguments : List (List ℕ)) (outcome : Outcome)
      → ToldFits w (caps_told pid arguments outcome)
  caps_told_fits pid arguments outcome =
      result_fits IsOutcome (plain_result outcome) _ (plain_may outcome) (λ r may.
      then_fits (λ p. Unit {0}) (read_argument (own_header pid) 1 arguments) _
      (any_ok (read_argument (own_header pid) 1 arguments)) (λ p _.
      then_fits AreSets (read_argument sets_of 2 arguments) (λ sets. Does (caps_call sets) r)
      (argument_is AreSets sets_of sets_are 2 arguments)
      (λ sets are. (
        record {
          arguments =
              λ _. All-cons (IsInRange w) (Set sets.effective)
              (Set sets.permitted ∷ Set sets.inheritable ∷ []) are.effective
              (All-cons (IsInRange w) (Set sets.permitted) (Set sets.inheritable ∷ []) are.permitted
              (one_fits (Set sets.inheritable) are.inheritable));
          groups = refl;
          filter = tt;
          may = may;
        },
        refl,
      ))))

  -- ---- prctl
  -- a call with one argument, which is in its range and no space
  one_told : (call : Call) (a : Argument) (r : Res) → arguments_of call ≡ a ∷ [] → IsInRange w a
      → IsTrue (groups_fit call)
      → InstallsFilter call → MayAnswer (kind_of call) r → names_space call ≡ false → CallTold w call r
  one_told call a r are is groups filter may none = (
    record {
      arguments = λ _. subst (All (IsInRange w)) (sym are)
          (one_fits a is);
      groups = groups;
      filter = filter;
      may = may;
    },
    none,
  )

  number_told_fits : (call : ℕ → Call) (arguments : List (List ℕ)) (outcome : Outcome)
      → ((n : ℕ) (r : Res) → Fits n → IsOutcome r → CallTold w (call n) r)
      → ToldFits w (number_told call arguments outcome)
  number_told_fits call arguments outcome each =
      plain_fits Fits outcome (read_argument number_token 2 arguments) call
      (argument_is Fits number_token number_fits 2 arguments) each

  cap_told_fits : (call : ℕ → Call) (number : ℕ) (arguments : List (List ℕ)) (outcome : Outcome)
      → ((n : ℕ) (r : Res) → Fits n → IsOutcome r → CallTold w (call n) r)
      → ToldFits w (cap_told call number arguments outcome)
  cap_told_fits call number arguments outcome each =
      let left : List (List ℕ) = drop (number - 1) arguments in
      plain_fits Fits outcome (capability_argument number arguments) call
      (ok_from Fits (capability left) (fault.Argument number) (capability_fits left)) each

  ambient_fits : (what : List ℕ) (arguments : List (List ℕ)) (outcome : Outcome)
      → ToldFits w (ambient_told what arguments outcome)
  ambient_fits what arguments outcome =
      if_fits (bytes_eq what (codes "PR_CAP_AMBIENT_RAISE")) (cap_told model.AmbRaise 3 arguments outcome) _
      (cap_told_fits model.AmbRaise 3 arguments outcome
      (λ n r fits may. one_told (model.AmbRaise n) (Cap n) r refl fits refl tt may refl))
      (if_fits (bytes_eq what (codes "PR_CAP_AMBIENT_LOWER")) (cap_told model.AmbLower 3 arguments outcome) _
      (cap_told_fits model.AmbLower 3 arguments outcome
      (λ n r fits may. one_told (model.AmbLower n) (Cap n) r refl fits refl tt may refl))
      (if_fits (bytes_eq what (codes "PR_CAP_AMBIENT_CLEAR_ALL"))
      (with_result (plain_result outcome) (Does model.AmbClear)) Nothing
      (result_fits IsOutcome (plain_result outcome) (Does model.AmbClear) (plain_may outcome)
      (λ r may. (record { arguments = λ _. All-nil (IsInRange w); groups = refl; filter = tt; may = may }, refl)))
      tt))

  option_fits : (option : List ℕ) (arguments : List (List ℕ)) (outcome : Outcome)
      → ToldFits w (option_told option arguments outcome)
  option_fits option arguments outcome =
      if_fits (bytes_eq option (codes "PR_SET_KEEPCAPS")) (number_told model.KeepCaps arguments outcome) _
      (number_told_fits model.KeepCaps arguments outcome
      (λ n r fits may. one_told (model.KeepCaps n) (ANumber n) r refl fits refl tt may refl))
      (if_fits (bytes_eq option (codes "PR_SET_NO_NEW_PRIVS")) (number_told model.NoNewPrivs arguments outcome) _
      (number_told_fits model.NoNewPrivs arguments outcome
      (λ n r fits may. one_told (model.NoNewPrivs n) (ANumber n) r refl fits refl tt may refl))
      (if_fits (bytes_eq option (codes "PR_SET_SECUREBITS"))
      (plain_call outcome (read_argument securebits 2 arguments) model.SecureBits) _
      (plain_fits Fits outcome (read_argument securebits 2 arguments) model.SecureBits
      (argument_is Fits securebits bits_fit 2 arguments)
      (λ n r fits may. one_told (model.SecureBits n) (ANumber n) r refl fits refl tt may refl))
      (if_fits (bytes_eq option (codes "PR_CAPBSET_DROP")) (cap_told model.BsetDrop 2 arguments outcome) _
      (cap_told_fits model.BsetDrop 2 arguments outcome
      (λ n r fits may. one_told (model.BsetDrop n) (Cap n) r refl fits refl tt may refl))
      (if_fits (bytes_eq option (codes "PR_CAP_AMBIENT"))
      (then_tells (deciding 2 arguments outcome) (λ what. ambient_told what arguments outcome)) Nothing
      (then_fits (λ what. Unit {0}) (deciding 2 arguments outcome) (λ what. ambient_told what arguments outcome)
      (any_ok (deciding 2 arguments outcome))
      (λ what _. ambient_fits what arguments outcome))
      tt))))

  -- ---- births, spaces and programs
  birth_fits : (user shares : Bool) (r : Res) → IsBirth r → ToldFits w (birth_with user shares r)
  birth_fits false shares (res.Err e) is = tt
  birth_fits user shares r is = is

  unshare_fits : (flags : List ℕ) (outcome : Outcome) → ToldFits w (unshare_told flags outcome)
  unshare_fits flags outcome =
      if_fits (has_flag (codes "CLONE_NEWUSER") flags) (with_result (plain_result outcome) (Does model.Unshare)) Nothing
      (result_fits IsOutcome (plain_result outcome) (Does model.Unshare) (plain_may outcome)
      (λ r may. (record { arguments = λ _. All-nil (IsInRange w); groups = refl; filter = tt; may = may }, refl)))
      tt

  execve_fits : (number : ℕ) (arguments : List (List ℕ)) (outcome : Outcome)
      → ToldFits w (execve_told w number arguments outcome)
  execve_fits number arguments outcome =
      plain_fits (IsDeclared w.files) outcome (read_argument (file_quoted w) number arguments) model.Exec
      (argument_is (IsDeclared w.files) (file_quoted w) quoted_is number arguments)
      (λ file r there may. (record { arguments = λ _. one_fits (File file) there; groups = refl; filter = tt; may = may }, refl))
    where
      quoted_is : (text : List ℕ) → IfSome (file_quoted w text) (IsDeclared w.files)
      quoted_is text =
          if_mapped (λ path. Unit {0}) (IsDeclared w.files) (file_named w.files) (whole_text (quote_of text))
          (any_some (whole_text (quote_of text)))
          (λ path _. named_declared w.files path)

  execve_at_fits : (folder : List ℕ) (arguments : List (List ℕ)) (outcome : Outcome)
      → ToldFits w (execve_at w folder arguments outcome)
  execve_at_fits folder arguments outcome =
      if_fits (bytes_eq folder (codes "AT_FDCWD")) (execve_told w 2 arguments outcome)
      (where_some (success outcome) (λ n. Faulty fault.Descriptor))
      (execve_fits 2 arguments outcome)
      (where_fits (success outcome) (λ n. Faulty fault.Descriptor) (λ n. tt))

  dup_fits : (arguments : List (List ℕ)) (outcome : Outcome) → ToldFits w (dup_told arguments outcome)
  dup_fits arguments outcome =
      where_fits (success outcome) (λ n. where_some (number_of 1 arguments) Copies)
      (λ n. where_fits (number_of 1 arguments) Copies (λ n. tt))

  -- ---- the line
  -- the call that is read sets ids, where it is read as one that does
  abbrev is_good : Listed → Bool
  is_good (SetsIds kind) = sets_ids kind
  is_good _ = true

  returned_fits : (pid : ℕ) (call : Listed) (arguments : List (List ℕ)) (outcome : Outcome) → AreFew w
      → is_good call ≡ true → OutcomeFits outcome
      → ToldFits w (returned w pid call arguments outcome)
  returned_fits pid (SetsIds kind) arguments outcome few is fits = ids_told_fits kind arguments outcome few is fits
  returned_fits pid SetsGroups arguments outcome few is fits = groups_told_fits arguments outcome
  returned_fits pid SetsCaps arguments outcome few is fits = caps_told_fits pid arguments outcome
  returned_fits pid Prctl arguments outcome few is fits =
      then_fits (λ option. Unit {0}) (deciding 1 arguments outcome) (λ option. option_told option arguments outcome)
      (any_ok (deciding 1 arguments outcome))
      (λ option _. option_fits option arguments outcome)
  returned_fits pid Birth arguments outcome few is fits =
      let user : Bool = has_flag (codes "CLONE_NEWUSER") (birth_flags arguments) in
      let shares : Bool = has_flag (codes "CLONE_FILES") (birth_flags arguments) in
      result_fits IsBirth (birth_result outcome) (birth_with user shares) (birth_may outcome)
      (λ r may. birth_fits user shares r may)
  returned_fits pid Unshare arguments outcome few is fits = unshare_fits (text_of 1 arguments) outcome
  returned_fits pid SetNs arguments outcome few is fits =
      then_fits (λ d. Unit {0}) (needed 1 arguments) _ (any_ok (needed 1 arguments)) (λ d _.
      then_fits (λ flags. Unit {0}) (needed 2 arguments) (λ flags. Joins (number_token d) flags outcome)
      (any_ok (needed 2 arguments)) (λ flags _. tt))
  returned_fits pid Execve arguments outcome few is fits = execve_fits 1 arguments outcome
  returned_fits pid ExecveAt arguments outcome few is fits =
      then_fits (λ folder. Unit {0}) (deciding 1 arguments outcome) (λ folder. execve_at w folder arguments outcome)
      (any_ok (deciding 1 arguments outcome))
      (λ folder _. execve_at_fits folder arguments outcome)
  returned_fits pid OpenFile arguments outcome few is fits =
      where_fits (success outcome) (Opens (opening (text_of 1 arguments) (text_of 2 arguments))) (λ n. tt)
  returned_fits pid OpenAt arguments outcome few is fits =
      where_fits (success outcome) (Opens (opening (text_of 2 arguments) (text_of 3 arguments))) (λ n. tt)
  returned_fits pid Creat arguments outcome few is fits =
      where_fits (success outcome) (Opens (opening (text_of 1 arguments) (codes "O_WRONLY"))) (λ n. tt)
  returned_fits pid Close arguments outcome few is fits =
      where_fits (success outcome) (λ n. where_some (number_of 1 arguments) Closes)
      (λ n. where_fits (number_of 1 arguments) Closes (λ n. tt))
  returned_fits pid Dup arguments outcome few is fits = dup_fits arguments outcome
  returned_fits pid DupTo arguments outcome few is fits =
      where_fits (success outcome) (CopiesTo (number_of 1 arguments)) (λ n. tt)
  returned_fits pid Fcntl arguments outcome few is fits =
      if_fits (makes_copy (text_of 2 arguments)) (dup_told arguments outcome) Nothing (dup_fits arguments outcome) tt
  returned_fits pid Write arguments outcome few is fits =
      where_fits (number_of 1 arguments) (λ n. Writes n (slice_get arguments 1) outcome) (λ n. tt)

  outcome_told_fits : (pid : ℕ) (call : Listed) (arguments : List (List ℕ)) (outcome : Outcome) → AreFew w
      → is_good call ≡ true → OutcomeFits outcome
      → ToldFits w (outcome_told w pid call arguments outcome)
  outcome_told_fits pid call arguments NoReturn few is fits = tt
  outcome_told_fits pid call arguments (Number n) few is fits = returned_fits pid call arguments (Number n) few is fits
  outcome_told_fits pid call arguments (Error e) few is fits = returned_fits pid call arguments (Error e) few is fits
  outcome_told_fits pid call arguments Other few is fits = returned_fits pid call arguments Other few is fits

  pub call_told_fits : (pid : ℕ) (text : List ℕ) → AreFew w → ToldFits w (call_told w pid text)
  call_told_fits pid text few =
      by_listed (listed_named (call_name text)) listed_good
    where
      listed_good : IfSome (listed_named (call_name text)) (λ call. is_good call ≡ true)
      listed_good =
          if_mapped (λ call. is_good call.1 ≡ true) (λ call. is_good call ≡ true) (λ call. call.1)
          (find (λ call. bytes_eq call.0 (call_name text)) listed_calls)
          (found_good (λ call. is_good call.1) (λ call. bytes_eq call.0 (call_name text)) listed_calls refl)
          (λ call is. is)

      by_written : (call : Listed) → is_good call ≡ true → (parts : Option Written)
          → ToldFits w (written_told w pid call parts)
      by_written call is None = tt
      by_written call is (Some parts) =
          outcome_told_fits pid call (parts_of parts.inside) (outcome_of parts.result) few is
          (outcome_fits parts.result)

      by_listed : (call : Option Listed) → IfSome call (λ call. is_good call ≡ true)
          → ToldFits w (listed_told w pid call text)
      by_listed None is = tt
      by_listed (Some call) is = by_written call is (written_of text)
