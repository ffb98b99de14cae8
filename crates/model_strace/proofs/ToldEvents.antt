-- Each event that a line of a log of strace tells over a world is writable over it, where the spaces that it names have
-- numbers of 32 bits.
use Rattle.std.proofs.Common.{◌≡◌, ℕ, Bool, true, false, List, [], ◌∷◌, length, Option, Some, None, IfSome, All, IsTrue}
use Rattle.std.proofs.Common.{refl, subst}
use Rattle.std.proofs.lemmas.List.Elements.{All-nil, All-cons, All-head, All-tail}
use Rattle.std.specs.Prelude.{flat_map}
use Rattle.cm_base.specs.declared.res.Res.{Res}
use Rattle.cm_base.specs.declared.res.Res.TheVariants as res
use Rattle.model_cred.specs.Call as model
use Rattle.model_cred.specs.Call.{Call, Event}
use Rattle.model_cred.specs.IdMap.{Extent}
use Rattle.model_cred.specs.Process.{is_pid}
use Rattle.model_cred.specs.World.{World}
use Rattle.model_strace.proofs.Ways.{Way, Makes, Births, Fails, Enters, Writes, Unwritten, Exits, Resumes, turn_way}
use Rattle.model_strace.specs.Body.{PidLine, Blank, NoPid, Of, pid_row, row_cut, row_of}
use Rattle.model_strace.specs.Calls.{SetNs}
use Rattle.model_strace.specs.Files.{Followed, UidMap, GidMap, SetgroupsWord, UserSpace, written_extents, written_word}
use Rattle.model_strace.specs.LineNumbers.{StandsFor, row_told, told_by}
use Rattle.model_strace.specs.Marks.{after_first_word, first_word}
use Rattle.model_strace.specs.Marks.{without_end}
use Rattle.model_strace.specs.Parts.{Parts, Descriptor, without_kept}
use Rattle.model_strace.specs.Turn.{Turn, Gives, birth_call, turn, written_call}
use Rattle.model_text.proofs.CapTexts.{if_mapped}
use Rattle.model_text.proofs.ToldEvents.{AreFew, CanWrite}
use Rattle.model_text.proofs.ToldEvents.{pid_is}
use Rattle.model_text.specs.Arguments.{Argument, Space, Word}
use Rattle.model_text.specs.Arguments.{triple_of}
use Rattle.model_text.specs.Arguments.{Number as ANumber}
use Rattle.cm_lines.specs.Lines.{lines_of}
use Rattle.model_text.specs.Line.{Tells}
use Rattle.model_text.specs.Token.{pid_token}
use Rattle.model_text.specs.Written.{IsBirth, IsInRange, IsOutcome}
use Rattle.model_strace.proofs.ToldValues.{any_some, ExtentFits, extents_fit}
use Rattle.model_strace.proofs.ToldCalls.{CallFits, ToldFits, one_fits, call_told_fits}

-- ---- turns
-- the event of a turn is writable, where the spaces that it names have numbers of 32 bits
abbrev TurnFits : World → Turn → Type 0
TurnFits w (Gives p e born) = CanWrite w e
TurnFits w _ = Unit {0}

module _ (w : World) (pid : ℕ) (is : IsTrue (is_pid pid)) where
  event_can : (call : Call) (r : Res) → CallFits w call r → CanWrite w (record { pid = pid; call = call; res = r })
  event_can call r fits spaces =
      record { pid = is; arguments = fits.arguments spaces; groups = fits.groups; filter = fits.filter; result = fits.may }

  birth_call_fits : (user : Bool) (r : Res) → IsBirth r → CallFits w (birth_call user) r
  birth_call_fits true r may = record { arguments = λ _. All-nil (IsInRange w); groups = refl; filter = tt; may = may }
  birth_call_fits false r may = record { arguments = λ _. All-nil (IsInRange w); groups = refl; filter = tt; may = may }

  triples_fit : (list : List Extent) → All ExtentFits list → All (IsInRange w) (flat_map triple_of list)
  triples_fit [] all = All-nil (IsInRange w)
  triples_fit (e ∷ list) all =
      let first : ExtentFits e = All-head ExtentFits e list all in
      let others : List Argument = flat_map triple_of list in
      All-cons (IsInRange w) (ANumber e.inside) (ANumber e.outside ∷ ANumber e.length ∷ others) first.0
      (All-cons (IsInRange w) (ANumber e.outside) (ANumber e.length ∷ others) first.1
      (All-cons (IsInRange w) (ANumber e.length) others first.2 (triples_fit list (All-tail ExtentFits e list all))))

  -- those of a write of a map
  written_fit : (space : ℕ) (list : List Extent) → All ExtentFits list → IsInRange w (Space space)
      → All (IsInRange w) (Space space ∷ flat_map triple_of list)
  written_fit space list all is =
      All-cons (IsInRange w) (Space space) (flat_map triple_of list) is (triples_fit list all)

  written_fits : (file : Followed) (space : ℕ) (text : List ℕ) (r : Res) → IsOutcome r
      → IfSome (written_call file space text) (λ call. CallFits w call r)
  written_fits UidMap space text r may =
      if_mapped (All ExtentFits) (λ call. CallFits w call r) (model.WriteUidMap space) (written_extents text)
      (extents_fit (lines_of text))
      (λ list all. record { arguments = λ spaces. written_fit space list all spaces.0; groups = refl; filter = tt; may = may })
  written_fits GidMap space text r may =
      if_mapped (All ExtentFits) (λ call. CallFits w call r) (model.WriteGidMap space) (written_extents text)
      (extents_fit (lines_of text))
      (λ list all. record { arguments = λ spaces. written_fit space list all spaces.0; groups = refl; filter = tt; may = may })
  written_fits SetgroupsWord space text r may =
      if_mapped (λ deny. Unit {0}) (λ call. CallFits w call r) (model.WriteSetgroups space) (written_word text)
      (any_some (written_word text))
      (λ deny _. record {
        arguments =
            λ spaces. All-cons (IsInRange w) (Space space) (Word deny ∷ []) spaces.0 (one_fits w (Word deny) tt);
        groups = refl;
        filter = tt;
        may = may;
      })
  written_fits UserSpace space text r may = tt

  call_fits : (d : Descriptor) (text : List ℕ) (call : Call) (r : Res) → IsOutcome r
      → written_call d.file d.space text ≡ Some call → CallFits w call r
  call_fits d text call r may is = rw is at (written_fits d.file d.space text r may)

  way_fits : (p : Parts) (t : Turn) → Way (ToldFits w) pid p t → TurnFits w t
  way_fits p t (Makes call r fits) = event_can call r fits.0
  way_fits p t (Births user shares child may) =
      event_can (birth_call user) (res.Child child) (birth_call_fits user (res.Child child) may)
  way_fits p t (Fails user shares r may) = event_can (birth_call user) r (birth_call_fits user r may)
  way_fits p t (Enters d known r may) =
      event_can (model.SetNs d.space) r
      (record { arguments = λ spaces. one_fits w (Space d.space) spaces.0; groups = refl; filter = tt; may = may })
  way_fits p t (Writes d known text call is) = event_can call res.Done (call_fits d text call res.Done tt is)
  way_fits p t (Unwritten d known text call is e) = event_can call (res.Err e) (call_fits d text call (res.Err e) tt is)
  way_fits p t Exits =
      event_can model.Exit res.Done (record { arguments = λ _. All-nil (IsInRange w); groups = refl; filter = tt; may = refl })
  way_fits p t (Resumes _ way) = way_fits (without_kept pid p) t way
  way_fits p t _ = tt

-- ---- lines
-- the pid of a line is one
abbrev RowFits : PidLine → Type 0
RowFits (Of pid body) = IsTrue (is_pid pid)
RowFits _ = Unit {0}

row_fits : (line : List ℕ) → RowFits (row_of line)
row_fits line = cut_fits (without_end line)
  where
    pid_fits : (pid : Option ℕ) (body : List ℕ) → IfSome pid (λ n. IsTrue (is_pid n)) → RowFits (pid_row pid body)
    pid_fits None body is = tt
    pid_fits (Some pid) body is = is

    cut_fits : (text : List ℕ) → RowFits (row_cut text)
    cut_fits [] = tt
    cut_fits (byte ∷ text) =
        pid_fits (pid_token (first_word (byte ∷ text))) (after_first_word (byte ∷ text))
        (pid_is (first_word (byte ∷ text)))

turn_tells : (w : World) (t : Turn) (e : Event) → TurnFits w t → told_by t ≡ Tells e → CanWrite w e
turn_tells w (Gives p other born) e fits is = let same : other ≡ e = cc in subst (CanWrite w) same fits
turn_tells w _ e fits is = absurd (cc)

row_tells : (w : World) (p : Parts) (row : PidLine) (e : Event) → AreFew w → RowFits row → row_told w p row ≡ Tells e
    → CanWrite w e
row_tells w p (Of pid body) e few fits is =
    turn_tells w (turn w pid body p) e
    (way_fits w pid fits p (turn w pid body p)
    (turn_way (ToldFits w) pid w (λ text. call_told_fits w pid text few) body p)) is
row_tells w p _ e few fits is = absurd (cc)

-- the event that a line stands for
pub line_can_write : (w : World) (lines : List (List ℕ)) (number : ℕ) (e : Event) → AreFew w
    → StandsFor w lines number (Tells e) → CanWrite w e
line_can_write w lines number e few stands =
    row_tells w stands.known (row_of stands.line) e few (row_fits stands.line) stands.means
