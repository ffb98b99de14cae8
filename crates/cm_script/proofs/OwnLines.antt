-- A line whose pieces were read as they are written: it is the event's, and tells the event.
use Rattle.std.proofs.Common.{◌≡◌, ℕ, ◌≤◌, IsTrue, List, ◌∷◌, ◌++◌, sym, ap, subst, ◌∙◌, append_assoc}
use Rattle.std.proofs.lemmas.Bool.{and_from, le-leb}
use Rattle.std.proofs.lemmas.List.Elements.{All-weaker}
use Rattle.std.specs.Prelude.{codes, decimal, option_map, nat_le}
use Rattle.cm_base.specs.Limits.{last_pid}
use Rattle.cm_filter.specs.declared.kind.CallKind.{CallKind}
use Rattle.cm_filter.specs.Kinds.{call_name}
use Rattle.cm_script.specs.Own.{IsWord, IsOwn, TakesCall}
use Rattle.model_cred.specs.Call.{Event, kind_of}
use Rattle.model_cred.specs.World.{World}
use Rattle.model_text.proofs.ReadBack.{Written, id_written, number_written, cap_argument_written, set_written, word_written, kind_argument_written, own_event_read_back}
use Rattle.model_text.proofs.Tokens.{IsToken}
use Rattle.model_text.specs.Arguments.{Argument, Id, Number, Cap, Set, Space, Word, File, Kind, arguments_of, spaced_texts}
use Rattle.model_text.specs.Line.{Tells, script_line, groups_fit}
use Rattle.model_text.specs.Print.{event_text}
use Rattle.model_text.specs.Token.{res_text}
use Rattle.model_text.specs.Written.{MayAnswer}

-- a word is a token
word_token : (text : List ℕ) → IsWord text → IsToken text
word_token text is = record { some = is.some; short = is.short; plain = is.plain }

-- what is read as it is written was written of the argument
own_written : (w : World) (a : Argument) → IsOwn w a → Written w a
own_written w (Id n) own = id_written w n own
own_written w (Number n) own = number_written w n own
own_written w (Cap n) own = cap_argument_written w n own
own_written w (Set n) own = set_written w n own
own_written w (Space n) own = record { token = word_token _ own.word; plain = own.word.other; back = ap (option_map Space) own.back }
own_written w (Word deny) own = word_written w deny
own_written w (Kind kind) own = kind_argument_written w kind own
own_written w (File file) own = record { token = word_token _ own.word; plain = own.word.other; back = ap (option_map File) own.back }

-- The pieces of a line, from left to right.
pub record Pieces (w : World) (line : List ℕ) (e : Event) (number : ℕ) (kind : CallKind) (rest outcome last : List ℕ) : Type 0 where
  pub front : line ≡ decimal number ++ (32 ∷ call_name kind ++ rest)
  pub pid : ((1 ≤ number) × (number ≤ last_pid)) × (e.pid ≡ number)
  pub call : TakesCall w kind rest e.call outcome
  pub equals : outcome ≡ codes " = " ++ last
  pub result : res_text e.res ≡ last

-- the line is the event's
pub pieces_written : (w : World) (line : List ℕ) (e : Event) (number : ℕ) (kind : CallKind) (rest outcome last : List ℕ)
    → Pieces w line e number kind rest outcome last → event_text w e ≡ line
unfolding event_text
pieces_written w line e number kind rest outcome last are =
    let end : List ℕ = codes " = " ++ res_text e.res in
    let arguments : List ℕ = spaced_texts w (arguments_of e.call) in
    let tail : outcome ≡ end = are.equals ∙ ap (λ (t : List ℕ). codes " = " ++ t) (sym are.result) in
    let middle : rest ≡ arguments ++ end = are.call.arguments.written ∙ ap (λ (t : List ℕ). arguments ++ t) tail in
    let whole : line ≡ decimal e.pid ++ (32 ∷ call_name (kind_of e.call) ++ (arguments ++ end)) =
    are.front
    ∙ ap (λ (t : List ℕ). decimal number ++ (32 ∷ call_name kind ++ t)) middle
    ∙ ap (λ (k : CallKind). decimal number ++ (32 ∷ call_name k ++ (arguments ++ end))) (sym are.call.of_kind)
    ∙ ap (λ (n : ℕ). decimal n ++ (32 ∷ call_name (kind_of e.call) ++ (arguments ++ end))) (sym are.pid.1) in
    simp append_assoc (sym whole)

-- and tells it
pub pieces_tell : (w : World) (line : List ℕ) (e : Event) (number : ℕ) (kind : CallKind) (rest outcome last : List ℕ)
    → Pieces w line e number kind rest outcome last → MayAnswer kind e.res → IsTrue (groups_fit e.call) → script_line w line ≡ Tells e
pieces_tell w line e number kind rest outcome last are may groups =
    let May : CallKind → Type 0 = λ k. MayAnswer k e.res in
    let low : 1 ≤ e.pid = rw are.pid.1 are.pid.0.0 in
    let high : e.pid ≤ last_pid = rw are.pid.1 are.pid.0.1 in
    ap (script_line w) (sym (pieces_written w line e number kind rest outcome last are))
    ∙ own_event_read_back w e (record {
      pid = and_from (nat_le 1 e.pid) (nat_le e.pid last_pid) (le-leb 1 e.pid low) (le-leb e.pid last_pid high);
      arguments = All-weaker (IsOwn w) (Written w) (own_written w) (arguments_of e.call) are.call.arguments.own;
      groups = groups;
      filter = are.call.filter;
      result = subst May (sym are.call.of_kind) may;
    })
