-- A text that is printed for tokens is read alike with an LF after it.
use Rattle.std.proofs.Common.{◌≡◌, ℕ, Bool, true, false, cond, ◌&&◌, List, [], ◌∷◌, ◌++◌, refl, sym, ap, ap₂, ◌∙◌}
use Rattle.std.proofs.Common.{append_assoc, append-nil}
use Rattle.json.proofs.Printed.Numbers.{lex-number, in_word-ended}
use Rattle.json.proofs.Printed.Strings.{content-escape, lex-escape}
use Rattle.json.specs.Lex.{Lexeme, token, comma, colon, string_token, lex, between, fresh, punctuate, tokens}
use Rattle.json.specs.Print.{escape, quoted, token_text, begins, ends, separator, print_from, print}
use Rattle.json.specs.Print.{IsPrintable, ArePrintable}
use Rattle.json.specs.Token.{Token, begin_object, end_object, begin_array, end_array}
use Rattle.json.specs.Token.{key, string, number, boolean, null, bad}
use Rattle.json.specs.Word.{ends_word, word}

-- The text has lexemes of its own, whatever stands after it: where an end is asked for, what ends a word.
abbrev HasLexemes : Bool → List ℕ → Type 0
HasLexemes end text =
    (own : List Lexeme)
    × ((rest : List ℕ) → (end ≡ true → ends_word rest ≡ true) → lex between (text ++ rest) ≡ own ++ lex between rest)

quoted_lexed : (s rest : List ℕ) → lex between (quoted s ++ rest) ≡ token (string s) ∷ lex between rest
unfolding lex
quoted_lexed s rest =
    ap (λ (text : List ℕ). lex between (34 ∷ text)) (append_assoc (escape s) (34 ∷ []) rest)
    ∙ ap₂ (λ o l. token (string_token o) ∷ l) (content-escape s rest) (lex-escape s rest)

-- ---- one token

token_lexed : (t : Token) → IsPrintable t → HasLexemes (ends t) (token_text t)
unfolding lex word
token_lexed begin_object h = (token begin_object ∷ [], λ rest ended. refl)
token_lexed end_object h = (token end_object ∷ [], λ rest ended. refl)
token_lexed begin_array h = (token begin_array ∷ [], λ rest ended. refl)
token_lexed end_array h = (token end_array ∷ [], λ rest ended. refl)
token_lexed (key s) h = (
  token (string s) ∷ colon ∷ [],
  λ rest ended. ap (lex between) (append_assoc (quoted s) (58 ∷ []) rest) ∙ quoted_lexed s (58 ∷ rest),
)
token_lexed (string s) h = (token (string s) ∷ [], λ rest ended. quoted_lexed s rest)
token_lexed (number s) h = (token (number s) ∷ [], λ rest ended. lex-number s rest h (ended refl))
token_lexed (boolean true) h = (
  token (boolean true) ∷ [],
  λ rest ended. ap₂ (λ b l. token (cond b (boolean true) bad) ∷ l) (ended refl) (in_word-ended rest (ended refl)),
)
token_lexed (boolean false) h = (
  token (boolean false) ∷ [],
  λ rest ended. ap₂ (λ b l. token (cond b (boolean false) bad) ∷ l) (ended refl) (in_word-ended rest (ended refl)),
)
token_lexed null h = (
  token null ∷ [],
  λ rest ended. ap₂ (λ b l. token (cond b null bad) ∷ l) (ended refl) (in_word-ended rest (ended refl)),
)
token_lexed bad h = absurd h

-- the lexeme of a comma, if there is one
abbrev comma_if : Bool → List Lexeme
comma_if is = cond is (comma ∷ []) []

comma_lexed : (is : Bool) (rest : List ℕ) → lex between (cond is (44 ∷ []) [] ++ rest) ≡ comma_if is ++ lex between rest
unfolding lex
comma_lexed true rest = refl
comma_lexed false rest = refl

-- ---- one after another

-- after a value stands a comma, a closing bracket, or what stands after the text
next_ends : (ts : List Token) (rest : List ℕ) → ends_word rest ≡ true → ends_word (print_from true ts ++ rest) ≡ true
unfolding print_from
next_ends [] rest h = h
next_ends (begin_object ∷ ts) rest h = refl
next_ends (_ ∷ ts) rest h = refl

tokens_lexed : (later : Bool) (ts : List Token) → ArePrintable ts → HasLexemes true (print_from later ts)
unfolding print_from ArePrintable
tokens_lexed later [] h = ([], λ rest ended. refl)
tokens_lexed later (t ∷ ts) h =
    let parted = later && begins t in
    let first = token_lexed t h.0 in
    let more = tokens_lexed (ends t) ts h.1 in
    let after = print_from (ends t) ts in
    let next = λ (rest : List ℕ) (ended : ends_word rest ≡ true) (e : ends t ≡ true).
    ap (λ b. ends_word (print_from b ts ++ rest)) e ∙ next_ends ts rest ended in (
      comma_if parted ++ (first.0 ++ more.0),
      λ rest ended.
          ap (lex between) (append_assoc (separator later t) (token_text t ++ after) rest)
          ∙ comma_lexed parted ((token_text t ++ after) ++ rest)
          ∙ ap (λ l. comma_if parted ++ l)
          (ap (lex between) (append_assoc (token_text t) after rest)
          ∙ first.1 (after ++ rest) (next rest (ended refl))
          ∙ ap (λ l. first.0 ++ l) (more.1 rest ended)
          ∙ sym (append_assoc first.0 more.0 (lex between rest)))
          ∙ sym (append_assoc (comma_if parted) (first.0 ++ more.0) (lex between rest)),
    )

-- ---- so an LF at the end says nothing

pub tokens_before_lf : (ts : List Token) → ArePrintable ts → tokens (print ts ++ 10 ∷ []) ≡ tokens (print ts)
unfolding lex
tokens_before_lf ts h =
    let all = tokens_lexed false ts h in
    ap (punctuate fresh)
    (all.1 (10 ∷ []) (λ e. refl) ∙ sym (all.1 [] (λ e. refl)) ∙ ap (lex between) (append-nil (print ts)))
