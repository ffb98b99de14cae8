-- The tokens of texts that are made of tokens with a space between each two.
use Rattle.std.proofs.Common.{◌≡◌, ℕ, ◌<◌, Bool, true, false, not, List, [], ◌∷◌, ◌++◌, length, map}
use Rattle.std.proofs.Common.{refl, ap, ◌∙◌, arith, append_assoc, All, nat_lt}
use Rattle.std.proofs.lemmas.Bool.{and_parts, lt-ltb, ltb-true, ne_eqb}
use Rattle.std.proofs.lemmas.List.Elements.{All-head, All-tail}
use Rattle.std.specs.List.{list_all, flat_map}
use Rattle.model_text.specs.Cut.{is_blank, goes_on, tokens_of}
use Rattle.model_text.specs.Line.{Tokens}

-- the byte is above the space: so it is no blank, and no LF
abbrev pub is_plain : ℕ → Bool
is_plain byte = nat_lt 32 byte

-- The text is a token that a line may have: it has bytes, no more of them than a path, and each is above the space.
pub record IsToken (text : List ℕ) : Type 0 where
  pub some : 0 < length text
  pub short : length text < 4096
  pub plain : list_all is_plain text ≡ true

pub plain_above : (byte : ℕ) → 32 < byte → is_plain byte ≡ true
plain_above byte above = lt-ltb 32 byte above

no_blank : (byte : ℕ) → is_plain byte ≡ true → is_blank byte ≡ false
no_blank byte plain =
    let above : 32 < byte = ltb-true 32 byte plain in
    rw (ne_eqb byte 32 (λ same. omega arith), ne_eqb byte 9 (λ same. omega arith), ne_eqb byte 13 (λ same. omega arith)) refl

-- ---- the first token
-- a byte that nothing goes on with
pub ends_here : (b : ℕ) (text : List ℕ) → is_blank b ≡ false → goes_on text ≡ false → tokens_of (b ∷ text) ≡ (b ∷ []) ∷ tokens_of text
ends_here b text here ends = rw (here, ends) refl

-- a byte before a text that goes on
pub extends : (b : ℕ) (text token : List ℕ) (others : Tokens) → is_blank b ≡ false → goes_on text ≡ true → tokens_of text ≡ token ∷ others
    → tokens_of (b ∷ text) ≡ (b ∷ token) ∷ others
extends b text token others here on rest = rw (here, on, rest) refl

-- the first of two bytes of a token, and the bytes after it
parts_of_plain : (b : ℕ) (text : List ℕ) → list_all is_plain (b ∷ text) ≡ true → (is_blank b ≡ false) × (list_all is_plain text ≡ true)
parts_of_plain b text plain =
    let parts : (is_plain b ≡ true) × (list_all is_plain text ≡ true) = and_parts (is_plain b) (list_all is_plain text) plain in
    (no_blank b parts.0, parts.1)

bytes_alone : (text : List ℕ) → 0 < length text → list_all is_plain text ≡ true → tokens_of text ≡ text ∷ []
bytes_alone [] some plain = absurd (omega arith)
bytes_alone (b ∷ []) some plain = ends_here b [] (parts_of_plain b [] plain).0 refl
bytes_alone (b ∷ c ∷ cs) some plain =
    let first : (is_blank b ≡ false) × (list_all is_plain (c ∷ cs) ≡ true) = parts_of_plain b (c ∷ cs) plain in
    extends b (c ∷ cs) (c ∷ cs) [] first.0 (ap not (parts_of_plain c cs first.1).0) (bytes_alone (c ∷ cs) (omega arith) first.1)

-- a token is one alone
pub token_alone : (text : List ℕ) → IsToken text → tokens_of text ≡ text ∷ []
token_alone text is = bytes_alone text is.some is.plain

bytes_before : (text rest : List ℕ) → 0 < length text → list_all is_plain text ≡ true → tokens_of (text ++ 32 ∷ rest) ≡ text ∷ tokens_of rest
bytes_before [] rest some plain = absurd (omega arith)
bytes_before (b ∷ []) rest some plain = ends_here b (32 ∷ rest) (parts_of_plain b [] plain).0 refl
bytes_before (b ∷ c ∷ cs) rest some plain =
    let first : (is_blank b ≡ false) × (list_all is_plain (c ∷ cs) ≡ true) = parts_of_plain b (c ∷ cs) plain in
    extends b (c ∷ cs ++ 32 ∷ rest) (c ∷ cs) (tokens_of rest) first.0 (ap not (parts_of_plain c cs first.1).0)
    (bytes_before (c ∷ cs) rest (omega arith) first.1)

-- a token before a space is the first of the text
pub token_before : (text rest : List ℕ) → IsToken text → tokens_of (text ++ 32 ∷ rest) ≡ text ∷ tokens_of rest
token_before text rest is = bytes_before text rest is.some is.plain

-- ---- several tokens, each after a space
-- a token, further ones, and a rest after a space
pub tokens_before : {A : Type 0} (write : A → List ℕ) (token : List ℕ) (items : List A) (rest : List ℕ) → IsToken token
    → All (λ item. IsToken (write item)) items
    → tokens_of (token ++ (flat_map (λ item. 32 ∷ write item) items ++ 32 ∷ rest)) ≡ token ∷ map write items ++ tokens_of rest
tokens_before write token [] rest is all = token_before token rest is
tokens_before {A} write token (item ∷ items) rest is all =
    let IsOne : A → Type 0 = λ item. IsToken (write item) in
    let later : List ℕ = flat_map (λ item. 32 ∷ write item) items ++ 32 ∷ rest in
    ap (λ (t : List ℕ). tokens_of (token ++ t)) (append_assoc (32 ∷ write item) (flat_map (λ item. 32 ∷ write item) items) (32 ∷ rest))
    ∙ token_before token (write item ++ later) is
    ∙ ap (λ (tokens : Tokens). token ∷ tokens)
    (tokens_before write (write item) items rest (All-head IsOne item items all) (All-tail IsOne item items all))
