-- The text of lines one after another, and what pieces written one after another come to.
use Rattle.std.proofs.Common.{◌≡◌, ℕ, suc, ◌+◌, ◌<◌, List, [], ◌∷◌, ◌++◌, Result, length, map, drop, get_or, OnOk, sym, ap, ◌∙◌}
use Rattle.std.proofs.Common.{append_assoc, append-nil, add-one, drop-cons}
use Rattle.std.proofs.lemmas.Result.{IfOk-equal}
use Rattle.model_report.proofs.Texts.{text_of_append}
use Rattle.model_report.specs.Replay.{ReportLine, Plain, line_text, text_of}

-- the text of a line and then more lines
pub text_of_cons : (l : ReportLine) (ls : List ReportLine) → text_of (l ∷ ls) ≡ text_of (l ∷ []) ++ text_of ls
text_of_cons l ls = text_of_append (l ∷ []) ls

-- the text of one line
pub text_of_one : (l : ReportLine) → text_of (l ∷ []) ≡ line_text l ++ 10 ∷ []
text_of_one l = append-nil (line_text l ++ 10 ∷ [])

-- two pieces and a last one
pub joined : (old one two a b c : List ℕ) → one ≡ old ++ a → two ≡ one ++ b → two ++ c ≡ old ++ (a ++ b ++ c)
joined old one two a b c first second = rw (second, first) (simp append_assoc)

-- one piece and a last one
pub joined_once : (old one a b : List ℕ) → one ≡ old ++ a → one ++ b ≡ old ++ (a ++ b)
joined_once old one a b first = rw first (append_assoc old a b)

-- four pieces and a last one
pub joined_four : (old one two three four a b c d e : List ℕ) → one ≡ old ++ a → two ≡ one ++ b → three ≡ two ++ c → four ≡ three ++ d
    → four ++ e ≡ old ++ (((a ++ b) ++ c) ++ d ++ e)
joined_four old one two three four a b c d e first second third fourth = rw (fourth, third, second, first) (simp append_assoc)

-- the end of a line
pub closed : {T E : Type 0} (r : Result T E) (old now new : List ℕ) (l : ReportLine)
    → OnOk r (new ≡ now) → now ≡ old ++ (line_text l ++ 10 ∷ []) → OnOk r (new ≡ old ++ text_of (l ∷ []))
closed r old now new l wrote same =
    IfOk-equal r new now (old ++ text_of (l ∷ [])) wrote (same ∙ ap (λ t. old ++ t) (sym (text_of_one l)))

-- the end of a line of plain text
pub plain : {T E : Type 0} (r : Result T E) (old now new text : List ℕ)
    → OnOk r (new ≡ now) → now ≡ old ++ (text ++ 10 ∷ []) → OnOk r (new ≡ old ++ text_of (Plain text ∷ []))
plain r old now new text wrote same = closed r old now new (Plain text) wrote same

-- ---- a line for each of a list
module _ {A : Type 0} (line : A → ReportLine) where
  drop_here : (xs : List A) (k : ℕ) (x : A) → k < length xs → x ≡ get_or xs k x → drop k xs ≡ x ∷ drop (k + 1) xs
  drop_here xs k x lt is = rw (add-one) (drop-cons xs k x lt ∙ ap (λ (y : A). y ∷ drop (suc k) xs) (sym is))

  -- the line of one, and then those of the others
  pub step_on : (xs : List A) (i : ℕ) (x : A) (text text' : List ℕ) → i < length xs → x ≡ get_or xs i x → text' ≡ text ++ text_of (line x ∷ [])
      → text ++ text_of (map line (drop i xs)) ≡ text' ++ text_of (map line (drop (i + 1) xs))
  step_on xs i x text text' within here put =
      ap (λ (ys : List A). text ++ text_of (map line ys)) (drop_here xs i x within here)
      ∙ ap (λ (t : List ℕ). text ++ t) (text_of_cons (line x) (map line (drop (i + 1) xs)))
      ∙ sym (append_assoc text (text_of (line x ∷ [])) (text_of (map line (drop (i + 1) xs))))
      ∙ ap (λ (t : List ℕ). t ++ text_of (map line (drop (i + 1) xs))) (sym put)
