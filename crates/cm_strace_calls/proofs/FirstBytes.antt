-- The calls that are read, by the first two bytes of their names.
use Rattle.std.proofs.Common.{◌≡◌, ◌≤◌, ◌<◌, ℕ, zero, suc, ◌-◌, true, false, length, take, get_or, List, [], ◌∷◌, None}
use Rattle.std.proofs.Common.{refl, sym, ◌∙◌, ap, subst, arith, inl, inr}
use Rattle.std.proofs.lemmas.Bool.{and_parts, cases_Bool, true≢false}
use Rattle.std.proofs.lemmas.List.{length-take, take-take}
use Rattle.std.proofs.lemmas.Slice.Eq.{bytes_eq-Decides}
use Rattle.std.specs.List.{ends_with, list_all, prefix_len}
use Rattle.std.specs.Prelude.{bytes_eq, codes, nat_eq}
use Rattle.cm_strace_calls.specs.Names.{is_long, named_in}
use Rattle.model_strace.specs.Calls.{Listed, listed_calls, listed_named}
use Rattle.model_strace.specs.Marks.{is_word_byte, name_at}
use Rattle.model_strace.specs.Written.{call_name}

-- what holds of each front of a text holds of the name of its call
of_name : (P : List ℕ → Type 0) (text : List ℕ) → ((n : ℕ) → P (take n text)) → P (call_name text)
of_name P text each =
    let n : ℕ = prefix_len is_word_byte text in
    let name : List ℕ = take n text in
    elim (cases_Bool (ends_with nat_eq (name_at text) (codes "32"))) [
      | inl ends ↦
          rw ends (subst P (sym (take-take (length name - 2) n text (omega (arith, length-take n text))))
          (each (length name - 2)))
      | inr other ↦ rw other (each n)
    ]

-- a name of one byte or none is that of no call whose name is longer
none_short : (name : List ℕ) → is_long name ≡ false → (calls : List (List ℕ × Listed))
    → list_all (λ call. is_long call.0) calls ≡ true → named_in calls name ≡ None
none_short name short [] all = refl
none_short name short (call ∷ calls) all =
    let parts = and_parts (is_long call.0) (list_all (λ c. is_long c.0) calls) all in
    let more = none_short name short calls parts.1 in
    elim (cases_Bool (bytes_eq call.0 name)) [
      | inl same ↦
          absurd (true≢false (sym parts.0 ∙ ap is_long ((bytes_eq-Decides call.0 name).0 same) ∙ short))
      | inr other ↦ rw other more
    ]

-- nor of a call that is read
short_unread : (name : List ℕ) → is_long name ≡ false → listed_named name ≡ None
short_unread name short = none_short name short listed_calls refl

-- rows and the table of the definitions give a front of a text the same call, where they do so for longer names
same_front : (calls : List (List ℕ × Listed)) (first second : ℕ) (text : List ℕ)
    → list_all (λ call. is_long call.0) calls ≡ true
    → ((name : List ℕ) → named_in calls (first ∷ second ∷ name) ≡ listed_named (first ∷ second ∷ name)) → (n : ℕ)
    → named_in calls (take n (first ∷ second ∷ text)) ≡ listed_named (take n (first ∷ second ∷ text))
same_front calls first second text all same zero = none_short [] refl calls all
same_front calls first second text all same (suc zero) =
    none_short (first ∷ []) refl calls all ∙ sym (short_unread (first ∷ []) refl)
same_front calls first second text all same (suc (suc n)) = same (take n text)

-- so they do for the name of the text
pub named_begun : (calls : List (List ℕ × Listed)) (text : List ℕ) → 2 ≤ length text
    → list_all (λ call. is_long call.0) calls ≡ true
    → ((name : List ℕ) → named_in calls (get_or text 0 0 ∷ get_or text 1 0 ∷ name)
    ≡ listed_named (get_or text 0 0 ∷ get_or text 1 0 ∷ name))
    → named_in calls (call_name text) ≡ listed_named (call_name text)
named_begun calls [] some all same = absurd (omega arith)
named_begun calls (first ∷ []) some all same = absurd (omega arith)
named_begun calls (first ∷ second ∷ text) some all same =
    of_name (λ name. named_in calls name ≡ listed_named name) (first ∷ second ∷ text)
    (same_front calls first second text all same)

-- a front of a text of one byte is no longer
front_short : (byte n : ℕ) → is_long (take n (byte ∷ [])) ≡ false
front_short byte zero = refl
front_short byte (suc zero) = refl
front_short byte (suc (suc n)) = refl

-- a text of fewer than two bytes names no call that is read
pub short_names_none : (text : List ℕ) → length text < 2 → None ≡ listed_named (call_name text)
short_names_none [] short = refl
short_names_none (byte ∷ []) short =
    sym (of_name (λ name. listed_named name ≡ None) (byte ∷ [])
    (λ n. short_unread (take n (byte ∷ [])) (front_short byte n)))
short_names_none (first ∷ second ∷ text) short = absurd (omega arith)
