-- Texts that begin with a whole name and its parenthesis.
use Rattle.std.proofs.Common.{◌≡◌, ℕ, ◌++◌, true, length, take, drop, List, Some, sym, ◌∙◌, ap}
use Rattle.std.proofs.lemmas.List.{take-append-drop}
use Rattle.std.specs.Cmp.Lexicographic.{same_text}
use Rattle.std.specs.List.{starts_with}
use Rattle.std.specs.Prelude.{codes, nat_eq}
use Rattle.model_strace.specs.Calls.{Close, OpenAt, Write, listed_named}
use Rattle.model_strace.specs.Written.{call_name}

-- a text that begins with another one
front_of : (front text : List ℕ) → starts_with nat_eq text front ≡ true → text ≡ front ++ drop (length front) text
front_of front text begins =
    sym (take-append-drop (length front) text)
    ∙ ap (λ l. l ++ drop (length front) text) (sym (same_text front (take (length front) text) (sym begins)))

-- a close
pub closes : (text : List ℕ) → starts_with nat_eq text (codes "close(") ≡ true
    → Some Close ≡ listed_named (call_name text)
closes text begins = ap (λ t. listed_named (call_name t)) (sym (front_of (codes "close(") text begins))

-- a write
pub writes : (text : List ℕ) → starts_with nat_eq text (codes "write(") ≡ true
    → Some Write ≡ listed_named (call_name text)
writes text begins = ap (λ t. listed_named (call_name t)) (sym (front_of (codes "write(") text begins))

-- an openat
pub opens_at : (text : List ℕ) → starts_with nat_eq text (codes "openat(") ≡ true
    → Some OpenAt ≡ listed_named (call_name text)
opens_at text begins = ap (λ t. listed_named (call_name t)) (sym (front_of (codes "openat(") text begins))
