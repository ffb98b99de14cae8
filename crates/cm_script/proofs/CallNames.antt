-- How long the names of calls are.
use Rattle.std.proofs.Common.{◌≡◌, ℕ, ◌≤◌, Bool, true, List, [], ◌∷◌, length, Some, sym, ap, ◌∙◌, arith, inl, inr, lit≤}
use Rattle.std.proofs.lemmas.Bool.{cases_Bool}
use Rattle.std.proofs.lemmas.Option.{same_Some}
use Rattle.std.proofs.lemmas.Slice.Eq.{bytes_eq-Decides}
use Rattle.std.specs.Prelude.{find}
use Rattle.cm_filter.specs.declared.kind.CallKind.{CallKind}
use Rattle.cm_filter.specs.declared.kind.CallKind.TheVariants as kind
use Rattle.cm_filter.specs.Kinds.{call_name, call_kinds, has_name, kind_named}

-- what is found passes
pub found_passes : {A : Type 0} (p : A → Bool) (xs : List A) (x : A) → find p xs ≡ Some x → p x ≡ true
found_passes p [] x is = absurd (cc)
found_passes p (y ∷ ys) x is =
    elim (cases_Bool (p y)) [
      | inl here ↦ let same : y ≡ x = same_Some y x (rw here at is) in ap p (sym same) ∙ here
      | inr later ↦ found_passes p ys x (rw later at is)
    ]

-- each name has four bytes at least
four : (kind : CallKind) → 4 ≤ length (call_name kind)
four kind.SetUid = lit≤ tt
four _ = lit≤ tt

-- a name of a call has four bytes at least
pub name_long : (name : List ℕ) (kind : CallKind) → kind_named name ≡ Some kind → 4 ≤ length name
name_long name kind is =
    let same : call_name kind ≡ name = (bytes_eq-Decides (call_name kind) name).0 (found_passes (has_name name) call_kinds kind is) in
    let long : length (call_name kind) ≡ length name = ap length same in
    omega (arith, long, four kind)
