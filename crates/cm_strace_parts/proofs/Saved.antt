-- What is known of the lists at a savepoint.
use Rattle.std.proofs.Common.{◌≡◌, ℕ, true, false, List, Option, Some, None, is_some, refl, sym, ◌∙◌, ap}
use Rattle.cm_strace_parts.specs.InOrder.{Counted, SavedInOrder, saved_parts}
use Rattle.cm_strace_parts.specs.Lists.{FdList, descriptors_in}
use Rattle.cm_strace_parts.specs.Savepoints.{Saved, LeftOnErr}
use Rattle.model_strace.specs.Parts.{Parts, Task, Kept}
use Rattle.std.specs.Prelude.{Result, Ok, Err}

-- Where nothing is known of a savepoint, none is set for any list.
pub record NoneSaved (ts : Option (List Task)) (ks : Option (List Kept)) (fs : Option (List FdList)) : Type 0 where
  pub tasks : ts ≡ None
  pub kept : ks ≡ None
  pub files : fs ≡ None

none_saved : (ts : Option (List Task)) (ks : Option (List Kept)) (fs : Option (List FdList)) (spaces followed : ℕ)
    → SavedInOrder ts ks fs followed → saved_parts ts ks fs spaces ≡ None → NoneSaved ts ks fs
none_saved None None None spaces followed order none = record { tasks = refl; kept = refl; files = refl }
none_saved None None (Some fs) spaces followed order none = let h = order.files in absurd (cc)
none_saved None (Some ks) fs spaces followed order none = let h = order.kept in absurd (cc)
none_saved (Some ts) None fs spaces followed order none = let h = order.kept in absurd (cc)
none_saved (Some ts) (Some ks) None spaces followed order none = let h = order.files in absurd (cc)
none_saved (Some ts) (Some ks) (Some fs) spaces followed order none = absurd (cc)

-- the same of all that is known
pub unset : {ts : Option (List Task)} {ks : Option (List Kept)} {fs : Option (List FdList)} {followed : ℕ}
    {known : Parts} {old : Saved} (spaces : ℕ) → SavedInOrder ts ks fs followed
    → old ≡ record { known = known; saved = saved_parts ts ks fs spaces } → old.saved ≡ None → NoneSaved ts ks fs
unset spaces order is none = none_saved _ _ _ spaces _ order (ap (λ (s : Saved). s.saved) (sym is) ∙ none)

-- What was known at a savepoint stood in the lists.
pub record WasSaved (ts : Option (List Task)) (ks : Option (List Kept)) (fs : Option (List FdList)) (spaces : ℕ) (p : Parts) : Type 0 where
  pub tasks : ts ≡ Some p.tasks
  pub kept : ks ≡ Some p.kept
  pub lists : List FdList
  pub files : fs ≡ Some lists
  pub descriptors : descriptors_in lists ≡ p.descriptors
  pub spaces_then : spaces ≡ p.spaces

the_parts : (p q : Parts) → Some p ≡ Some q → p ≡ q
the_parts p q is = cc

pub was_saved : (ts : Option (List Task)) (ks : Option (List Kept)) (fs : Option (List FdList)) (spaces : ℕ) (p : Parts)
    → saved_parts ts ks fs spaces ≡ Some p → WasSaved ts ks fs spaces p
was_saved None ks fs spaces p is = absurd (cc)
was_saved (Some ts) None fs spaces p is = absurd (cc)
was_saved (Some ts) (Some ks) None spaces p is = absurd (cc)
was_saved (Some ts) (Some ks) (Some fs) spaces p is =
    let same = the_parts _ p is in
    record {
      tasks = ap (λ (p : Parts). Some p.tasks) same;
      kept = ap (λ (p : Parts). Some p.kept) same;
      lists = fs;
      files = refl;
      descriptors = ap (λ (p : Parts). p.descriptors) same;
      spaces_then = ap (λ (p : Parts). p.spaces) same;
    }

-- The descriptors stood in their orders at a savepoint that is set.
pub record ListsThen (fs : Option (List FdList)) (followed : ℕ) : Type 0 where
  pub lists : List FdList
  pub files : fs ≡ Some lists
  pub counted : Counted lists followed

pub lists_then : (ts : Option (List Task)) (ks : Option (List Kept)) (fs : Option (List FdList)) (spaces followed : ℕ)
    → SavedInOrder ts ks fs followed → is_some (saved_parts ts ks fs spaces) ≡ true → ListsThen fs followed
lists_then None ks fs spaces followed order is = absurd (cc)
lists_then (Some ts) None fs spaces followed order is = absurd (cc)
lists_then (Some ts) (Some ks) None spaces followed order is = absurd (cc)
lists_then (Some ts) (Some ks) (Some fs) spaces followed order is = record {
  lists = fs;
  files = refl;
  counted = order.counted;
}

-- a change that never fails where no savepoint is set leaves all where it fails
pub left_never : {T E : Type 0} (r : Result T E) (new old : Saved) → (old.saved ≡ None → false ≡ true)
    → LeftOnErr r new old
left_never (Ok x) new old never = tt
left_never (Err e) new old never = λ none. let ok = never none in absurd (cc)
