-- Each call keeps the tree of spaces and what each space keeps.
use Rattle.std.proofs.Common.{◌≡◌, ℕ, ◌+◌, ◌-◌, ◌<◌, ◌≤◌, ◌&&◌, Bool, true, false, List, [], ◌∷◌}
use Rattle.std.proofs.Common.{length, Option, Some, None, if◌then◌else◌, refl, sym, ◌∙◌, inl, inr, subst, arith}
use Rattle.std.specs.Prelude.{nat_le, not, All, IfSome, option_and_then, option_map}
use Rattle.std.proofs.lemmas.Bool.{cases_Bool, cases_eq, leb-true, not-false, cond_both, cond-true, cond-false, and_parts}
use Rattle.std.proofs.lemmas.List.Elements.{All-head, All-tail, All-nil, All-cons}
use Rattle.cm_base.specs.Limits.{id_count}
use Rattle.cm_base.specs.declared.errno.Errno.{Errno}
use Rattle.cm_base.specs.declared.errno.Errno.TheVariants.{EPERM, EINVAL}
use Rattle.model_cred.proofs.Spaces.{length_put}
use Rattle.model_cred.specs.Credential.{Credential}
use Rattle.model_cred.specs.IdMap.{Extent, HasIds, extents_of}
use Rattle.model_cred.specs.MapFault.{IsMap, is_map}
use Rattle.model_rules.proofs.Downs.{stored_is_map}
use Rattle.model_rules.proofs.Spaces.{keeps_space_of}
use Rattle.model_cred.specs.Space.{Space, Spaces, KeepsSpace, IsTree, space_of, put_space}
use Rattle.model_rules.specs.Maps.{MapFile, UidMap, GidMap, Written, write_done, write_refused, write_map, write_stored}
use Rattle.model_rules.specs.Maps.{write_setgroups, map_of, with_map, parent_map, extent_down, list_down}
use Rattle.model_cred.proofs.Trees.{put_newest, put_older, tree_put}
use Rattle.model_laws.proofs.Ids.{FitsIds}

-- a tree and what each of its spaces keeps
pub record KeepsTree (spaces : Spaces) : Type 0 where
  pub tree : IsTree spaces
  pub each : All KeepsSpace spaces

all_put : (n : ℕ) (new : Space) (spaces : Spaces) → KeepsSpace new → All KeepsSpace spaces → All KeepsSpace (put_space n new spaces)
all_put n new [] keeps each = each
all_put n new (t ∷ older) keeps each =
    elim (cases_eq n (length older)) [
      | inl same ↦ subst (All KeepsSpace) (sym (put_newest new t older n same)) (All-cons KeepsSpace new older keeps (All-tail KeepsSpace t older each))
      | inr other ↦
          subst (All KeepsSpace) (sym (put_older new t older n other))
          (All-cons KeepsSpace t (put_space n new older) (All-head KeepsSpace t older each) (all_put n new older keeps (All-tail KeepsSpace t older each)))
    ]

-- a space in the place of another with the same parent
pub keeps_put : (n : ℕ) (new : Space) (spaces : Spaces) → n < length spaces → new.parent ≡ (space_of spaces n).parent → KeepsSpace new
    → KeepsTree spaces → KeepsTree (put_space n new spaces)
keeps_put n new spaces there same keeps kept = record { tree = tree_put n new spaces there same kept.tree; each = all_put n new spaces keeps kept.each }

-- ---- writes
extent_fits : (map : List Extent) (e out : Extent) → HasIds map → extent_down map e ≡ Some out → FitsIds out
extent_fits [] e out ids is = absurd (cc)
extent_fits (p ∷ map) e out ids is =
    elim (cases_Bool (nat_le p.inside e.outside && nat_le (e.outside + e.length) (p.inside + p.length))) [
      | inl within ↦
          let it : Some (record e { outside = p.outside + (e.outside - p.inside) }) ≡ Some out
          = sym (cond-true (nat_le p.inside e.outside && nat_le (e.outside + e.length) (p.inside + p.length))
          (Some (record e { outside = p.outside + (e.outside - p.inside) })) (extent_down map e) within)
          ∙ is in
          let e_is : record e { outside = p.outside + (e.outside - p.inside) } ≡ out = cc in
          let parts = and_parts (nat_le p.inside e.outside) (nat_le (e.outside + e.length) (p.inside + p.length)) within in
          let low : p.inside ≤ e.outside = leb-true p.inside e.outside parts.0 in
          let high : e.outside + e.length ≤ p.inside + p.length = leb-true (e.outside + e.length) (p.inside + p.length) parts.1 in
          let fits : p.outside + p.length ≤ id_count = All-head FitsIds p map ids in
          subst FitsIds e_is (omega arith)
      | inr outside ↦
          extent_fits map e out (All-tail FitsIds p map ids)
          (sym (cond-false (nat_le p.inside e.outside && nat_le (e.outside + e.length) (p.inside + p.length))
          (Some (record e { outside = p.outside + (e.outside - p.inside) })) (extent_down map e) outside)
          ∙ is)
    ]

list_step : (first : Option Extent) (rest : Option (List Extent)) (out : List Extent) → ((e : Extent) → first ≡ Some e → FitsIds e)
    → ((list : List Extent) → rest ≡ Some list → HasIds list)
    → option_and_then (λ f. option_map (λ r. f ∷ r) rest) first ≡ Some out → HasIds out
list_step (Some e) (Some list) out fits all is = let it : (e ∷ list) ≡ out = cc in subst HasIds it (All-cons FitsIds e list (fits e refl) (all list refl))
list_step _ _ out fits all is = absurd (cc)

list_fits : (map list out : List Extent) → HasIds map → list_down map list ≡ Some out → HasIds out
list_fits map [] out ids is = let it : [] ≡ out = cc in subst HasIds it (All-nil FitsIds)
list_fits map (e ∷ list) out ids is =
    list_step (extent_down map e) (list_down map list) out (λ f it. extent_fits map e f ids it) (λ rest it. list_fits map list rest ids it) is

keeps_map_of : (file : MapFile) (t : Space) → KeepsSpace t → HasIds (extents_of (map_of file t))
keeps_map_of UidMap t keeps = keeps.uids
keeps_map_of GidMap t keeps = keeps.gids

parent_fits : (file : MapFile) (spaces : Spaces) (t : Space) → All KeepsSpace spaces → HasIds (parent_map file spaces t)
parent_fits file spaces t each = by_parent t.parent
  where
    by_parent : (o : Option ℕ) → HasIds (extents_of (option_and_then (λ p. map_of file (space_of spaces p)) o))
    by_parent None = All-nil FitsIds
    by_parent (Some p) = keeps_map_of file (space_of spaces p) (keeps_space_of spaces p each)

-- the parent's map is a map, where it is written
map_is_map : (file : MapFile) (t : Space) → KeepsSpace t → IfSome (map_of file t) IsMap
map_is_map UidMap t keeps = keeps.uid_map
map_is_map GidMap t keeps = keeps.gid_map

parent_is_map : (file : MapFile) (spaces : Spaces) (parent : Option ℕ) → All KeepsSpace spaces
    → IfSome (option_and_then (λ p. map_of file (space_of spaces p)) parent) IsMap
parent_is_map file spaces None each = tt
parent_is_map file spaces (Some p) each = map_is_map file (space_of spaces p) (keeps_space_of spaces p each)

keeps_with_map : (file : MapFile) (t : Space) (list : List Extent) → KeepsSpace t → HasIds list → IsMap list → KeepsSpace (with_map file t list)
keeps_with_map file t list keeps ids map = grind arith

same_parent : (file : MapFile) (t : Space) (list : List Extent) → (with_map file t list).parent ≡ t.parent
same_parent UidMap t list = refl
same_parent GidMap t list = refl

-- what a write leaves: a tree of as many spaces
pub record GoodWrite (spaces : Spaces) (a : Written) : Type 0 where
  pub keeps : KeepsTree a.spaces
  pub count : length a.spaces ≡ length spaces

write_either : (spaces : Spaces) (b : Bool) (x y : Written) → GoodWrite spaces x → GoodWrite spaces y → GoodWrite spaces (if b then x else y)
write_either spaces true x y first second = first
write_either spaces false x y first second = second

good_refused : (e : Errno) (spaces : Spaces) → KeepsTree spaces → GoodWrite spaces (write_refused e spaces)
good_refused e spaces kept = record { keeps = kept; count = refl }

good_done : (spaces : Spaces) (n : ℕ) (new : Space) → n < length spaces → new.parent ≡ (space_of spaces n).parent → KeepsSpace new → KeepsTree spaces
    → GoodWrite spaces (write_done spaces n new)
good_done spaces n new there same keeps kept = record { keeps = keeps_put n new spaces there same keeps kept; count = length_put n new spaces }

good_mapped : (file : MapFile) (spaces : Spaces) (at : ℕ) (c : Credential) (n : ℕ) (list : List Extent) (o : Option (List Extent)) → n < length spaces
    → ((mapped : List Extent) → o ≡ Some mapped → HasIds mapped × IsMap mapped) → KeepsTree spaces → GoodWrite spaces (write_stored file spaces at c n list o)
good_mapped file spaces at c n list None there ids kept = good_refused EPERM spaces kept
good_mapped file spaces at c n list (Some mapped) there ids kept =
    write_either spaces _ _ _
    (good_done spaces n (with_map file (space_of spaces n) mapped) there (same_parent file (space_of spaces n) mapped)
    (keeps_with_map file (space_of spaces n) mapped (keeps_space_of spaces n kept.each) (ids mapped refl).0 (ids mapped refl).1) kept)
    (good_refused EPERM spaces kept)

pub good_map : (file : MapFile) (spaces : Spaces) (at : ℕ) (c : Credential) (n : ℕ) (list : List Extent) → n < length spaces → KeepsTree spaces
    → GoodWrite spaces (write_map file spaces at c n list)
good_map file spaces at c n list there kept =
    write_either spaces _ _ _ (good_refused EPERM spaces kept)
    (cond_both (not (is_map list)) (write_refused EINVAL spaces)
    (write_stored file spaces at c n list (list_down (parent_map file spaces (space_of spaces n)) list))
    (GoodWrite spaces) (λ _. good_refused EINVAL spaces kept)
    (λ is. good_mapped file spaces at c n list (list_down (parent_map file spaces (space_of spaces n)) list) there
    (λ mapped stored. (
      list_fits (parent_map file spaces (space_of spaces n)) list mapped (parent_fits file spaces (space_of spaces n) kept.each) stored,
      stored_is_map (option_and_then (λ p. map_of file (space_of spaces p)) (space_of spaces n).parent) list mapped
          (parent_is_map file spaces (space_of spaces n).parent kept.each) (not-false (is_map list) is) stored,
    )) kept))

pub good_word : (spaces : Spaces) (at : ℕ) (c : Credential) (n : ℕ) (deny : Bool) → n < length spaces → KeepsTree spaces
    → GoodWrite spaces (write_setgroups spaces at c n deny)
good_word spaces at c n deny there kept =
    let old : KeepsSpace (space_of spaces n) = keeps_space_of spaces n kept.each in
    write_either spaces _ _ _
    (good_done spaces n (record (space_of spaces n) { deny = deny }) there refl
    (record { owner = old.owner; uids = old.uids; gids = old.gids; uid_map = old.uid_map; gid_map = old.gid_map }) kept)
    (good_refused EPERM spaces kept)
