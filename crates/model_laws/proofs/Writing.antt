-- Who may write which id map: the function and the sentences agree.
use Rattle.std.proofs.Common.{◌≡◌, ◌≢◌, ◌⊎◌, ℕ, zero, suc, ◌+◌, ◌-◌, ◌<◌, ◌≤◌, ◌==◌, ◌&&◌, ◌||◌, not, Bool, true, false}
use Rattle.std.proofs.Common.{List, [], ◌∷◌, length, Option, Some, None, if◌then◌else◌, refl, sym, ap, ◌∙◌, inl, inr}
use Rattle.std.proofs.Common.{subst, arith}
use Rattle.std.specs.Prelude.{IsTrue, All, Any, is_none, nat_le, nat_lt, option_and_then, option_map, slice_index_or, unwrap_or}
use Rattle.std.proofs.lemmas.Bool.{cases_Bool, eqb-true, eq-eqb, ltb-true, lt-ltb, leb-true, le-leb, cond-true}
use Rattle.std.proofs.lemmas.Bool.{cond-false, and_parts, and_from, or_cases, or_left, or_right, not-true}
use Rattle.std.proofs.lemmas.Bool.{not_from_false}
use Rattle.std.proofs.lemmas.List.Elements.{All-head, All-tail, All-nil, All-cons}
use Rattle.cm_base.specs.declared.errno.Errno.TheVariants.{EPERM, EINVAL}
use Rattle.cm_base.specs.declared.res.Res.TheVariants.{Done}
use Rattle.model_cred.specs.Credential.{Credential}
use Rattle.model_cred.specs.IdMap.{Extent, down, lies_in, is_the}
use Rattle.model_cred.specs.MapFault.{is_map}
use Rattle.model_cred.specs.Space.{Space, Spaces, IsTree, space_at, space_of, no_space}
use Rattle.model_rules.specs.Caps.{cap_setfcap}
use Rattle.model_rules.specs.Maps.{MapFile, UidMap, GidMap, Written, map_of, with_map, parent_map, cap_for}
use Rattle.model_rules.specs.Maps.{effective_id, write_map, write_stored, write_refused, write_done, may_write, may_map}
use Rattle.model_rules.specs.Maps.{maps_zero, setfcap_allows, has_over_parent, is_own_map, is_single, word_allows}
use Rattle.model_rules.specs.Maps.{extent_down, list_down}
use Rattle.model_rules.specs.Power.{Over, has_over}
use Rattle.model_laws.specs.Writers.{LiesInOne, MapsZero, MayMapZero, IsOwnLine, MayWriteMap, WhoWritesMaps}
use Rattle.model_cred.proofs.Chains.{is_the_same, the_is, not_the, parent_older, space_there}
use Rattle.model_laws.proofs.Chains.{over_is}

-- ---- one of a list
any_here : {A : Type 0} (P : A → Type 0) (x : A) (xs : List A) → P x → Any P (x ∷ xs)
any_here P x xs holds = (zero, x, omega arith, refl, holds)

any_there : {A : Type 0} (P : A → Type 0) (x : A) (xs : List A) → Any P xs → Any P (x ∷ xs)
any_there P x xs any = (suc any.0, any.1, let low : any.0 < length xs = any.2 in omega arith, any.3, any.4)

any_at : {A : Type 0} (P : A → Type 0) (x : A) (xs : List A) (k : ℕ) (y : A) → k < length (x ∷ xs) → slice_index_or (x ∷ xs) k y ≡ y → P y → P x ⊎ Any P xs
any_at P x xs zero y low is holds = inl (subst P (sym is) holds)
any_at P x xs (suc k) y low is holds = inr (k, y, omega arith, is, holds)

any_cases : {A : Type 0} (P : A → Type 0) (x : A) (xs : List A) → Any P (x ∷ xs) → P x ⊎ Any P xs
any_cases P x xs any = any_at P x xs any.0 any.1 any.2 any.3 any.4

any_nil : {A : Type 0} (P : A → Type 0) → Any P [] → ⊥
any_nil P any = let low : any.0 < 0 = any.2 in omega arith

-- ---- the outside ids of an extent, and of a list
-- the extent as the initial space sees it, by one extent of the parent's map
abbrev moved : Extent → Extent → Extent
moved p e = record e { outside = p.outside + (e.outside - p.inside) }

extent_take : (p : Extent) (map : List Extent) (e : Extent) → (p.inside ≤ e.outside) × (e.outside + e.length ≤ p.inside + p.length)
    → extent_down (p ∷ map) e ≡ Some (moved p e)
extent_take p map e within = grind arith

-- an extent either lies in the first of the map, or goes on to the rest
extent_cases : (p : Extent) (map : List Extent) (e : Extent)
    → ((p.inside ≤ e.outside) × (e.outside + e.length ≤ p.inside + p.length)) ⊎ (extent_down (p ∷ map) e ≡ extent_down map e)
extent_cases p map e = grind arith

extent_lies : (map : List Extent) (e out : Extent) → extent_down map e ≡ Some out → LiesInOne map e
extent_lies [] e out is = absurd (cc)
extent_lies (p ∷ map) e out is =
    elim (extent_cases p map e) [
      | inl within ↦ any_here (λ q. (q.inside ≤ e.outside) × (e.outside + e.length ≤ q.inside + q.length)) p map within
      | inr rest ↦ any_there (λ q. (q.inside ≤ e.outside) × (e.outside + e.length ≤ q.inside + q.length)) p map (extent_lies map e out (sym rest ∙ is))
    ]

lies_extent : (map : List Extent) (e : Extent) → LiesInOne map e → (out : Extent) × (extent_down map e ≡ Some out)
lies_extent [] e lies = absurd (any_nil (λ q. (q.inside ≤ e.outside) × (e.outside + e.length ≤ q.inside + q.length)) lies)
lies_extent (p ∷ map) e lies =
    elim (extent_cases p map e) [
      | inl within ↦ (moved p e, extent_take p map e within)
      | inr rest ↦ elim (any_cases (λ q. (q.inside ≤ e.outside) × (e.outside + e.length ≤ q.inside + q.length)) p map lies) [
        | inl within ↦ (moved p e, extent_take p map e within)
        | inr later ↦ let out : (out : Extent) × (extent_down map e ≡ Some out) = lies_extent map e later in (out.0, rest ∙ out.1)
      ]
    ]

-- the length stays
extent_length : (map : List Extent) (e out : Extent) → extent_down map e ≡ Some out → out.length ≡ e.length
extent_length [] e out is = absurd (cc)
extent_length (p ∷ map) e out is =
    elim (extent_cases p map e) [
      | inl within ↦
          let it : Some (moved p e) ≡ Some out = sym (extent_take p map e within) ∙ is in
          let same : moved p e ≡ out = cc in
          sym (ap (λ (x : Extent). x.length) same)
      | inr rest ↦ extent_length map e out (sym rest ∙ is)
    ]

-- of one id alone it is what the map takes the id to
one_down : (map : List Extent) (e : Extent) → e.length ≡ 1 → down map e.outside ≡ option_map (λ m. m.outside) (extent_down map e)
one_down [] e one = refl
one_down (p ∷ map) e one =
    elim (extent_cases p map e) [
      | inl within ↦
          let low : p.inside ≤ e.outside = within.0 in
          let high : e.outside + e.length ≤ p.inside + p.length = within.1 in
          cond-true (lies_in p.inside p.length e.outside) (Some (p.outside + (e.outside - p.inside))) (down map e.outside)
          (and_from (nat_le p.inside e.outside) (nat_lt e.outside (p.inside + p.length)) (le-leb p.inside e.outside low)
          (lt-ltb e.outside (p.inside + p.length) (omega arith)))
          ∙ sym (ap (option_map (λ m. m.outside)) (extent_take p map e within))
      | inr rest ↦ elim (cases_Bool (lies_in p.inside p.length e.outside)) [
        | inl inside ↦
            let parts = and_parts (nat_le p.inside e.outside) (nat_lt e.outside (p.inside + p.length)) inside in
            let low : p.inside ≤ e.outside = leb-true p.inside e.outside parts.0 in
            let high : e.outside < p.inside + p.length = ltb-true e.outside (p.inside + p.length) parts.1 in
            let end : e.outside + e.length ≤ p.inside + p.length = omega arith in
            cond-true (lies_in p.inside p.length e.outside) (Some (p.outside + (e.outside - p.inside))) (down map e.outside) inside
            ∙ sym (ap (option_map (λ m. m.outside)) (extent_take p map e (low, end)))
        | inr outside ↦
            cond-false (lies_in p.inside p.length e.outside) (Some (p.outside + (e.outside - p.inside))) (down map e.outside) outside
            ∙ one_down map e one ∙ sym (ap (option_map (λ m. m.outside)) rest)
      ]
    ]

-- what a list is taken to, by its first and its rest
record Split (map : List Extent) (e : Extent) (list mapped : List Extent) : Type 0 where
  first : Extent
  rest : List Extent
  first_is : extent_down map e ≡ Some first
  rest_is : list_down map list ≡ Some rest
  mapped_is : mapped ≡ first ∷ rest

split_by : (map : List Extent) (e : Extent) (list mapped : List Extent) (o : Option Extent) (p : Option (List Extent))
    → extent_down map e ≡ o → list_down map list ≡ p → option_and_then (λ f. option_map (λ r. f ∷ r) p) o ≡ Some mapped → Split map e list mapped
split_by map e list mapped o p a b is = grind arith

split : (map : List Extent) (e : Extent) (list mapped : List Extent) → list_down map (e ∷ list) ≡ Some mapped → Split map e list mapped
split map e list mapped is = split_by map e list mapped (extent_down map e) (list_down map list) refl refl is

list_lies : (map list mapped : List Extent) → list_down map list ≡ Some mapped → All (LiesInOne map) list
list_lies map [] mapped is = All-nil (LiesInOne map)
list_lies map (e ∷ list) mapped is =
    let parts : Split map e list mapped = split map e list mapped is in
    All-cons (LiesInOne map) e list (extent_lies map e parts.first parts.first_is) (list_lies map list parts.rest parts.rest_is)

join_down : (map : List Extent) (e f : Extent) (list rest : List Extent) → extent_down map e ≡ Some f
    → list_down map list ≡ Some rest → list_down map (e ∷ list) ≡ Some (f ∷ rest)
join_down map e f list rest a b =
    ap (λ o. option_and_then (λ first. option_map (λ r. first ∷ r) (list_down map list)) o) a ∙ ap (option_map (λ r. f ∷ r)) b

lies_list : (map list : List Extent) → All (LiesInOne map) list → (mapped : List Extent) × (list_down map list ≡ Some mapped)
lies_list map [] all = ([], refl)
lies_list map (e ∷ list) all =
    let first : (out : Extent) × (extent_down map e ≡ Some out) = lies_extent map e (All-head (LiesInOne map) e list all) in
    let rest : (mapped : List Extent) × (list_down map list ≡ Some mapped) = lies_list map list (All-tail (LiesInOne map) e list all) in
    (first.0 ∷ rest.0, join_down map e first.0 list rest.0 first.1 rest.1)

-- ---- id 0 of the parent
zero_test : (list : List Extent) → MapsZero list → maps_zero list ≡ true
zero_test [] maps = absurd (any_nil (λ e. (e.outside ≡ 0) × (0 < e.length)) maps)
zero_test (e ∷ list) maps =
    elim (any_cases (λ x. (x.outside ≡ 0) × (0 < x.length)) e list maps) [
      | inl it ↦
          let at_zero : e.outside ≡ 0 = it.0 in
          let some : 0 < e.length = it.1 in
          or_left (lies_in e.outside e.length 0) (maps_zero list)
          (and_from (nat_le e.outside 0) (nat_lt 0 (e.outside + e.length)) (le-leb e.outside 0 (omega arith)) (lt-ltb 0 (e.outside + e.length) (omega arith)))
      | inr rest ↦ or_right (lies_in e.outside e.length 0) (maps_zero list) (zero_test list rest)
    ]

test_zero : (list : List Extent) → maps_zero list ≡ true → MapsZero list
test_zero [] wrong = absurd (cc)
test_zero (e ∷ list) is =
    elim (or_cases (lies_in e.outside e.length 0) (maps_zero list) is) [
      | inl it ↦
          let parts = and_parts (nat_le e.outside 0) (nat_lt 0 (e.outside + e.length)) it in
          let low : e.outside ≤ 0 = leb-true e.outside 0 parts.0 in
          let high : 0 < e.outside + e.length = ltb-true 0 (e.outside + e.length) parts.1 in
          any_here (λ x. (x.outside ≡ 0) × (0 < x.length)) e list (omega arith, omega arith)
      | inr rest ↦ any_there (λ x. (x.outside ≡ 0) × (0 < x.length)) e list (test_zero list rest)
    ]

-- ---- the writer
no_map : (o : Option (List Extent)) → is_none o ≡ true → o ≡ None
no_map None is = refl
no_map (Some map) wrong = absurd (cc)

module _ (spaces : Spaces) (at : ℕ) (c : Credential) (tree : IsTree spaces) (there : at < length spaces) where
  power : (cap n : ℕ) → has_over spaces at c cap n ≡ true → Over spaces at c.effective c.uid.effective cap n
  power cap n = (over_is spaces at c.effective c.uid.effective cap n tree there).1

  has_power : (cap n : ℕ) → Over spaces at c.effective c.uid.effective cap n → has_over spaces at c cap n ≡ true
  has_power cap n = (over_is spaces at c.effective c.uid.effective cap n tree there).0

  over_parent : (cap : ℕ) (o : Option ℕ) → has_over_parent spaces at c cap o ≡ true → (p : ℕ) × (o ≡ Some p) × Over spaces at c.effective c.uid.effective cap p
  over_parent cap None wrong = absurd (cc)
  over_parent cap (Some p) is = (p, refl, power cap p is)

  parent_over : (cap : ℕ) (o : Option ℕ) (p : ℕ) → o ≡ Some p → Over spaces at c.effective c.uid.effective cap p → has_over_parent spaces at c cap o ≡ true
  parent_over cap o p is over = ap (has_over_parent spaces at c cap) is ∙ has_power cap p over

  -- no space is its own parent
  not_itself : (space_of spaces at).parent ≢ Some at
  not_itself parent =
      let s : (s : Space) × (space_at spaces at ≡ Some s) = space_there spaces at there in
      let its : s.0.parent ≡ Some at = sym (ap (λ o. (unwrap_or o no_space).parent) s.1) ∙ parent in
      let wrong : at < at = parent_older spaces at at s.0 tree s.1 its in
      omega arith

  -- who may map the parent's id 0
  zero_forth : (file : MapFile) (target : ℕ) (list : List Extent) → (at ≡ target) ⊎ ((space_of spaces target).parent ≡ Some at)
      → setfcap_allows file spaces at c (space_of spaces target) list ≡ true → file ≡ UidMap → MapsZero list → MayMapZero spaces at c target
  zero_forth GidMap target list place allows wrong maps = absurd (cc)
  zero_forth UidMap target list place allows is maps =
      let t : Space = space_of spaces target in
      let zero_is : maps_zero list ≡ true = zero_test list maps in
      elim (or_cases (not (maps_zero list)) (if is_the t.parent at then has_over_parent spaces at c cap_setfcap t.parent else t.creator_setfcap) allows) [
        | inl wrong ↦ absurd (let no_zero : maps_zero list ≡ false = not-true (maps_zero list) wrong in let never : true ≡ false = sym zero_is ∙ no_zero in cc)
        | inr may ↦ elim (cases_Bool (is_the t.parent at)) [
          | inl child ↦
              let parent : t.parent ≡ Some at = the_is t.parent at child in
              inl (
                parent,
                power cap_setfcap at (sym (ap (has_over_parent spaces at c cap_setfcap) parent)
                    ∙ sym (cond-true (is_the t.parent at) (has_over_parent spaces at c cap_setfcap t.parent) t.creator_setfcap child) ∙ may),
              )
          | inr other ↦
              let creator : t.creator_setfcap ≡ true
              = sym (cond-false (is_the t.parent at)
              (has_over_parent spaces at c cap_setfcap t.parent) t.creator_setfcap other)
              ∙ may in
              elim place [
                | inl same ↦ inr (same, creator)
                | inr parent ↦ absurd (let never : true ≡ false = sym (is_the_same t.parent at parent) ∙ other in cc)
              ]
        ]
      ]

  zero_back : (file : MapFile) (target : ℕ) (list : List Extent) → (file ≡ UidMap → MapsZero list → MayMapZero spaces at c target)
      → setfcap_allows file spaces at c (space_of spaces target) list ≡ true
  zero_back GidMap target list may = refl
  zero_back UidMap target list may =
      let t : Space = space_of spaces target in
      elim (cases_Bool (maps_zero list)) [
        | inr none ↦
            or_left (not (maps_zero list))
            (if is_the t.parent at then has_over_parent spaces at c cap_setfcap t.parent else t.creator_setfcap)
            (not_from_false (maps_zero list) none)
        | inl maps ↦
            or_right (not (maps_zero list)) (if is_the t.parent at then has_over_parent spaces at c cap_setfcap t.parent else t.creator_setfcap)
            (elim (may refl (test_zero list maps)) [
              | inl child ↦
                  cond-true (is_the t.parent at) (has_over_parent spaces at c cap_setfcap t.parent) t.creator_setfcap (is_the_same t.parent at child.0)
                  ∙ parent_over cap_setfcap t.parent at child.0 child.1
              | inr own ↦
                  let not_child : is_the t.parent at ≡ false
                  = not_the t.parent at (λ p parent same.
                  not_itself (ap (λ (n : ℕ). (space_of spaces n).parent) own.0 ∙ parent
                  ∙ ap (λ (n : ℕ). Some n) same)) in
                  cond-false (is_the t.parent at) (has_over_parent spaces at c cap_setfcap t.parent) t.creator_setfcap not_child ∙ own.1
            ])
      ]

-- ---- the writer's own line
word_forth : (file : MapFile) (t : Space) → word_allows file t ≡ true → file ≡ GidMap → IsTrue t.deny
word_forth UidMap t allows wrong = absurd (cc)
word_forth GidMap t allows is = allows

word_back : (file : MapFile) (t : Space) → (file ≡ GidMap → IsTrue t.deny) → word_allows file t ≡ true
word_back UidMap t denied = refl
word_back GidMap t denied = denied refl

-- a single line as the initial space sees it
record Single (mapped : List Extent) (id : ℕ) : Type 0 where
  line : Extent
  is : mapped ≡ line ∷ []
  one : line.length ≡ 1
  outside : line.outside ≡ id

single_is : (mapped : List Extent) (id : ℕ) → is_single mapped id ≡ true → Single mapped id
single_is mapped id wrong = grind arith

-- a list that is taken to a single line is one
alone : (map list : List Extent) (m : Extent) → list_down map list ≡ Some (m ∷ []) → (e : Extent) × (list ≡ e ∷ []) × (extent_down map e ≡ Some m)
alone map [] m wrong = absurd (let it : [] ≡ m ∷ [] = cc in cc)
alone map (e ∷ []) m is =
    let parts : Split map e [] (m ∷ []) = split map e [] (m ∷ []) is in
    let it : (m ∷ []) ≡ parts.first ∷ parts.rest = parts.mapped_is in
    let same : parts.first ≡ m = cc in
    (e, refl, parts.first_is ∙ ap (λ (x : Extent). Some x) same)
alone map (e ∷ f ∷ list) m is =
    let parts : Split map e (f ∷ list) (m ∷ []) = split map e (f ∷ list) (m ∷ []) is in
    let more : Split map f list parts.rest = split map f list parts.rest parts.rest_is in
    let it : (m ∷ []) ≡ parts.first ∷ parts.rest = parts.mapped_is in
    let none : [] ≡ parts.rest = cc in
    let wrong : [] ≡ more.first ∷ more.rest = none ∙ more.mapped_is in
    absurd (cc)

own_forth : (file : MapFile) (spaces : Spaces) (c : Credential) (t : Space) (list mapped : List Extent)
    → list_down (parent_map file spaces t) list ≡ Some mapped
    → is_own_map file c t mapped ≡ true → IsOwnLine file spaces c t list
own_forth file spaces c t list mapped is own =
    let first = and_parts (is_single mapped (effective_id file c) && t.owner == c.uid.effective) (word_allows file t) own in
    let second = and_parts (is_single mapped (effective_id file c)) (t.owner == c.uid.effective) first.0 in
    let single : Single mapped (effective_id file c) = single_is mapped (effective_id file c) second.0 in
    let line : (e : Extent) × (list ≡ e ∷ []) × (extent_down (parent_map file spaces t) e ≡ Some single.line)
    = alone (parent_map file spaces t) list single.line (is ∙ ap (λ (x : List Extent). Some x) single.is) in
    let one : line.0.length ≡ 1 = sym (extent_length (parent_map file spaces t) line.0 single.line line.2) ∙ single.one in
    record {
      line = line.0;
      single = line.1;
      one_id = one;
      own_id = one_down (parent_map file spaces t) line.0 one ∙ ap (option_map (λ m. m.outside)) line.2 ∙ ap (λ (n : ℕ). Some n) single.outside;
      owner = sym (eqb-true t.owner c.uid.effective second.1);
      denied = word_forth file t first.1;
    }

own_back : (file : MapFile) (spaces : Spaces) (c : Credential) (t : Space) (list mapped : List Extent) → list_down (parent_map file spaces t) list ≡ Some mapped
    → IsOwnLine file spaces c t list → is_own_map file c t mapped ≡ true
own_back file spaces c t list mapped is own =
    let map : List Extent = parent_map file spaces t in
    let parts : Split map own.line [] mapped = split map own.line [] mapped (sym (ap (list_down map) own.single) ∙ is) in
    let rest : Some [] ≡ Some parts.rest = parts.rest_is in
    let none : [] ≡ parts.rest = cc in
    let mapped_is : mapped ≡ parts.first ∷ [] = parts.mapped_is ∙ ap (λ (x : List Extent). parts.first ∷ x) (sym none) in
    let one : parts.first.length ≡ 1 = extent_length map own.line parts.first parts.first_is ∙ own.one_id in
    let it : Some parts.first.outside ≡ Some (effective_id file c)
    = sym (ap (option_map (λ m. m.outside)) parts.first_is) ∙ sym (one_down map own.line own.one_id) ∙ own.own_id in
    let outside : parts.first.outside ≡ effective_id file c = cc in
    and_from (is_single mapped (effective_id file c) && t.owner == c.uid.effective) (word_allows file t)
    (and_from (is_single mapped (effective_id file c)) (t.owner == c.uid.effective)
    (ap (λ (x : List Extent). is_single x (effective_id file c)) mapped_is
    ∙ and_from (parts.first.length == 1) (parts.first.outside == effective_id file c) (eq-eqb parts.first.length 1 one)
    (eq-eqb parts.first.outside (effective_id file c) outside))
    (eq-eqb t.owner c.uid.effective (sym own.owner)))
    (word_back file t own.denied)

-- ---- the write
-- what a write that is done has passed
record Passed (file : MapFile) (spaces : Spaces) (at : ℕ) (c : Credential) (target : ℕ) (list : List Extent) : Type 0 where
  may : may_write file spaces at c target ≡ true
  valid : is_map list ≡ true
  mapped : List Extent
  mapped_is : list_down (parent_map file spaces (space_of spaces target)) list ≡ Some mapped
  setfcap : setfcap_allows file spaces at c (space_of spaces target) list ≡ true
  maps : may_map file spaces at c (space_of spaces target) mapped ≡ true

done_passed : (file : MapFile) (spaces : Spaces) (at : ℕ) (c : Credential) (target : ℕ) (list : List Extent)
    → (write_map file spaces at c target list).res ≡ Done
    → Passed file spaces at c target list
done_passed file spaces at c target list is =
    by (may_write file spaces at c target) (is_map list) (list_down (parent_map file spaces (space_of spaces target)) list) refl refl refl is
  where
    last : (mapped : List Extent) (b : Bool)
        → (setfcap_allows file spaces at c (space_of spaces target) list && may_map file spaces at c (space_of spaces target) mapped) ≡ b
        → (let x : Written
        = if b then write_done spaces target (with_map file (space_of spaces target) mapped)
        else write_refused EPERM spaces in
        x).res
        ≡ Done
        → b ≡ true
    last mapped true e it = refl
    last mapped false e wrong = absurd (cc)

    by : (a b : Bool) (o : Option (List Extent)) → may_write file spaces at c target ≡ a → is_map list ≡ b
        → list_down (parent_map file spaces (space_of spaces target)) list ≡ o
        → (let x : Written
        = if not a then write_refused EPERM spaces else if not b then write_refused EINVAL spaces
        else write_stored file spaces at c target list o in
        x).res
        ≡ Done
        → Passed file spaces at c target list
    by true true (Some mapped) x y z it =
        let both : (setfcap_allows file spaces at c (space_of spaces target) list && may_map file spaces at c (space_of spaces target) mapped) ≡ true
        = last mapped (setfcap_allows file spaces at c (space_of spaces target) list && may_map file spaces at c (space_of spaces target) mapped) refl it in
        let parts = and_parts (setfcap_allows file spaces at c (space_of spaces target) list) (may_map file spaces at c (space_of spaces target) mapped) both in
        record { may = x; valid = y; mapped = mapped; mapped_is = z; setfcap = parts.0; maps = parts.1 }
    by _ _ _ x y z wrong = absurd (cc)

passed_done : (file : MapFile) (spaces : Spaces) (at : ℕ) (c : Credential) (target : ℕ) (list : List Extent) → Passed file spaces at c target list
    → (write_map file spaces at c target list).res ≡ Done
passed_done file spaces at c target list passed = grind arith

passed_may : (file : MapFile) (spaces : Spaces) (at : ℕ) (c : Credential) (target : ℕ) (list : List Extent) → IsTree spaces → at < length spaces
    → Passed file spaces at c target list → MayWriteMap file spaces at c target list
passed_may file spaces at c target list tree there passed =
    let t : Space = space_of spaces target in
    let first = and_parts (is_none (map_of file t) && (at == target || is_the t.parent at)) (has_over spaces at c (cap_for file) target) passed.may in
    let second = and_parts (is_none (map_of file t)) (at == target || is_the t.parent at) first.0 in
    let place : (at ≡ target) ⊎ (t.parent ≡ Some at)
    = elim (or_cases (at == target) (is_the t.parent at) second.1) [
      | inl same ↦ inl (eqb-true at target same)
      | inr child ↦ inr (the_is t.parent at child)
    ] in
    record {
      unwritten = no_map (map_of file t) second.0;
      valid = passed.valid;
      power = power spaces at c tree there (cap_for file) target first.1;
      place = place;
      mapped = list_lies (parent_map file spaces t) list passed.mapped passed.mapped_is;
      zero = zero_forth spaces at c tree there file target list place passed.setfcap;
      any_or_own = elim (or_cases (has_over_parent spaces at c (cap_for file) t.parent) (is_own_map file c t passed.mapped) passed.maps) [
        | inl over ↦
            let p : (p : ℕ) × (t.parent ≡ Some p) × Over spaces at c.effective c.uid.effective (cap_for file) p
            = over_parent spaces at c tree there (cap_for file) t.parent over in
            inl (record { parent = p.0; is_parent = p.1; power = p.2 })
        | inr own ↦ inr (own_forth file spaces c t list passed.mapped passed.mapped_is own)
      ];
    }

may_passed : (file : MapFile) (spaces : Spaces) (at : ℕ) (c : Credential) (target : ℕ) (list : List Extent) → IsTree spaces → at < length spaces
    → MayWriteMap file spaces at c target list → Passed file spaces at c target list
may_passed file spaces at c target list tree there may =
    let t : Space = space_of spaces target in
    let mapped : (mapped : List Extent) × (list_down (parent_map file spaces t) list ≡ Some mapped) = lies_list (parent_map file spaces t) list may.mapped in
    record {
      may = and_from (is_none (map_of file t) && (at == target || is_the t.parent at)) (has_over spaces at c (cap_for file) target)
          (and_from (is_none (map_of file t)) (at == target || is_the t.parent at) (ap is_none may.unwritten)
          (elim may.place [
            | inl same ↦ or_left (at == target) (is_the t.parent at) (eq-eqb at target same)
            | inr child ↦ or_right (at == target) (is_the t.parent at) (is_the_same t.parent at child)
          ]))
          (has_power spaces at c tree there (cap_for file) target may.power);
      valid = may.valid;
      mapped = mapped.0;
      mapped_is = mapped.1;
      setfcap = zero_back spaces at c tree there file target list may.zero;
      maps = elim may.any_or_own [
        | inl over ↦
            or_left (has_over_parent spaces at c (cap_for file) t.parent) (is_own_map file c t mapped.0)
            (parent_over spaces at c tree there (cap_for file) t.parent over.parent over.is_parent over.power)
        | inr own ↦
            or_right (has_over_parent spaces at c (cap_for file) t.parent) (is_own_map file c t mapped.0)
            (own_back file spaces c t list mapped.0 mapped.1 own)
      ];
    }

pub who_writes_maps : WhoWritesMaps
unfolding WhoWritesMaps
who_writes_maps file spaces at c target list tree there =
    let low : at < length spaces = ltb-true at (length spaces) there in (
      (λ is. passed_may file spaces at c target list tree low (done_passed file spaces at c target list is)),
      (λ may. passed_done file spaces at c target list (may_passed file spaces at c target list tree low may)),
    )
