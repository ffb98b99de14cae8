-- Root's sets at execve, and the exception for a set-user-ID-root file with an attribute of its own.
use Rattle.std.proofs.Common.{arith, ◌≡◌, ◌⊎◌, ℕ, ◌&&◌, ◌||◌, not, Bool, true, false, Some, if◌then◌else◌, refl, sym, ap, ◌∙◌, inl, inr, subst}
use Rattle.std.specs.Prelude.{IsTrue}
use Rattle.std.proofs.lemmas.Bool.{and_parts, and_from, or_cases, or_left, or_right, not-true, not_from_false, false_from_ne_true}
use Rattle.cm_base.specs.CapSet.{full, none, union, meet, is_within, IsCapSet}
use Rattle.cm_base.specs.declared.errno.Errno.TheVariants.{EPERM, EACCES}
use Rattle.cm_base.specs.declared.res.Res.TheVariants.{Done}
use Rattle.cm_base.proofs.CapSets.{within_reflexive, within_transitive, within_antisymmetric, none_within, within_full}
use Rattle.cm_base.proofs.CapSets.{within_meet, meet_within_second, first_within_union, union_within}
use Rattle.cm_base.proofs.Words.{meet_full}
use Rattle.model_cred.specs.Credential.{Credential, Keeps}
use Rattle.model_cred.specs.Files.{FileCaps}
use Rattle.model_cred.specs.Space.{Spaces, space_of}
use Rattle.model_rules.specs.Answer.{Answer, done, refused}
use Rattle.model_rules.specs.Exec.{FileSets, execve, cred_after, uids_after, own_sets, attribute_sets, no_sets}
use Rattle.model_rules.specs.Exec.{sets_for, attribute_counts, setuid_counts, setgid_counts, is_privileged, run_file}
use Rattle.model_rules.specs.Exec.{may_exec, would_lack, permitted_after, ambient_after}
use Rattle.model_rules.specs.FileView.{FileView}
use Rattle.model_rules.specs.Securebits.{has_flag, noroot}
use Rattle.model_rules.specs.Zero.{is_zero, zero_of}
use Rattle.model_laws.specs.Sentences.{IsRoot, IsExcepted, RootRule, RootSets, RootGainsAll, ExceptionGainsOwn}
use Rattle.model_cred.proofs.Chains.{the_is, is_the_same}
use Rattle.model_laws.proofs.Ids.{either}

-- the sets that count, by the tests for SECBIT_NOROOT, an attribute that counts, a real and an effective root id
abbrev sets_by : Bool → Bool → Bool → Bool → FileSets → FileSets
sets_by n a r e own =
    if n || ((a && not r) && e) then own
    else if e then record { permitted = full; inheritable = full; effective = true }
    else if r then record own { permitted = full; inheritable = full }
    else own

record Table (n a r e : Bool) (own sets : FileSets) : Type 0 where
  permitted : n ≡ false → ((a && not r) && e) ≡ false → (r || e) ≡ true → sets.permitted ≡ full
  inheritable : n ≡ false → ((a && not r) && e) ≡ false → (r || e) ≡ true → sets.inheritable ≡ full
  bit : n ≡ false → ((a && not r) && e) ≡ false → sets.effective ≡ (e || own.effective)
  others : r ≡ false → e ≡ false → sets ≡ own
  excepted : ((a && not r) && e) ≡ true → sets ≡ own
  noroot : n ≡ true → sets ≡ own

table : (n a r e : Bool) (own : FileSets) → Table n a r e own (sets_by n a r e own)
table n a r e own = grind arith

-- the test for root's id and the sentence
module _ (spaces : Spaces) (at : ℕ) where
  root_test : (id : ℕ) → IsRoot spaces at id → is_zero (space_of spaces at) id ≡ true
  root_test id is = is_the_same (zero_of (space_of spaces at)) id is

  test_root : (id : ℕ) → is_zero (space_of spaces at) id ≡ true → IsRoot spaces at id
  test_root id is = the_is (zero_of (space_of spaces at)) id is

  no_root_test : (id : ℕ) → ¬ (IsRoot spaces at id) → is_zero (space_of spaces at) id ≡ false
  no_root_test id other = false_from_ne_true (is_zero (space_of spaces at) id) (λ is. other (test_root id is))

  either_test : (real effective : ℕ) → IsRoot spaces at real ⊎ IsRoot spaces at effective
      → (is_zero (space_of spaces at) real || is_zero (space_of spaces at) effective) ≡ true
  either_test real effective (inl is) = or_left _ _ (root_test real is)
  either_test real effective (inr is) = or_right (is_zero (space_of spaces at) real) _ (root_test effective is)

root_rule : (spaces : Spaces) (at : ℕ) (c : Credential) (f : FileView) → RootRule spaces at c f (sets_for spaces at c f)
root_rule spaces at c f =
    let attribute : Bool = attribute_counts spaces at c f in
    let r : ℕ = (uids_after spaces at c f).real in
    let e : ℕ = (uids_after spaces at c f).effective in
    let real : Bool = is_zero (space_of spaces at) r in
    let effective : Bool = is_zero (space_of spaces at) e in
    let rows : Table (has_flag c noroot) attribute real effective (own_sets spaces at c f) (sets_for spaces at c f)
    = table (has_flag c noroot) attribute real effective (own_sets spaces at c f) in
    let excepted_is : ((attribute && not real) && effective) ≡ true → IsExcepted spaces at c f
    = λ (is : ((attribute && not real) && effective) ≡ true).
    let both : ((attribute && not real) ≡ true) × (effective ≡ true) = and_parts (attribute && not real) effective is in
    let first : (attribute ≡ true) × (not real ≡ true) = and_parts attribute (not real) both.0 in
    (first.0, (λ root. let wrong : true ≡ false = sym (root_test spaces at r root) ∙ not-true real first.1 in cc), test_root spaces at e both.1) in
    let not_excepted : ¬ (IsExcepted spaces at c f) → ((attribute && not real) && effective) ≡ false
    = λ (other : ¬ (IsExcepted spaces at c f)). false_from_ne_true ((attribute && not real) && effective) (λ is. other (excepted_is is)) in
    let is_excepted : IsExcepted spaces at c f → ((attribute && not real) && effective) ≡ true
    = λ (is : IsExcepted spaces at c f).
    and_from (attribute && not real) effective
    (and_from attribute (not real) is.0 (not_from_false real (no_root_test spaces at r is.1)))
    (root_test spaces at e is.2) in
    record {
      all_permitted = λ plain other roots. rows.permitted plain (not_excepted other) (either_test spaces at r e roots);
      all_inheritable = λ plain other roots. rows.inheritable plain (not_excepted other) (either_test spaces at r e roots);
      effective_bit = λ plain other. (
        (λ is. elim (or_cases effective (own_sets spaces at c f).effective (sym (rows.bit plain (not_excepted other)) ∙ is)) [
          | inl zero_is ↦ inl (test_root spaces at e zero_is)
          | inr own ↦ inr own
        ]),
        (λ cases. rows.bit plain (not_excepted other) ∙ elim cases [
          | inl root ↦ or_left effective (own_sets spaces at c f).effective (root_test spaces at e root)
          | inr own ↦ or_right effective (own_sets spaces at c f).effective own
        ]),
      );
      others = λ no_real no_effective. rows.others (no_root_test spaces at r no_real) (no_root_test spaces at e no_effective);
      excepted = λ is. rows.excepted (is_excepted is);
      under_noroot = λ is. rows.noroot is;
    }

pub root_sets : RootSets
unfolding RootSets
root_sets = root_rule

-- ---- execve
-- what is done leaves the credential after execve
exec_done : (c d : Credential) (a b : Bool) → (let x : Answer = if a then refused EACCES c else if b then refused EPERM c else done d in x).res ≡ Done
    → (let x : Answer = if a then refused EACCES c else if b then refused EPERM c else done d in x).cred ≡ d
exec_done c d false false is = refl
exec_done c d _ _ wrong = absurd (cc)

full_meet : (b : ℕ) → IsCapSet b → meet full b ≡ b
full_meet b small = within_antisymmetric (meet full b) b (meet_within_second full b) (within_meet full b b (within_full b small) (within_reflexive b))

union_absorbs : (a b : ℕ) → IsTrue (is_within b a) → union a b ≡ a
union_absorbs a b within = within_antisymmetric (union a b) a (union_within a b a (within_reflexive a) within) (first_within_union a b)

-- without no_new_privs the permitted set is what is gained
gained : (c : Credential) (f : FileSets) (ambient : ℕ) → c.no_new_privs ≡ false
    → permitted_after c f ambient ≡ union (union (meet c.inheritable f.inheritable) (meet f.permitted c.bounding)) ambient
gained c f ambient free = grind arith

-- of root's sets that is all of the inheritable and the bounding set
gains_all : (c : Credential) (f : FileSets) (ambient : ℕ) → Keeps c → c.no_new_privs ≡ false → f.permitted ≡ full → f.inheritable ≡ full
    → IsTrue (is_within ambient c.ambient) → permitted_after c f ambient ≡ union c.inheritable c.bounding
gains_all c f ambient keeps free all_permitted all_inheritable within =
    gained c f ambient free
    ∙ ap (λ (set : ℕ). union (union (meet c.inheritable set) (meet f.permitted c.bounding)) ambient) all_inheritable
    ∙ ap (λ (set : ℕ). union (union (meet c.inheritable full) (meet set c.bounding)) ambient) all_permitted
    ∙ ap (λ (set : ℕ). union (union set (meet full c.bounding)) ambient) (meet_full c.inheritable keeps.inheritable)
    ∙ ap (λ (set : ℕ). union (union c.inheritable set) ambient) (full_meet c.bounding keeps.bounding)
    ∙ union_absorbs (union c.inheritable c.bounding) ambient
    (within_transitive ambient c.inheritable (union c.inheritable c.bounding)
    (within_transitive ambient c.ambient c.inheritable within keeps.included.ambient_inheritable) (first_within_union c.inheritable c.bounding))

root_after : (spaces : Spaces) (at : ℕ) (c : Credential) (f : FileView) → Keeps c → c.no_new_privs ≡ false → has_flag c noroot ≡ false
    → IsRoot spaces at (cred_after spaces at c f).uid.effective
    → IsRoot spaces at (cred_after spaces at c f).uid.real ⊎ (attribute_counts spaces at c f ≡ false)
    → ((cred_after spaces at c f).permitted ≡ union c.inheritable c.bounding) × ((cred_after spaces at c f).effective ≡ (cred_after spaces at c f).permitted)
root_after spaces at c f keeps free plain effective real =
    let rule : RootRule spaces at c f (sets_for spaces at c f) = root_rule spaces at c f in
    let other : ¬ (IsExcepted spaces at c f)
    = λ (is : IsExcepted spaces at c f). elim real [
      | inl root ↦ is.1 root
      | inr no_attribute ↦ let wrong : true ≡ false = sym is.0 ∙ no_attribute in cc
    ] in
    let ambient : ℕ = ambient_after c (is_privileged spaces at c f) in
    let within : IsTrue (is_within ambient c.ambient)
    = either (λ set. IsTrue (is_within set c.ambient)) (is_privileged spaces at c f) none c.ambient (none_within c.ambient) (within_reflexive c.ambient) in
    let bit : (sets_for spaces at c f).effective ≡ true = (rule.effective_bit plain other).1 (inl effective) in (
      gains_all c (sets_for spaces at c f) ambient keeps free (rule.all_permitted plain other (inr effective))
          (rule.all_inheritable plain other (inr effective)) within,
      ap (λ (b : Bool). if b then permitted_after c (sets_for spaces at c f) ambient else ambient) bit,
    )

pub root_gains_all : RootGainsAll
unfolding RootGainsAll
root_gains_all files spaces at c file keeps is free plain =
    let f : FileView = run_file files file in
    let after : (execve files spaces at c file).cred ≡ cred_after spaces at c f
    = exec_done c (cred_after spaces at c f) (not (may_exec (space_of spaces at) c files file)) (would_lack c (own_sets spaces at c f)) is in
    subst (λ (d : Credential). IsRoot spaces at d.uid.effective → IsRoot spaces at d.uid.real ⊎ (attribute_counts spaces at c f ≡ false)
    → (d.permitted ≡ union c.inheritable c.bounding) × (d.effective ≡ d.permitted)) (sym after)
    (root_after spaces at c f keeps free plain)

excepted_after : (spaces : Spaces) (at : ℕ) (c : Credential) (f : FileView) (a : FileCaps) → c.no_new_privs ≡ false → IsExcepted spaces at c f → f.caps ≡ Some a
    → ((cred_after spaces at c f).permitted ≡ union (meet c.inheritable a.inheritable) (meet a.permitted c.bounding))
    × ((cred_after spaces at c f).effective ≡ (if a.effective then (cred_after spaces at c f).permitted else none))
excepted_after spaces at c f a free is caps =
    let rule : RootRule spaces at c f (sets_for spaces at c f) = root_rule spaces at c f in
    let own : FileSets = record { permitted = a.permitted; inheritable = a.inheritable; effective = a.effective } in
    let sets : sets_for spaces at c f ≡ own
    = rule.excepted is ∙ ap (λ (b : Bool). if b then attribute_sets f.caps else no_sets) is.0 ∙ ap attribute_sets caps in
    let privileged : is_privileged spaces at c f ≡ true
    = or_left (attribute_counts spaces at c f || setuid_counts spaces at c f) (setgid_counts spaces at c f)
    (or_left (attribute_counts spaces at c f) (setuid_counts spaces at c f) is.0) in
    let ambient : ambient_after c (is_privileged spaces at c f) ≡ none = ap (ambient_after c) privileged in
    let permitted : permitted_after c (sets_for spaces at c f) (ambient_after c (is_privileged spaces at c f))
    ≡ union (meet c.inheritable a.inheritable) (meet a.permitted c.bounding)
    = ap (λ (x : FileSets). permitted_after c x (ambient_after c (is_privileged spaces at c f))) sets
    ∙ ap (permitted_after c own) ambient
    ∙ gained c own none free
    ∙ union_absorbs (union (meet c.inheritable a.inheritable) (meet a.permitted c.bounding)) none
    (none_within (union (meet c.inheritable a.inheritable) (meet a.permitted c.bounding))) in (
      permitted,
      ap (λ (x : FileSets). if x.effective
          then permitted_after c (sets_for spaces at c f) (ambient_after c (is_privileged spaces at c f))
          else ambient_after c (is_privileged spaces at c f)) sets
          ∙ ap (λ (set : ℕ). if a.effective then permitted_after c (sets_for spaces at c f) (ambient_after c (is_privileged spaces at c f)) else set) ambient,
    )

pub exception_gains_own : ExceptionGainsOwn
unfolding ExceptionGainsOwn
exception_gains_own files spaces at c file a is free excepted caps =
    let f : FileView = run_file files file in
    let after : (execve files spaces at c file).cred ≡ cred_after spaces at c f
    = exec_done c (cred_after spaces at c f) (not (may_exec (space_of spaces at) c files file)) (would_lack c (own_sets spaces at c f)) is in
    subst (λ (d : Credential). (d.permitted ≡ union (meet c.inheritable a.inheritable) (meet a.permitted c.bounding))
    × (d.effective ≡ (if a.effective then d.permitted else none)))
    (sym after) (excepted_after spaces at c f a free excepted caps)
