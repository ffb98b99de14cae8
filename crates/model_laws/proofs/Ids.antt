-- The calls that set ids give ids.
use Rattle.std.proofs.Common.{◌≡◌, ℕ, ◌+◌, ◌-◌, ◌<◌, ◌≤◌, ◌==◌, ◌&&◌, ◌||◌, not, Bool, true, false, List, [], ◌∷◌}
use Rattle.std.proofs.Common.{Option, Some, None, if◌then◌else◌, refl, sym, ◌∙◌, inl, inr, subst, arith, All}
use Rattle.std.specs.Prelude.{Result, Ok, option_and_then, option_map, nat_le, nat_lt}
use Rattle.std.specs.declared.result.Result.TheVariants.{Err}
use Rattle.std.proofs.lemmas.Bool.{cases_Bool, ltb-true, leb-true, cond-true, cond-false, and_parts}
use Rattle.std.proofs.lemmas.List.Elements.{All-nil, All-head, All-tail}
use Rattle.cm_base.specs.Limits.{id_count}
use Rattle.cm_base.specs.declared.errno.Errno.{Errno}
use Rattle.cm_base.specs.declared.errno.Errno.TheVariants.{EPERM, EINVAL}
use Rattle.model_cred.specs.Credential.{FourIds, AreIds, IsId, all_four, is_one_of_three}
use Rattle.model_cred.specs.IdMap.{Extent, HasIds, down, lies_in}
use Rattle.model_rules.specs.SetGroups.{all_down}
use Rattle.model_rules.specs.SetId.{asked, minus_one, one_mapped, both_mapped, all_mapped, setresid, setreid, setid, setfsid, with_fs, saved_after, is_given}

-- what holds of both holds of the one that a test chooses
pub either : {A : Type 0} (P : A → Type 0) (b : Bool) (x y : A) → P x → P y → P (if b then x else y)
either P true x y first second = first
either P false x y first second = second

-- the outside ids of one line are ids
abbrev pub FitsIds : Extent → Type 0
FitsIds e = e.outside + e.length ≤ id_count

-- a map whose outside ids are ids gives ids
pub down_id : (map : List Extent) (id out : ℕ) → HasIds map → down map id ≡ Some out → IsId out
down_id [] id out ids is = absurd (cc)
down_id (e ∷ map) id out ids is =
    elim (cases_Bool (lies_in e.inside e.length id)) [
      | inl within ↦
          let it : Some (e.outside + (id - e.inside)) ≡ Some out
          = sym (cond-true (lies_in e.inside e.length id) (Some (e.outside + (id - e.inside))) (down map id) within)
          ∙ is in
          let e_is : e.outside + (id - e.inside) ≡ out = cc in
          let parts : (nat_le e.inside id ≡ true) × (nat_lt id (e.inside + e.length) ≡ true) = and_parts _ _ within in
          let low : e.inside ≤ id = leb-true e.inside id parts.0 in
          let high : id < e.inside + e.length = ltb-true id (e.inside + e.length) parts.1 in
          let fits : e.outside + e.length ≤ id_count = All-head FitsIds e map ids in
          omega arith
      | inr outside ↦
          down_id map id out (All-tail FitsIds e map ids)
          (sym (cond-false (lies_in e.inside e.length id) (Some (e.outside + (id - e.inside)))
          (down map id) outside)
          ∙ is)
    ]

-- what is asked for is an id
pub asked_id : (map : List Extent) (old given id : ℕ) → HasIds map → IsId old → asked map old given ≡ Some id → IsId id
asked_id map old given id ids small is =
    elim (cases_Bool (given == minus_one)) [
      | inl same ↦
          let it : Some old ≡ Some id = sym (cond-true (given == minus_one) (Some old) (down map given) same) ∙ is in
          let e : old ≡ id = cc in
          omega arith
      | inr other ↦ down_id map given id ids (sym (cond-false (given == minus_one) (Some old) (down map given) other) ∙ is)
    ]

-- the new ids, if there are any, are ids
pub record GivesIds (r : Result FourIds Errno) : Type 0 where
  pub ids : (ids : FourIds) → r ≡ Ok ids → AreIds ids

gives_ok : (ids : FourIds) → AreIds ids → GivesIds (Ok ids)
gives_ok ids are = record { ids = λ others is. let e : ids ≡ others = cc in subst AreIds e are }

gives_error : (e : Errno) → GivesIds (Err e)
gives_error e = record { ids = λ ids wrong. absurd (cc) }

one_gives : (o : Option ℕ) (f : ℕ → Result FourIds Errno) → ((a : ℕ) → o ≡ Some a → GivesIds (f a)) → GivesIds (one_mapped o f)
one_gives None f gives = gives_error EINVAL
one_gives (Some a) f gives = gives a refl

both_give : (o p : Option ℕ) (f : ℕ → ℕ → Result FourIds Errno) → ((a b : ℕ) → o ≡ Some a → p ≡ Some b → GivesIds (f a b)) → GivesIds (both_mapped o p f)
both_give (Some a) (Some b) f gives = gives a b refl refl
both_give _ _ f gives = gives_error EINVAL

all_give : (o p q : Option ℕ) (f : ℕ → ℕ → ℕ → Result FourIds Errno)
    → ((a b c : ℕ) → o ≡ Some a → p ≡ Some b → q ≡ Some c → GivesIds (f a b c)) → GivesIds (all_mapped o p q f)
all_give o p q f gives = grind arith

pub setresid_ids : (map : List Extent) (privileged : Bool) (old : FourIds) (r e s : ℕ) → HasIds map → AreIds old → GivesIds (setresid map privileged old r e s)
setresid_ids map privileged old r e s ids are =
    all_give (asked map old.real r) (asked map old.effective e) (asked map old.saved s) _ (λ real effective saved is_real is_effective is_saved.
    either GivesIds (privileged || (is_one_of_three old real && is_one_of_three old effective && is_one_of_three old saved))
    (Ok (record { real = real; effective = effective; saved = saved; fs = effective })) (Err EPERM)
    (gives_ok (record { real = real; effective = effective; saved = saved; fs = effective }) (record {
      real = asked_id map old.real r real ids are.real is_real;
      effective = asked_id map old.effective e effective ids are.effective is_effective;
      saved = asked_id map old.saved s saved ids are.saved is_saved;
      fs = asked_id map old.effective e effective ids are.effective is_effective;
    }))
    (gives_error EPERM))

pub setreid_ids : (map : List Extent) (privileged : Bool) (old : FourIds) (r e : ℕ) → HasIds map → AreIds old → GivesIds (setreid map privileged old r e)
setreid_ids map privileged old r e ids are =
    both_give (asked map old.real r) (asked map old.effective e) _ (λ real effective is_real is_effective.
    either GivesIds (privileged || ((real == old.real || real == old.effective) && is_one_of_three old effective))
    (Ok (record { real = real; effective = effective; saved = saved_after old r e effective; fs = effective })) (Err EPERM)
    (gives_ok (record { real = real; effective = effective; saved = saved_after old r e effective; fs = effective }) (record {
      real = asked_id map old.real r real ids are.real is_real;
      effective = asked_id map old.effective e effective ids are.effective is_effective;
      saved = either IsId (is_given r || (is_given e && not (effective == old.real))) effective old.saved
          (asked_id map old.effective e effective ids are.effective is_effective) are.saved;
      fs = asked_id map old.effective e effective ids are.effective is_effective;
    }))
    (gives_error EPERM))

pub setid_ids : (map : List Extent) (privileged : Bool) (old : FourIds) (argument : ℕ) → HasIds map → AreIds old → GivesIds (setid map privileged old argument)
setid_ids map privileged old argument ids are =
    one_gives (down map argument) _ (λ id is.
    let small : IsId id = down_id map argument id ids is in
    either GivesIds privileged (Ok (all_four id)) (if id == old.real || id == old.saved then Ok (record old { effective = id; fs = id }) else Err EPERM)
    (gives_ok (all_four id) (record { real = small; effective = small; saved = small; fs = small }))
    (either GivesIds (id == old.real || id == old.saved) (Ok (record old { effective = id; fs = id })) (Err EPERM)
    (gives_ok (record old { effective = id; fs = id }) (record { real = are.real; effective = small; saved = are.saved; fs = small }))
    (gives_error EPERM)))

with_fs_ids : (privileged : Bool) (old : FourIds) (o : Option ℕ) → AreIds old → ((id : ℕ) → o ≡ Some id → IsId id) → AreIds (with_fs privileged old o)
with_fs_ids privileged old o are small = grind arith

pub setfsid_ids : (map : List Extent) (privileged : Bool) (old : FourIds) (argument : ℕ) → HasIds map → AreIds old
    → AreIds (setfsid map privileged old argument)
setfsid_ids map privileged old argument ids are = with_fs_ids privileged old (down map argument) are (λ id is. down_id map argument id ids is)

-- ---- groups
-- what a list of ids is mapped to are ids, by what the first and the rest are mapped to
all_down_step : (first : Option ℕ) (rest : Option (List ℕ)) (out : List ℕ) → ((id : ℕ) → first ≡ Some id → IsId id)
    → ((ids : List ℕ) → rest ≡ Some ids → All IsId ids)
    → option_and_then (λ f. option_map (λ r. f ∷ r) rest) first ≡ Some out → All IsId out
all_down_step first rest out small smalls is = grind arith

pub all_down_ids : (map : List Extent) (ids out : List ℕ) → HasIds map → all_down map ids ≡ Some out → All IsId out
all_down_ids map [] out has is = let e : [] ≡ out = cc in subst (All IsId) e (All-nil IsId)
all_down_ids map (id ∷ ids) out has is =
    all_down_step (down map id) (all_down map ids) out (λ k e. down_id map id k has e) (λ rest e. all_down_ids map ids rest has e) is
