-- The calls that set user ids and group ids keep four ids within a row: said once, of any sets of ids.
use Rattle.std.proofs.Common.{◌≡◌, ℕ, ◌+◌, ◌-◌, ◌<◌, ◌≤◌, Bool, true, false, ◌&&◌, ◌||◌, not, Some, None, Option, List}
use Rattle.std.proofs.Common.{[], ◌∷◌, refl, sym, ◌∙◌, inl, inr, arith, ltb, leb, eqb, Result, Ok}
use Rattle.std.specs.Prelude.{◌⊎◌, ◌==◌, IsTrue, if◌then◌else◌}
use Rattle.std.specs.declared.result.Result.TheVariants.{Err}
use Rattle.std.proofs.lemmas.Bool.{false≢true, and_parts, and_from, or_cases, or_left, or_right, eqb-true, eq-eqb, ltb-true, leb-true, lt-ltb, le-leb}
use Rattle.cm_base.specs.declared.errno.Errno.{Errno}
use Rattle.cm_base.specs.declared.errno.Errno.TheVariants.{EPERM}
use Rattle.model_cred.specs.Credential.{FourIds, is_one_of_three, all_four}
use Rattle.model_cred.specs.IdMap.{Extent, down, is_outside, lies_in}
use Rattle.model_rules.specs.SetId.{minus_one, is_given, asked, setresid, setreid, setid, setfsid, with_fs, saved_after, one_mapped, both_mapped, all_mapped}
use Rattle.model_box.specs.Gains.{Settable}
use Rattle.model_box.proofs.Writing.{choose}

-- an id within an extent is an outside id, and so is one of the extents after it
pub outside_here : (e : Extent) (map : List Extent) (k : ℕ) → e.outside ≤ k → k < e.outside + e.length → IsTrue (is_outside (e ∷ map) k)
outside_here e map k low high =
    choose (λ (b : Bool). IsTrue b) (lies_in e.outside e.length k) true (is_outside map k) (λ _. refl)
    (λ wrong.
    absurd (false≢true (sym wrong
    ∙ and_from (leb e.outside k) (ltb k (e.outside + e.length)) (le-leb e.outside k low)
    (lt-ltb k (e.outside + e.length) high))))

pub outside_later : (e : Extent) (map : List Extent) (k : ℕ) → IsTrue (is_outside map k) → IsTrue (is_outside (e ∷ map) k)
outside_later e map k held = choose (λ (b : Bool). IsTrue b) (lies_in e.outside e.length k) true (is_outside map k) (λ _. refl) (λ _. held)

-- what an id is mapped to is an outside id
pub down_outside : (map : List Extent) (i k : ℕ) → down map i ≡ Some k → IsTrue (is_outside map k)
down_outside [] i k same = absurd (cc)
down_outside (e ∷ map) i k same = go (lies_in e.inside e.length i) refl same (λ rest. down_outside map i k rest) where
  go : (b : Bool) → lies_in e.inside e.length i ≡ b → (if b then Some (e.outside + (i - e.inside)) else down map i) ≡ Some k
      → (down map i ≡ Some k → IsTrue (is_outside map k)) → IsTrue (is_outside (e ∷ map) k)
  go true inside found rest =
      let k_is : e.outside + (i - e.inside) ≡ k = cc in
      let ends = and_parts (leb e.inside i) (ltb i (e.inside + e.length)) inside in
      let low : e.inside ≤ i = leb-true e.inside i ends.0 in
      let high : i < e.inside + e.length = ltb-true i (e.inside + e.length) ends.1 in
      outside_here e map k (omega arith) (omega arith)
  go false outside found rest = outside_later e map k (rest found)

-- four ids are within three sets: the real, effective and saved one, the effective one, the fs one
pub record IdsIn (Old Effective Fs : ℕ → Type 0) (ids : FourIds) : Type 0 where
  pub three : (x : ℕ) → IsTrue (is_one_of_three ids x) → Old x
  pub effective : (x : ℕ) → x ≡ ids.effective → Effective x
  pub fs : (x : ℕ) → x ≡ ids.fs → Fs x

-- the ids that a call gives, where it gives any
abbrev pub OkIn : (FourIds → Type 0) → Result FourIds Errno → Type 0
OkIn P (Ok ids) = P ids
OkIn P (Err e) = Unit {0}

pub is_real : (ids : FourIds) → IsTrue (is_one_of_three ids ids.real)
is_real ids =
    or_left (eqb ids.real ids.real || eqb ids.real ids.effective) (eqb ids.real ids.saved)
    (or_left (eqb ids.real ids.real) (eqb ids.real ids.effective) (eq-eqb ids.real ids.real refl))

pub is_effective : (ids : FourIds) → IsTrue (is_one_of_three ids ids.effective)
is_effective ids =
    or_left (eqb ids.effective ids.real || eqb ids.effective ids.effective) (eqb ids.effective ids.saved)
    (or_right (eqb ids.effective ids.real) (eqb ids.effective ids.effective) (eq-eqb ids.effective ids.effective refl))

pub is_saved : (ids : FourIds) → IsTrue (is_one_of_three ids ids.saved)
is_saved ids = or_right (eqb ids.saved ids.real || eqb ids.saved ids.effective) (eqb ids.saved ids.saved) (eq-eqb ids.saved ids.saved refl)

-- four ids are within the sets where each of them is
pub from_each : (Old Effective Fs : ℕ → Type 0) (ids : FourIds) → Old ids.real → Old ids.saved → Old ids.effective → Effective ids.effective → Fs ids.fs
    → IdsIn Old Effective Fs ids
from_each Old Effective Fs ids real saved old_effective effective fs = record {
  three = λ x one. by x (or_cases (eqb x ids.real || eqb x ids.effective) (eqb x ids.saved) one);
  effective = λ x same. rw same effective;
  fs = λ x same. rw same fs;
} where
  first : (x : ℕ) → (eqb x ids.real ≡ true) ⊎ (eqb x ids.effective ≡ true) → Old x
  first x (inl same) = rw (eqb-true x ids.real same) real
  first x (inr same) = rw (eqb-true x ids.effective same) old_effective

  by : (x : ℕ) → ((eqb x ids.real || eqb x ids.effective) ≡ true) ⊎ (eqb x ids.saved ≡ true) → Old x
  by x (inl two) = first x (or_cases (eqb x ids.real) (eqb x ids.effective) two)
  by x (inr same) = rw (eqb-true x ids.saved same) saved

-- what the calls that give more than the fs id give is within the sets, for each argument
pub record SetsIn (Old Effective Fs : ℕ → Type 0) (map : List Extent) (privileged : Bool) (old : FourIds) : Type 0 where
  pub resid : (r e s : ℕ) → OkIn (IdsIn Old Effective Fs) (setresid map privileged old r e s)
  pub reid : (r e : ℕ) → OkIn (IdsIn Old Effective Fs) (setreid map privileged old r e)
  pub id : (argument : ℕ) → OkIn (IdsIn Old Effective Fs) (setid map privileged old argument)

module _ (Old Effective Fs Mapped : ℕ → Type 0) (Privileged : Type 0) (map : List Extent) (maps : (x : ℕ) → IsTrue (is_outside map x) → Mapped x)
    (privileged : Bool) (cap : IsTrue privileged → Privileged) (old : FourIds) (held : IdsIn Old Effective Fs old) where
  asked_cases : (o given k : ℕ) → asked map o given ≡ Some k → (k ≡ o) ⊎ IsTrue (is_outside map k)
  asked_cases o given k same = go (given == minus_one) same where
    go : (b : Bool) → (if b then Some o else down map given) ≡ Some k → (k ≡ o) ⊎ IsTrue (is_outside map k)
    go true same' = inl (cc)
    go false same' = inr (down_outside map given k same')

  module _ (gain : (x : ℕ) → Settable Old Mapped Privileged x → Effective x) (to_old : (x : ℕ) → Effective x → Old x)
      (to_fs : (x : ℕ) → Effective x → Fs x) where
    -- a mapped id that the call may set
    set_in : (k : ℕ) → IsTrue (is_outside map k) → IsTrue privileged ⊎ Old k → Effective k
    set_in k out (inl may) = gain k (inr (cap may, maps k out))
    set_in k out (inr one) = gain k (inl (one, maps k out))

    -- an id that stays, or is set, is among the old ones
    old_in : (o k : ℕ) → Old o → (k ≡ o) ⊎ IsTrue (is_outside map k) → IsTrue privileged ⊎ Old k → Old k
    old_in o k was (inl same) may = rw same was
    old_in o k was (inr out) may = to_old k (set_in k out may)

    effective_in : (o k : ℕ) → Effective o → (k ≡ o) ⊎ IsTrue (is_outside map k) → IsTrue privileged ⊎ Old k → Effective k
    effective_in o k was (inl same) may = rw same was
    effective_in o k was (inr out) may = set_in k out may

    old_real : Old old.real
    old_real = held.three old.real (is_real old)

    old_effective : Old old.effective
    old_effective = held.three old.effective (is_effective old)

    old_saved : Old old.saved
    old_saved = held.three old.saved (is_saved old)

    new_ids : (real effective saved : ℕ) → Old real → Effective effective → Old saved
        → IdsIn Old Effective Fs (record { real = real; effective = effective; saved = saved; fs = effective })
    new_ids real effective saved r e s =
        from_each Old Effective Fs (record { real = real; effective = effective; saved = saved; fs = effective }) r s (to_old effective e) e (to_fs effective e)

    -- setresuid and setresgid
    setresid_in : (r e s : ℕ) → OkIn (IdsIn Old Effective Fs) (setresid map privileged old r e s)
    setresid_in r e s = go (asked map old.real r) (asked map old.effective e) (asked map old.saved s) refl refl refl where
      ids : (real effective saved : ℕ) → asked map old.real r ≡ Some real → asked map old.effective e ≡ Some effective → asked map old.saved s ≡ Some saved
          → IsTrue (privileged || (is_one_of_three old real && is_one_of_three old effective && is_one_of_three old saved))
          → IdsIn Old Effective Fs (record { real = real; effective = effective; saved = saved; fs = effective })
      ids real effective saved a b c may =
          new_ids real effective saved
          (old_in old.real real old_real (asked_cases old.real r real a) (one.0))
          (effective_in old.effective effective (held.effective old.effective refl) (asked_cases old.effective e effective b) one.1)
          (old_in old.saved saved old_saved (asked_cases old.saved s saved c) one.2) where
            three : (IsTrue privileged) ⊎ (IsTrue (is_one_of_three old real && is_one_of_three old effective && is_one_of_three old saved))
                → (IsTrue privileged ⊎ Old real) × (IsTrue privileged ⊎ Old effective) × (IsTrue privileged ⊎ Old saved)
            three (inl cap') = (inl cap', inl cap', inl cap')
            three (inr all) =
                let two = and_parts (is_one_of_three old real && is_one_of_three old effective) (is_one_of_three old saved) all in
                let first = and_parts (is_one_of_three old real) (is_one_of_three old effective) two.0 in
                (inr (held.three real first.0), inr (held.three effective first.1), inr (held.three saved two.1))

            one : (IsTrue privileged ⊎ Old real) × (IsTrue privileged ⊎ Old effective) × (IsTrue privileged ⊎ Old saved)
            one = three (or_cases privileged (is_one_of_three old real && is_one_of_three old effective && is_one_of_three old saved) may)

      go : (a b c : Option ℕ) → asked map old.real r ≡ a → asked map old.effective e ≡ b → asked map old.saved s ≡ c
          → OkIn (IdsIn Old Effective Fs) (all_mapped a b c (λ real effective saved.
          if privileged || (is_one_of_three old real && is_one_of_three old effective && is_one_of_three old saved)
          then Ok (record { real = real; effective = effective; saved = saved; fs = effective })
          else Err EPERM))
      go (Some real) (Some effective) (Some saved) a b c =
          choose (OkIn (IdsIn Old Effective Fs))
          (privileged || (is_one_of_three old real && is_one_of_three old effective && is_one_of_three old saved))
          (Ok (record { real = real; effective = effective; saved = saved; fs = effective })) (Err EPERM)
          (λ may. ids real effective saved a b c may) (λ _. tt)
      go _ _ _ _ _ _ = tt

    -- setreuid and setregid
    setreid_in : (r e : ℕ) → OkIn (IdsIn Old Effective Fs) (setreid map privileged old r e)
    setreid_in r e = go (asked map old.real r) (asked map old.effective e) refl refl where
      real_may : (real : ℕ) → IsTrue (real == old.real || real == old.effective) → Old real
      real_may real one =
          elim (or_cases (eqb real old.real) (eqb real old.effective) one) [
            | inl same ↦ rw (eqb-true real old.real same) old_real
            | inr same ↦ rw (eqb-true real old.effective same) old_effective
          ]

      both : (real effective : ℕ) → (IsTrue privileged) ⊎ (IsTrue ((real == old.real || real == old.effective) && is_one_of_three old effective))
          → (IsTrue privileged ⊎ Old real) × (IsTrue privileged ⊎ Old effective)
      both real effective (inl cap') = (inl cap', inl cap')
      both real effective (inr all) =
          let two = and_parts (real == old.real || real == old.effective) (is_one_of_three old effective) all in
          (inr (real_may real two.0), inr (held.three effective two.1))

      ids : (real effective : ℕ) → asked map old.real r ≡ Some real → asked map old.effective e ≡ Some effective
          → (IsTrue privileged ⊎ Old real) × (IsTrue privileged ⊎ Old effective)
          → IdsIn Old Effective Fs (record { real = real; effective = effective; saved = saved_after old r e effective; fs = effective })
      ids real effective a b may =
          let now : Effective effective
          = effective_in old.effective effective (held.effective old.effective refl)
          (asked_cases old.effective e effective b) may.1 in
          new_ids real effective (saved_after old r e effective)
          (old_in old.real real old_real (asked_cases old.real r real a) may.0) now
          (choose Old (is_given r || (is_given e && not (effective == old.real))) effective old.saved (λ _. to_old effective now) (λ _. old_saved))

      go : (a b : Option ℕ) → asked map old.real r ≡ a → asked map old.effective e ≡ b
          → OkIn (IdsIn Old Effective Fs) (both_mapped a b (λ real effective.
          if privileged || ((real == old.real || real == old.effective) && is_one_of_three old effective)
          then Ok (record { real = real; effective = effective; saved = saved_after old r e effective; fs = effective })
          else Err EPERM))
      go (Some real) (Some effective) a b =
          choose (OkIn (IdsIn Old Effective Fs))
          (privileged || ((real == old.real || real == old.effective) && is_one_of_three old effective))
          (Ok (record { real = real; effective = effective; saved = saved_after old r e effective; fs = effective })) (Err EPERM)
          (λ may.
          ids real effective a b (both real effective
          (or_cases privileged ((real == old.real || real == old.effective) && is_one_of_three old effective) may)))
          (λ _. tt)
      go _ _ _ _ = tt

    -- setuid and setgid
    setid_in : (argument : ℕ) → OkIn (IdsIn Old Effective Fs) (setid map privileged old argument)
    setid_in argument = go (down map argument) refl where
      one_of : (id : ℕ) → IsTrue (id == old.real || id == old.saved) → Old id
      one_of id one =
          elim (or_cases (eqb id old.real) (eqb id old.saved) one) [
            | inl same ↦ rw (eqb-true id old.real same) old_real
            | inr same ↦ rw (eqb-true id old.saved same) old_saved
          ]

      all_ids : (id : ℕ) → IsTrue (is_outside map id) → IsTrue privileged → IdsIn Old Effective Fs (all_four id)
      all_ids id out may =
          let now : Effective id = set_in id out (inl may) in
          from_each Old Effective Fs (all_four id) (to_old id now) (to_old id now) (to_old id now) now (to_fs id now)

      two_ids : (id : ℕ) → IsTrue (is_outside map id) → Old id → IdsIn Old Effective Fs (record old { effective = id; fs = id })
      two_ids id out one =
          let now : Effective id = set_in id out (inr one) in
          from_each Old Effective Fs (record old { effective = id; fs = id }) old_real old_saved (to_old id now) now (to_fs id now)

      go : (a : Option ℕ) → down map argument ≡ a
          → OkIn (IdsIn Old Effective Fs) (one_mapped a (λ id.
          if privileged then Ok (all_four id)
          else if id == old.real || id == old.saved then Ok (record old { effective = id; fs = id })
          else Err EPERM))
      go None _ = tt
      go (Some id) same =
          choose (OkIn (IdsIn Old Effective Fs)) privileged (Ok (all_four id))
          (if id == old.real || id == old.saved then Ok (record old { effective = id; fs = id }) else Err EPERM)
          (λ may. all_ids id (down_outside map argument id same) may)
          (λ _. choose (OkIn (IdsIn Old Effective Fs)) (id == old.real || id == old.saved) (Ok (record old { effective = id; fs = id })) (Err EPERM)
          (λ one. two_ids id (down_outside map argument id same) (one_of id one)) (λ _. tt))

    pub sets_in : SetsIn Old Effective Fs map privileged old
    sets_in = record { resid = setresid_in; reid = setreid_in; id = setid_in }

  -- setfsuid and setfsgid
  pub setfsid_in : ((x : ℕ) → Settable Old Mapped Privileged x → Fs x) → (argument : ℕ) → IdsIn Old Effective Fs (setfsid map privileged old argument)
  setfsid_in gain argument = go (down map argument) refl where
    fs_is : (id : ℕ) → Fs id → IdsIn Old Effective Fs (record old { fs = id })
    fs_is id now = record { three = held.three; effective = held.effective; fs = λ x same. rw same now }

    by : (id : ℕ) → IsTrue (is_outside map id) → ((privileged || is_one_of_three old id) ≡ true) ⊎ ((id == old.fs) ≡ true) → Fs id
    by id out (inl two) =
        elim (or_cases privileged (is_one_of_three old id) two) [
          | inl may ↦ gain id (inr (cap may, maps id out))
          | inr one ↦ gain id (inl (held.three id one, maps id out))
        ]
    by id out (inr same) = rw (eqb-true id old.fs same) (held.fs old.fs refl)

    go : (a : Option ℕ) → down map argument ≡ a → IdsIn Old Effective Fs (with_fs privileged old a)
    go None _ = held
    go (Some id) same =
        choose (IdsIn Old Effective Fs) (privileged || is_one_of_three old id || id == old.fs) (record old { fs = id }) old
        (λ may. fs_is id (by id (down_outside map argument id same) (or_cases (privileged || is_one_of_three old id) (id == old.fs) may))) (λ _. held)
