-- A credential within a row, part by part; and the bits of securebits.
use Rattle.std.proofs.Common.{◌≡◌, ℕ, zero, suc, ◌*◌, ◌<◌, true, false, not, refl, sym, ap, ◌∙◌, arith, eqb}
use Rattle.std.specs.Prelude.{IsTrue, bit_and, bit_xor}
use Rattle.std.specs.Int.{bit_at}
use Rattle.std.specs.List.{list_any}
use Rattle.std.proofs.lemmas.Bool.{false≢true, eqb-true, and_from}
use Rattle.std.proofs.lemmas.Nat.Bits.{and_pow, bit_at-lt, bit_at-suc, bit_at_xor}
use Rattle.cm_base.specs.CapSet.{holds}
use Rattle.cm_base.proofs.CapSets.{holds_meet, holds_none}
use Rattle.model_cred.specs.Credential.{Credential, Included}
use Rattle.model_rules.specs.Securebits.{has_flag, lock_of, noroot, locks, locked_flags}
use Rattle.model_box.specs.Row.{Part, Uids, EffectiveUids, FsUids, Gids, EffectiveGids, FsGids, Groups, PermittedCaps}
use Rattle.model_box.specs.Row.{InheritableCaps, BoundingCaps, NewPrivs, RootCounts, LockClear}
use Rattle.model_box.proofs.Fits.{InRow}
use Rattle.model_box.proofs.Ids.{IdsIn}

-- what a row holds of a credential, by the credential's parts
pub record Held (row : Part → ℕ → Type 0) (c : Credential) : Type 0 where
  pub uid : IdsIn (row Uids) (row EffectiveUids) (row FsUids) c.uid
  pub gid : IdsIn (row Gids) (row EffectiveGids) (row FsGids) c.gid
  pub groups : (x : ℕ) → IsTrue (list_any (λ group. eqb group x) c.groups) → row Groups x
  pub permitted : (x : ℕ) → IsTrue (holds c.permitted x) → row PermittedCaps x
  pub inheritable : (x : ℕ) → IsTrue (holds c.inheritable x) → row InheritableCaps x
  pub bounding : (x : ℕ) → IsTrue (holds c.bounding x) → row BoundingCaps x
  pub new_privs : c.no_new_privs ≡ false → row NewPrivs 0
  pub root : has_flag c noroot ≡ false → row RootCounts 0
  pub lock : has_flag c (lock_of noroot) ≡ false → row LockClear 0

pub held_in : (row : Part → ℕ → Type 0) (c : Credential) → InRow row c → Held row c
held_in row c has = record {
  uid = record { three = has Uids; effective = has EffectiveUids; fs = has FsUids };
  gid = record { three = has Gids; effective = has EffectiveGids; fs = has FsGids };
  groups = has Groups;
  permitted = has PermittedCaps;
  inheritable = has InheritableCaps;
  bounding = has BoundingCaps;
  new_privs = λ clear. has NewPrivs 0 (refl, clear);
  root = λ clear. has RootCounts 0 (refl, clear);
  lock = λ clear. has LockClear 0 (refl, clear);
}

pub in_row : (row : Part → ℕ → Type 0) (c : Credential) → Held row c → InRow row c
in_row row c held Uids x has = held.uid.three x has
in_row row c held EffectiveUids x has = held.uid.effective x has
in_row row c held FsUids x has = held.uid.fs x has
in_row row c held Gids x has = held.gid.three x has
in_row row c held EffectiveGids x has = held.gid.effective x has
in_row row c held FsGids x has = held.gid.fs x has
in_row row c held Groups x has = held.groups x has
in_row row c held PermittedCaps x has = held.permitted x has
in_row row c held InheritableCaps x has = held.inheritable x has
in_row row c held BoundingCaps x has = held.bounding x has
in_row row c held NewPrivs x has = rw has.0 (held.new_privs has.1)
in_row row c held RootCounts x has = rw has.0 (held.root has.1)
in_row row c held LockClear x has = rw has.0 (held.lock has.1)
in_row row c held _ x has = absurd has

-- a member's credential: within the row, and its sets within one another
pub record Fine (row : Part → ℕ → Type 0) (c : Credential) : Type 0 where
  pub held : Held row c
  pub included : Included c

-- ---- bits of securebits
-- the flag SECBIT_NOROOT is bit 0
one_bit : (b : ℕ) → b < 2 → not (eqb (b * 1) 0) ≡ eqb b 1
one_bit (suc (suc b)) low = absurd (omega arith)
one_bit _ low = refl

two_bit : (b : ℕ) → b < 2 → not (eqb (b * 2) 0) ≡ eqb b 1
two_bit (suc (suc b)) low = absurd (omega arith)
two_bit _ low = refl

pub noroot_is : (c : Credential) → has_flag c noroot ≡ holds c.securebits 0
noroot_is c = ap (λ (n : ℕ). not (eqb n 0)) (and_pow c.securebits 0) ∙ one_bit (bit_at c.securebits 0) (bit_at-lt c.securebits 0)

-- its lock is bit 1
pub lock_is : (c : Credential) → has_flag c (lock_of noroot) ≡ holds c.securebits 1
lock_is c = ap (λ (n : ℕ). not (eqb n 0)) (and_pow c.securebits 1) ∙ two_bit (bit_at c.securebits 1) (bit_at-lt c.securebits 1)

-- a flag whose lock is set stays as it is
pub locked_stays : (old new : ℕ) → IsTrue (eqb (bit_and (bit_xor old new) (locked_flags old)) 0) → holds old 1 ≡ true → holds old 0 ≡ true → holds new 0 ≡ true
locked_stays old new same lock set = cases (bit_at new 0) refl (bit_at-lt new 0) where
  none_of : holds (bit_and (bit_xor old new) (locked_flags old)) 0 ≡ false
  none_of = ap (λ (n : ℕ). holds n 0) (eqb-true (bit_and (bit_xor old new) (locked_flags old)) 0 same) ∙ holds_none 0

  lock_bit : holds (locked_flags old) 0 ≡ true
  lock_bit = ap (λ (b : ℕ). eqb b 1) (sym (bit_at-suc (bit_and old locks) 0)) ∙ holds_meet old locks 1 ∙ and_from (holds old 1) (holds locks 1) lock refl

  changed : holds (bit_xor old new) 0 ≡ true → ⊥
  changed one =
      false≢true (sym none_of ∙ holds_meet (bit_xor old new) (locked_flags old) 0
      ∙ and_from (holds (bit_xor old new) 0) (holds (locked_flags old) 0) one lock_bit)

  cases : (b : ℕ) → bit_at new 0 ≡ b → b < 2 → holds new 0 ≡ true
  cases zero at low =
      let one : bit_at old 0 ≡ 1 = eqb-true (bit_at old 0) 1 set in
      let bits : bit_at (bit_xor old new) 0 ≡ 1 = bit_at_xor old new 0 ∙ (rw (one, at)) in
      absurd (changed (ap (λ (b : ℕ). eqb b 1) bits))
  cases (suc zero) at low = ap (λ (b : ℕ). eqb b 1) at
  cases (suc (suc b)) at low = absurd (omega arith)
