-- What slots note after a change of one.
use Rattle.std.proofs.Common.{◌≡◌, ◌≢◌, ℕ, ◌<◌, ◌==◌, true, false, true≢false, length, get_or, set, replicate}
use Rattle.std.proofs.Common.{List, refl, sym, ◌∙◌, ap, arith, get_or-set_other}
use Rattle.std.proofs.lemmas.List.{get_or_default, get_or-replicate}
use Rattle.std.proofs.lemmas.Grind.{get_or-set_at}
use Rattle.cm_strace_parts.specs.Slots.{slot_count, slot_of, mark_of, notes}

-- ---- what a slot says
-- what a slot holds tells whether a pid is noted
of_held : (slots : List ℕ) (pid held : ℕ) → get_or slots (slot_of pid) 0 ≡ held
    → notes slots pid ≡ (held == mark_of pid)
unfolding notes
of_held slots pid held is = ap (λ n. n == mark_of pid) is

-- the same of what is read there
pub read_at : (slots : List ℕ) (pid at held : ℕ) → length slots ≡ slot_count → at ≡ slot_of pid
    → held ≡ get_or slots at held → notes slots pid ≡ (held == mark_of pid)
read_at slots pid at held many same is =
    let within : slot_of pid < length slots = omega arith in
    of_held slots pid held (get_or_default slots (slot_of pid) 0 held within
    ∙ ap (λ i. get_or slots i held) (sym same) ∙ sym is)

-- a slot that holds nothing notes no pid
no_mark : (pid : ℕ) → (0 == mark_of pid) ≡ false
no_mark pid = grind arith

-- the mark of a pid isn't that of another one of its slot
other_mark : (pid other : ℕ) → other ≢ pid → slot_of other ≡ slot_of pid → (mark_of pid == mark_of other) ≡ false
other_mark pid other apart same = grind (arith, apart, same)

-- where a pid is noted, no other one of its slot is
other_noted : (slots : List ℕ) (pid other : ℕ) → other ≢ pid → slot_of other ≡ slot_of pid → notes slots pid ≡ true
    → notes slots other ≡ false
other_noted slots pid other apart same is =
    let held : get_or slots (slot_of pid) 0 ≡ mark_of pid = grind (arith, sym (of_held slots pid _ refl) ∙ is) in
    of_held slots other (mark_of pid) (ap (λ i. get_or slots i 0) same ∙ held) ∙ other_mark pid other apart same

-- slots that hold nothing note no pid
pub none_noted : (n pid : ℕ) → n ≡ slot_count → notes (replicate n 0) pid ≡ false
none_noted n pid many =
    let within : slot_of pid < n = omega arith in
    of_held (replicate n 0) pid 0 (get_or-replicate n (slot_of pid) 0 0 within) ∙ no_mark pid

-- ---- after a write
-- what the slot that is written notes
same_slot : (slots : List ℕ) (pid other held : ℕ) → length slots ≡ slot_count → slot_of other ≡ slot_of pid
    → notes (set slots (slot_of pid) held) other ≡ (held == mark_of other)
same_slot slots pid other held many same =
    of_held (set slots (slot_of pid) held) other held
    (get_or-set_at slots (slot_of pid) (slot_of other) held 0 same (omega arith))

-- what other slots note stays
other_slot : (slots : List ℕ) (pid other held : ℕ) → slot_of other ≢ slot_of pid
    → notes (set slots (slot_of pid) held) other ≡ notes slots other
other_slot slots pid other held apart =
    of_held (set slots (slot_of pid) held) other (get_or slots (slot_of other) 0)
    (get_or-set_other slots (slot_of pid) (slot_of other) held 0 apart)
    ∙ sym (of_held slots other (get_or slots (slot_of other) 0) refl)

-- a pid whose mark is written is noted
pub marked : (slots : List ℕ) (pid : ℕ) → length slots ≡ slot_count
    → notes (set slots (slot_of pid) (mark_of pid)) pid ≡ true
marked slots pid many = same_slot slots pid pid (mark_of pid) many refl ∙ grind arith

-- any other one that is noted then was noted before
pub marked_others : (slots : List ℕ) (pid other : ℕ) → length slots ≡ slot_count → other ≢ pid
    → notes (set slots (slot_of pid) (mark_of pid)) other ≡ true → notes slots other ≡ true
marked_others slots pid other many apart is =
    (elim (slot_of other == slot_of pid) as (λ b. (slot_of other == slot_of pid) ≡ b → notes slots other ≡ true) [
      | true ↦ λ same.
          let alike : slot_of other ≡ slot_of pid = grind (arith, same) in
          absurd (true≢false (sym is ∙ same_slot slots pid other (mark_of pid) many alike
          ∙ other_mark pid other apart alike))
      | false ↦ λ differs.
          sym (other_slot slots pid other (mark_of pid) (λ same. grind (arith, same, differs))) ∙ is
    ]) refl

-- a pid whose slot is made empty isn't noted
pub emptied : (slots : List ℕ) (pid : ℕ) → length slots ≡ slot_count → notes (set slots (slot_of pid) 0) pid ≡ false
emptied slots pid many = same_slot slots pid pid 0 many refl ∙ no_mark pid

-- any other one is noted then as before, if the slot held that pid's mark
pub emptied_others : (slots : List ℕ) (pid other : ℕ) → length slots ≡ slot_count → notes slots pid ≡ true
    → other ≢ pid → notes (set slots (slot_of pid) 0) other ≡ notes slots other
emptied_others slots pid other many noted apart =
    (elim (slot_of other == slot_of pid) as (λ b. (slot_of other == slot_of pid) ≡ b
    → notes (set slots (slot_of pid) 0) other ≡ notes slots other) [
      | true ↦ λ same.
          let alike : slot_of other ≡ slot_of pid = grind (arith, same) in
          same_slot slots pid other 0 many alike ∙ no_mark other
          ∙ sym (other_noted slots pid other apart alike noted)
      | false ↦ λ differs. other_slot slots pid other 0 (λ same. grind (arith, same, differs))
    ]) refl
