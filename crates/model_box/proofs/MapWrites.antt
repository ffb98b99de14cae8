-- Writing a map, or the setgroups word, keeps the spaces and the members covered.
use Rattle.std.proofs.Common.{◌≡◌, ℕ, ◌+◌, ◌-◌, ◌<◌, ◌≤◌, Bool, true, false, ◌&&◌, ◌||◌, not, Some, None, Option, List}
use Rattle.std.proofs.Common.{[], ◌∷◌, length, refl, sym, ap, ◌∙◌, inl, inr, arith, ltb, leb, eqb}
use Rattle.std.specs.Prelude.{◌⊎◌, ◌==◌, IsTrue, nat_le, is_none, if◌then◌else◌, option_map, option_and_then}
use Rattle.std.proofs.lemmas.Bool.{false≢true, and_parts, or_cases, eqb-true, ltb-true, leb-true, not-false, not-true}
use Rattle.cm_base.specs.CapSet.{holds}
use Rattle.cm_base.specs.declared.errno.Errno.TheVariants.{EPERM, EINVAL}
use Rattle.cm_base.proofs.CapSets.{member_of_wider}
use Rattle.cm_filter.specs.declared.kind.CallKind.{CallKind}
use Rattle.cm_filter.specs.declared.kind.CallKind.TheVariants as kind
use Rattle.model_cred.specs.Credential.{Credential, Included}
use Rattle.model_cred.specs.IdMap.{Extent, extents_of, is_outside, is_the, lies_in}
use Rattle.model_cred.specs.MapFault.{is_map}
use Rattle.model_cred.specs.Space.{Space, Spaces, space_of, put_space, is_at_or_above, stands}
use Rattle.model_rules.specs.Caps.{cap_setuid, cap_setgid, cap_sys_admin}
use Rattle.model_rules.specs.Maps.{Written, MapFile, UidMap, GidMap, map_of, with_map, cap_for, effective_id}
use Rattle.model_rules.specs.Maps.{parent_map, extent_down, list_down, has_over_parent, may_write, setfcap_allows}
use Rattle.model_rules.specs.Maps.{is_single, word_allows, is_own_map, may_map, write_stored, write_map, write_refused}
use Rattle.model_rules.specs.Maps.{write_done, write_setgroups, may_say}
use Rattle.model_rules.specs.Power.{has_over}
use Rattle.model_box.specs.Row.{Part, EffectiveUids, EffectiveGids, MappedUids, MappedGids, PermittedCaps, Row, Standing, Fresh, HasMembers, space_under}
use Rattle.model_box.specs.Closed.{ByMaps}
use Rattle.model_box.specs.Covers.{RowOf, own, child, deeper, Stays, MapsIn, MapsAreIn, OwnersIn}
use Rattle.model_box.proofs.Ids.{outside_here, outside_later}
use Rattle.model_box.proofs.Trees.{Earlier, at_or_above_low, power_cases, row_standing}
use Rattle.model_box.proofs.Fits.{TreeFits, AtAnchors, InRow, it_stands}
use Rattle.model_box.proofs.Writing.{choose}

-- ---- lists of extents
the_one : (o : Option ℕ) (n : ℕ) → IsTrue (is_the o n) → o ≡ Some n
the_one None n wrong = absurd (false≢true wrong)
the_one (Some p) n same = ap Some (sym (eqb-true n p same))

-- an outside id of an extent taken down is one of the map
extent_outside : (map : List Extent) (e f : Extent) → extent_down map e ≡ Some f → (x : ℕ) → IsTrue (lies_in f.outside f.length x) → IsTrue (is_outside map x)
extent_outside [] e f down x held = absurd (cc)
extent_outside (p ∷ map) e f down x held = go fits refl down (λ rest. extent_outside map e f rest x held) where
  fits : Bool
  fits = nat_le p.inside e.outside && nat_le (e.outside + e.length) (p.inside + p.length)

  go : (b : Bool) → fits ≡ b
      → (if b then Some (record e { outside = p.outside + (e.outside - p.inside) }) else extent_down map e) ≡ Some f
      → (extent_down map e ≡ Some f → IsTrue (is_outside map x)) → IsTrue (is_outside (p ∷ map) x)
  go true inside same rest =
      let f_is : record e { outside = p.outside + (e.outside - p.inside) } ≡ f = cc in
      let ends = and_parts (leb p.inside e.outside) (leb (e.outside + e.length) (p.inside + p.length)) inside in
      let low : p.inside ≤ e.outside = leb-true p.inside e.outside ends.0 in
      let high : e.outside + e.length ≤ p.inside + p.length = leb-true (e.outside + e.length) (p.inside + p.length) ends.1 in
      let held' : IsTrue (lies_in (p.outside + (e.outside - p.inside)) e.length x) = rw (← f_is) at held in
      let two = and_parts (leb (p.outside + (e.outside - p.inside)) x) (ltb x ((p.outside + (e.outside - p.inside)) + e.length)) held' in
      let from : p.outside + (e.outside - p.inside) ≤ x = leb-true (p.outside + (e.outside - p.inside)) x two.0 in
      let to : x < (p.outside + (e.outside - p.inside)) + e.length = ltb-true x ((p.outside + (e.outside - p.inside)) + e.length) two.1 in
      outside_here p map x (omega arith) (omega arith)
  go false outside same rest = outside_later p map x (rest same)

-- an outside id of a list taken down is one of the map
list_outside : (map list mapped : List Extent) → list_down map list ≡ Some mapped → (x : ℕ) → IsTrue (is_outside mapped x) → IsTrue (is_outside map x)
list_outside map [] mapped down x held = let none : [] ≡ mapped = cc in absurd (false≢true (rw (← none) at held))
list_outside map (e ∷ list) mapped down x held = first (λ more rest held. list_outside map list more rest x held) (extent_down map e) refl down where
  second : ((more : List Extent) → list_down map list ≡ Some more → IsTrue (is_outside more x)
      → IsTrue (is_outside map x))
      → (f : Extent) → extent_down map e ≡ Some f → (r : Option (List Extent)) → list_down map list ≡ r
      → option_map (λ rest. f ∷ rest) r ≡ Some mapped → IsTrue (is_outside map x)
  second later f one None rest same = absurd (cc)
  second later f one (Some more) rest same =
      let mapped_is : f ∷ more ≡ mapped = cc in
      let held' : IsTrue (is_outside (f ∷ more) x) = rw (← mapped_is) at held in
      by (lies_in f.outside f.length x) refl held' where
        by : (b : Bool) → lies_in f.outside f.length x ≡ b → IsTrue (if b then true else is_outside more x) → IsTrue (is_outside map x)
        by true here _ = extent_outside map e f one x here
        by false there held'' = later more rest held''

  first : ((more : List Extent) → list_down map list ≡ Some more → IsTrue (is_outside more x)
      → IsTrue (is_outside map x))
      → (o : Option Extent) → extent_down map e ≡ o
      → option_and_then (λ f. option_map (λ rest. f ∷ rest) (list_down map list)) o ≡ Some mapped
      → IsTrue (is_outside map x)
  first later None one same = absurd (cc)
  first later (Some f) one same = second later f one (list_down map list) refl same

single_is : (mapped : List Extent) (id : ℕ) → IsTrue (is_single mapped id) → (x : ℕ) → IsTrue (is_outside mapped x) → x ≡ id
single_is [] id single x held = absurd (false≢true single)
single_is (e ∷ []) id single x held =
    let two = and_parts (eqb e.length 1) (eqb e.outside id) single in
    let one : e.length ≡ 1 = eqb-true e.length 1 two.0 in
    let at : e.outside ≡ id = eqb-true e.outside id two.1 in
    by (lies_in e.outside e.length x) refl held one at where
      by : (b : Bool) → lies_in e.outside e.length x ≡ b → IsTrue (if b then true else false) → e.length ≡ 1 → e.outside ≡ id → x ≡ id
      by false out wrong one at = absurd (false≢true wrong)
      by true in_it _ one at =
          let ends = and_parts (leb e.outside x) (ltb x (e.outside + e.length)) in_it in
          let low : e.outside ≤ x = leb-true e.outside x ends.0 in
          let high : x < e.outside + e.length = ltb-true x (e.outside + e.length) ends.1 in
          omega arith
single_is (e ∷ f ∷ list) id single x held = absurd (false≢true single)

-- ---- why an id can come into a map
-- The target has a parent, whose map holds the id. The writer sits in the parent, with the capability in its effective
-- set; or the id is its own, it is the owner, and it sits in the parent, or in the target with the capability.
pub record Cause (file : MapFile) (new : Spaces) (at : ℕ) (c : Credential) (t q x : ℕ) : Type 0 where
  pub parent : (space_of new t).parent ≡ Some q
  pub outside : IsTrue (is_outside (extents_of (map_of file (space_of new q))) x)
  pub why : ((at ≡ q) × IsTrue (holds c.effective (cap_for file)))
      ⊎ ((x ≡ effective_id file c) × ((space_of new t).owner ≡ c.uid.effective) × (((at ≡ t) × IsTrue (holds c.effective (cap_for file))) ⊎ (at ≡ q)))

-- by each of these ways
by_why : {file : MapFile} {new : Spaces} {at : ℕ} {c : Credential} {t q x : ℕ} {R : Type 0} → Cause file new at c t q x
    → (at ≡ q → IsTrue (holds c.effective (cap_for file)) → R)
    → (x ≡ effective_id file c → (space_of new t).owner ≡ c.uid.effective → at ≡ t → IsTrue (holds c.effective (cap_for file)) → R)
    → (x ≡ effective_id file c → (space_of new t).owner ≡ c.uid.effective → at ≡ q → R) → R
by_why cause_ power in_target in_parent =
    elim cause_.why [
      | inl sits ↦ power sits.0 sits.1
      | inr alone ↦
          elim alone.2 [
            | inl here ↦ in_target alone.0 alone.1 here.0 here.1
            | inr there ↦ in_parent alone.0 alone.1 there
          ]
    ]

-- Only who sits in the parent, with the capability in its effective set, has it over the parent: the chain from the parent
-- to the initial space doesn't hold the target.
over_parent : (new : Spaces) → Earlier new → (at : ℕ) (c : Credential) (cap t q : ℕ) → (space_of new t).parent ≡ Some q
    → ((at ≡ t) ⊎ (at ≡ q)) → IsTrue (has_over new at c cap q) → (at ≡ q) × IsTrue (holds c.effective cap)
over_parent new earlier at c cap t q parent sits power = by sits found.2 where
  found : (m : ℕ) × IsTrue (is_at_or_above new m q)
      × (((m ≡ at) × IsTrue (holds c.effective cap)) ⊎ (((space_of new m).parent ≡ Some at) × ((space_of new m).owner ≡ c.uid.effective)))
  found = power_cases new at c.effective c.uid.effective cap q power

  m_low : found.0 ≤ q
  m_low = at_or_above_low new earlier found.0 q found.1

  q_low : q < t
  q_low = earlier t q parent

  by : (at ≡ t) ⊎ (at ≡ q)
      → (((found.0 ≡ at) × IsTrue (holds c.effective cap)) ⊎ (((space_of new found.0).parent ≡ Some at) × ((space_of new found.0).owner ≡ c.uid.effective)))
      → (at ≡ q) × IsTrue (holds c.effective cap)
  by (inl in_target) (inl here) = absurd (let m : found.0 ≤ q = m_low in let q' : q < t = q_low in let e : found.0 ≡ at = here.0 in omega arith)
  by (inr in_parent) (inl here) = (in_parent, here.1)
  by (inl in_target) (inr owned) =
      absurd (let m : found.0 ≤ q = m_low in
      let q' : q < t = q_low in
      let up : at < found.0 = earlier found.0 at owned.0 in omega arith)
  by (inr in_parent) (inr owned) = absurd (let m : found.0 ≤ q = m_low in let up : at < found.0 = earlier found.0 at owned.0 in omega arith)

-- Power over one's own space is in the effective set.
over_own : (new : Spaces) → Earlier new → (at : ℕ) (c : Credential) (cap : ℕ) → IsTrue (has_over new at c cap at) → IsTrue (holds c.effective cap)
over_own new earlier at c cap power = by found.2 where
  found : (m : ℕ) × IsTrue (is_at_or_above new m at)
      × (((m ≡ at) × IsTrue (holds c.effective cap)) ⊎ (((space_of new m).parent ≡ Some at) × ((space_of new m).owner ≡ c.uid.effective)))
  found = power_cases new at c.effective c.uid.effective cap at power

  m_low : found.0 ≤ at
  m_low = at_or_above_low new earlier found.0 at found.1

  by : (((found.0 ≡ at) × IsTrue (holds c.effective cap)) ⊎ (((space_of new found.0).parent ≡ Some at) × ((space_of new found.0).owner ≡ c.uid.effective)))
      → IsTrue (holds c.effective cap)
  by (inl here) = here.1
  by (inr owned) = absurd (let m : found.0 ≤ at = m_low in let up : at < found.0 = earlier found.0 at owned.0 in omega arith)

pub cause : (file : MapFile) (new : Spaces) → Earlier new → (at : ℕ) (c : Credential) (t : ℕ) (list mapped : List Extent)
    → IsTrue (may_write file new at c t) → list_down (parent_map file new (space_of new t)) list ≡ Some mapped
    → IsTrue (may_map file new at c (space_of new t) mapped) → (x : ℕ) → IsTrue (is_outside mapped x)
    → (q : ℕ) × Cause file new at c t q x
cause file new earlier at c t list mapped writes down may x held =
    at_parent (space_of new t).parent refl (list_outside (parent_map file new (space_of new t)) list mapped down x held) may where
      parts : IsTrue (is_none (map_of file (space_of new t)) && (at == t || is_the (space_of new t).parent at)) × IsTrue (has_over new at c (cap_for file) t)
      parts = and_parts (is_none (map_of file (space_of new t)) && (at == t || is_the (space_of new t).parent at)) (has_over new at c (cap_for file) t) writes

      place : IsTrue (at == t || is_the (space_of new t).parent at)
      place = (and_parts (is_none (map_of file (space_of new t))) (at == t || is_the (space_of new t).parent at) parts.0).1

      sits : (q : ℕ) → (space_of new t).parent ≡ Some q → (at ≡ t) ⊎ (at ≡ q)
      sits q parent =
          elim (or_cases (eqb at t) (is_the (space_of new t).parent at) place) [
            | inl here ↦ inl (eqb-true at t here)
            | inr there ↦ let both : Some at ≡ Some q = sym (the_one (space_of new t).parent at there) ∙ parent in inr (cc)
          ]

      sits_so : (q : ℕ) → (at ≡ t) ⊎ (at ≡ q) → ((at ≡ t) × IsTrue (holds c.effective (cap_for file))) ⊎ (at ≡ q)
      sits_so q (inl same) = inl (same, over_own new earlier at c (cap_for file) (rw (sym same) at parts.1))
      sits_so q (inr same) = inr same

      at_parent : (o : Option ℕ) → (space_of new t).parent ≡ o
          → IsTrue (is_outside (extents_of (option_and_then (λ p. map_of file (space_of new p)) (space_of new t).parent)) x)
          → IsTrue (has_over_parent new at c (cap_for file) (space_of new t).parent || is_own_map file c (space_of new t) mapped)
          → (q : ℕ) × Cause file new at c t q x
      at_parent None parent out allowed = absurd (false≢true (rw parent at out))
      at_parent (Some q) parent out allowed = (
        q,
        record {
          parent = parent;
          outside = rw parent at out;
          why = elim (or_cases (has_over_parent new at c (cap_for file) (space_of new t).parent) (is_own_map file c (space_of new t) mapped) allowed) [
            | inl power ↦ inl (over_parent new earlier at c (cap_for file) t q parent (sits q parent) (rw parent at power))
            | inr alone ↦
                let first
                = and_parts (is_single mapped (effective_id file c) && (space_of new t).owner == c.uid.effective)
                (word_allows file (space_of new t)) alone in
                let second = and_parts (is_single mapped (effective_id file c)) ((space_of new t).owner == c.uid.effective) first.0 in
                inr (
                  single_is mapped (effective_id file c) second.0 x held,
                  eqb-true (space_of new t).owner c.uid.effective second.1,
                  sits_so q (sits q parent),
                )
          ];
        },
      )

-- the part of a row that a map file fills, and the call that writes the file
abbrev pub part_of : MapFile → Part
part_of UidMap = MappedUids
part_of GidMap = MappedGids

abbrev pub writer_of : MapFile → CallKind
writer_of UidMap = kind.WriteUidMap
writer_of GidMap = kind.WriteGidMap

mapped_part : (file : MapFile) {s : Space} {row : Part → ℕ → Type 0} → MapsIn s row → (x : ℕ)
    → IsTrue (is_outside (extents_of (map_of file s)) x)
    → row (part_of file) x
mapped_part UidMap maps = maps.uids
mapped_part GidMap maps = maps.gids

-- with another map of that file, whose ids are in the row too
pub with_map_in : (file : MapFile) (s : Space) (row : Part → ℕ → Type 0) (map : List Extent) → MapsIn s row
    → ((x : ℕ) → IsTrue (is_outside map x) → row (part_of file) x) → MapsIn (with_map file s map) row
with_map_in UidMap s row map maps ids = record { uids = ids; gids = maps.gids }
with_map_in GidMap s row map maps ids = record { uids = maps.uids; gids = ids }

-- what isn't written now wasn't written at the query
unwritten : (before now : Option (List Extent)) → ((map : List Extent) → before ≡ Some map → now ≡ Some map) → IsTrue (is_none now) → IsTrue (is_none before)
unwritten None now stays free = refl
unwritten (Some map) now stays free = absurd (false≢true (rw (stays map refl) at free))

-- ---- the new ids are in the row
-- The writer is within the one bounds, as are the owners of later spaces; what these add to the mapped ids of a standing
-- space's rows is in the other bounds. (The two can be one.)
module _ (permitted : CallKind → Bool) (old new : Spaces) (bounds wider : Row → Part → ℕ → Type 0) (fit : TreeFits old new)
    (mapped : MapsAreIn old new bounds) (owners : OwnersIn old new bounds)
    (peopled : AtAnchors old new (λ a. HasMembers (bounds (Fresh a))))
    (mapped_wider : MapsAreIn old new wider)
    (into : (row : Row) → IsTrue (stands old (space_under row)) → (part : Part) (x : ℕ)
    → ByMaps permitted old bounds row part x → wider row part x)
    (at : ℕ) (c : Credential) (held : (row : Row) → RowOf (length old) new at row → InRow (bounds row) c) (included : Included c) (t : ℕ) where
  old_parent : (q : ℕ) → t < length old → (space_of new t).parent ≡ Some q → (space_of old t).parent ≡ Some q
  old_parent q low parent = sym (fit.stay t low).parent ∙ parent

  -- what the writer has is in the row of the space that it sits in
  held_at : (n : ℕ) (row : Row) → at ≡ n → RowOf (length old) new n row → InRow (bounds row) c
  held_at n row here is = held row (rw here is)

  cap_at : (capability n : ℕ) (row : Row) → at ≡ n → RowOf (length old) new n row → IsTrue (holds c.effective capability) → bounds row PermittedCaps capability
  cap_at capability n row here is cap =
      held_at n row here is PermittedCaps capability (member_of_wider c.effective c.permitted included.effective capability cap)

  -- so is the owner of a standing target, where the writer is the owner
  owner_is : t < length old → (space_of new t).owner ≡ c.uid.effective → c.uid.effective ≡ (space_of old t).owner
  owner_is low same = sym (sym (fit.stay t low).owner ∙ same)

  owner_at : t < length old → (n : ℕ) (row : Row) → (space_of new t).owner ≡ c.uid.effective → at ≡ n → RowOf (length old) new n row
      → bounds row EffectiveUids (space_of old t).owner
  owner_at low n row same here is = held_at n row here is EffectiveUids (space_of old t).owner (sym (owner_is low same))

  module _ (file : MapFile) (allowed : IsTrue (permitted (writer_of file))) (x q : ℕ)
      (cause_ : Cause file new at c t q x) where
    -- of a standing space
    standing : t < length old → IsTrue (is_none (map_of file (space_of new t))) → wider (Standing t) (part_of file) x
    standing low free =
        into (Standing t) (it_stands old new fit t low) (part_of file) x (by file allowed free cause_ in_q) where
          is_q : RowOf (length old) new q (Standing q)
          is_q = let before : q < t = fit.earlier t q cause_.parent in own q (omega arith)

          in_q : bounds (Standing q) (part_of file) x
          in_q = mapped_part file (mapped q (Standing q) is_q) x cause_.outside

          by : (file : MapFile) → IsTrue (permitted (writer_of file)) → IsTrue (is_none (map_of file (space_of new t)))
              → Cause file new at c t q x
              → bounds (Standing q) (part_of file) x → ByMaps permitted old bounds (Standing t) (part_of file) x
          by UidMap may free why in_q = (
            may,
            unwritten (space_of old t).uids (space_of new t).uids (fit.stay t low).uids free,
            (
              q,
              old_parent q low why.parent,
              (
                in_q,
                by_why why
                    (λ here cap. inl (cap_at cap_setuid q (Standing q) here is_q cap))
                    (λ same owner here cap.
                    inr (
                      same ∙ owner_is low owner,
                      inr (
                        owner_at low t (Standing t) owner here (own t low),
                        cap_at cap_setuid t (Standing t) here (own t low) cap,
                      ),
                    ))
                    (λ same owner here. inr (same ∙ owner_is low owner, inl (owner_at low q (Standing q) owner here is_q))),
              ),
            ),
          )
          by GidMap may free why in_q = (
            may,
            unwritten (space_of old t).gids (space_of new t).gids (fit.stay t low).gids free,
            (
              q,
              old_parent q low why.parent,
              (
                in_q,
                by_why why
                    (λ here cap. inl (cap_at cap_setgid q (Standing q) here is_q cap))
                    (λ same owner here cap.
                    inr (inr (
                      owner_at low t (Standing t) owner here (own t low),
                      cap_at cap_setgid t (Standing t) here (own t low) cap,
                      held_at t (Standing t) here (own t low) EffectiveGids x same,
                    )))
                    (λ same owner here.
                    inr (inl (owner_at low q (Standing q) owner here is_q, held_at q (Standing q) here is_q EffectiveGids x same))),
              ),
            ),
          )

    -- Of a later space whose parent stands.
    below : (a : ℕ) → length old ≤ t → RowOf (length old) new q (Standing a) → wider (Fresh a) (part_of file) x
    below a late is_q =
        into (Fresh a) (it_stands old new fit a (rw (← (row_standing is_q).0) (row_standing is_q).1)) (part_of file) x
        (by file allowed cause_ (mapped_part file (mapped q (Standing a) is_q) x cause_.outside)) where
          is_t : RowOf (length old) new t (Fresh a)
          is_t = child t q a late cause_.parent is_q

          owner_in : bounds (Standing a) EffectiveUids (space_of new t).owner
          owner_in = owners t q (Standing a) late cause_.parent is_q

          by : (file : MapFile) → IsTrue (permitted (writer_of file)) → Cause file new at c t q x
              → bounds (Standing a) (part_of file) x
              → ByMaps permitted old bounds (Fresh a) (part_of file) x
          by UidMap may why in_a = (
            may,
            peopled t a is_t,
            (
              in_a,
              by_why why (λ here cap. inr (cap_at cap_setuid q (Standing a) here is_q cap))
                  (λ same owner here cap. inl (rw (same ∙ sym owner) owner_in))
                  (λ same owner here. inl (rw (same ∙ sym owner) owner_in)),
            ),
          )
          by GidMap may why in_a = (
            may,
            peopled t a is_t,
            (
              in_a,
              by_why why (λ here cap. inr (inr (cap_at cap_setgid q (Standing a) here is_q cap)))
                  (λ same owner here cap. inr (inl (held_at t (Fresh a) here is_t EffectiveGids x same)))
                  (λ same owner here. inl (held_at q (Standing a) here is_q EffectiveGids x same)),
            ),
          )

    -- Of any space. Below a later parent the ids are in its row already.
    pub in_map : IsTrue (is_none (map_of file (space_of new t))) → (row : Row) → RowOf (length old) new t row
        → wider row (part_of file) x
    in_map free row row_t = go row_t refl where
      parent_is : {n p : ℕ} → n ≡ t → (space_of new n).parent ≡ Some p → p ≡ q
      parent_is {p = p} same parent =
          let both : Some p ≡ Some q = sym parent ∙ ap (λ (k : ℕ). (space_of new k).parent) same ∙ cause_.parent in cc

      go : {n : ℕ} {row : Row} → RowOf (length old) new n row → n ≡ t → wider row (part_of file) x
      go (own n low) same = rw same (standing (rw same at low) free)
      go (child n p a late parent up) same = below a (rw same at late) (rw (parent_is same parent) at up)
      go (deeper n p a late parent up) same =
          mapped_part file (mapped_wider q (Fresh a) (rw (parent_is same parent) at up)) x cause_.outside

-- ---- the writes
-- A write goes through its tests. That a list which maps 0 asks for CAP_SETFCAP isn't used: without it the rows are only
-- larger.
pub write_by : (P : Spaces → Type 0) (file : MapFile) (new : Spaces) (at : ℕ) (c : Credential) (t : ℕ) (list : List Extent) → P new
    → (IsTrue (may_write file new at c t) → (mapped : List Extent) → list_down (parent_map file new (space_of new t)) list ≡ Some mapped
    → IsTrue (may_map file new at c (space_of new t) mapped) → P (put_space t (with_map file (space_of new t) mapped) new))
    → P (write_map file new at c t list).spaces
write_by P file new at c t list stays written =
    choose (λ (w : Written). P w.spaces) (not (may_write file new at c t)) (write_refused EPERM new)
    (if not (is_map list) then write_refused EINVAL new else write_stored file new at c t list (list_down (parent_map file new (space_of new t)) list))
    (λ _. stays)
    (λ may. choose (λ (w : Written). P w.spaces) (not (is_map list)) (write_refused EINVAL new)
    (write_stored file new at c t list (list_down (parent_map file new (space_of new t)) list))
    (λ _. stays)
    (λ _. mapped_by (not-false (may_write file new at c t) may) (list_down (parent_map file new (space_of new t)) list) refl)) where
      mapped_by : IsTrue (may_write file new at c t) → (o : Option (List Extent)) → list_down (parent_map file new (space_of new t)) list ≡ o
          → P (write_stored file new at c t list o).spaces
      mapped_by may None down = stays
      mapped_by may (Some mapped) down =
          choose (λ (w : Written). P w.spaces) (setfcap_allows file new at c (space_of new t) list && may_map file new at c (space_of new t) mapped)
          (write_done new t (with_map file (space_of new t) mapped)) (write_refused EPERM new)
          (λ both.
          written may mapped down (and_parts (setfcap_allows file new at c (space_of new t) list)
          (may_map file new at c (space_of new t) mapped) both).1)
          (λ _. stays)

-- ---- what a write leaves of its space
module _ (new : Spaces) (at : ℕ) (c : Credential) (t : ℕ) where
  pub free_of : (file : MapFile) → IsTrue (may_write file new at c t) → IsTrue (is_none (map_of file (space_of new t)))
  free_of file writes =
      (and_parts (is_none (map_of file (space_of new t))) (at == t || is_the (space_of new t).parent at)
      (and_parts (is_none (map_of file (space_of new t)) && (at == t || is_the (space_of new t).parent at)) (has_over new at c (cap_for file) t) writes).0).0

  written_none : (o : Option (List Extent)) (map : List Extent) → IsTrue (is_none o) → o ≡ Some map → ⊥
  written_none None map free same = cc
  written_none (Some m) map free same = false≢true free

  pub map_stays : (file : MapFile) → IsTrue (may_write file new at c t) → (mapped : List Extent)
      → Stays (space_of new t) (with_map file (space_of new t) mapped)
  map_stays UidMap may mapped =
      let uids : (map : List Extent) → (space_of new t).uids ≡ Some map → Some mapped ≡ Some map =
      λ map written. absurd (written_none (space_of new t).uids map (free_of UidMap may) written) in
      record { parent = refl; owner = refl; uids = uids; gids = λ map written. written; deny = λ word. word }
  map_stays GidMap may mapped = record {
    parent = refl;
    owner = refl;
    uids = λ map written. written;
    gids = λ map written. absurd (written_none (space_of new t).gids map (free_of GidMap may) written);
    deny = λ word. word;
  }

  -- The word "deny" stays once it is there, whoever writes.
  deny_stays : (deny : Bool) → IsTrue (may_say (space_of new t) deny) → (space_of new t).deny ≡ true → deny ≡ true
  deny_stays true may word = refl
  deny_stays false may word = absurd (false≢true (sym (not-true (space_of new t).deny may) ∙ word))

  pub word_written : (deny : Bool) → IsTrue (may_say (space_of new t) deny) → Stays (space_of new t) (record (space_of new t) { deny = deny })
  word_written deny may = record {
    parent = refl;
    owner = refl;
    uids = λ map written. written;
    gids = λ map written. written;
    deny = deny_stays deny may;
  }

  -- A written word goes through its tests.
  pub word_by : (P : Spaces → Type 0) (deny : Bool) → P new
      → (IsTrue (may_say (space_of new t) deny) → P (put_space t (record (space_of new t) { deny = deny }) new))
      → P (write_setgroups new at c t deny).spaces
  word_by P deny stays written =
      choose (λ (w : Written). P w.spaces) (has_over new at c cap_sys_admin t && may_say (space_of new t) deny)
      (write_done new t (record (space_of new t) { deny = deny })) (write_refused EPERM new)
      (λ both. written (and_parts (has_over new at c cap_sys_admin t) (may_say (space_of new t) deny) both).1)
      (λ _. stays)
