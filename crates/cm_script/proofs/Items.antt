-- Lists that are read item by item: what was read, and what the rest gives.
use Rattle.std.proofs.Common.{◌≡◌, ℕ, ◌+◌, ◌<◌, Bool, true, false, List, [], ◌∷◌, ◌++◌, Option, Some, Result, Ok, Err, refl, ap, ◌∙◌}
use Rattle.std.proofs.Common.{append_assoc, inl, inr, drop, filter, get_or, length}
use Rattle.std.proofs.lemmas.Bool.{cond-true, cond-false}
use Rattle.std.proofs.lemmas.List.{drop_more}
use Rattle.cm_tokens.proofs.Options.{cases_Option}
use Rattle.cm_base.specs.declared.faults.LineFault.{LineFault}
use Rattle.model_cred.specs.IdMap.{Extent}
use Rattle.model_text.specs.Line.{Tokens}
use Rattle.model_text.specs.Token.{number_token}
use Rattle.cm_script.specs.Steps.{and_make, extent_or_end, extents_told}

-- items before those that the rest gives
abbrev pub after_items : {A : Type 0} → List A → Result (List A) LineFault → Result (List A) LineFault
after_items items told = and_make (λ more. items ++ more) told

-- one item more before them
pub after_push : {A : Type 0} (items : List A) (x : A) (told : Result (List A) LineFault)
    → after_items (items ++ x ∷ []) told ≡ after_items items (and_make (λ more. x ∷ more) told)
after_push items x (Ok more) = ap Ok (append_assoc items (x ∷ []) more)
after_push items x (Err why) = refl

-- the parts of what was read
the_extent : Extent → Result (Option (Extent × Tokens)) LineFault → Extent
the_extent other (Ok (Some read)) = read.0
the_extent other _ = other

the_rest : Tokens → Result (Option (Extent × Tokens)) LineFault → Tokens
the_rest other (Ok (Some read)) = read.1
the_rest other _ = other

-- an extent more
pub extents_step : (place : ℕ) (tokens rest : Tokens) (e : Extent) → extent_or_end place tokens ≡ Ok (Some (e, rest))
    → extents_told place tokens ≡ and_make (λ list. e ∷ list) (extents_told (place + 3) rest)
unfolding the_extent the_rest
extents_step place [] rest e is = absurd (cc)
extents_step place (a ∷ []) rest e is =
    elim (cases_Option (number_token a)) [ inl none ↦ absurd (cc (rw none at is)) | inr some ↦ absurd (cc (rw some.1 at is)) ]
extents_step place (a ∷ b ∷ []) rest e is =
    elim (cases_Option (number_token a)) [
      | inl none ↦ absurd (cc (rw none at is))
      | inr some ↦ elim (cases_Option (number_token b)) [
        | inl none ↦ absurd (cc (rw (some.1, none) at is))
        | inr more ↦ absurd (cc (rw (some.1, more.1) at is))
      ]
    ]
extents_step place (a ∷ b ∷ c ∷ tokens) rest e is =
    elim (cases_Option (number_token a)) [
      | inl none ↦ absurd (cc (rw none at is))
      | inr i ↦ elim (cases_Option (number_token b)) [
        | inl none ↦ absurd (cc (rw (i.1, none) at is))
        | inr o ↦ elim (cases_Option (number_token c)) [
          | inl none ↦ absurd (cc (rw (i.1, o.1, none) at is))
          | inr n ↦ let given = rw (i.1, o.1, n.1) at is in
              let same : record { inside = i.0; outside = o.0; length = n.0 } ≡ e = ap (the_extent e) given in
              let after : tokens ≡ rest = ap (the_rest rest) given in
              rw (i.1, o.1, n.1, same, after) refl
        ]
      ]
    ]

-- ---- items that pass a test
-- one that passes stands before those that are left
pub passing_next : {A : Type 0} (p : A → Bool) (list : List A) (k : ℕ) (other : A) → k < length list → p (get_or list k other) ≡ true
    → filter p (drop k list) ≡ get_or list k other ∷ filter p (drop (k + 1) list)
passing_next p list k other below passes =
    let item = get_or list k other in
    ap (filter p) (drop_more list k other below)
    ∙ cond-true (p item) (item ∷ filter p (drop (k + 1) list)) (filter p (drop (k + 1) list)) passes

-- another doesn't
pub failing_next : {A : Type 0} (p : A → Bool) (list : List A) (k : ℕ) (other : A) → k < length list → p (get_or list k other) ≡ false
    → filter p (drop k list) ≡ filter p (drop (k + 1) list)
failing_next p list k other below fails =
    let item = get_or list k other in
    ap (filter p) (drop_more list k other below)
    ∙ cond-false (p item) (item ∷ filter p (drop (k + 1) list)) (filter p (drop (k + 1) list)) fails
