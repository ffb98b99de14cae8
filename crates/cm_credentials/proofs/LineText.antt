-- The text of a credential line: what its parts, put one after another, come to.
use Rattle.std.proofs.Common.{◌≡◌, ℕ, List, [], ◌∷◌, ◌++◌, Result, codes, decimal, subst, append_assoc}
use Rattle.std.proofs.lemmas.Result.{IfOk-equal}
use Rattle.cm_base.specs.Outcome.{OrNoMemory}
use Rattle.cm_credentials.specs.Shown.{end_text, labelled_text}
use Rattle.cm_tokens.specs.Pieces.{Appends}
use Rattle.model_cred.specs.Credential.{FourIds}
use Rattle.model_cred.specs.Process.{Process}
use Rattle.model_text.specs.Print.{all_ids_text, bounds_text, credential_line, flags_text, groups_text, ids_text, place_text, sets_text}
use Rattle.model_text.specs.SpaceToken.{space_token}

-- pieces, joined as the parts are, and as the line is
parts_put : (old one two three four place uid user gid group label groups sets bounds flags lf : List ℕ)
    → one ≡ old ++ place → two ≡ one ++ (uid ++ user) → three ≡ two ++ (gid ++ group) → four ≡ three ++ (label ++ groups)
    → four ++ (sets ++ bounds ++ flags ++ lf)
    ≡ old ++ (place ++ (uid ++ user ++ gid ++ group ++ label ++ groups) ++ sets ++ bounds ++ flags ++ lf)
parts_put old one two three four place uid user gid group label groups sets bounds flags lf first second third fourth =
    rw (fourth, third, second, first) (simp append_assoc)

-- the place, the user ids, the group ids, the groups, and then the end
pub line_put : {T E : Type 0} (r : Result T E) (names : List (List ℕ)) (p : Process) (user group : FourIds) (groups old one two three four new : List ℕ)
    → Appends old one (codes "> " ++ decimal p.pid ++ codes " " ++ space_token names p.space)
    → Appends one two (labelled_text (record { letter = 117; ids = user }))
    → Appends two three (labelled_text (record { letter = 103; ids = group }))
    → Appends three four (codes " groups=" ++ groups_text groups)
    → OrNoMemory r (λ _. Appends four new (end_text p.cred))
    → user ≡ p.cred.uid → group ≡ p.cred.gid → groups ≡ p.cred.groups
    → OrNoMemory r (λ _. Appends old new (credential_line names p ++ 10 ∷ []))
unfolding all_ids_text credential_line place_text
line_put r names p user group groups old one two three four new first second third fourth last users is_group are_groups =
    IfOk-equal r new (four ++ end_text p.cred) (old ++ (credential_line names p ++ 10 ∷ [])) last
    (parts_put old one two three four (codes "> " ++ decimal p.pid ++ codes " " ++ space_token names p.space) (codes " uid=") (ids_text p.cred.uid)
    (codes " gid=") (ids_text p.cred.gid) (codes " groups=") (groups_text p.cred.groups) (sets_text p.cred) (bounds_text p.cred)
    (flags_text p.cred) (10 ∷ []) first
    (subst (λ (ids : FourIds). Appends one two (codes " uid=" ++ ids_text ids)) users second)
    (subst (λ (ids : FourIds). Appends two three (codes " gid=" ++ ids_text ids)) is_group third)
    (subst (λ (list : List ℕ). Appends three four (codes " groups=" ++ groups_text list)) are_groups fourth))
