-- Parts of a line with the values that they show: the text is that of the values.
use Rattle.std.specs.Prelude.{◌≡◌, ◌++◌, ◌∷◌, [], ℕ, List, IfSome, codes, take, if◌then◌else◌}
use Rattle.model_text.specs.Print.{ids_text, sets_text, bounds_text, flags_text}
use Rattle.model_text.specs.Hex.{hex_set, hex_bits}
use Rattle.cm_credentials.specs.declared.shown_parts.LabelledIds.{LabelledIds}
use Rattle.cm_credentials.specs.declared.shown_parts.ShownIds.TheInside.{Inside as InsideIds}
use Rattle.cm_credentials.specs.declared.shown_parts.Tail.{Tail}
use Rattle.cm_credentials.specs.declared.shown_parts.ShownTail.TheInside.{Inside as InsideTail}
use Rattle.model_cred.specs.Credential.{Credential}

-- what the end of a credential's line shows
abbrev pub tail_of : Credential → Tail
tail_of c = record {
  inh = c.inheritable;
  prm = c.permitted;
  eff = c.effective;
  bnd = c.bounding;
  amb = c.ambient;
  sec = record { 0 = c.securebits };
  nnp = c.no_new_privs;
}

-- the sets, the securebits and no_new_privs, with the LF that ends the line
abbrev pub tail_text : Tail → List ℕ
tail_text tail =
    (codes " inh=" ++ hex_set tail.inh ++ codes " prm=" ++ hex_set tail.prm ++ codes " eff=" ++ hex_set tail.eff)
    ++ (codes " bnd=" ++ hex_set tail.bnd ++ codes " amb=" ++ hex_set tail.amb)
    ++ (codes " sec=" ++ hex_bits tail.sec.0 ++ codes " nnp=" ++ (if tail.nnp then codes "1" else codes "0")) ++ 10 ∷ []

-- the end of a credential's line
abbrev pub end_text : Credential → List ℕ
end_text c = sets_text c ++ bounds_text c ++ flags_text c ++ 10 ∷ []

-- four ids after their label
abbrev pub labelled_text : LabelledIds → List ℕ
labelled_text key = codes " " ++ key.letter ∷ codes "id=" ++ ids_text key.ids

-- Four ids with their text.
abbrev pub ShowsIds : InsideIds → Type 0
ShowsIds part = IfSome part.shown (λ key. part.text ≡ labelled_text key)

-- The end of a line with its text.
abbrev pub ShowsTail : InsideTail → Type 0
ShowsTail part = IfSome part.shown (λ tail. take 119 part.text ≡ tail_text tail)
