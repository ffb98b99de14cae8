-- The keys of the code as those of the definitions.
use Rattle.std.specs.Prelude.{map, List}
use Rattle.cm_values.specs.declared.key.Kind.{Kind}
use Rattle.cm_values.specs.declared.key.Kind.TheVariants as code
use Rattle.cm_values.specs.declared.key.Need.{Need}
use Rattle.cm_values.specs.declared.key.Need.TheVariants as need
use Rattle.cm_values.specs.declared.key.Key.{Key}
use Rattle.model_text.specs.Keys as model

-- the kind of the definitions
abbrev pub kind_of : Kind → model.Kind
kind_of code.Text = model.Text
kind_of (code.Word words) = model.Word (map (λ word. word.now) words.now)
kind_of code.Flag = model.Flag
kind_of (code.Number low high) = model.Number low high
kind_of code.Ids = model.Ids
kind_of code.Groups = model.Groups
kind_of code.Extents = model.Extents
kind_of code.Texts = model.Texts
kind_of code.Rows = model.Rows
kind_of code.Section = model.Section

-- the need of the definitions
abbrev pub need_of : Need → model.Need
need_of need.Required = model.Required
need_of need.Optional = model.Optional
need_of (need.Beside other) = model.Beside other.now

-- the key of the definitions
abbrev pub key_of : Key → model.Key
key_of k = record { name = k.0.now; kind = kind_of k.1; need = need_of k.2 }

-- the keys of the definitions
abbrev pub keys_of : List Key → List model.Key
keys_of keys = map key_of keys
