-- Arguments that are read one after the other, each as it is written.
use Rattle.std.proofs.Common.{◌≡◌, ℕ, ◌+◌, ◌<◌, ◌≤◌, Bool, true, false, not, List, [], ◌∷◌, ◌++◌, map, flat_map, refl, sym, ap, subst, ◌∙◌}
use Rattle.std.proofs.Common.{append_assoc, arith, drop, filter, get_or, length, length-append, Bor, IsTrue, Option, Some, None}
use Rattle.std.specs.Prelude.{IfSome}
use Rattle.std.proofs.lemmas.Grind.{flat_map-append}
use Rattle.std.proofs.lemmas.List.{map-append, drop_all}
use Rattle.std.proofs.lemmas.List.Elements.{All-nil, All-cons, All-append}
use Rattle.cm_base.proofs.Words.{meet_full}
use Rattle.cm_base.specs.CapSet.{full, meet}
use Rattle.cm_filter.specs.Kinds.{call_kinds, call_name}
use Rattle.cm_filter.specs.declared.kind.CallKind.{CallKind}
use Rattle.cm_filter.specs.declared.kind.CallKind.TheVariants as kind
use Rattle.cm_filter.specs.declared.shape.Shape.{Shape}
use Rattle.cm_filter.specs.Shapes.{shape_of}
use Rattle.cm_script.specs.Own.{IsOwn, Takes, TakesAll, TakesCall}
use Rattle.cm_filter.specs.Filters.{Filter, IsFilter, excluded_kinds, excludes, permits}
use Rattle.cm_script.proofs.Items.{failing_next, passing_next}
use Rattle.model_cred.specs.Call as model
use Rattle.model_cred.specs.Call.{Call, kind_of}
use Rattle.model_cred.specs.IdMap.{Extent}
use Rattle.model_cred.specs.World.{World}
use Rattle.model_text.specs.Arguments.{Argument, Id, Kind, Set, arguments_of, triple_of, spaced_text, spaced_texts}
use Rattle.model_text.proofs.BareCalls.{IsBare, installs_none}
use Rattle.model_text.specs.Token.{can_be_excluded}
use Rattle.model_text.specs.Written.{InstallsFilter}

-- none
pub takes_none : (w : World) (text : List ℕ) → TakesAll w text [] text
takes_none w text = record { written = refl; own = All-nil (IsOwn w) }

-- one, and those after it
pub takes_more : (w : World) (text mid rest : List ℕ) (a : Argument) (list : List Argument) → Takes w text a mid → TakesAll w mid list rest
    → TakesAll w text (a ∷ list) rest
takes_more w text mid rest a list one more = record {
  written = one.written ∙ ap (λ (t : List ℕ). spaced_text w a ++ t) more.written ∙ sym (append_assoc (spaced_text w a) (spaced_texts w list) rest);
  own = All-cons (IsOwn w) a list one.own more.own;
}

pub takes_one : (w : World) (text rest : List ℕ) (a : Argument) → Takes w text a rest → TakesAll w text (a ∷ []) rest
takes_one w text rest a one = takes_more w text rest rest a [] one (takes_none w rest)

pub takes_two : (w : World) (text mid rest : List ℕ) (a b : Argument) → Takes w text a mid → Takes w mid b rest → TakesAll w text (a ∷ b ∷ []) rest
takes_two w text mid rest a b one two = takes_more w text mid rest a (b ∷ []) one (takes_one w mid rest b two)

pub takes_three : (w : World) (text mid later rest : List ℕ) (a b c : Argument) → Takes w text a mid → Takes w mid b later → Takes w later c rest
    → TakesAll w text (a ∷ b ∷ c ∷ []) rest
takes_three w text mid later rest a b c one two three = takes_more w text mid rest a (b ∷ c ∷ []) one (takes_two w mid later rest b c two three)

-- the call of the kind that has them
pub taken_call : (w : World) (kind : CallKind) (shape : Shape) (text : List ℕ) (call : Call) (arguments : List Argument) (rest : List ℕ)
    → shape_of kind ≡ shape → IsBare shape
    → kind_of call ≡ kind → arguments_of call ≡ arguments → TakesAll w text arguments rest → TakesCall w kind text call rest
taken_call w kind shape text call arguments rest of_shape bare is from all = record {
  of_kind = is;
  filter = installs_none kind call (subst IsBare (sym of_shape) bare) is;
  arguments = subst (λ (list : List Argument). TakesAll w text list rest) (sym from) all;
}

-- three sets, none of which has bits to be dropped
pub sets_taken : (w : World) (text mid later rest : List ℕ) (a b c eff prm inh : ℕ) → Takes w text (Set a) mid → Takes w mid (Set b) later
    → Takes w later (Set c) rest → eff ≡ meet a full → prm ≡ meet b full → inh ≡ meet c full
    → TakesAll w text (Set eff ∷ Set prm ∷ Set inh ∷ []) rest
sets_taken w text mid later rest a b c eff prm inh one two three first second third =
    let e : eff ≡ a = first ∙ meet_full a one.own in
    let p : prm ≡ b = second ∙ meet_full b two.own in
    let i : inh ≡ c = third ∙ meet_full c three.own in
    rw (e, p, i) (takes_three w text mid later rest (Set a) (Set b) (Set c) one two three)

-- some, and those after them
pub takes_append : (w : World) (text mid rest : List ℕ) (first second : List Argument) → TakesAll w text first mid → TakesAll w mid second rest
    → TakesAll w text (first ++ second) rest
takes_append w text mid rest first second one two = record {
  written =
      one.written ∙ ap (λ (t : List ℕ). spaced_texts w first ++ t) two.written
      ∙ sym (append_assoc (spaced_texts w first) (spaced_texts w second) rest)
      ∙ ap (λ (t : List ℕ). t ++ rest) (sym (flat_map-append (spaced_text w) first second));
  own = All-append (IsOwn w) first second one.own two.own;
}

-- an id after ids
pub id_after : (w : World) (text mid rest : List ℕ) (ids : List ℕ) (id : ℕ) → TakesAll w text (map Id ids) mid → Takes w mid (Id id) rest
    → TakesAll w text (map Id (ids ++ id ∷ [])) rest
id_after w text mid rest ids id before one =
    rw (map-append) (takes_append w text mid rest (map Id ids) (Id id ∷ []) before (takes_one w mid rest (Id id) one))

-- an extent after extents
pub extent_after : (w : World) (text mid rest : List ℕ) (list : List Extent) (e : Extent) → TakesAll w text (flat_map triple_of list) mid
    → TakesAll w mid (triple_of e) rest → TakesAll w text (flat_map triple_of (list ++ e ∷ [])) rest
extent_after w text mid rest list e before one =
    rw (flat_map-append) (takes_append w text mid rest (flat_map triple_of list) (triple_of e) before one)

-- the call that installs a filter, whose kinds they are
pub taken_filter : (w : World) (kind : CallKind) (text : List ℕ) (call : Call) (filter : Filter) (rest : List ℕ) → IsFilter filter
    → kind_of call ≡ kind → call ≡ model.Install filter → TakesAll w text (map Kind (excluded_kinds filter)) rest → TakesCall w kind text call rest
taken_filter w kind text call filter rest small is made all = record {
  of_kind = is;
  filter = subst InstallsFilter (sym made) small;
  arguments = subst (λ (c : Call). TakesAll w text (arguments_of c) rest) (sym made) all;
}

-- ---- kinds of a filter
-- one that the filter excludes stands before those that are left
pub kind_taken : (w : World) (f : Filter) (kinds : List CallKind) (k : ℕ) (other : CallKind) (text mid end : List ℕ) → k < length kinds
    → permits f (get_or kinds k other) ≡ false → Takes w text (Kind (get_or kinds k other)) mid
    → TakesAll w mid (map Kind (filter (excludes f) (drop (k + 1) kinds))) end → TakesAll w text (map Kind (filter (excludes f) (drop k kinds))) end
kind_taken w f kinds k other text mid end below excluded one more =
    let kind = get_or kinds k other in
    subst (λ (left : List CallKind). TakesAll w text (map Kind left) end)
    (sym (passing_next (excludes f) kinds k other below (held (excludes f kind) excluded)))
    (takes_more w text mid end (Kind kind) (map Kind (filter (excludes f) (drop (k + 1) kinds))) one more)
  where
    held : (b : Bool) → not b ≡ false → b ≡ true
    held true e = refl
    held false e = absurd (cc)

-- another doesn't
pub kind_passed : (w : World) (f : Filter) (kinds : List CallKind) (k : ℕ) (other : CallKind) (text end : List ℕ) → k < length kinds
    → permits f (get_or kinds k other) ≡ true
    → TakesAll w text (map Kind (filter (excludes f) (drop (k + 1) kinds))) end → TakesAll w text (map Kind (filter (excludes f) (drop k kinds))) end
kind_passed w f kinds k other text end below permitted more =
    subst (λ (left : List CallKind). TakesAll w text (map Kind left) end)
    (sym (failing_next (excludes f) kinds k other below (free (excludes f (get_or kinds k other)) permitted))) more
  where
    free : (b : Bool) → not b ≡ true → b ≡ false
    free true e = absurd (cc)
    free false e = refl

-- after all of them nothing is left
kinds_taken : (w : World) (f : Filter) (kinds : List CallKind) (k : ℕ) (text rest : List ℕ) → length kinds ≤ k
    → ((end : List ℕ) → TakesAll w rest (map Kind (filter (excludes f) (drop k kinds))) end → TakesAll w text (map Kind (filter (excludes f) kinds)) end)
    → TakesAll w text (map Kind (filter (excludes f) kinds)) rest
kinds_taken w f kinds k text rest past all =
    all rest (subst (λ (left : List CallKind). TakesAll w rest (map Kind (filter (excludes f) left)) rest) (sym (drop_all k kinds past)) (takes_none w rest))

-- after all kinds those that the filter excludes were taken
pub all_taken : (w : World) (f : Filter) (kinds : List CallKind) (k : ℕ) (text rest : List ℕ) → length kinds ≤ k
    → kinds ≡ call_kinds
    → ((end : List ℕ) → TakesAll w rest (map Kind (filter (excludes f) (drop k kinds))) end
    → TakesAll w text (map Kind (filter (excludes f) kinds)) end)
    → TakesAll w text (map Kind (excluded_kinds f)) rest
all_taken w f kinds k text rest past are all =
    subst (λ (ks : List CallKind). TakesAll w text (map Kind (filter (excludes f) ks)) rest) are
    (kinds_taken w f kinds k text rest past all)

-- ---- the name of one kind
-- a kind that isn't exit can be excluded
pub can_stand : (k : CallKind) → (k ≡ kind.Exit → ⊥) → IsTrue (can_be_excluded k)
can_stand kind.Exit other = absurd (other refl)
can_stand _ other = refl

-- after a blank the name of such a kind was taken
pub kind_stands : (w : World) (kind : CallKind) (text after piece : List ℕ) (r : Option (Bor (List ℕ)))
    → text ≡ 32 ∷ after → IsTrue (can_be_excluded kind) → piece ≡ call_name kind
    → IfSome r (λ rest. after ≡ piece ++ rest.now) → IfSome r (λ rest. Takes w text (Kind kind) rest.now)
kind_stands w kind text after piece None is may name named = tt
kind_stands w kind text after piece (Some rest) is may name named = record {
  written = is ∙ ap (λ (t : List ℕ). 32 ∷ t) (named ∙ ap (λ (t : List ℕ). t ++ rest.now) name);
  own = may;
}

-- what is left after a blank and a name is shorter
pub name_shortens : (text after : List ℕ) (r : Option (CallKind × Bor (List ℕ))) → text ≡ 32 ∷ after
    → IfSome r (λ p. after ≡ call_name p.0 ++ p.1.now) → IfSome r (λ p. length p.1.now < length text)
name_shortens text after None is named = tt
name_shortens text after (Some p) is named =
    omega (arith, ap length is, ap length named, length-append (call_name p.0) p.1.now)
