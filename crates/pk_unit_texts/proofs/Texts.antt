-- The names and places of the typed unit of a text, from its tokens.
use Rattle.std.proofs.Common.{◌≡◌, ℕ, ◌≤◌, Bool, true, ◌&&◌, List, [], ◌∷◌, length, sym, subst, ap, ◌∙◌, arith, if◌then◌else◌}
use Rattle.std.specs.Prelude.{All, nat_le, slice_range}
use Rattle.std.proofs.lemmas.Bool.Decides.{nat_tests}
use Rattle.std.proofs.lemmas.List.Elements.{All-nil, All-cons, All-weaker}
use Rattle.std.specs.Str.Lossy.{utf8_lossy}
use Rattle.pk_ctypes.specs.declared.places.Pos.{Pos}
use Rattle.pk_lex.specs.declared.token.Token.{Token}
use Rattle.pk_lex.specs.Words.{is_name}
use Rattle.pk_ast.specs.declared.expressions.Identifier.{Identifier}
use Rattle.pk_ast.specs.Names.{names_of}
use Rattle.pk_typed.specs.Trees.{UnitTree}
use Rattle.pk_type_scope.specs.Scopes.{spelled}
use Rattle.pk_front.specs.Texts.{HasUnit}
use Rattle.pk_text_laws.specs.Names.Laws.{StandsIn, AllStandIn, NamesStandInTexts}
use Rattle.pk_places_laws.specs.Names as names
use Rattle.pk_places_laws.specs.Places as places
use Rattle.pk_unit_laws.proofs.Names.{Spelt, names_told}
use Rattle.pk_unit_laws.proofs.Places.{places_told}
use Rattle.pk_unit_laws.proofs.Derived.{tokens_told}
use Rattle.pk_unit_texts.specs.Standing.{IsPlaceIn}
use Rattle.pk_unit_texts.specs.Laws.{UnitsHaveNames, UnitsHavePlaces}
use Rattle.pk_unit_texts.proofs.Spelling.{names_are_names, its_own_text}
use Rattle.pk_unit_texts.proofs.Standing.{tokens_stand}

-- ---- names

its_bytes : (text : List ℕ) (x : Identifier) → x.start ≤ x.end → x.end ≤ length text → spelled text x ≡ slice_range text x.start x.end
its_bytes text x h k =
    let both : (nat_le x.start x.end && nat_le x.end (length text)) ≡ true = grind (arith, nat_tests) in
    ap (λ (b : Bool). if b then slice_range text x.start x.end else []) both

its_text : (text : List ℕ) (x : Identifier) → StandsIn text x → is_name (utf8_lossy (spelled text x)) ≡ true
its_text text x h =
    let bytes : spelled text x ≡ slice_range text x.start x.end = its_bytes text x h.begins h.ends in
    let is : is_name (slice_range text x.start x.end) ≡ true = names_are_names (slice_range text x.start x.end) h.is_name in
    let same : utf8_lossy (spelled text x) ≡ slice_range text x.start x.end = ap utf8_lossy bytes ∙ its_own_text (slice_range text x.start x.end) is in
    subst (λ (q : List ℕ). is_name q ≡ true) (sym same) is

all_texts : (N : names.OfNames) → ((name : List ℕ) → is_name name ≡ true → N name) → (text : List ℕ) (xs : List Identifier) → AllStandIn text xs → All (Spelt N text) xs
all_texts N f text [] h = All-nil (Spelt N text)
all_texts N f text (x ∷ xs) h = All-cons (Spelt N text) x xs (f (utf8_lossy (spelled text x)) (its_text text x h.0)) (all_texts N f text xs h.1)

-- what holds of names by the lexis holds of those of the unit
pub names_hold : (N : names.OfNames) → ((name : List ℕ) → is_name name ≡ true → N name) → NamesStandInTexts → (text : List ℕ) (u : UnitTree) → HasUnit text u → names.InUnit N u
names_hold N f stand text u h =
    let p = h.parsed in
    subst (names.InUnit N) (sym h.unit) (names_told N text h.all (all_texts N f text (names_of h.all) (stand text p.tokens h.all p.read p.parsed.parsed)))

pub units_have_names : NamesStandInTexts → UnitsHaveNames
units_have_names = names_hold (λ name. is_name name ≡ true) (λ name h. h)

-- ---- places

-- what holds of the places in a text holds of those of the unit
pub places_hold : (P : places.OfPlaces) (text : List ℕ) → ((at : Pos) → IsPlaceIn text at → P at) → (u : UnitTree) → HasUnit text u → places.InUnit P u
places_hold P text f u h =
    let p = h.parsed in
    let tokens = All-weaker (λ (t : Token). IsPlaceIn text t.at) (λ (t : Token). P t.at) (λ t s. f t.at s) p.tokens (tokens_stand text p.read.words p.tokens p.read.lexed p.read.marked) in
    subst (places.InUnit P) (sym h.unit) (places_told P text h.all (tokens_told P p.tokens h.all p.parsed.parsed tokens))

pub units_have_places : UnitsHavePlaces
units_have_places text u h = places_hold (IsPlaceIn text) text (λ at s. s) u h
