-- Words of a type: which of them follow which.
use Rattle.std.proofs.Common.{◌≡◌, ◌⊎◌, inl, inr, Bool, true, false, if◌then◌else◌, Option, Some, None, List, [], ◌∷◌, ◌++◌, refl, sym, ap, subst, ◌∙◌}
use Rattle.pk_lex.specs.declared.token.Token.{Token}
use Rattle.pk_lex.specs.declared.token.Kind.TheVariants as kind
use Rattle.pk_lex.specs.declared.token.Punctuator.{Punctuator}
use Rattle.pk_lex.specs.declared.token.Punctuator.TheVariants as mark
use Rattle.pk_ast.specs.declared.declarations.Specifier.{Specifier}
use Rattle.pk_ast.specs.declared.declarations.SpecifierWord.{SpecifierWord}
use Rattle.pk_ast.specs.declared.declarations.SpecifierWord.TheVariants as word
use Rattle.pk_ast.specs.Trees.{OneOrMore}
use Rattle.pk_ast.specs.Lists.{with_last}
use Rattle.pk_grammar.specs.declared.signs.Fixed.TheVariants as fixed
use Rattle.pk_grammar.specs.declared.signs.Shape.{Shape}
use Rattle.pk_grammar.specs.declared.signs.Shape.TheVariants as shape
use Rattle.pk_grammar.specs.Grammar.{IsWord, IsTypeName, IsTag, IsKeyword, AreKeywords, AreConst, AreTagged, BeginNamed, AreNamed, GoTogether, IsOptionalTag, AreBeforeBraces, all_of}
use Rattle.pk_grammar.specs.Machine.Signs.{is_fixed, specifier_in, specifier_word, wants_tag, takes_braces, follows, with_word, with_words, shape_of, where_it_follows, tag_word, following_word}
use Rattle.pk_grammar.specs.Machine.Steps.{may_follow, next_word, end_in_enum, may_open}
use Rattle.pk_grammar.proofs.CompleteSigns.{word_is}

-- One more word

pub with_words_end : (s : Shape) (ws : List Specifier) (w : Specifier) → with_words s (ws ++ w ∷ []) ≡ with_word (with_words s ws) w.word
with_words_end s [] w = refl
with_words_end s (v ∷ ws) w = with_words_end (with_word s v.word) ws w

pub shape_of_end : (ws : List Specifier) (w : Specifier) → shape_of (ws ++ w ∷ []) ≡ with_word (shape_of ws) w.word
shape_of_end ws w = with_words_end shape.Consts ws w

pub shape_with_last : (done : OneOrMore Specifier) (w : Specifier) → shape_of (all_of (with_last done w)) ≡ with_word (shape_of (all_of done)) w.word
shape_with_last done w = shape_of_end (all_of done) w

-- behind `enum` no word follows but a tag
wants_none : (s : Shape) (w : SpecifierWord) → ¬ IsTag w → follows s w ≡ true → wants_tag s ≡ false
wants_none shape.Consts w k f = refl
wants_none shape.Keywords w k f = refl
wants_none shape.Tagged w k f = refl
wants_none shape.Named w k f = refl
wants_none shape.Enum (word.Tag from to) k f = absurd (k tt)
wants_none shape.Enum w k f = absurd (cc)

tag_is : (t : Token) (from to : _) → IsWord (word.Tag from to) t → tag_word t ≡ Some (word.Tag from to)
tag_is t from to h =
    ap (λ k. if is_fixed fixed.Name k then Some (word.Tag t.start t.end) else None) h.0
    ∙ (ap (λ n. Some (word.Tag n t.end)) h.1 ∙ ap (λ n. Some (word.Tag from n)) h.2)

other_is : (s : Shape) (w : SpecifierWord) (t : Token) → ¬ IsTag w → IsWord w t → follows s w ≡ true → following_word s t ≡ Some w
other_is s w t k h f =
    ap (λ (b : Bool). if b then tag_word t else where_it_follows s (specifier_word t)) (wants_none s w k f) ∙ ap (λ o. where_it_follows s o) (word_is w t k h)
    ∙ ap (λ (b : Bool). if b then Some w else None) f

following_is : (s : Shape) (w : SpecifierWord) (t : Token) → IsWord w t → follows s w ≡ true → following_word s t ≡ Some w
following_is s (word.Tag from to) t h f =
    ap (λ (b : Bool). if b then tag_word t else where_it_follows s (specifier_word t)) f ∙ tag_is t from to h
following_is s w t h f = other_is s w t (λ k. k) h f

-- a word that may follow is the next one
pub next_is : (done : OneOrMore Specifier) (t : Token) (w : SpecifierWord) → IsWord w t → may_follow done w ≡ true → next_word done t ≡ Some w
next_is done t w h m = following_is (shape_of (all_of done)) w t h m

-- a word that may stand first is a word of a type by itself
pub first_is : (w : SpecifierWord) (t : Token) → IsWord w t → follows shape.Consts w ≡ true → specifier_word t ≡ Some w
first_is (word.Tag from to) t h f = absurd (cc)
first_is w t h f = word_is w t (λ k. k) h

-- no word is next at a token that is none and isn't a name either
pub no_next : (done : OneOrMore Specifier) (t : Token) → is_fixed fixed.Name t.kind ≡ false → specifier_word t ≡ None → next_word done t ≡ None
no_next done t n e =
    let s : Shape = shape_of (all_of done) in
    ap (λ (b : Bool). if wants_tag s then (if b then Some (word.Tag t.start t.end) else None) else where_it_follows s (specifier_word t)) n
    ∙ ap (λ o. if wants_tag s then None else where_it_follows s o) e ∙ either (wants_tag s)
  where
    either : (b : Bool) → ◌≡◌ {A = Option SpecifierWord} (if b then None else None) None
    either true = refl
    either false = refl

-- nor at any that is none, where no tag is wanted
pub no_more : (done : OneOrMore Specifier) (t : Token) → end_in_enum done ≡ false → specifier_word t ≡ None → next_word done t ≡ None
no_more done t n e =
    let s : Shape = shape_of (all_of done) in
    ap (λ (b : Bool). if b then tag_word t else where_it_follows s (specifier_word t)) n ∙ ap (λ o. where_it_follows s o) e

pub no_sign : (done : OneOrMore Specifier) (t : Token) (p : Punctuator) → t.kind ≡ kind.Punctuator p → next_word done t ≡ None
no_sign done t p e = no_next done t (ap (λ k. is_fixed fixed.Name k) e ∙ no_name p) (ap (λ k. specifier_in k t.start t.end) e)
  where
    no_name : (p : Punctuator) → is_fixed fixed.Name (kind.Punctuator p) ≡ false
    no_name mark.OpenParenthesis = refl
    no_name _ = refl

pub no_name : (done : OneOrMore Specifier) (t : Token) → end_in_enum done ≡ false → t.kind ≡ kind.Name → next_word done t ≡ None
no_name done t n e = no_more done t n (ap (λ k. specifier_in k t.start t.end) e)

-- a name that is no next word is no tag
pub no_enum : (done : OneOrMore Specifier) (t : Token) → next_word done t ≡ None → t.kind ≡ kind.Name → end_in_enum done ≡ false
no_enum done t h e = by_test (wants_tag (shape_of (all_of done))) refl
  where
    by_test : (b : Bool) → wants_tag (shape_of (all_of done)) ≡ b → end_in_enum done ≡ false
    by_test false f = f
    by_test true f =
        let g : next_word done t ≡ Some (word.Tag t.start t.end) =
        ap (λ (b : Bool). if b then tag_word t else where_it_follows (shape_of (all_of done)) (specifier_word t)) f ∙ ap (λ k. if is_fixed fixed.Name k then Some (word.Tag t.start t.end) else None) e in
        let a : ◌≡◌ {A = Option SpecifierWord} (Some (word.Tag t.start t.end)) None = sym g ∙ h in
        absurd (cc)

-- behind `enum` a name is a tag
pub next_tag : (done : OneOrMore Specifier) (t : Token) → end_in_enum done ≡ true → t.kind ≡ kind.Name → next_word done t ≡ Some (word.Tag t.start t.end)
next_tag done t h e =
    ap (λ (b : Bool). if b then tag_word t else where_it_follows (shape_of (all_of done)) (specifier_word t)) h
    ∙ ap (λ k. if is_fixed fixed.Name k then Some (word.Tag t.start t.end) else None) e

-- and with it no other is wanted
pub tag_is_last : (done : OneOrMore Specifier) (w : Specifier) → end_in_enum done ≡ true → end_in_enum (with_last done w) ≡ false
tag_is_last done w h = ap wants_tag (shape_with_last done w) ∙ by_shape (shape_of (all_of done)) h
  where
    by_shape : (s : Shape) → wants_tag s ≡ true → wants_tag (with_word s w.word) ≡ false
    by_shape shape.Enum e = refl
    by_shape s e = absurd (cc)

-- Words of the grammar follow each other

-- words that go together, as far as they stand behind words of this shape
abbrev pub Goes : Shape → List Specifier → Type 0
Goes shape.Consts ws = GoTogether ws
Goes shape.Keywords ws = AreKeywords ws
Goes shape.Enum ws = AreTagged ws
Goes shape.Tagged ws = AreConst ws
Goes shape.Named ws = AreConst ws

-- words before braces, as far as they stand behind words of this shape
abbrev pub Opens : Shape → List Specifier → Type 0
Opens shape.Consts ws = AreBeforeBraces ws
Opens shape.Keywords ws = ⊥
Opens shape.Enum ws = IsOptionalTag ws
Opens shape.Tagged ws = ws ≡ []
Opens shape.Named ws = ⊥

-- the word follows, and the others stand behind it
abbrev GoesOn : Shape → SpecifierWord → List Specifier → Type 0
GoesOn s w more = (follows s w ≡ true) × Goes (with_word s w) more

abbrev OpensOn : Shape → SpecifierWord → List Specifier → Type 0
OpensOn s w more = (follows s w ≡ true) × Opens (with_word s w) more

keyword_first : (w : SpecifierWord) (more : List Specifier) → IsKeyword w → AreKeywords more → GoesOn shape.Consts w more
keyword_first word.Const more k h = (refl, inl h)
keyword_first (word.TypeName from to) more k h = absurd k
keyword_first word.Enum more k h = absurd k
keyword_first (word.Tag from to) more k h = absurd k
keyword_first w more k h = (refl, h)

keyword_next : (w : SpecifierWord) (more : List Specifier) → IsKeyword w → AreKeywords more → GoesOn shape.Keywords w more
keyword_next (word.TypeName from to) more k h = absurd k
keyword_next word.Enum more k h = absurd k
keyword_next (word.Tag from to) more k h = absurd k
keyword_next w more k h = (refl, h)

name_first : (w : SpecifierWord) (more : List Specifier) → IsTypeName w → AreConst more → GoesOn shape.Consts w more
name_first (word.TypeName from to) more k h = (refl, h)
name_first w more k h = absurd k

tag_next : (w : SpecifierWord) (more : List Specifier) → IsTag w → AreConst more → GoesOn shape.Enum w more
tag_next (word.Tag from to) more k h = (refl, h)
tag_next w more k h = absurd k

named_first : (w : SpecifierWord) (more : List Specifier) → BeginNamed w more ⊎ ((w ≡ word.Const) × AreNamed more) → GoesOn shape.Consts w more
named_first w more (inl (inl h)) = name_first w more h.0 h.1
named_first w more (inl (inr h)) = subst (λ w. GoesOn shape.Consts w more) (sym h.0) (refl, h.1)
named_first w more (inr h) = subst (λ w. GoesOn shape.Consts w more) (sym h.0) (refl, inr h.1)

pub goes_on : (s : Shape) (w : Specifier) (more : List Specifier) → Goes s (w ∷ more) → GoesOn s w.word more
goes_on shape.Consts w more (inl h) = keyword_first w.word more h.0 h.1
goes_on shape.Consts w more (inr h) = named_first w.word more h
goes_on shape.Keywords w more h = keyword_next w.word more h.0 h.1
goes_on shape.Enum w more h = tag_next w.word more h.0 h.1
goes_on shape.Tagged w more h = subst (λ w. GoesOn shape.Tagged w more) (sym h.0) (refl, h.1)
goes_on shape.Named w more h = subst (λ w. GoesOn shape.Named w more) (sym h.0) (refl, h.1)

only_tag : (w : SpecifierWord) → IsTag w → OpensOn shape.Enum w []
only_tag (word.Tag from to) k = (refl, refl)
only_tag w k = absurd k

opens_tag : (w : Specifier) (more : List Specifier) → IsOptionalTag (w ∷ more) → OpensOn shape.Enum w.word more
opens_tag w [] h = only_tag w.word h
opens_tag w (v ∷ more) h = absurd h

pub opens_on : (s : Shape) (w : Specifier) (more : List Specifier) → Opens s (w ∷ more) → OpensOn s w.word more
opens_on shape.Consts w more (inl h) = subst (λ w. OpensOn shape.Consts w more) (sym h.0) (refl, h.1)
opens_on shape.Consts w more (inr h) = subst (λ w. OpensOn shape.Consts w more) (sym h.0) (refl, h.1)
opens_on shape.Keywords w more h = absurd h
opens_on shape.Enum w more h = opens_tag w more h
opens_on shape.Tagged w more h = absurd (cc)
opens_on shape.Named w more h = absurd h

-- either of them
abbrev pub Continues : Shape → List Specifier → Type 0
Continues s ws = Goes s ws ⊎ Opens s ws

pub continues_on : (s : Shape) (w : Specifier) (more : List Specifier) → Continues s (w ∷ more) → (follows s w.word ≡ true) × Continues (with_word s w.word) more
continues_on s w more (inl h) = let g = goes_on s w more h in (g.0, inl g.1)
continues_on s w more (inr h) = let g = opens_on s w more h in (g.0, inr g.1)

goes_end : (s : Shape) (ws : List Specifier) → Goes s ws → wants_tag (with_words s ws) ≡ false
goes_end shape.Consts [] h = refl
goes_end shape.Keywords [] h = refl
goes_end shape.Enum [] h = absurd h
goes_end shape.Tagged [] h = refl
goes_end shape.Named [] h = refl
goes_end s (w ∷ ws) h = goes_end (with_word s w.word) ws (goes_on s w ws h).1

opens_end : (s : Shape) (ws : List Specifier) → Opens s ws → takes_braces (with_words s ws) ≡ true
opens_end shape.Consts [] h = absurd h
opens_end shape.Keywords [] h = absurd h
opens_end shape.Enum [] h = refl
opens_end shape.Tagged [] h = refl
opens_end shape.Named [] h = absurd h
opens_end s (w ∷ ws) h = opens_end (with_word s w.word) ws (opens_on s w ws h).1

-- behind words that go together no tag is wanted
pub ends_in_no_enum : (specs : OneOrMore Specifier) → GoTogether (all_of specs) → end_in_enum specs ≡ false
ends_in_no_enum specs h = goes_end shape.Consts (all_of specs) h

-- and behind those before braces braces may stand
pub opens_braces : (specs : OneOrMore Specifier) → AreBeforeBraces (all_of specs) → may_open specs ≡ true
opens_braces specs h = opens_end shape.Consts (all_of specs) h

-- Words that follow each other are of the grammar

-- `enum`, with `const`s before it
abbrev pub AreOpen : List Specifier → Type 0
AreOpen [] = ⊥
AreOpen (w ∷ []) = w.word ≡ word.Enum
AreOpen (w ∷ v ∷ more) = (w.word ≡ word.Const) × AreOpen (v ∷ more)

-- what words of each shape are
abbrev pub Shaped : Shape → List Specifier → Type 0
Shaped shape.Consts ws = AreConst ws
Shaped shape.Keywords ws = AreKeywords ws
Shaped shape.Enum ws = AreOpen ws
Shaped shape.Tagged ws = AreNamed ws × AreBeforeBraces ws
Shaped shape.Named ws = AreNamed ws

is_keyword : (w : SpecifierWord) → w ≡ word.Const → IsKeyword w
is_keyword w e = subst IsKeyword (sym e) tt

consts_are_keywords : (ws : List Specifier) → AreConst ws → AreKeywords ws
consts_are_keywords [] h = tt
consts_are_keywords (w ∷ ws) h = (is_keyword w.word h.0, consts_are_keywords ws h.1)

keywords_end : (ws : List Specifier) (w : Specifier) → AreKeywords ws → IsKeyword w.word → AreKeywords (ws ++ w ∷ [])
keywords_end [] w h k = (k, tt)
keywords_end (v ∷ ws) w h k = (h.0, keywords_end ws w h.1 k)

pub consts_end : (ws : List Specifier) (w : Specifier) → AreConst ws → w.word ≡ word.Const → AreConst (ws ++ w ∷ [])
consts_end [] w h k = (k, tt)
consts_end (v ∷ ws) w h k = (h.0, consts_end ws w h.1 k)

tagged_end : (ws : List Specifier) (w : Specifier) → AreTagged ws → w.word ≡ word.Const → AreTagged (ws ++ w ∷ [])
tagged_end [] w h k = absurd h
tagged_end (v ∷ ws) w h k = (h.0, consts_end ws w h.1 k)

named_end : (ws : List Specifier) (w : Specifier) → AreNamed ws → w.word ≡ word.Const → AreNamed (ws ++ w ∷ [])
named_end [] w h k = absurd h
named_end (v ∷ ws) w (inl (inl h)) k = inl (inl (h.0, consts_end ws w h.1 k))
named_end (v ∷ ws) w (inl (inr h)) k = inl (inr (h.0, tagged_end ws w h.1 k))
named_end (v ∷ ws) w (inr h) k = inr (h.0, named_end ws w h.1 k)

name_end : (ws : List Specifier) (w : Specifier) → AreConst ws → IsTypeName w.word → AreNamed (ws ++ w ∷ [])
name_end [] w h k = inl (inl (k, tt))
name_end (v ∷ ws) w h k = inr (h.0, name_end ws w h.1 k)

enum_end : (ws : List Specifier) (w : Specifier) → AreConst ws → w.word ≡ word.Enum → AreOpen (ws ++ w ∷ [])
enum_end [] w h k = k
enum_end (v ∷ []) w h k = (h.0, k)
enum_end (v ∷ u ∷ ws) w h k = (h.0, enum_end (u ∷ ws) w h.1 k)

tag_end : (ws : List Specifier) (w : Specifier) → AreOpen ws → IsTag w.word → AreNamed (ws ++ w ∷ [])
tag_end [] w h k = absurd h
tag_end (v ∷ []) w h k = inl (inr (h, (k, tt)))
tag_end (v ∷ u ∷ ws) w h k = inr (h.0, tag_end (u ∷ ws) w h.1 k)

tag_opens : (ws : List Specifier) (w : Specifier) → AreOpen ws → IsTag w.word → AreBeforeBraces (ws ++ w ∷ [])
tag_opens [] w h k = absurd h
tag_opens (v ∷ []) w h k = inl (h, k)
tag_opens (v ∷ u ∷ ws) w h k = inr (h.0, tag_opens (u ∷ ws) w h.1 k)

open_opens : (ws : List Specifier) → AreOpen ws → AreBeforeBraces ws
open_opens [] h = absurd h
open_opens (w ∷ []) h = inl (h, tt)
open_opens (w ∷ v ∷ ws) h = inr (h.0, open_opens (v ∷ ws) h.1)

-- a word that follows others leaves words of its shape
pub shaped_end : (s : Shape) (ws : List Specifier) (w : Specifier) → Shaped s ws → follows s w.word ≡ true → Shaped (with_word s w.word) (ws ++ w ∷ [])
shaped_end s ws w h f = by_word s w.word refl h f
  where
    by_word : (s : Shape) (v : SpecifierWord) → w.word ≡ v → Shaped s ws → follows s v ≡ true → Shaped (with_word s v) (ws ++ w ∷ [])
    by_word shape.Consts word.Const e h f = consts_end ws w h e
    by_word shape.Consts (word.TypeName from to) e h f = name_end ws w h (subst IsTypeName (sym e) tt)
    by_word shape.Consts word.Enum e h f = enum_end ws w h e
    by_word shape.Consts (word.Tag from to) e h f = absurd (cc)
    by_word shape.Consts v e h f = keywords_end ws w (consts_are_keywords ws h) (subst IsKeyword (sym e) tt)
    by_word shape.Keywords (word.TypeName from to) e h f = absurd (cc)
    by_word shape.Keywords word.Enum e h f = absurd (cc)
    by_word shape.Keywords (word.Tag from to) e h f = absurd (cc)
    by_word shape.Keywords v e h f = keywords_end ws w h (subst IsKeyword (sym e) tt)
    by_word shape.Enum (word.Tag from to) e h f =
        let k : IsTag w.word = subst IsTag (sym e) tt in (tag_end ws w h k, tag_opens ws w h k)
    by_word shape.Enum v e h f = absurd (cc)
    by_word shape.Tagged word.Const e h f = named_end ws w h.0 e
    by_word shape.Tagged v e h f = absurd (cc)
    by_word shape.Named word.Const e h f = named_end ws w h e
    by_word shape.Named v e h f = absurd (cc)

-- words that stand for what they are so far
abbrev pub AreShaped : OneOrMore Specifier → Type 0
AreShaped specs = Shaped (shape_of (all_of specs)) (all_of specs)

pub one_shaped : (w : Specifier) → follows shape.Consts w.word ≡ true → Shaped (shape_of (w ∷ [])) (w ∷ [])
one_shaped w f = shaped_end shape.Consts [] w tt f

pub more_shaped : (done : OneOrMore Specifier) (w : Specifier) → AreShaped done → may_follow done w.word ≡ true → AreShaped (with_last done w)
more_shaped done w h f =
    subst (λ s. Shaped s (all_of (with_last done w))) (sym (shape_with_last done w)) (shaped_end (shape_of (all_of done)) (all_of done) w h f)

shaped_goes : (s : Shape) (ws : List Specifier) → Shaped s ws → wants_tag s ≡ false → GoTogether ws
shaped_goes shape.Consts ws h e = inl (consts_are_keywords ws h)
shaped_goes shape.Keywords ws h e = inl h
shaped_goes shape.Enum ws h e = absurd (cc)
shaped_goes shape.Tagged ws h e = inr h.0
shaped_goes shape.Named ws h e = inr h

shaped_opens : (s : Shape) (ws : List Specifier) → Shaped s ws → takes_braces s ≡ true → AreBeforeBraces ws
shaped_opens shape.Consts ws h e = absurd (cc)
shaped_opens shape.Keywords ws h e = absurd (cc)
shaped_opens shape.Enum ws h e = open_opens ws h
shaped_opens shape.Tagged ws h e = h.1
shaped_opens shape.Named ws h e = absurd (cc)

pub go_together : (specs : OneOrMore Specifier) → AreShaped specs → end_in_enum specs ≡ false → GoTogether (all_of specs)
go_together specs h e = shaped_goes (shape_of (all_of specs)) (all_of specs) h e

pub before_braces : (specs : OneOrMore Specifier) → AreShaped specs → may_open specs ≡ true → AreBeforeBraces (all_of specs)
before_braces specs h e = shaped_opens (shape_of (all_of specs)) (all_of specs) h e
