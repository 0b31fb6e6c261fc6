-- Functions and objects of accepted texts are well typed.
use Rattle.std.proofs.Common.{◌≡◌, ℕ, zero, suc, ◌+◌, ◌≤◌, Bool, true, false, not, List, [], ◌∷◌, ◌++◌, Option, Some, None, length, map, refl, ap, sym, subst, ◌∙◌, arith, length-append, nat_eq, if◌then◌else◌, append-nil}
use Rattle.std.proofs.Math.Nat.{add-zero}
use Rattle.std.proofs.lemmas.Bool.{false≢true}
use Rattle.std.proofs.lemmas.Bool.Decides.{nat_tests}
use Rattle.std.proofs.lemmas.Option.{none-some, slice_get-map, slice_get-get_or}
use Rattle.std.proofs.lemmas.List.{length-map}
use Rattle.std.specs.Prelude.{All, slice_get, slice_index_or, is_some, unwrap_or, ◌&&◌, ◌||◌}
use Rattle.std.specs.Option.{option_map}
use Rattle.std.specs.List.{list_any, zip}
use Rattle.pk_ctypes.specs.declared.types.IntType.{IntType}
use Rattle.pk_ctypes.specs.declared.types.IntType.TheVariants.{Char, SChar, UChar, Short, UShort, Int, UInt, Long, ULong, LLong, ULLong}
use Rattle.pk_ctypes.specs.declared.words.Rule.TheVariants as rule
use Rattle.pk_ast.specs.declared.expressions.Identifier.{Identifier}
use Rattle.pk_ast.specs.declared.units.Storage.{Storage}
use Rattle.pk_ast.specs.Trees.{BlockTree, ParameterTree, FunctionTree, DeclaratorTree, ExternalTree, function, objects, type_names}
use Rattle.pk_typed.specs.Trees as tree
use Rattle.pk_typed.specs.Trees.{LocalTree, BodyTree, UnitTree}
use Rattle.pk_type_scope.specs.declared.declarations.Callee.{Callee}
use Rattle.pk_type_scope.specs.declared.declarations.Callee.TheVariants.{Ordinary, Any, Assume, Assert, Abort}
use Rattle.pk_type_scope.specs.declared.declarations.Declaration.{Declaration}
use Rattle.pk_type_scope.specs.declared.declarations.Declaration.TheVariants.{Object, Function, Enumerator, TypeName}
use Rattle.pk_type_scope.specs.declared.declarations.Typing.{Typing}
use Rattle.pk_type_scope.specs.declared.declarations.Typing.TheVariants.{Void, Integer, Unknown}
use Rattle.pk_type_scope.specs.declared.failures.Failure.{Failure}
use Rattle.pk_type_scope.specs.Declarations.{Names, is_unknown}
use Rattle.pk_type_scope.specs.Failures.{fails_if}
use Rattle.pk_type_scope.specs.Scopes.{names_in, spelled, file_scope}
use Rattle.pk_type_scope.specs.Specifiers.{word_failures, type_named}
use Rattle.pk_type_declaration.specs.declared.words.Words.{Words}
use Rattle.pk_type_declaration.specs.Enumerations.{words_at, after_words}
use Rattle.pk_type_declaration.specs.Declarations.{integer_in, type_or_int, text_of}
use Rattle.pk_ctypes.specs.Spellings.{lookup}
use Rattle.pk_type_declaration.specs.Specials.{special, specials}
use Rattle.std.specs.Str.{bytes_eq}
use Rattle.pk_type_declaration.specs.Walks.{here, entering}
use Rattle.pk_type_declaration.specs.Rules as declarations
use Rattle.pk_type.specs.Files.{EntryTree, on, after_object, after_objects, after_declaration}
use Rattle.pk_type.specs.Functions.{after_parameters, number_of, callee_of, with_new, after_head, after_body, body_at, with_body, update_at, leaving_function, after_optional_body, after_function}
use Rattle.pk_type.specs.Signatures.{SignatureTree, types_of, signature_of}
use Rattle.pk_type.specs.Units.{no_name, defined_in, objects_of, objects_in, after_external, after_externals, nothing_filed, checked, function_of, unit_of}
use Rattle.pk_type.specs.Rules as units
use Rattle.pk_type.specs.Rules.{changes, is_redeclared, is_misused, differ, all_differ, is_integer, are_integers, differs}
use Rattle.pk_welltyped.specs.WellTyped.{Takes, AreParameters, IsBodyIf, IsStart}
use Rattle.pk_type_laws.specs.Accepted.Constants.{BlockHas, ExternalHas, ExternalsHave}
use Rattle.pk_type_laws.specs.Accepted.Names.{CalleeIs, DeclarationIs}
use Rattle.pk_type_laws.proofs.Accepted.Walks.{around, none_found, statics_same, statics_later}
use Rattle.pk_type_laws.proofs.Accepted.Declarations.{has_types, names_declaring, names_opened, statics_before, Begins, nth}
use Rattle.pk_type_laws.proofs.Accepted.Functions.{Integers, TypesFrom, types_declaring, types_opened, later_parameters, parameters, with_others, integers_of, later_body, body}
use Rattle.pk_type_laws.proofs.Accepted.Files as files
use Rattle.pk_type_laws.proofs.Accepted.Files.{F, in_file, SameEntry, Entries, Kept, LaterFile, kept_same, file_same, file_later, Stands, stands_before, KnownIn, EntryIs, FileIs, names_from_file, known_declaring}
use Rattle.pk_type_laws.proofs.Accepted.TypeNames.{later_typedef, typedef_is}
use Rattle.pk_type_expression.proofs.TreeLemmas.{none_before, none_after, holds_not, types_are, known_type}

-- ---- types of functions that don't differ

-- the type that has the number
abbrev numbered : ℕ → IntType
numbered n =
    if nat_eq n 0 then Char else if nat_eq n 1 then SChar else if nat_eq n 2 then UChar else if nat_eq n 3 then Short else if nat_eq n 4 then UShort else if nat_eq n 5 then Int
    else if nat_eq n 6 then UInt else if nat_eq n 7 then Long else if nat_eq n 8 then ULong else if nat_eq n 9 then LLong else ULLong

its_number : (t : IntType) → numbered (units.number_of t) ≡ t
its_number Char = refl
its_number SChar = refl
its_number UChar = refl
its_number Short = refl
its_number UShort = refl
its_number Int = refl
its_number UInt = refl
its_number Long = refl
its_number ULong = refl
its_number LLong = refl
its_number ULLong = refl

same_number : (m n : ℕ) → not (nat_eq m n) ≡ false → m ≡ n
same_number m n h = grind (arith, nat_tests)

equal_numbers : (n : ℕ) → nat_eq n n ≡ true
equal_numbers n = grind (arith, nat_tests)

or_first : (a b : Bool) → (a || b) ≡ false → a ≡ false
or_first true b h = h
or_first false b h = refl

or_second : (a b : Bool) → (a || b) ≡ false → b ≡ false
or_second true b h = absurd (false≢true (sym h))
or_second false b h = h

same_type : (t u : Typing) → is_unknown t ≡ false → is_unknown u ≡ false → differ t u ≡ false → t ≡ u
same_type Unknown u h k d = absurd (false≢true (sym h))
same_type Void Unknown h k d = absurd (false≢true (sym k))
same_type Void Void h k d = refl
same_type Void (Integer u) h k d = absurd (false≢true (sym d))
same_type (Integer t) Unknown h k d = absurd (false≢true (sym k))
same_type (Integer t) Void h k d = absurd (false≢true (sym d))
same_type (Integer t) (Integer u) h k d = ap Integer (sym (its_number t) ∙ (ap numbered (same_number (units.number_of t) (units.number_of u) d) ∙ its_number u))

known_integer : (t : Typing) → is_integer t ≡ true → is_unknown t ≡ false
known_integer Void h = refl
known_integer (Integer t) h = refl
known_integer Unknown h = absurd (false≢true h)

same_types : (ts us : List Typing) → Integers ts → Integers us → length ts ≡ length us → list_any (λ (p : Typing × Typing). differ p.0 p.1) (zip ts us) ≡ false → ts ≡ us
same_types [] [] h k l d = refl
same_types [] (u ∷ us) h k l d = absurd (omega (l, arith))
same_types (t ∷ ts) [] h k l d = absurd (omega (l, arith))
same_types (t ∷ ts) (u ∷ us) h k l d =
    let first : t ≡ u = same_type t u (known_integer t h.0) (known_integer u k.0) (or_first (differ t u) _ d) in
    let rest : ts ≡ us = same_types ts us h.1 k.1 (omega (l, arith)) (or_second (differ t u) _ d) in
    ap (λ (x : Typing). x ∷ ts) first ∙ ap (λ (xs : List Typing). u ∷ xs) rest

integers_all : (ts : List Typing) → Integers ts → are_integers ts ≡ true
integers_all [] h = refl
integers_all (t ∷ ts) h = rw (h.0, integers_all ts h.1)

same_signature : (s t : SignatureTree) → is_unknown s.returns ≡ false → is_unknown t.returns ≡ false → Integers s.parameters → Integers t.parameters → differs s t ≡ false → s ≡ t
same_signature s t r q h k d =
    let e : (differ s.returns t.returns || all_differ s.parameters t.parameters) ≡ false = rw (integers_all s.parameters h, integers_all t.parameters k) at d in
    let f : all_differ s.parameters t.parameters ≡ false = or_second (differ s.returns t.returns) (all_differ s.parameters t.parameters) e in
    let returns : s.returns ≡ t.returns = same_type s.returns t.returns r q (or_first (differ s.returns t.returns) (all_differ s.parameters t.parameters) e) in
    let many : length s.parameters ≡ length t.parameters = same_number (length s.parameters) (length t.parameters) (or_first (not (nat_eq (length s.parameters) (length t.parameters))) _ f) in
    let parameters : s.parameters ≡ t.parameters = same_types s.parameters t.parameters h k many (or_second (not (nat_eq (length s.parameters) (length t.parameters))) _ f) in
    ap (λ (x : Typing). record { returns = x; parameters = s.parameters }) returns ∙ ap (λ (xs : List Typing). record { returns = t.returns; parameters = xs }) parameters

-- ---- entries of functions

get_before : {A : Type 0} (xs ys : List A) (n : ℕ) (x : A) → slice_get xs n ≡ Some x → slice_get (xs ++ ys) n ≡ Some x
get_before [] ys n x h = absurd (none-some x h)
get_before (y ∷ xs) ys zero x h = h
get_before (y ∷ xs) ys (suc n) x h = get_before xs ys n x h

new_keeps : (es : Entries) (n : ℕ) (name : List ℕ) (s : SignatureTree) (i : ℕ) (e : EntryTree) → slice_get es i ≡ Some e → slice_get (with_new es n name s) i ≡ Some e
new_keeps es n name s i e h = chosen (nat_eq n (length es))
  where
    chosen : (b : Bool) → slice_get (if b then es ++ record { name = name; signature = s; is_defined = false; body = None } ∷ [] else es) i ≡ Some e
    chosen true = get_before es (record { name = name; signature = s; is_defined = false; body = None } ∷ []) i e h
    chosen false = h

-- what holds of all entries and of a new one
pub new_entries : (Q : EntryTree → Type 0) (es : Entries) (n : ℕ) (name : List ℕ) (s : SignatureTree) → ((i : ℕ) (e : EntryTree) → slice_get es i ≡ Some e → Q e) → Q (record { name = name; signature = s; is_defined = false; body = None })
    → (i : ℕ) (e : EntryTree) → slice_get (with_new es n name s) i ≡ Some e → Q e
new_entries Q es n name s h k = chosen (nat_eq n (length es))
  where
    x : EntryTree
    x = record { name = name; signature = s; is_defined = false; body = None }

    last : (ys : Entries) → ((i : ℕ) (e : EntryTree) → slice_get ys i ≡ Some e → Q e) → (i : ℕ) (e : EntryTree) → slice_get (ys ++ record { name = name; signature = s; is_defined = false; body = None } ∷ []) i ≡ Some e → Q e
    last [] g zero e is = subst Q (ap (λ (o : Option EntryTree). unwrap_or o e) is) k
    last [] g (suc i) e is = absurd (none-some e is)
    last (y ∷ ys) g zero e is = g 0 e is
    last (y ∷ ys) g (suc i) e is = last ys (λ j d m. g (suc j) d m) i e is

    chosen : (b : Bool) (i : ℕ) (e : EntryTree) → slice_get (if b then es ++ record { name = name; signature = s; is_defined = false; body = None } ∷ [] else es) i ≡ Some e → Q e
    chosen true i e is = last es h i e is
    chosen false i e is = h i e is

new_there : (es : Entries) (name : List ℕ) (s : SignatureTree) → slice_get (with_new es (length es) name s) (length es) ≡ Some (record { name = name; signature = s; is_defined = false; body = None })
new_there es name s = rw (equal_numbers (length es)) (nth es (record { name = name; signature = s; is_defined = false; body = None }) [])

pub updated : (Q : EntryTree → Type 0) (f : EntryTree → EntryTree) (n : ℕ) (es : Entries) → ((i : ℕ) (e : EntryTree) → slice_get es i ≡ Some e → Q e) → ((e : EntryTree) → slice_get es n ≡ Some e → Q (f e))
    → (i : ℕ) (e : EntryTree) → slice_get (update_at n f es) i ≡ Some e → Q e
updated Q f n [] h k i e is = absurd (none-some e is)
updated Q f zero (x ∷ es) h k zero e is = subst Q (ap (λ (o : Option EntryTree). unwrap_or o e) is) (k x refl)
updated Q f zero (x ∷ es) h k (suc i) e is = h (suc i) e is
updated Q f (suc n) (x ∷ es) h k zero e is = h 0 e is
updated Q f (suc n) (x ∷ es) h k (suc i) e is = updated Q f n es (λ j d m. h (suc j) d m) (λ d m. k d m) i e is

update_keeps : (b : Option BodyTree) (n : ℕ) (es : Entries) → Kept es (update_at n (with_body b) es)
update_keeps b n [] i e is = absurd (none-some e is)
update_keeps b zero (x ∷ es) zero e is = ap (λ (o : Option EntryTree). (unwrap_or o e).signature) is
update_keeps b zero (x ∷ es) (suc i) e is = kept_same es i e is
update_keeps b (suc n) (x ∷ es) zero e is = ap (λ (o : Option EntryTree). (unwrap_or o e).signature) is
update_keeps b (suc n) (x ∷ es) (suc i) e is = update_keeps b n es i e is

-- ---- the head of a function

abbrev head_rows : FunctionTree → F → List Failure
head_rows f file =
    let w = file.walked in
    let s = signature_of (here w) f in
    word_failures (here w) f.specifiers ++ fails_if (is_redeclared file.functions s (is_some f.body) (names_in w.scoping f.name)) rule.Redeclared f.name.at ++ fails_if (is_misused s (special (spelled w.scoping.text f.name))) rule.Special f.name.at

later_head : (defined : List ℕ → Bool) (f : FunctionTree) (file : F) → LaterFile file (after_head units.noting defined f file)
later_head defined f file = record {
  found = λ h. (none_found file.walked.found (head_rows f file) h).0;
  more = [];
  objects = sym (append-nil file.objects);
  entries = λ i e h. let n = number_of file.functions (names_in file.walked.scoping f.name) in
      subst (SameEntry e) (sym (new_keeps file.functions n (text_of file.walked.scoping f.name) (signature_of (here file.walked) f) i e h)) refl;
  statics = statics_same file.walked.statics;
}

record EntryAt (es : Entries) (n : ℕ) (s : SignatureTree) : Type 0 where
  entry : EntryTree
  there : slice_get es n ≡ Some entry
  same : entry.signature ≡ s

entry_there : (u : UnitTree) (es : Entries) (s : SignatureTree) (has_body : Bool) (name : List ℕ) (before : Option Declaration) → KnownIn es before → is_redeclared es s has_body before ≡ false
    → ((i : ℕ) (e : EntryTree) → slice_get es i ≡ Some e → EntryIs u e) → Integers s.parameters → is_unknown s.returns ≡ false → EntryAt (with_new es (number_of es before) name s) (number_of es before) s
entry_there u es s has_body name None k r h i q = record { entry = record { name = name; signature = s; is_defined = false; body = None }; there = new_there es name s; same = refl }
entry_there u es s has_body name (Some (Object o)) k r h i q = absurd (false≢true (sym r))
entry_there u es s has_body name (Some (Enumerator n)) k r h i q = absurd (false≢true (sym r))
entry_there u es s has_body name (Some (TypeName t)) k r h i q = absurd (false≢true (sym r))
entry_there u es s has_body name (Some (Function f)) k r h i q =
    let e = k.0 in
    let x = h f.number e k.1 in
    let c : changes s has_body (Some e) ≡ false = rw k.1 at r in
    let d : differs s e.signature ≡ false = or_first (differs s e.signature) (has_body && e.is_defined) c in
    record { entry = e; there = new_keeps es f.number name s f.number e k.1; same = sym (same_signature s e.signature q x.returns i x.integers d) }

takes : (s : SignatureTree) (n : Option tree.FunctionTree) (x : EntryTree) → n ≡ Some (function_of x) → x.signature ≡ s → Takes (length s.parameters) (integer_in s.returns) n
takes s n x is same = subst (Takes (length s.parameters) (integer_in s.returns)) (sym is) (ap (λ (y : SignatureTree). integer_in y.returns) same, length-map x.signature.parameters type_or_int ∙ ap (λ (y : SignatureTree). length y.parameters) same)

ordinary_is : (u : UnitTree) (n k : ℕ) (r : Typing) → is_unknown r ≡ false → Takes k (integer_in r) (slice_get u.functions n) → CalleeIs (in_file u) n (Ordinary r k)
ordinary_is u n k Void q h = h
ordinary_is u n k (Integer t) q h = h
ordinary_is u n k Unknown q h = absurd (false≢true (sym q))

-- the special names
abbrev IsSpecial : Option Callee → Type 0
IsSpecial None = Unit {0}
IsSpecial (Some (Ordinary r n)) = ⊥
IsSpecial (Some (Any t)) = Unit {0}
IsSpecial (Some Assume) = Unit {0}
IsSpecial (Some Assert) = Unit {0}
IsSpecial (Some Abort) = Unit {0}

abbrev AreSpecial : List (List ℕ × Callee) → Type 0
AreSpecial [] = Unit {0}
AreSpecial (row ∷ rows) = IsSpecial (Some row.1) × AreSpecial rows

row_special : (b : Bool) (c : Callee) (o : Option Callee) → IsSpecial (Some c) → IsSpecial o → IsSpecial (if b then Some c else o)
row_special true c o h k = h
row_special false c o h k = k

found_special : (rows : List (List ℕ × Callee)) (q : List ℕ) → AreSpecial rows → IsSpecial (lookup rows q)
found_special [] q h = tt
found_special (row ∷ rows) q h = row_special (bytes_eq row.0 q) row.1 (lookup rows q) h.0 (found_special rows q h.1)

callee_is : (u : UnitTree) (n : ℕ) (s : SignatureTree) (d : Bool) (c : Option Callee) → IsSpecial c → is_unknown s.returns ≡ false → Takes (length s.parameters) (integer_in s.returns) (slice_get u.functions n)
    → CalleeIs (in_file u) n (callee_of s d c)
callee_is u n s d None k q h = ordinary_is u n (length s.parameters) s.returns q h
callee_is u n s true (Some c) k q h = ordinary_is u n (length s.parameters) s.returns q h
callee_is u n s false (Some (Ordinary r m)) k q h = absurd k
callee_is u n s false (Some (Any t)) k q h = tt
callee_is u n s false (Some Assume) k q h = tt
callee_is u n s false (Some Assert) k q h = tt
callee_is u n s false (Some Abort) k q h = tt

are_special : (q : List ℕ) → IsSpecial (special q)
unfolding special
are_special q = found_special specials q (tt, (tt, (tt, (tt, (tt, (tt, (tt, (tt, (tt, (tt, (tt, (tt, (tt, tt)))))))))))))

record HeadIs (u : UnitTree) (h : F) (n : ℕ) (s : SignatureTree) : Type 0 where
  file : FileIs u h
  entry : EntryAt h.functions n s
  known : is_unknown s.returns ≡ false

head : (u : UnitTree) (defined : List ℕ → Bool) (f : FunctionTree) (file : F) → FileIs u file → Stands u (after_head units.noting defined f file) → (after_head units.noting defined f file).walked.found ≡ None → Integers (types_of (here file.walked) f.parameters)
    → HeadIs u (after_head units.noting defined f file) (number_of file.functions (names_in file.walked.scoping f.name)) (signature_of (here file.walked) f)
head u defined f file h s k i =
    let w = file.walked in
    let b = names_in w.scoping f.name in
    let n = number_of file.functions b in
    let r = (none_found w.found (head_rows f file) k).1 in
    let two : word_failures (here file.walked) f.specifiers ++ fails_if (is_redeclared file.functions (signature_of (here file.walked) f) (is_some f.body) b) rule.Redeclared f.name.at ≡ [] = none_before (word_failures (here file.walked) f.specifiers ++ fails_if (is_redeclared file.functions (signature_of (here file.walked) f) (is_some f.body) b) rule.Redeclared f.name.at) (fails_if (is_misused (signature_of (here file.walked) f) (special (spelled w.scoping.text f.name))) rule.Special f.name.at) r in
    let unknown : is_unknown (type_named (here file.walked) f.specifiers) ≡ false = known_type (here w) (types_are (here w) (λ y. has_types (in_file u) (here w y) (h.names y))) f.specifiers (none_before (word_failures (here file.walked) f.specifiers) (fails_if (is_redeclared file.functions (signature_of (here file.walked) f) (is_some f.body) b) rule.Redeclared f.name.at) two) in
    let not_again : is_redeclared file.functions (signature_of (here file.walked) f) (is_some f.body) b ≡ false = holds_not _ _ _ (none_after (word_failures (here file.walked) f.specifiers) (fails_if (is_redeclared file.functions (signature_of (here file.walked) f) (is_some f.body) b) rule.Redeclared f.name.at) two) in
    let e = entry_there u file.functions (signature_of (here file.walked) f) (is_some f.body) (text_of w.scoping f.name) b (h.known f.name) not_again h.entries i unknown in
    let x = s.functions n e.entry e.there in
    let q = spelled w.scoping.text f.name in
    let g : Declaration = Function (record { number = n; callee = callee_of (signature_of (here file.walked) f) (defined q) (special q) }) in
    let known : (y : Identifier) → KnownIn (after_head units.noting defined f file).functions (names_in w.scoping y) = λ y. known_new file.functions n (text_of w.scoping f.name) (signature_of (here file.walked) f) (names_in w.scoping y) (h.known y) in
    record {
      file = record {
        names = names_declaring (in_file u) w.scoping f.name g h.names (callee_is u n (signature_of (here file.walked) f) (defined q) (special q) (are_special q) unknown (takes (signature_of (here file.walked) f) (slice_get u.functions n) x.0 x.1 (x.2 ∙ e.same)));
        known = known_declaring (after_head units.noting defined f file).functions w.scoping f.name g known (e.entry, e.there);
        locals = h.locals;
        objects = h.objects;
        entries = new_entries (EntryIs u) file.functions n (text_of w.scoping f.name) (signature_of (here file.walked) f) h.entries (record { body = tt; integers = i; returns = unknown });
      };
      entry = e;
      known = unknown;
    }
  where
    known_new : (es : Entries) (n : ℕ) (name : List ℕ) (s : SignatureTree) (d : Option Declaration) → KnownIn es d → KnownIn (with_new es n name s) d
    known_new es n name s None k = tt
    known_new es n name s (Some (Object o)) k = tt
    known_new es n name s (Some (Enumerator v)) k = tt
    known_new es n name s (Some (TypeName t)) k = tt
    known_new es n name s (Some (Function f)) k = (k.0, new_keeps es n name s f.number k.0 k.1)

-- ---- functions

later_optional_body : (r : Typing) (n : ℕ) (b : Option BlockTree) (f : F) → LaterFile f (after_optional_body units.noting r n b f)
later_optional_body r n None f = file_same f
later_optional_body r n (Some b) f = record {
  found = λ h. (later_body r b f.walked).found h;
  more = [];
  objects = sym (append-nil f.objects);
  entries = update_keeps (body_at units.noting r (length f.objects) b f.walked) n f.functions;
  statics = (later_body r b f.walked).statics;
}

pub later_function : (defined : List ℕ → Bool) (f : FunctionTree) (file : F) → LaterFile file (after_function units.noting defined f file)
unfolding after_function
later_function defined f file =
    let n = number_of file.functions (names_in file.walked.scoping f.name) in
    let h = after_head units.noting defined f file in
    let i = on entering h in
    let g = on (after_parameters units.noting f.parameters) i in
    let r = type_named (here file.walked) f.specifiers in
    let x = after_optional_body units.noting r n f.body g in
    let a = later_head defined f file in
    let b = later_optional_body r n f.body g in
    let p = later_parameters f.parameters i.walked in
    let hx : LaterFile h (leaving_function h x) = record { found = λ k. p.found (b.found k); more = b.more; objects = b.objects; entries = b.entries; statics = statics_later h.walked.statics g.walked.statics x.walked.statics p.statics b.statics } in
    file_later file h _ a hx

known_kept : (es fs : Entries) (d : Option Declaration) → Kept es fs → KnownIn es d → KnownIn fs d
known_kept es fs None k h = tt
known_kept es fs (Some (Object o)) k h = tt
known_kept es fs (Some (Enumerator n)) k h = tt
known_kept es fs (Some (TypeName t)) k h = tt
known_kept es fs (Some (Function f)) k h = there (slice_get fs f.number) refl (k f.number h.0 h.1)
  where
    there : (o : Option EntryTree) → slice_get fs f.number ≡ o → SameEntry h.0 o → KnownIn fs (Some (Function f))
    there None is s = absurd s
    there (Some e) is s = (e, is)

-- the entries of a function whose parameters and body are looked at
with_block : (u : UnitTree) (r : Typing) (n : ℕ) (c : Names) (ps : List ParameterTree) (b : Option BlockTree) (h : F) (e : EntryTree) → FileIs u h → TypesFrom c (here (on entering h).walked) → h.walked.calls ≡ []
    → slice_get h.functions n ≡ Some e → e.signature.parameters ≡ types_of c ps → e.signature.returns ≡ r → is_unknown r ≡ false → BlockHas b
    → (let g = on (after_parameters units.noting ps) (on entering h) in let x = after_optional_body units.noting r n b g in Stands u x → x.walked.found ≡ None → (i : ℕ) (d : EntryTree) → slice_get x.functions i ≡ Some d → EntryIs u d)
with_block u r n c ps None h e is from none there same ret known has s k = is.entries
with_block u r n c ps (Some b) h e is from none there same ret known has s k =
    let w = (on entering h).walked in
    let v = after_parameters units.noting ps w in
    let ls = (after_body units.noting r b v).locals in
    let l = later_body r b v in
    let z = after_body units.noting r b v in
    let begins : Begins u ls v = record { rest = l.more; is = l.locals; statics = statics_before u v.statics z.statics l.statics s.statics } in
    let p = parameters u ls c ps w (names_opened (around u ls w) h.walked.scoping (names_from_file u ls (length w.locals) (here h.walked) is.names)) from begins (l.found k) in
    let locals : v.locals ≡ p.more = p.locals ∙ ap (λ (xs : List LocalTree). xs ++ p.more) is.locals in
    let types : map type_or_int (types_of c ps) ≡ map type_or_int e.signature.parameters = ap (map type_or_int) (sym same) in
    let are : AreParameters (map type_or_int e.signature.parameters) ls =
    subst (λ (ts : List IntType). AreParameters ts ls) types (subst (AreParameters (map type_or_int (types_of c ps))) (ap (λ (xs : List LocalTree). xs ++ l.more) (sym locals) ∙ sym l.locals) (with_others (map type_or_int (types_of c ps)) p.more l.more p.are)) in
    let many : length v.locals ≡ length (map type_or_int e.signature.parameters) = ap length locals ∙ (p.many ∙ ap length types) in
    let visible : length h.objects ≤ length u.objects = omega (ap length s.objects ∙ length-append h.objects s.rest, arith) in
    let made = body_at units.noting r (length h.objects) b v in
    let whole = body u (function_of (with_body made e)) r (length h.objects) b v s.statics visible (p.calls ∙ none) are many (ap integer_in ret) known p.names has k in
    updated (EntryIs u) (with_body (body_at units.noting r (length h.objects) b v)) n h.functions is.entries
    (λ d is_d. let same_entry : e ≡ d = ap (λ (o : Option EntryTree). unwrap_or o d) (sym there ∙ is_d) in
    let x = is.entries n d is_d in
    record { body = subst (λ (y : EntryTree). IsBodyIf u (function_of (with_body made y)) made) same_entry whole; integers = x.integers; returns = x.returns })

same_objects : (r : Typing) (n : ℕ) (b : Option BlockTree) (f : F) → (after_optional_body units.noting r n b f).objects ≡ f.objects
same_objects r n None f = refl
same_objects r n (Some b) f = refl

pub function_is : (u : UnitTree) (defined : List ℕ → Bool) (f : FunctionTree) (file : F) → FileIs u file → file.walked.calls ≡ [] → BlockHas f.body → Stands u (after_function units.noting defined f file)
    → (after_function units.noting defined f file).walked.found ≡ None
    → FileIs u (after_function units.noting defined f file)
unfolding after_function
function_is u defined f file is c has s k =
    let n = number_of file.functions (names_in file.walked.scoping f.name) in
    let h = after_head units.noting defined f file in
    let i = on entering h in
    let g = on (after_parameters units.noting f.parameters) i in
    let r = type_named (here file.walked) f.specifiers in
    let x = after_optional_body units.noting r n f.body g in
    let b = later_optional_body r n f.body g in
    let kg = b.found k in
    let kh = (later_parameters f.parameters i.walked).found kg in
    let sx : Stands u x = record { rest = s.rest; objects = s.objects; functions = s.functions; statics = s.statics } in
    let sh : Stands u h = stands_before u h x (record { found = λ q. (later_parameters f.parameters i.walked).found (b.found q); more = b.more; objects = b.objects; entries = b.entries; statics = statics_later h.walked.statics g.walked.statics x.walked.statics (later_parameters f.parameters i.walked).statics b.statics }) sx in
    let d = here file.walked in
    let from : TypesFrom d (here i.walked) = types_opened d h.walked.scoping (types_declaring d file.walked.scoping f.name _ refl (λ y t q. q)) in
    let are = types_are d (λ y. has_types (in_file u) (d y) (is.names y)) in
    let hi = head u defined f file is sh kh (integers_of d f.parameters i.walked are from kg) in
    record {
      names = hi.file.names;
      known = λ y. known_kept h.functions x.functions (here h.walked y) b.entries (hi.file.known y);
      locals = refl;
      objects = subst (All (λ (o : tree.FileObjectTree). IsStart o.int_type o.start)) (sym (same_objects r n f.body g)) is.objects;
      entries = with_block u r n d f.parameters f.body h hi.entry.entry hi.file from c hi.entry.there (ap (λ (q : SignatureTree). q.parameters) hi.entry.same) (ap (λ (q : SignatureTree). q.returns) hi.entry.same) hi.known has sx k;
    }

-- ---- texts

pub external_later : (defined : List ℕ → Bool) (x : ExternalTree) (f : F) → LaterFile f (after_external units.noting defined x f)
external_later defined (function g) f = later_function defined g f
external_later defined (objects storage d) f = files.later_declaration storage d f
external_later defined (type_names d) f = later_typedef d f

pub externals_later : (defined : List ℕ → Bool) (xs : List ExternalTree) (f : F) → LaterFile f (after_externals units.noting defined xs f)
unfolding after_externals
externals_later defined [] f = file_same f
externals_later defined (x ∷ xs) f = file_later f (after_external units.noting defined x f) _ (external_later defined x f) (externals_later defined xs (after_external units.noting defined x f))

pub external_calls : (defined : List ℕ → Bool) (x : ExternalTree) (f : F) → f.walked.calls ≡ [] → (after_external units.noting defined x f).walked.calls ≡ []
unfolding after_function after_declaration
external_calls defined (function g) f c = refl
external_calls defined (objects storage d) f c = refl
external_calls defined (type_names d) f c = refl

external_is : (u : UnitTree) (defined : List ℕ → Bool) (x : ExternalTree) (f : F) → FileIs u f → f.walked.calls ≡ [] → ExternalHas x → Stands u (after_external units.noting defined x f) → (after_external units.noting defined x f).walked.found ≡ None
    → FileIs u (after_external units.noting defined x f)
external_is u defined (function g) f is c has s k = function_is u defined g f is c has s k
external_is u defined (objects storage d) f is c has s k = files.declaration u storage d f is s k
external_is u defined (type_names d) f is c has s k = typedef_is u d f is k

externals_are : (u : UnitTree) (defined : List ℕ → Bool) (xs : List ExternalTree) (f : F) → FileIs u f → f.walked.calls ≡ [] → ExternalsHave xs → Stands u (after_externals units.noting defined xs f) → (after_externals units.noting defined xs f).walked.found ≡ None
    → FileIs u (after_externals units.noting defined xs f)
unfolding after_externals
externals_are u defined [] f is c has s k = is
externals_are u defined (x ∷ xs) f is c has s k =
    let g = after_external units.noting defined x f in
    let l = externals_later defined xs g in
    externals_are u defined xs g (external_is u defined x f is c has.0 (stands_before u g _ l s) (l.found k)) (external_calls defined x f c) has.1 s k

nothing_names : (text : List ℕ) (x : Identifier) → names_in (file_scope text) x ≡ None
unfolding names_in
nothing_names text x = refl

nothing_is : (u : UnitTree) (text : List ℕ) (n : ℕ) → FileIs u (nothing_filed None text n)
nothing_is u text n = record {
  names = λ x. subst (DeclarationIs (in_file u)) (sym (nothing_names text x)) tt;
  known = λ x. subst (KnownIn []) (sym (nothing_names text x)) tt;
  locals = refl;
  objects = λ k d l. absurd (omega (l, arith));
  entries = λ n e h. absurd (none-some e h);
}

stands_whole : (f : F) → length f.objects ≡ f.walked.statics.first → Stands (unit_of f) f
stands_whole f many = record { rest = f.walked.statics.made; objects = refl; statics = record { before = f.objects; first = many; rest = []; objects = ap (λ (xs : List tree.FileObjectTree). f.objects ++ xs) (sym (append-nil f.walked.statics.made)) }; functions = λ n e h. (e, slice_get-map function_of f.functions n ∙ ap (option_map function_of) h, refl) }

functions_are : (f : F) → FileIs (unit_of f) f → All (λ (g : tree.FunctionTree). IsBodyIf (unit_of f) g g.body) (map function_of f.functions)
functions_are f is k d l =
    let there = slice_get-get_or (map function_of f.functions) k d l in
    found (slice_get f.functions k) refl (sym (slice_get-map function_of f.functions k) ∙ there)
  where
    g : tree.FunctionTree
    g = slice_index_or (map function_of f.functions) k d

    found : (o : Option EntryTree) → slice_get f.functions k ≡ o → option_map function_of o ≡ Some (slice_index_or (map function_of f.functions) k d)
        → IsBodyIf (unit_of f) (slice_index_or (map function_of f.functions) k d) (slice_index_or (map function_of f.functions) k d).body
    found None at e = absurd (none-some _ e)
    found (Some x) at e =
        let same : function_of x ≡ slice_index_or (map function_of f.functions) k d = ap (λ (o : Option tree.FunctionTree). unwrap_or o (function_of x)) e in
        subst (λ (y : tree.FunctionTree). IsBodyIf (unit_of f) y y.body) same (is.entries k x at).body

-- ---- the objects of the file

objects_counted : (storage : Option Storage) (words : Words) (ds : List DeclaratorTree) (f : F) → length (after_objects units.noting storage words ds f).objects ≡ length f.objects + length ds
unfolding after_objects after_object
objects_counted storage words [] f = sym (add-zero (length f.objects))
objects_counted storage words (d ∷ ds) f =
    let h = objects_counted storage words ds (after_object units.noting storage words d f) in
    let one : length (after_object units.noting storage words d f).objects ≡ length f.objects + 1 = length-append f.objects _ in
    omega (h, one, arith)

block_objects : (r : Typing) (n : ℕ) (b : Option BlockTree) (f : F) → length (after_optional_body units.noting r n b f).objects ≡ length f.objects + 0
block_objects r n None f = sym (add-zero (length f.objects))
block_objects r n (Some b) f = sym (add-zero (length f.objects))

external_counted : (defined : List ℕ → Bool) (x : ExternalTree) (f : F) → length (after_external units.noting defined x f).objects ≡ length f.objects + objects_of x
unfolding after_function after_declaration
external_counted defined (function g) f =
    let i = on entering (after_head units.noting defined g f) in
    block_objects (type_named (here f.walked) g.specifiers) (number_of f.functions (names_in f.walked.scoping g.name)) g.body (on (after_parameters units.noting g.parameters) i)
external_counted defined (objects storage d) f =
    objects_counted storage (words_at (here f.walked) d.specifiers d.enumeration) d.declarators (on (after_words declarations.noting d.specifiers d.enumeration) f)
external_counted defined (type_names d) f = sym (add-zero (length f.objects))

-- a text has as many as were counted ahead
externals_counted : (defined : List ℕ → Bool) (xs : List ExternalTree) (f : F) → length (after_externals units.noting defined xs f).objects ≡ length f.objects + objects_in xs
unfolding after_externals objects_in
externals_counted defined [] f = sym (add-zero (length f.objects))
externals_counted defined (x ∷ xs) f =
    let h = externals_counted defined xs (after_external units.noting defined x f) in
    let one = external_counted defined x f in
    omega (h, one, arith)

pub record WellTyped (f : F) : Type 0 where
  pub objects : All (λ (x : tree.FileObjectTree). IsStart x.int_type x.start) f.objects
  pub functions : All (λ (g : tree.FunctionTree). IsBodyIf (unit_of f) g g.body) (map function_of f.functions)

pub texts_are_well_typed : (text : List ℕ) (xs : List ExternalTree) → ExternalsHave xs → (checked units.noting None text xs).walked.found ≡ None → WellTyped (checked units.noting None text xs)
texts_are_well_typed text xs has k =
    let f = checked units.noting None text xs in
    let defined = defined_in text xs no_name in
    let start = nothing_filed None text (objects_in xs) in
    let counted : length f.objects ≡ 0 + objects_in xs = externals_counted defined xs start in
    let many : length f.objects ≡ f.walked.statics.first = omega (counted, (externals_later defined xs start).statics.first, arith) in
    let is = externals_are (unit_of f) defined xs start (nothing_is (unit_of f) text (objects_in xs)) refl has (stands_whole f many) k in
    record { objects = is.objects; functions = functions_are f is }
