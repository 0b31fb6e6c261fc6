-- The text of a state where it is told, and where a part of it is written over.
use Rattle.std.specs.Prelude.{◌≡◌, ℕ, suc, ◌+◌, ◌-◌, ◌*◌, ◌<◌, ◌≤◌, ℤ, List, [], ◌∷◌, ◌++◌, length, take, drop, sum, slice_index, slice_set, Option, Some, None, IfSome}
use Rattle.std.proofs.Common.{arith, refl, sym, ap, subst, ◌∙◌, append_assoc, take-append-drop, take_at, take_all, drop-cons, ext_get_or, get_or-set_other, get_or-set_same, take-suc}
use Rattle.std.proofs.lemmas.List.{length-append, append-nil}
use Rattle.pk_ctypes.specs.declared.types.IntType.TheVariants.{Int}
use Rattle.pk_graph.specs.Graphs.{GraphOf, kinds_of}
use Rattle.pk_value.specs.Known.{Known, any_of}
use Rattle.pk_octmat.specs.Octagon.{Octagon}
use Rattle.pk_octmat.specs.Laws.{OctagonsAreEntries}
use Rattle.pk_state.specs.Layouts.{Layout}
use Rattle.pk_octagons.specs.Values.{known_at}
use Rattle.pk_state.specs.Facts.{Facts, AreFactsIf}
use Rattle.pk_state.specs.Changes.{known_in, entry_in, with_known}
use Rattle.pk_transfer.specs.Graphs.{layout_of}
use Rattle.pk_cert.specs.Rows.{symbols_text, line_text}
use Rattle.pk_cert.specs.Pieces.{AreFirst}
use Rattle.pk_cert_states.specs.Lines.{own_octagon, own_pack, HasOne, line_slots, four_of, symbols_in, line_in}
use Rattle.pk_cert_states.specs.Parts.{slot_at, IsOrder}
use Rattle.pk_cert_states.proofs.Telling.{as_many}
use Rattle.pk_cert_states.proofs.Ones.{one_of}
use Rattle.pk_cert_lines.specs.declared.told.Told.{Told}
use Rattle.pk_cert_lines.specs.Symbols.{spaced, four_in, values_in, cells_in}
use Rattle.pk_cert_lines.specs.Told.{texts_at, parts_in, AreParts, IsToldIn, IsTextOf}
use Rattle.pk_cert_lines.proofs.Spacing.{but_last, spaced_last, ended_last}
use Rattle.pk_cert_lines.proofs.Parting.{parts_push, parts_put, parts_whole, parts_count, parts_many, parts_joined, parts_known, parts_bounded, texts_more, texts_length, with_value}

pub parts_as : (parts : List (List ℕ)) (a b s r : List ℕ) → a ≡ b → s ≡ r → AreParts parts b r → AreParts parts a s
parts_as parts a b s r e d h = record { joined = e ∙ h.joined; counted = d ∙ h.counted }

-- ---- value by value

pub values_none : (parts ts : List (List ℕ)) (bytes sizes : List ℕ) → AreParts parts bytes sizes → AreParts (parts ++ take 0 ts) bytes sizes
values_none parts ts bytes sizes h = subst (λ (ps : List (List ℕ)). AreParts ps bytes sizes) (sym (append-nil parts)) h

pub values_on : (slots : List ℕ) (o : Option Facts) (p j : ℕ) (parts : List (List ℕ)) (bytes sizes : List ℕ) → (o ≡ None → ⊥) → p < length slots → j ≡ slot_at slots p
    → AreParts (parts ++ take p (texts_at slots (values_in o))) bytes sizes
    → AreParts (parts ++ take (p + 1) (texts_at slots (values_in o))) (bytes ++ spaced (four_in (known_in o j))) (sizes ++ length (spaced (four_in (known_in o j))) ∷ [])
values_on slots None p j parts bytes sizes some h at are = absurd (some refl)
values_on slots (Some f) p j parts bytes sizes some h at are =
    let more : (parts ++ take p (texts_at slots f.values)) ++ spaced (four_of (known_at f.values j)) ∷ [] ≡ parts ++ take (p + 1) (texts_at slots f.values) =
    ap (λ (i : ℕ). (parts ++ take p (texts_at slots f.values)) ++ spaced (four_of (known_at f.values i)) ∷ []) at
    ∙ append_assoc parts (take p (texts_at slots f.values)) (spaced (four_of (known_at f.values (slot_at slots p))) ∷ [])
    ∙ ap (λ (r : List (List ℕ)). parts ++ r) (sym (texts_more p slots f.values h)) in
    subst (λ (ps : List (List ℕ)). AreParts ps (bytes ++ spaced (four_of (known_at f.values j))) (sizes ++ length (spaced (four_of (known_at f.values j))) ∷ [])) more
    (parts_push (parts ++ take p (texts_at slots f.values)) bytes sizes (spaced (four_of (known_at f.values j))) are)

pub values_all : (slots : List ℕ) (o : Option Facts) (n : ℕ) (parts : List (List ℕ)) (bytes sizes : List ℕ) → n ≡ length slots
    → AreParts (parts ++ take n (texts_at slots (values_in o))) bytes sizes → AreParts (parts ++ texts_at slots (values_in o)) bytes sizes
values_all slots o n parts bytes sizes e are =
    subst (λ (ts : List (List ℕ)). AreParts (parts ++ ts) bytes sizes) (take_all n (texts_at slots (values_in o)) (omega (arith, texts_length slots (values_in o), e))) are

-- the octagon's bounds behind them
pub bounds_on : (o : Option Facts) (f : Facts) (parts : List (List ℕ)) (bytes sizes : List ℕ) → o ≡ Some f → AreParts parts bytes sizes
    → AreParts (parts ++ spaced (own_octagon f).cells ∷ []) (bytes ++ spaced (cells_in o)) (sizes ++ length (spaced (cells_in o)) ∷ [])
bounds_on o f parts bytes sizes e are =
    subst (λ (cs : List (Option ℤ)). AreParts (parts ++ spaced (own_octagon f).cells ∷ []) (bytes ++ spaced cs) (sizes ++ length (spaced cs) ∷ [])) (sym (ap cells_in e)) (parts_push parts bytes sizes (spaced (own_octagon f).cells) are)

pub text_whole : (slots : List ℕ) (o : Option Facts) (f : Facts) (bytes sizes : List ℕ) → o ≡ Some f
    → AreParts (([] ++ texts_at slots (values_in o)) ++ spaced (own_octagon f).cells ∷ []) bytes sizes → AreParts (parts_in slots f) bytes sizes
unfolding parts_in
text_whole slots o f bytes sizes e are = subst (λ (vs : List Known). AreParts (texts_at slots vs ++ spaced (own_octagon f).cells ∷ []) bytes sizes) (ap values_in e) are

-- as many slots as types
pub many_of : (g : GraphOf) (oct : ℕ) (l : Layout) (slots : List ℕ) → l ≡ layout_of g oct → slots ≡ line_slots (kinds_of g) → length l.types ≡ length slots
many_of g oct l slots e is = ap (λ (y : Layout). length y.types) e ∙ as_many g oct ∙ ap (λ (js : List ℕ). length js) (sym is)

-- ---- a part that is written over

abbrev pub put_text : List ℕ → List ℕ → ℕ → List ℕ → List ℕ
put_text bytes sizes p part = take (sum (take p sizes)) bytes ++ (part ++ drop (sum (take p sizes) + slice_index sizes p) bytes)

some_same : {A : Type 0} (o : Option A) (a b : A) → o ≡ Some a → o ≡ Some b → a ≡ b
some_same o a b e d = cc

-- how the parts lie
pub parts_lie : (slots : List ℕ) (l : Layout) (t : Told) → IsTextOf slots l t → (length t.sizes.items ≡ length slots + 1) × (length t.text.items ≡ sum t.sizes.items)
parts_lie slots l t h = by t.state.facts refl
  where
    by : (o : Option Facts) → t.state.facts ≡ o → (length t.sizes.items ≡ length slots + 1) × (length t.text.items ≡ sum t.sizes.items)
    by None e = absurd (h.some e)
    by (Some f) e =
        let are = h.told.parts f e in
        (parts_count (parts_in slots f) t.text.items t.sizes.items are ∙ parts_many slots f, parts_whole (parts_in slots f) t.text.items t.sizes.items are)

pub value_put : (slots : List ℕ) (l : Layout) (t u : Told) (x p : ℕ) (v : Known) (part : List ℕ) → IsOrder slots → IsTextOf slots l t → AreFactsIf t.state.layout t.state.facts → length l.types ≡ length slots → p < length slots
    → slot_at slots p ≡ x → part ≡ spaced (four_of v) → u.state.layout ≡ l → u.state.facts ≡ with_known t.state.facts x v
    → u.values.items ≡ slice_set t.values.items x v
    → u.text.items ≡ put_text t.text.items t.sizes.items p part → u.sizes.items ≡ slice_set t.sizes.items p (length part) → IsTextOf slots l u
value_put slots l t u x p v part order h facts same there at is layout now values text sizes = by t.state.facts refl (subst (λ (y : Layout). AreFactsIf y t.state.facts) h.told.layout facts)
  where
    by : (o : Option Facts) → t.state.facts ≡ o → AreFactsIf l o → IsTextOf slots l u
    by None e k = absurd (h.some e)
    by (Some f) e k =
        let size : length f.values ≡ length slots = k.values.size ∙ same in
        let after : u.state.facts ≡ Some (with_value f x v) = now ∙ ap (λ (o : Option Facts). with_known o x v) e in
        let are = h.told.parts f e in
        let place : p < length (parts_in slots f) = omega (arith, there, parts_many slots f) in
        let put : AreParts (slice_set (parts_in slots f) p part) u.text.items u.sizes.items =
        parts_as (slice_set (parts_in slots f) p part) u.text.items (put_text t.text.items t.sizes.items p part) u.sizes.items (slice_set t.sizes.items p (length part)) text sizes (parts_put (parts_in slots f) t.text.items t.sizes.items p part are place) in
        let known : slice_set (parts_in slots f) p part ≡ parts_in slots (with_value f x v) = ap (λ (r : List ℕ). slice_set (parts_in slots f) p r) is ∙ sym (parts_known slots f x v p order size there at) in
        record {
          told = record {
            layout = layout;
            one = h.told.one;
            values = λ g d.
                let one : with_value f x v ≡ g = some_same u.state.facts (with_value f x v) g after d in
                values ∙ ap (λ (vs : List Known). slice_set vs x v) (h.told.values f e) ∙ ap (λ (y : Facts). y.values) one;
            parts = λ g d.
                let one : with_value f x v ≡ g = some_same u.state.facts (with_value f x v) g after d in
                subst (λ (y : Facts). AreParts (parts_in slots y) u.text.items u.sizes.items) one (subst (λ (ps : List (List ℕ)). AreParts ps u.text.items u.sizes.items) known put);
          };
          some = λ d. let none : ◌≡◌ {A = Option Facts} (Some (with_value f x v)) None = sym after ∙ d in absurd (cc);
        }

pub bounds_put : (slots : List ℕ) (l : Layout) (t u : Told) (p : ℕ) (part : List ℕ) → IsTextOf slots l t
    → p ≡ length slots → part ≡ spaced (cells_in u.state.facts) → u.state.layout ≡ l → (u.state.facts ≡ None → ⊥) → values_in u.state.facts ≡ values_in t.state.facts → u.values.items ≡ t.values.items
    → u.text.items ≡ put_text t.text.items t.sizes.items p part → u.sizes.items ≡ slice_set t.sizes.items p (length part) → IsTextOf slots l u
bounds_put slots l t u p part h at is layout some values list text sizes = by t.state.facts refl u.state.facts refl
  where
    by : (o : Option Facts) → t.state.facts ≡ o → (n : Option Facts) → u.state.facts ≡ n → IsTextOf slots l u
    by None e n d = absurd (h.some e)
    by (Some f) e None d = absurd (some d)
    by (Some f) e (Some g) d =
        let are = h.told.parts f e in
        let equal : g.values ≡ f.values = sym (ap values_in d) ∙ values ∙ ap values_in e in
        let put : AreParts (slice_set (parts_in slots f) p part) u.text.items u.sizes.items =
        parts_as (slice_set (parts_in slots f) p part) u.text.items (put_text t.text.items t.sizes.items p part) u.sizes.items (slice_set t.sizes.items p (length part)) text sizes
        (parts_put (parts_in slots f) t.text.items t.sizes.items p part are (omega (arith, at, parts_many slots f))) in
        let known : slice_set (parts_in slots f) p part ≡ parts_in slots g = ap (λ (r : List ℕ). slice_set (parts_in slots f) p r) (is ∙ ap (λ (o : Option Facts). spaced (cells_in o)) d) ∙ sym (parts_bounded slots f g p equal at) in
        record {
          told = record {
            layout = layout;
            one = h.told.one;
            values = λ y c. list ∙ h.told.values f e ∙ sym equal ∙ ap (λ (z : Facts). z.values) (some_same u.state.facts g y d c);
            parts = λ y c. subst (λ (z : Facts). AreParts (parts_in slots z) u.text.items u.sizes.items) (some_same u.state.facts g y d c) (subst (λ (ps : List (List ℕ)). AreParts ps u.text.items u.sizes.items) known put);
          };
          some = some;
        }

-- ---- a text that stands first as a line

pub stands : (text bytes : List ℕ) (zs : List (Option ℤ)) (n : ℕ) → n ≡ length text → (n ≡ 0 → ⊥) → n ≤ length bytes → slice_index bytes (n - 1) ≡ 10 → take (n - 1) text ≡ take (n - 1) bytes → text ≡ spaced zs
    → AreFirst (symbols_text zs) bytes n
stands text bytes [] n size some room last same e = absurd (some (size ∙ ap (length {A = ℕ}) e))
stands text bytes (z ∷ zs) n size some room last same e =
    let whole : text ≡ but_last (z ∷ zs) ++ 32 ∷ [] = e ∙ spaced_last z zs in
    let many : n ≡ length (but_last (z ∷ zs)) + 1 = omega (arith, size, ap (length {A = ℕ}) whole, length-append (but_last (z ∷ zs)) (32 ∷ [])) in
    let front : take (n - 1) bytes ≡ but_last (z ∷ zs) = sym same ∙ ap (λ (r : List ℕ). take (n - 1) r) whole ∙ take_at (but_last (z ∷ zs)) (32 ∷ []) (n - 1) (omega (arith, many)) in
    let up : suc (n - 1) ≡ n = omega (arith, many) in
    let behind : drop (n - 1) bytes ≡ 10 ∷ drop n bytes =
    drop-cons bytes (n - 1) 0 (omega (arith, many, room)) ∙ ap (λ (b : ℕ). b ∷ drop (suc (n - 1)) bytes) last ∙ ap (λ (k : ℕ). 10 ∷ drop k bytes) up in
    record {
      size = omega (arith, many, ap (length {A = ℕ}) (ended_last z zs), length-append (but_last (z ∷ zs)) (10 ∷ []));
      told =
          sym (take-append-drop (n - 1) bytes) ∙ ap (λ (r : List ℕ). r ++ drop (n - 1) bytes) front ∙ ap (λ (r : List ℕ). but_last (z ∷ zs) ++ r) behind
          ∙ sym (append_assoc (but_last (z ∷ zs)) (10 ∷ []) (drop n bytes)) ∙ ap (λ (r : List ℕ). r ++ drop n bytes) (sym (ended_last z zs));
    }

pub told_text : (slots : List ℕ) (l : Layout) (t : Told) (f : Facts) → IsToldIn slots l t → t.state.facts ≡ Some f → t.text.items ≡ spaced (symbols_in slots f)
told_text slots l t f h e = (h.parts f e).joined ∙ parts_joined slots f

pub line_stands : (slots : List ℕ) (l : Layout) (t : Told) (bytes : List ℕ) (o : Option ℕ) → IsTextOf slots l t
    → IfSome o (λ (n : ℕ). (zs : List (Option ℤ)) → t.text.items ≡ spaced zs → AreFirst (symbols_text zs) bytes n) → IfSome o (λ (n : ℕ). AreFirst (line_text (line_in slots t.state.facts)) bytes n)
line_stands slots l t bytes None h p = tt
line_stands slots l t bytes (Some n) h p = by t.state.facts refl
  where
    by : (fs : Option Facts) → t.state.facts ≡ fs → AreFirst (line_text (line_in slots t.state.facts)) bytes n
    by None e = absurd (h.some e)
    by (Some f) e = subst (λ (fs : Option Facts). AreFirst (line_text (line_in slots fs)) bytes n) (sym e) (p (symbols_in slots f) (told_text slots l t f h.told e))

pub line_written : (slots : List ℕ) (l : Layout) (t : Told) (o : Option Facts) (before new : List ℕ) → IsTextOf slots l t → t.state.facts ≡ o
    → ((zs : List (Option ℤ)) → t.text.items ≡ spaced zs → new ≡ before ++ symbols_text zs) → new ≡ before ++ line_text (line_in slots o)
line_written slots l t None before new h e p = absurd (h.some e)
line_written slots l t (Some f) before new h e p = p (symbols_in slots f) (told_text slots l t f h.told e)

-- ---- value by value

pub known_other : (o : Option Facts) (x y : ℕ) (v : Known) → (y ≡ x → ⊥) → known_in (with_known o x v) y ≡ known_in o y
known_other None x y v h = refl
known_other (Some f) x y v h = ap (λ (k : Known). Some k) (get_or-set_other f.values x y v (any_of Int) h)

pub known_here : (l : Layout) (o : Option Facts) (x : ℕ) (v : Known) → AreFactsIf l o → (o ≡ None → ⊥) → x < length l.types → known_in (with_known o x v) x ≡ Some v
known_here l None x v h some p = absurd (some refl)
known_here l (Some f) x v h some p = let there : x < length f.values = omega (arith, p, h.values.size) in ap (λ (k : Known). Some k) (get_or-set_same f.values x v (any_of Int) there)

-- one more value
pub known_more : (l : Layout) (o : Option Facts) (x : ℕ) (old new : List Known) → AreFactsIf l o → (o ≡ None → ⊥) → x < length l.types → old ≡ take x (values_in o)
    → ((v : Known) → known_in o x ≡ Some v → new ≡ old ++ v ∷ []) → new ≡ take (x + 1) (values_in o)
known_more l None x old new h some p e add = absurd (some refl)
known_more l (Some f) x old new h some p e add =
    let up : x + 1 ≡ suc x = omega arith in
    add (known_at f.values x) refl ∙ ap (λ (vs : List Known). vs ++ known_at f.values x ∷ []) e
    ∙ sym (ap (λ (n : ℕ). take n f.values) up ∙ take-suc f.values x (any_of Int) (omega (arith, p, h.values.size)))

pub known_all : (l : Layout) (o : Option Facts) (x : ℕ) (vs : List Known) → AreFactsIf l o → (o ≡ None → ⊥) → x ≡ length l.types → vs ≡ take x (values_in o) → vs ≡ values_in o
known_all l None x vs h some p e = absurd (some refl)
known_all l (Some f) x vs h some p e = e ∙ take_all x f.values (omega (arith, p, h.values.size))

-- the values of what is told are as many as the variables, and what is known of them
pub values_lie : (slots : List ℕ) (l : Layout) (t : Told) (x : ℕ) → IsTextOf slots l t → AreFactsIf t.state.layout t.state.facts → x < length l.types
    → (x < length t.values.items) × (known_in t.state.facts x ≡ Some (known_at t.values.items x))
values_lie slots l t x h facts p = by t.state.facts refl (subst (λ (y : Layout). AreFactsIf y t.state.facts) h.told.layout facts)
  where
    by : (o : Option Facts) → t.state.facts ≡ o → AreFactsIf l o → (x < length t.values.items) × (known_in t.state.facts x ≡ Some (known_at t.values.items x))
    by None e k = absurd (h.some e)
    by (Some f) e k =
        let same = h.told.values f e in (
          omega (arith, p, k.values.size, ap (λ (vs : List Known). length vs) same),
          ap (λ (o : Option Facts). known_in o x) e ∙ ap (λ (vs : List Known). Some (known_at vs x)) (sym same),
        )

-- what is known is the same where it is the same of each variable
pub values_same : (l : Layout) (a b : Option Facts) (n : ℕ) → AreFactsIf l a → AreFactsIf l b → (a ≡ None → ⊥) → (b ≡ None → ⊥) → n ≡ length l.types → ((x : ℕ) → x < n → known_in a x ≡ known_in b x) → values_in a ≡ values_in b
values_same l None b n h k some other e same = absurd (some refl)
values_same l (Some f) None n h k some other e same = absurd (other refl)
values_same l (Some f) (Some g) n h k some other e same =
    ext_get_or (any_of Int) f.values g.values (h.values.size ∙ sym k.values.size)
    (λ x p. let known : ◌≡◌ {A = Option Known} (Some (known_at f.values x)) (Some (known_at g.values x)) = same x (omega (arith, p, e, h.values.size)) in cc)

pub facts_same : (l : Layout) (a b : Option Facts) (n : ℕ) → OctagonsAreEntries → HasOne l → AreFactsIf l a → AreFactsIf l b → (a ≡ None → ⊥) → (b ≡ None → ⊥) → length (own_pack l) ≡ n → values_in b ≡ values_in a
    → ((i j : ℕ) → i < 2 * n → j < 2 * n → entry_in a 0 i j ≡ entry_in b 0 i j) → a ≡ b
facts_same l None b n law single h k some other e values bounds = absurd (some refl)
facts_same l (Some f) None n law single h k some other e values bounds = absurd (other refl)
facts_same l (Some f) (Some g) n law single h k some other e values bounds =
    let left = one_of l f single h in
    let right = one_of l g single k in
    let vars : (own_octagon g).vars ≡ n = right.vars ∙ e in
    let octagon : own_octagon f ≡ own_octagon g = law.one (own_octagon f) (own_octagon g) left.octagon right.octagon (record {
      vars = left.vars ∙ sym right.vars;
      each = λ i j p q. bounds i j (omega (arith, p, vars)) (omega (arith, q, vars));
    }) in
    let octagons : f.octagons ≡ g.octagons = left.only ∙ ap (λ (m : Octagon). m ∷ []) octagon ∙ sym right.only in
    ap (λ (vs : List Known). Some (record { values = vs; octagons = f.octagons })) (sym values) ∙ ap (λ (ms : List Octagon). Some (record { values = g.values; octagons = ms })) octagons
