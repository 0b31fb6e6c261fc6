-- Sets of objects stand for lists of them.
use Rattle.std.proofs.Math.Seq.{drop-cons}
use Rattle.std.proofs.Common.{◌≡◌, ◌<◌, ◌≤◌, ℕ, ◌+◌, zero, suc, add-one, get_or, drop, Bool, true, false, ◌||◌, List, [], ◌∷◌, ◌++◌, length, map, refl, ap, sym, ◌∙◌, nat_eq, if◌then◌else◌, arith}
use Rattle.std.proofs.lemmas.Bool.Decides.{nat_tests}
use Rattle.std.specs.List.{list_any}
use Rattle.std.specs.Bool.{◌==◌}
use Rattle.pk_typed.specs.declared.values.Variable.{Variable}
use Rattle.pk_typed.specs.declared.values.Variable.TheVariants.{File, Local}
use Rattle.pk_type_expression.specs.declared.mentions.Mentions.{Mentions}
use Rattle.pk_type_expression.specs.declared.mentions.Before.{Before}
use Rattle.pk_type_expression.specs.declared.mentions.Objects.{Objects}
use Rattle.pk_type_expression.specs.Mentions.{Mentioned, is_same, is_among, meet, clash, joined, some_clash, nothing_mentioned, change_nothing, is_empty}
use Rattle.pk_type_expression.specs.Views.{has, mentioned_in, IsSetOf, IsBefore}

or_assoc : (a b c : Bool) → (a || (b || c)) ≡ ((a || b) || c)
or_assoc true b c = refl
or_assoc false b c = refl

or_false : (b : Bool) → (b || false) ≡ b
or_false true = refl
or_false false = refl

or_comm : (a b : Bool) → (a || b) ≡ (b || a)
or_comm true true = refl
or_comm true false = refl
or_comm false true = refl
or_comm false false = refl

eq_comm : (a b : ℕ) → nat_eq a b ≡ nat_eq b a
eq_comm a b = grind (arith, nat_tests)

pub is_same_comm : (x y : Variable) → is_same x y ≡ is_same y x
is_same_comm (File a) (File b) = eq_comm a b
is_same_comm (Local a) (Local b) = eq_comm a b
is_same_comm (File a) (Local b) = refl
is_same_comm (Local a) (File b) = refl

-- the same test of each
pub any_same : {A : Type 0} (f g : A → Bool) → ((x : A) → f x ≡ g x) → (xs : List A) → list_any f xs ≡ list_any g xs
any_same f g h [] = refl
any_same f g h (x ∷ xs) = rw (h x) (ap (λ b. g x || b) (any_same f g h xs))

any_of_none : {A : Type 0} (ys : List A) → list_any (λ y. false) ys ≡ false
any_of_none [] = refl
any_of_none (y ∷ ys) = any_of_none ys

pub none_meet : (ys : List Variable) → meet [] ys ≡ false
none_meet ys = any_of_none ys

-- the order in which two lists are gone through doesn't matter
regroup : (a b c d : Bool) → ((a || b) || (c || d)) ≡ ((a || c) || (b || d))
regroup true b c d = refl
regroup false true true d = refl
regroup false true false d = refl
regroup false false true d = refl
regroup false false false d = refl

any_or : {A : Type 0} (f g : A → Bool) (ys : List A) → list_any (λ y. f y || g y) ys ≡ (list_any f ys || list_any g ys)
any_or f g [] = refl
any_or f g (y ∷ ys) = rw (any_or f g ys) (regroup (f y) (g y) (list_any f ys) (list_any g ys))

pub meet_comm : (xs ys : List Variable) → meet xs ys ≡ meet ys xs
meet_comm [] ys = none_meet ys
meet_comm (x ∷ xs) ys =
    any_or (λ y. is_same y x) (is_among xs) ys
    ∙ (ap (λ b. b || list_any (is_among xs) ys) (any_same (λ y. is_same y x) (is_same x) (λ y. is_same_comm y x) ys)
    ∙ ap (λ b. is_among ys x || b) (meet_comm xs ys))

pub among-append : (xs ys : List Variable) (x : Variable) → is_among (xs ++ ys) x ≡ (is_among xs x || is_among ys x)
among-append [] ys x = refl
among-append (y ∷ xs) ys x = rw (among-append xs ys x) (or_assoc (is_same x y) (is_among xs x) (is_among ys x))

pub set_of_none : (s : Objects) → ((x : Variable) → has s x ≡ false) → IsSetOf [] s
set_of_none s h = record { same = h }

pub set_of_more : (xs ys : List Variable) (s t : Objects) → IsSetOf xs s → ((x : Variable) → has t x ≡ (is_among ys x || has s x)) → IsSetOf (xs ++ ys) t
set_of_more xs ys s t k h = record { same = λ x. h x ∙ (ap (λ b. is_among ys x || b) (k.same x) ∙ (or_comm (is_among ys x) (is_among xs x) ∙ sym (among-append xs ys x))) }

pub meets_set : (xs ys : List Variable) (s : Objects) → IsSetOf xs s → list_any (has s) ys ≡ meet xs ys
meets_set xs ys s k = any_same (has s) (is_among xs) k.same ys

pub before_none : (s : Before) → ((x : Variable) → has s.named x ≡ false) → ((x : Variable) → has s.changed x ≡ false) → IsBefore nothing_mentioned s
before_none s h k = record { named = set_of_none s.named h; changed = set_of_none s.changed k }

pub clashes : (m n : Mentioned) (s : Before) (b c : Bool) → IsBefore m s → b ≡ list_any (has s.changed) n.named → c ≡ list_any (has s.named) n.changed → (b || c) ≡ clash m n
clashes m n s b c h p q =
    rw (p, q, meets_set m.changed n.named s.changed h.changed, meets_set m.named n.changed s.named h.named) (ap (λ x. meet m.changed n.named || x) (meet_comm m.named n.changed))

-- one clashes with one of those before it
abbrev pub clash_after : Mentioned → List Mentioned → Bool
clash_after before [] = false
clash_after before (m ∷ ms) = clash before m || clash_after (joined before m) ms

any-append : (f : Variable → Bool) (xs ys : List Variable) → list_any f (xs ++ ys) ≡ (list_any f xs || list_any f ys)
any-append f [] ys = refl
any-append f (x ∷ xs) ys = rw (any-append f xs ys) (or_assoc (f x) (list_any f xs) (list_any f ys))

meet-append : (xs ys zs : List Variable) → meet (xs ++ ys) zs ≡ (meet xs zs || meet ys zs)
meet-append xs ys zs = any_same (is_among (xs ++ ys)) (λ z. is_among xs z || is_among ys z) (among-append xs ys) zs ∙ any_or (is_among xs) (is_among ys) zs

clash_joined : (m n x : Mentioned) → clash (joined m n) x ≡ (clash m x || clash n x)
clash_joined m n x = rw (meet-append m.changed n.changed x.named, any-append (is_among x.changed) m.named n.named) (regroup (meet m.changed x.named) (meet n.changed x.named) (meet x.changed m.named) (meet x.changed n.named))

move_or : (a b c d : Bool) → (a || ((b || c) || d)) ≡ ((a || b) || (c || d))
move_or true b c d = refl
move_or false true c d = refl
move_or false false c d = refl

clash_after_is : (before : Mentioned) (ms : List Mentioned) → clash_after before ms ≡ (list_any (clash before) ms || some_clash ms)
clash_after_is before [] = refl
clash_after_is before (m ∷ ms) =
    rw (clash_after_is (joined before m) ms, any_same (clash (joined before m)) (λ x. clash before x || clash m x) (clash_joined before m) ms, any_or (clash before) (clash m) ms)
    (move_or (clash before m) (list_any (clash before) ms) (list_any (clash m) ms) (some_clash ms))

nothing_and : (m : Mentioned) → clash nothing_mentioned m ≡ false
nothing_and m = ap (λ b. b || meet m.changed []) (none_meet m.named)

pub nothing_before : (ms : List Mentioned) → clash_after nothing_mentioned ms ≡ some_clash ms
nothing_before ms = clash_after_is nothing_mentioned ms ∙ ap (λ b. b || some_clash ms) (any_same (clash nothing_mentioned) (λ x. false) nothing_and ms ∙ any_of_none ms)

-- where nothing is changed, nothing clashes
nothing_meets : (m : Mentioned) (n : Mentioned) → m.changed ≡ [] → n.changed ≡ [] → clash m n ≡ false
nothing_meets m n p q = rw (p, q) (ap (λ b. b || meet [] m.named) (none_meet n.named) ∙ none_meet m.named)

empty_is : (xs : List Variable) → is_empty xs ≡ true → xs ≡ []
empty_is [] h = refl
empty_is (x ∷ xs) h = absurd (cc)

one_nothing : (m : Mentioned) (ms : List Mentioned) → change_nothing (m ∷ ms) ≡ true → (m.changed ≡ []) × (change_nothing ms ≡ true)
one_nothing m ms h = by (is_empty m.changed) refl h
  where
    by : (b : Bool) → is_empty m.changed ≡ b → (if b then change_nothing ms else false) ≡ true → (m.changed ≡ []) × (change_nothing ms ≡ true)
    by true e k = (empty_is m.changed e, k)
    by false e k = absurd (cc)

still_nothing : (before : Mentioned) (ms : List Mentioned) → before.changed ≡ [] → change_nothing ms ≡ true → clash_after before ms ≡ false
still_nothing before [] p q = refl
still_nothing before (m ∷ ms) p q =
    let n : (m.changed ≡ []) × (change_nothing ms ≡ true) = one_nothing m ms q in
    let none : before.changed ++ m.changed ≡ [] = rw (p, n.0) refl in
    rw (nothing_meets before m p n.0) (still_nothing (joined before m) ms none n.1)

pub nothing_clashes : (ms : List Mentioned) → change_nothing ms ≡ true → some_clash ms ≡ false
nothing_clashes ms h = sym (nothing_before ms) ∙ still_nothing nothing_mentioned ms refl h

not_none : (n : ℕ) → true ≡ (n == 0) → 0 < n → ⊥
not_none n h k = grind (arith, nat_tests)

pub no_items : (xs : List Variable) → true ≡ (length xs == 0) → xs ≡ []
no_items [] h = refl
no_items (x ∷ xs) h = absurd (not_none (length (x ∷ xs)) h (omega arith))

-- those of a list, put into an empty set
pub set_of_more' : (ys : List Variable) (s t : Objects) → ((x : Variable) → has s x ≡ false) → ((x : Variable) → has t x ≡ (is_among ys x || has s x)) → IsSetOf ys t
set_of_more' ys s t h k = record { same = λ x. k x ∙ (ap (λ b. is_among ys x || b) (h x) ∙ or_false (is_among ys x)) }

-- what is left begins with the next one
pub next : (all : List Mentions) (i : ℕ) (m : Mentions) → i < length all → m ≡ get_or all i m → map mentioned_in (drop i all) ≡ mentioned_in m ∷ map mentioned_in (drop (i + 1) all)
next all i m h is = rw add-one (ap (map mentioned_in) (drop-cons all i m h ∙ ap (λ x. x ∷ drop (suc i) all) (sym is)))

pub clashes_now : (before m : Mentioned) (now rest : List Mentioned) (all : Bool) → now ≡ m ∷ rest → clash_after before now ≡ all → true ≡ clash before m → true ≡ all
clashes_now before m now rest all p q h = ap (λ b. b || clash_after (joined before m) rest) h ∙ (ap (clash_after before) (sym p) ∙ q)

pub clashes_later : (before m : Mentioned) (now rest : List Mentioned) (all : Bool) → now ≡ m ∷ rest → clash_after before now ≡ all → false ≡ clash before m → clash_after (joined before m) rest ≡ all
clashes_later before m now rest all p q h = ap (λ b. b || clash_after (joined before m) rest) h ∙ (ap (clash_after before) (sym p) ∙ q)

drop_past : (all : List Mentions) (i : ℕ) → length all ≤ i → drop i all ≡ []
drop_past [] zero h = refl
drop_past [] (suc i) h = refl
drop_past (m ∷ ms) zero h = absurd (omega (arith, h))
drop_past (m ∷ ms) (suc i) h = drop_past ms i (omega (arith, h))

pub clashes_never : (all : List Mentions) (i : ℕ) (before : Mentioned) (r : Bool) → length all ≤ i → clash_after before (map mentioned_in (drop i all)) ≡ r → false ≡ r
clashes_never all i before r h q = ap (λ ms. clash_after before (map mentioned_in ms)) (sym (drop_past all i h)) ∙ q

-- those of a list, put into a set by a slice of it
pub set_of_slice : (xs ys zs : List Variable) (s t : Objects) → zs ≡ ys → IsSetOf xs s → ((x : Variable) → has t x ≡ (is_among zs x || has s x)) → IsSetOf (xs ++ ys) t
set_of_slice xs ys zs s t same k h = set_of_more xs ys s t k (λ x. h x ∙ ap (λ vs. is_among vs x || has s x) same)

-- with either test as the code makes it, over slices
pub clashes_by : (m n : Mentioned) (s : Before) (xs ys : List Variable) (a b : Bool) → IsBefore m s → xs ≡ n.named → ys ≡ n.changed → a ≡ list_any (has s.changed) xs → b ≡ list_any (has s.named) ys → (a || b) ≡ clash m n
clashes_by m n s xs ys a b h p q x y = clashes m n s a b h (x ∙ ap (list_any (has s.changed)) p) (y ∙ ap (list_any (has s.named)) q)

pub clashes_then : (m n : Mentioned) (s : Before) (xs ys : List Variable) (a b : Bool) → IsBefore m s → xs ≡ n.named → ys ≡ n.changed → a ≡ list_any (has s.changed) xs → b ≡ list_any (has s.named) ys → a ≡ true → true ≡ clash m n
clashes_then m n s xs ys a b h p q x y t = ap (λ c. c || b) (sym t) ∙ clashes_by m n s xs ys a b h p q x y

pub clashes_else : (m n : Mentioned) (s : Before) (xs ys : List Variable) (a b : Bool) → IsBefore m s → xs ≡ n.named → ys ≡ n.changed → a ≡ list_any (has s.changed) xs → b ≡ list_any (has s.named) ys → a ≡ false → b ≡ clash m n
clashes_else m n s xs ys a b h p q x y t = ap (λ c. c || b) (sym t) ∙ clashes_by m n s xs ys a b h p q x y

none_of_more : (n : ℕ) → 0 < n → (n == 0) ≡ false
none_of_more n h = grind (arith, nat_tests)

pub empty_by_length : (xs : List Variable) → (length xs == 0) ≡ is_empty xs
empty_by_length [] = refl
empty_by_length (x ∷ xs) = none_of_more (length (x ∷ xs)) (omega arith)

-- whether nothing is changed, one by one
pub still_none : (m : Mentioned) (now rest : List Mentioned) (xs : List Variable) (all b : Bool) → now ≡ m ∷ rest → change_nothing now ≡ all → xs ≡ m.changed → b ≡ is_empty xs → b ≡ true → change_nothing rest ≡ all
still_none m now rest xs all b p q same h t =
    ap (λ c. if c then change_nothing rest else false) (sym t ∙ (h ∙ ap is_empty same)) ∙ (ap change_nothing (sym p) ∙ q)

pub one_changed : (m : Mentioned) (now rest : List Mentioned) (xs : List Variable) (all b : Bool) → now ≡ m ∷ rest → change_nothing now ≡ all → xs ≡ m.changed → b ≡ is_empty xs → b ≡ false → false ≡ all
one_changed m now rest xs all b p q same h t =
    ap (λ c. if c then change_nothing rest else false) (sym t ∙ (h ∙ ap is_empty same)) ∙ (ap change_nothing (sym p) ∙ q)

pub none_changed : (all : List Mentions) (i : ℕ) (r : Bool) → length all ≤ i → change_nothing (map mentioned_in (drop i all)) ≡ r → true ≡ r
none_changed all i r h q = ap (λ ms. change_nothing (map mentioned_in ms)) (sym (drop_past all i h)) ∙ q
