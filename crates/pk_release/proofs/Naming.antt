-- The items of an order by number and by last element.
use Rattle.std.proofs.Common.{◌≡◌, ℕ, zero, suc, ◌+◌, ◌<◌, ◌≤◌, ◌==◌, ◌⊎◌, inl, inr, List, [], ◌∷◌, ◌++◌, length, count_by, cond, Bool, true, false, if◌then◌else◌, refl, ap, sym, subst, ◌∙◌, arith, append_assoc, Contains}
use Rattle.std.proofs.lemmas.List.Sums.{sum_by-append}
use Rattle.std.proofs.lemmas.List.Elements.{Contains-append_cases}
use Rattle.pk_plan.specs.Order.{Level, Empty, Vertex_then, Component_then}
use Rattle.pk_plan.specs.Linear.{elements_of, items_of, Bracket, brackets_of}
use Rattle.pk_plan.specs.Shape.{has}
use Rattle.pk_linear.proofs.ListLemmas.{contains_none, contains_here, contains_there, contains_cases}
use Rattle.std.proofs.lemmas.List.Elements.{Contains-append_right}
use Rattle.pk_core.proofs.Basics.{cases, not_true, itself, count_cons}
use Rattle.pk_items.proofs.Rising.{Once, has_cases, has_later}
use Rattle.pk_release.specs.In_order.{item_in}

-- ---- lists in two parts

pub has_here : (x : ℕ) (xs : List ℕ) → has x (x ∷ xs) ≡ true
has_here x xs = let r = itself x in rw r refl

pub in_first : (xs ys : List ℕ) (u : ℕ) → has u xs ≡ true → has u (xs ++ ys) ≡ true
in_first [] ys u h = absurd (cc)
in_first (x ∷ xs) ys u h = elim (has_cases u x xs h) [
  | inl q ↦ (let r = ap (λ (k : ℕ). k == x) q ∙ itself x in rw r refl)
  | inr more ↦ has_later u x (xs ++ ys) (in_first xs ys u more)
]

pub in_second : (xs ys : List ℕ) (u : ℕ) → has u ys ≡ true → has u (xs ++ ys) ≡ true
in_second [] ys u h = h
in_second (x ∷ xs) ys u h = has_later u x (xs ++ ys) (in_second xs ys u h)

pub in_either : (xs ys : List ℕ) (u : ℕ) → has u (xs ++ ys) ≡ true → (has u xs ≡ true) ⊎ (has u ys ≡ true)
in_either [] ys u h = inr h
in_either (x ∷ xs) ys u h = elim (has_cases u x (xs ++ ys) h) [
  | inl q ↦ inl (let r = ap (λ (k : ℕ). k == x) q ∙ itself x in rw r refl)
  | inr more ↦ elim (in_either xs ys u more) [ inl i ↦ inl (has_later u x xs i) | inr j ↦ inr j ]
]

counted : (u : ℕ) (xs : List ℕ) → has u xs ≡ true → 1 ≤ count_by (λ w. w == u) xs
counted u [] h = absurd (cc)
counted u (x ∷ xs) h = elim (has_cases u x xs h) [
  | inl q ↦
      let t : (x == u) ≡ true = ap (λ (k : ℕ). k == u) (sym q) ∙ itself u in
      let c = count_cons (λ w. w == u) x xs in
      let e : cond (x == u) 1 0 ≡ suc zero = ap (λ (b : Bool). cond b 1 0) t in
      omega (arith, c, e)
  | inr more ↦ (let r = counted u xs more in let c = count_cons (λ w. w == u) x xs in omega (arith, c, r))
]

two_parts : (xs ys : List ℕ) (u : ℕ) → count_by (λ w. w == u) (xs ++ ys) ≡ count_by (λ w. w == u) xs + count_by (λ w. w == u) ys
two_parts xs ys u = sum_by-append (λ (w : ℕ). cond (w == u) 1 0) xs ys

pub once_apart : (xs ys : List ℕ) (u : ℕ) → Once (xs ++ ys) → has u xs ≡ true → has u ys ≡ true → ⊥
once_apart xs ys u once h i = absurd (let o : count_by (λ w. w == u) (xs ++ ys) ≤ 1 = once u in omega (arith, two_parts xs ys u, counted u xs h, counted u ys i, o))

pub once_second : (xs ys : List ℕ) → Once (xs ++ ys) → Once ys
once_second xs ys once u = let o : count_by (λ w. w == u) (xs ++ ys) ≤ 1 = once u in omega (arith, two_parts xs ys u, o)

pub once_first : (xs ys : List ℕ) → Once (xs ++ ys) → Once xs
once_first xs ys once u = let o : count_by (λ w. w == u) (xs ++ ys) ≤ 1 = once u in omega (arith, two_parts xs ys u, o)

-- ---- numbers that don't fall along a list

abbrev pub Rises : (ℕ → ℕ) → List ℕ → Type 0
Rises f [] = Unit {0}
Rises f (x ∷ xs) = ((y : ℕ) → has y xs ≡ true → f x ≤ f y) × Rises f xs

rises_like : (f g : ℕ → ℕ) (ys : List ℕ) → ((u : ℕ) → has u ys ≡ true → f u ≡ g u + 1) → Rises g ys → Rises f ys
rises_like f g [] like rises = tt
rises_like f g (y ∷ ys) like rises = (
  (λ u h. let a = like y (has_here y ys) in let c = like u (has_later u y ys h) in let l = rises.0 u h in omega (arith, a, c, l)),
  rises_like f g ys (λ u h. like u (has_later u y ys h)) rises.1,
)

rises_front : (f : ℕ → ℕ) (front ys : List ℕ) → ((u : ℕ) → has u front ≡ true → f u ≡ 0) → Rises f ys → Rises f (front ++ ys)
rises_front f [] ys none rises = rises
rises_front f (x ∷ xs) ys none rises = (
  (λ u h. let z = none x (has_here x xs) in omega (arith, z)),
  rises_front f xs ys (λ u h. none u (has_later u x xs h)) rises,
)

-- ---- the items of a level, one after another

-- the last element of the item of an element
abbrev pub name_in : Level → ℕ → ℕ
name_in Empty e = e
name_in (Vertex_then v more) e = if has e (v ∷ []) then v else name_in more e
name_in (Component_then head exit rest more) e = if has e (head ∷ (elements_of rest ++ exit ∷ [])) then exit else name_in more e

pub record AreItems (es : List ℕ) (count : ℕ) (item name : ℕ → ℕ) : Type 0 where
  pub rises : Rises item es
  pub low : (e : ℕ) → has e es ≡ true → item e < count
  pub there : (e : ℕ) → has e es ≡ true → has (name e) es ≡ true
  pub kept : (e : ℕ) → has e es ≡ true → item (name e) ≡ item e
  pub named : (a b : ℕ) → has a es ≡ true → has b es ≡ true → item a ≡ item b → name a ≡ name b

abbrev item_then : List ℕ → (ℕ → ℕ) → ℕ → ℕ
item_then front item e = if has e front then 0 else (item e + 1)

abbrev name_then : List ℕ → ℕ → (ℕ → ℕ) → ℕ → ℕ
name_then front n name e = if has e front then n else name e

one_more : (front ys : List ℕ) (n count : ℕ) (item name : ℕ → ℕ) → Once (front ++ ys) → has n front ≡ true → AreItems ys count item name → AreItems (front ++ ys) (suc count) (item_then front item) (name_then front n name)
one_more front ys n count item name once n_in are = record {
  rises = rises_front (item_then front item) front ys (λ u h. zero_at u h) (rises_like (item_then front item) item ys (λ u h. more_at u h) are.rises);
  low = λ e h. elim (in_either front ys e h) [
    | inl i ↦ (let z = zero_at e i in omega (arith, z))
    | inr j ↦ (let m = more_at e j in let l = are.low e j in omega (arith, m, l))
  ];
  there = λ e h. elim (in_either front ys e h) [
    | inl i ↦ subst (λ (k : ℕ). has k (front ++ ys) ≡ true) (sym (name_front e i)) (in_first front ys n n_in)
    | inr j ↦ subst (λ (k : ℕ). has k (front ++ ys) ≡ true) (sym (name_rest e j)) (in_second front ys (name e) (are.there e j))
  ];
  kept = λ e h. elim (in_either front ys e h) [
    | inl i ↦ ap (item_then front item) (name_front e i) ∙ zero_at n n_in ∙ sym (zero_at e i)
    | inr j ↦ ap (item_then front item) (name_rest e j) ∙ more_at (name e) (are.there e j) ∙ ap (λ (k : ℕ). k + 1) (are.kept e j) ∙ sym (more_at e j)
  ];
  named = λ a b h i q. elim (in_either front ys a h) [
    | inl af ↦ elim (in_either front ys b i) [
      | inl bf ↦ name_front a af ∙ sym (name_front b bf)
      | inr by ↦ absurd (let z = zero_at a af in let m = more_at b by in omega (arith, z, m, q))
    ]
    | inr ay ↦ elim (in_either front ys b i) [
      | inl bf ↦ absurd (let z = zero_at b bf in let m = more_at a ay in omega (arith, z, m, q))
      | inr by ↦ name_rest a ay ∙ are.named a b ay by (let l = more_at a ay in let m = more_at b by in omega (arith, l, m, q)) ∙ sym (name_rest b by)
    ]
  ];
}
  where
    outside : (u : ℕ) → has u ys ≡ true → has u front ≡ false
    outside u h = not_true (has u front) (λ i. once_apart front ys u once i h)

    zero_at : (u : ℕ) → has u front ≡ true → item_then front item u ≡ 0
    zero_at u h = rw h refl

    more_at : (u : ℕ) → has u ys ≡ true → item_then front item u ≡ item u + 1
    more_at u h = let o = outside u h in rw o refl

    name_front : (u : ℕ) → has u front ≡ true → name_then front n name u ≡ n
    name_front u h = rw h refl

    name_rest : (u : ℕ) → has u ys ≡ true → name_then front n name u ≡ name u
    name_rest u h = let o = outside u h in rw o refl

-- a component's elements, and then the others
component_first : (head exit : ℕ) (rest more : Level) → (head ∷ (elements_of rest ++ exit ∷ [])) ++ elements_of more ≡ elements_of (Component_then head exit rest more)
component_first head exit rest more = ap (λ (us : List ℕ). head ∷ us) (append_assoc (elements_of rest) (exit ∷ []) (elements_of more))

exit_in_item : (head exit : ℕ) (rest : Level) → has exit (head ∷ (elements_of rest ++ exit ∷ [])) ≡ true
exit_in_item head exit rest = has_later exit head (elements_of rest ++ exit ∷ []) (in_second (elements_of rest) (exit ∷ []) exit (has_here exit []))

pub are_items : (order : Level) → Once (elements_of order) → AreItems (elements_of order) (length (items_of order)) (item_in order) (name_in order)
are_items Empty once = record {
  rises = tt;
  low = λ e h. absurd (cc);
  there = λ e h. absurd (cc);
  kept = λ e h. absurd (cc);
  named = λ a b h i q. absurd (cc);
}
are_items (Vertex_then v more) once =
    one_more (v ∷ []) (elements_of more) v (length (items_of more)) (item_in more) (name_in more) once (has_here v []) (are_items more (once_second (v ∷ []) (elements_of more) once))
are_items (Component_then head exit rest more) once =
    let front = head ∷ (elements_of rest ++ exit ∷ []) in
    let is = component_first head exit rest more in
    let cut : Once (front ++ elements_of more) = subst Once (sym is) once in
    subst (λ (us : List ℕ). AreItems us (suc (length (items_of more))) (item_then front (item_in more)) (name_then front exit (name_in more))) is
    (one_more front (elements_of more) exit (length (items_of more)) (item_in more) (name_in more) cut (exit_in_item head exit rest) (are_items more (once_second front (elements_of more) cut)))

-- ---- names and brackets

abbrev bracket : ℕ → ℕ → Level → Bracket
bracket head exit rest = record { head = head; exit = exit; members = head ∷ elements_of rest }

-- brackets have elements of the level
pub members_within : (order : Level) (b : Bracket) (u : ℕ) → Contains (brackets_of order) b → has u b.members ≡ true → has u (elements_of order) ≡ true
members_within Empty b u drawn h = absurd (contains_none drawn)
members_within (Vertex_then v more) b u drawn h = has_later u v (elements_of more) (members_within more b u drawn h)
members_within (Component_then head exit rest more) b u drawn h = elim (contains_cases (bracket head exit rest) b (brackets_of rest ++ brackets_of more) drawn) [
  | inl is ↦ in_first (head ∷ elements_of rest) (exit ∷ elements_of more) u (subst (λ (c : Bracket). has u c.members ≡ true) (sym is) h)
  | inr later ↦ elim (Contains-append_cases (brackets_of rest) (brackets_of more) b later) [
    | inl i ↦ has_later u head (elements_of rest ++ exit ∷ elements_of more) (in_first (elements_of rest) (exit ∷ elements_of more) u (members_within rest b u i h))
    | inr j ↦ in_second (head ∷ elements_of rest) (exit ∷ elements_of more) u (has_later u exit (elements_of more) (members_within more b u j h))
  ]
]

-- an item's last element lies in no brackets
pub name_outside : (order : Level) → Once (elements_of order) → (e : ℕ) → has e (elements_of order) ≡ true → (b : Bracket) → Contains (brackets_of order) b → has (name_in order e) b.members ≡ true → ⊥
name_outside Empty once e h b drawn i = contains_none drawn
name_outside (Vertex_then v more) once e h b drawn i = elim (cases (has e (v ∷ []))) [
  | inl q ↦ once_apart (v ∷ []) (elements_of more) v once (has_here v []) (members_within more b v drawn (rw q at i))
  | inr q ↦ elim (has_cases e v (elements_of more) h) [
    | inl is ↦ absurd (let z : has e (v ∷ []) ≡ true = ap (λ (k : ℕ). has k (v ∷ [])) is ∙ has_here v [] in cc)
    | inr later ↦ name_outside more (once_second (v ∷ []) (elements_of more) once) e later b drawn (rw q at i)
  ]
]
name_outside (Component_then head exit rest more) once e h b drawn i =
    let front = head ∷ (elements_of rest ++ exit ∷ []) in
    let members = head ∷ elements_of rest in
    let cut : Once (front ++ elements_of more) = subst Once (sym (component_first head exit rest more)) once in
    let after : Once (exit ∷ elements_of more) = once_second members (exit ∷ elements_of more) once in
    elim (cases (has e front)) [
      | inl q ↦
          let x_in : has exit b.members ≡ true = rw q at i in
          elim (contains_cases (bracket head exit rest) b (brackets_of rest ++ brackets_of more) drawn) [
            | inl is ↦ once_apart members (exit ∷ elements_of more) exit once (subst (λ (c : Bracket). has exit c.members ≡ true) (sym is) x_in) (has_here exit (elements_of more))
            | inr later ↦ elim (Contains-append_cases (brackets_of rest) (brackets_of more) b later) [
              | inl j ↦ once_apart members (exit ∷ elements_of more) exit once (has_later exit head (elements_of rest) (members_within rest b exit j x_in)) (has_here exit (elements_of more))
              | inr j ↦ once_apart (exit ∷ []) (elements_of more) exit after (has_here exit []) (members_within more b exit j x_in)
            ]
          ]
      | inr q ↦
          let n_in : has (name_in more e) b.members ≡ true = rw q at i in
          let e_in : has e (elements_of more) ≡ true = (elim (in_either front (elements_of more) e (subst (λ (us : List ℕ). has e us ≡ true) (sym (component_first head exit rest more)) h)) [
            | inl f ↦ absurd (cc)
            | inr l ↦ l
          ]) in
          let once_more = once_second front (elements_of more) cut in
          let there = (are_items more once_more).there e e_in in
          elim (contains_cases (bracket head exit rest) b (brackets_of rest ++ brackets_of more) drawn) [
            | inl is ↦ once_apart members (exit ∷ elements_of more) (name_in more e) once (subst (λ (c : Bracket). has (name_in more e) c.members ≡ true) (sym is) n_in) (has_later (name_in more e) exit (elements_of more) there)
            | inr later ↦ elim (Contains-append_cases (brackets_of rest) (brackets_of more) b later) [
              | inl j ↦ once_apart members (exit ∷ elements_of more) (name_in more e) once (has_later (name_in more e) head (elements_of rest) (members_within rest b (name_in more e) j n_in)) (has_later (name_in more e) exit (elements_of more) there)
              | inr j ↦ name_outside more once_more e e_in b j n_in
            ]
          ]
    ]

-- an element is its item's last one, or stands in the brackets whose exit that is
pub record Enclosed (order : Level) (e : ℕ) : Type 0 where
  pub bracket : Bracket
  pub drawn : Contains (brackets_of order) bracket
  pub exit : bracket.exit ≡ name_in order e
  pub member : has e bracket.members ≡ true

pub name_under : (order : Level) (e : ℕ) → has e (elements_of order) ≡ true → (e ≡ name_in order e) ⊎ Enclosed order e
name_under Empty e h = absurd (cc)
name_under (Vertex_then v more) e h = by (has e (v ∷ [])) refl (name_under more e)
  where
    by : (t : Bool) → has e (v ∷ []) ≡ t → (has e (elements_of more) ≡ true → (e ≡ name_in more e) ⊎ Enclosed more e) → (e ≡ name_in (Vertex_then v more) e) ⊎ Enclosed (Vertex_then v more) e
    by true q rest = inl (rw q (one_is (has_cases e v [] q)))
      where
        one_is : (e ≡ v) ⊎ (has e [] ≡ true) → e ≡ v
        one_is (inl is) = is
        one_is (inr none) = absurd (cc)
    by false q rest = elim (has_cases e v (elements_of more) h) [
      | inl is ↦ absurd (let z : has e (v ∷ []) ≡ true = ap (λ (k : ℕ). has k (v ∷ [])) is ∙ has_here v [] in cc)
      | inr later ↦ elim (rest later) [
        | inl is ↦ inl (rw q is)
        | inr w ↦ inr (record { bracket = w.bracket; drawn = w.drawn; exit = rw q w.exit; member = w.member })
      ]
    ]
name_under (Component_then head exit rest more) e h = by (has e (head ∷ (elements_of rest ++ exit ∷ []))) refl (name_under more e)
  where
    front : List ℕ
    front = head ∷ (elements_of rest ++ exit ∷ [])

    by : (t : Bool) → has e (head ∷ (elements_of rest ++ exit ∷ [])) ≡ t → (has e (elements_of more) ≡ true → (e ≡ name_in more e) ⊎ Enclosed more e) → (e ≡ name_in (Component_then head exit rest more) e) ⊎ Enclosed (Component_then head exit rest more) e
    by true q later = elim (in_either (head ∷ elements_of rest) (exit ∷ []) e q) [
      | inl i ↦ inr (record { bracket = bracket head exit rest; drawn = contains_here (bracket head exit rest) (brackets_of rest ++ brackets_of more); exit = rw q refl; member = i })
      | inr j ↦ inl (rw q (one_is (has_cases e exit [] j)))
    ]
      where
        one_is : (e ≡ exit) ⊎ (has e [] ≡ true) → e ≡ exit
        one_is (inl is) = is
        one_is (inr none) = absurd (cc)
    by false q later = elim (in_either (head ∷ (elements_of rest ++ exit ∷ [])) (elements_of more) e (subst (λ (us : List ℕ). has e us ≡ true) (sym (component_first head exit rest more)) h)) [
      | inl f ↦ absurd (cc)
      | inr l ↦ elim (later l) [
        | inl is ↦ inl (rw q is)
        | inr w ↦ inr (record {
          bracket = w.bracket;
          drawn = contains_there (bracket head exit rest) (brackets_of rest ++ brackets_of more) (Contains-append_right (brackets_of rest) (brackets_of more) w.bracket w.drawn);
          exit = rw q w.exit;
          member = w.member;
        })
      ]
    ]
