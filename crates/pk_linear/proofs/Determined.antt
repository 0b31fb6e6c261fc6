-- At most one order of a plan is linear.
use Rattle.std.proofs.Common.{◌≡◌, ◌≢◌, ◌⊎◌, ℕ, ◌<◌, ◌≤◌, List, [], ◌∷◌, ◌++◌, refl, sym, ap, subst, ◌∙◌, inl, inr, arith, Contains}
use Rattle.std.proofs.lemmas.List.Elements.{Contains-append_left, Contains-append_right, Contains-append_cases, All-contains}
use Rattle.pk_plan.specs.declared.components.Component.{Component}
use Rattle.pk_plan.specs.Order.{Level, Empty, Vertex_then, Component_then}
use Rattle.pk_plan.specs.Plans.{PlanView, Inside}
use Rattle.pk_plan.specs.Axioms.{Axioms}
use Rattle.pk_plan.proofs.Apart.{Apart, apart_of}
use Rattle.pk_plan.proofs.PlanLemmas.{Of, same_head}
use Rattle.pk_plan.specs.Linear.{elements_of, Item, vertex_item, component_item, items_of, Bracket, brackets_of, IsNext, TakesLeastReady, Encloses, IsLinear}
use Rattle.pk_linear.proofs.ListLemmas.{contains_none, contains_here, contains_there, contains_cases}
use Rattle.pk_linear.proofs.LevelLemmas.{in_rest, in_exit, in_more, component_cases, item_cases, item_rest, item_exit}

apart_left : (xs ys : List ℕ) → Apart (xs ++ ys) → Apart xs
apart_left [] ys apart = tt
apart_left (x ∷ xs) ys apart = ((λ has. apart.0 (Contains-append_left xs ys x has)), apart_left xs ys apart.1)

apart_right : (xs ys : List ℕ) → Apart (xs ++ ys) → Apart ys
apart_right [] ys apart = apart
apart_right (x ∷ xs) ys apart = apart_right xs ys apart.1

apart_between : (xs ys : List ℕ) (e : ℕ) → Apart (xs ++ ys) → Contains xs e → Contains ys e → ⊥
apart_between [] ys e apart in_xs in_ys = contains_none in_xs
apart_between (x ∷ xs) ys e apart in_xs in_ys = elim (contains_cases x e xs in_xs) [
  | inl same ↦ apart.0 (Contains-append_right xs ys x (subst (Contains ys) (sym same) in_ys))
  | inr later ↦ apart_between xs ys e apart.1 later in_ys
]

-- a level whose brackets are the components that end in it
record IsProper (p : PlanView) (level : Level) : Type 0 where
  apart : Apart (elements_of level)
  drawn : (bracket : Bracket) → Contains (brackets_of level) bracket → (c : Component) × Of p c × Encloses p bracket c
  enclosed : (c : Component) → Of p c → Contains (elements_of level) c.exit → (bracket : Bracket) × Contains (brackets_of level) bracket × Encloses p bracket c
  next : TakesLeastReady p level

-- brackets lie in their level
bracket_exit : (level : Level) (bracket : Bracket) → Contains (brackets_of level) bracket → Contains (elements_of level) bracket.exit
bracket_exit Empty bracket has = absurd (contains_none has)
bracket_exit (Vertex_then v more) bracket has = contains_there v (elements_of more) (bracket_exit more bracket has)
bracket_exit (Component_then head exit rest more) bracket has =
    let own : Bracket = record { head = head; exit = exit; members = head ∷ elements_of rest } in
    elim (contains_cases own bracket (brackets_of rest ++ brackets_of more) has) [
      | inl same ↦ subst (λ (b : Bracket). Contains (elements_of (Component_then head exit rest more)) b.exit) same (in_exit head exit rest more)
      | inr others ↦ elim (Contains-append_cases (brackets_of rest) (brackets_of more) bracket others) [
        | inl inner ↦ in_rest head exit rest more bracket.exit (bracket_exit rest bracket inner)
        | inr later ↦ in_more head exit rest more bracket.exit (bracket_exit more bracket later)
      ]
    ]

bracket_members : (level : Level) (bracket : Bracket) (e : ℕ) → Contains (brackets_of level) bracket → Contains bracket.members e → Contains (elements_of level) e
bracket_members Empty bracket e has inside = absurd (contains_none has)
bracket_members (Vertex_then v more) bracket e has inside = contains_there v (elements_of more) (bracket_members more bracket e has inside)
bracket_members (Component_then head exit rest more) bracket e has inside =
    let own : Bracket = record { head = head; exit = exit; members = head ∷ elements_of rest } in
    elim (contains_cases own bracket (brackets_of rest ++ brackets_of more) has) [
      | inl same ↦ elim (contains_cases head e (elements_of rest) (subst (λ (b : Bracket). Contains b.members e) (sym same) inside)) [
        | inl first ↦ subst (Contains (elements_of (Component_then head exit rest more))) first (contains_here head (elements_of rest ++ exit ∷ elements_of more))
        | inr inner ↦ in_rest head exit rest more e inner
      ]
      | inr others ↦ elim (Contains-append_cases (brackets_of rest) (brackets_of more) bracket others) [
        | inl inner ↦ in_rest head exit rest more e (bracket_members rest bracket e inner inside)
        | inr later ↦ in_more head exit rest more e (bracket_members more bracket e later inside)
      ]
    ]

-- the parts of a component's level have no element in common
record ArePartsApart (head exit : ℕ) (rest more : Level) : Type 0 where
  rest_apart : Apart (elements_of rest)
  more_apart : Apart (elements_of more)
  head_rest : Contains (elements_of rest) head → ⊥
  head_exit : head ≢ exit
  head_more : Contains (elements_of more) head → ⊥
  rest_exit : Contains (elements_of rest) exit → ⊥
  rest_more : (e : ℕ) → Contains (elements_of rest) e → Contains (elements_of more) e → ⊥
  exit_more : Contains (elements_of more) exit → ⊥

parts_apart : (head exit : ℕ) (rest more : Level) → Apart (elements_of (Component_then head exit rest more)) → ArePartsApart head exit rest more
parts_apart head exit rest more apart = record {
  rest_apart = apart_left (elements_of rest) (exit ∷ elements_of more) apart.1;
  more_apart = last.1;
  head_rest = λ has. apart.0 (Contains-append_left (elements_of rest) (exit ∷ elements_of more) head has);
  head_exit = λ same. apart.0 (subst (Contains (elements_of rest ++ exit ∷ elements_of more)) (sym same) (Contains-append_right (elements_of rest) (exit ∷ elements_of more) exit (contains_here exit (elements_of more))));
  head_more = λ has. apart.0 (Contains-append_right (elements_of rest) (exit ∷ elements_of more) head (contains_there exit (elements_of more) has));
  rest_exit = λ has. apart_between (elements_of rest) (exit ∷ elements_of more) exit apart.1 has (contains_here exit (elements_of more));
  rest_more = λ e in_rest' in_more'. apart_between (elements_of rest) (exit ∷ elements_of more) e apart.1 in_rest' (contains_there exit (elements_of more) in_more');
  exit_more = last.0;
}
  where
    last : Apart (exit ∷ elements_of more)
    last = apart_right (elements_of rest) (exit ∷ elements_of more) apart.1

proper_after_vertex : (p : PlanView) (v : ℕ) (more : Level) → IsProper p (Vertex_then v more) → IsProper p more
proper_after_vertex p v more proper = record {
  apart = proper.apart.1;
  drawn = proper.drawn;
  enclosed = λ c of has. proper.enclosed c of (contains_there v (elements_of more) has);
  next = proper.next.1;
}

proper_rest : (p : PlanView) (head exit : ℕ) (rest more : Level) → IsProper p (Component_then head exit rest more) → IsProper p rest
proper_rest p head exit rest more proper =
    let apart = parts_apart head exit rest more proper.apart in
    let own : Bracket = record { head = head; exit = exit; members = head ∷ elements_of rest } in
    record {
      apart = apart.rest_apart;
      drawn = λ bracket has. proper.drawn bracket (contains_there own (brackets_of rest ++ brackets_of more) (Contains-append_left (brackets_of rest) (brackets_of more) bracket has));
      enclosed = λ c of has.
          let found = proper.enclosed c of (in_rest head exit rest more c.exit has) in
          let exits = found.2.exit in
          elim (contains_cases own found.0 (brackets_of rest ++ brackets_of more) found.1) [
            | inl same ↦ absurd (apart.rest_exit (subst (Contains (elements_of rest)) (sym exits ∙ ap (λ (b : Bracket). b.exit) (sym same)) has))
            | inr others ↦ elim (Contains-append_cases (brackets_of rest) (brackets_of more) found.0 others) [
              | inl inner ↦ (found.0, inner, found.2)
              | inr later ↦ absurd (apart.rest_more c.exit has (subst (Contains (elements_of more)) exits (bracket_exit more found.0 later)))
            ]
          ];
      next = proper.next.1;
    }

proper_more : (p : PlanView) (head exit : ℕ) (rest more : Level) → IsProper p (Component_then head exit rest more) → IsProper p more
proper_more p head exit rest more proper =
    let apart = parts_apart head exit rest more proper.apart in
    let own : Bracket = record { head = head; exit = exit; members = head ∷ elements_of rest } in
    record {
      apart = apart.more_apart;
      drawn = λ bracket has. proper.drawn bracket (contains_there own (brackets_of rest ++ brackets_of more) (Contains-append_right (brackets_of rest) (brackets_of more) bracket has));
      enclosed = λ c of has.
          let found = proper.enclosed c of (in_more head exit rest more c.exit has) in
          let exits = found.2.exit in
          elim (contains_cases own found.0 (brackets_of rest ++ brackets_of more) found.1) [
            | inl same ↦ absurd (apart.exit_more (subst (Contains (elements_of more)) (sym exits ∙ ap (λ (b : Bracket). b.exit) (sym same)) has))
            | inr others ↦ elim (Contains-append_cases (brackets_of rest) (brackets_of more) found.0 others) [
              | inl inner ↦ absurd (apart.rest_more c.exit (subst (Contains (elements_of rest)) exits (bracket_exit rest found.0 inner)) has)
              | inr later ↦ (found.0, later, found.2)
            ]
          ];
      next = proper.next.2;
    }

-- no component that ends in the level holds the element
abbrev IsOuter : PlanView → Level → ℕ → Type 0
IsOuter p level e = (c : Component) → Of p c → Contains (elements_of level) c.exit → Inside p c e → ⊥

-- a vertex by itself, of the level
record IsLone (p : PlanView) (level : Level) (v : ℕ) : Type 0 where
  in_level : Contains (elements_of level) v
  outer : IsOuter p level v
  no_exit : (c : Component) → Of p c → c.exit ≢ v

-- a component that ends in the level, in no other that does
record IsOutermost (p : PlanView) (level : Level) (c : Component) : Type 0 where
  of : Of p c
  in_level : Contains (elements_of level) c.exit
  outer : IsOuter p level c.exit

-- the item of a component
record IsItemOf (p : PlanView) (c : Component) (i : Item) : Type 0 where
  number : i.number ≡ c.head
  has : (e : ℕ) → Inside p c e ⊎ (c.exit ≡ e) → Contains i.elements e
  only : (e : ℕ) → Contains i.elements e → Inside p c e ⊎ (c.exit ≡ e)

own_item : (p : PlanView) (head exit : ℕ) (rest : Level) (c : Component) → Encloses p (record { head = head; exit = exit; members = head ∷ elements_of rest }) c → IsItemOf p c (component_item head exit rest)
own_item p head exit rest c encloses = record {
  number = encloses.head;
  has = λ e inner. elim inner [
    | inl inside ↦ elim (contains_cases head e (elements_of rest) ((encloses.members e).1 inside)) [
      | inl same ↦ subst (Contains (component_item head exit rest).elements) same (contains_here head (elements_of rest ++ exit ∷ []))
      | inr in_level ↦ item_rest head exit rest e in_level
    ]
    | inr same ↦ subst (Contains (component_item head exit rest).elements) (encloses.exit ∙ same) (item_exit head exit rest)
  ];
  only = λ e has. elim (item_cases head exit rest e has) [
    | inl same ↦ inl ((encloses.members e).0 (subst (Contains (head ∷ elements_of rest)) same (contains_here head (elements_of rest))))
    | inr others ↦ elim others [
      | inl in_level ↦ inl ((encloses.members e).0 (contains_there head (elements_of rest) in_level))
      | inr same ↦ inr (sym encloses.exit ∙ same)
    ]
  ];
}

-- what is outer among what follows is outer at the level
outer_after_vertex : (p : PlanView) (v : ℕ) (more : Level) (e : ℕ) → IsProper p (Vertex_then v more) → IsOuter p more e → IsOuter p (Vertex_then v more) e
outer_after_vertex p v more e proper outer c of has inside =
    let found = proper.enclosed c of has in
    let exits = found.2.exit in
    outer c of (subst (Contains (elements_of more)) exits (bracket_exit more found.0 found.1)) inside

outer_more : (p : PlanView) (head exit : ℕ) (rest more : Level) (e : ℕ) → IsProper p (Component_then head exit rest more) → Contains (elements_of more) e → IsOuter p more e → IsOuter p (Component_then head exit rest more) e
outer_more p head exit rest more e proper e_in outer c of has inside =
    let apart = parts_apart head exit rest more proper.apart in
    let own : Bracket = record { head = head; exit = exit; members = head ∷ elements_of rest } in
    let found = proper.enclosed c of has in
    let exits = found.2.exit in
    let e_member : Contains found.0.members e = (found.2.members e).1 inside in
    elim (contains_cases own found.0 (brackets_of rest ++ brackets_of more) found.1) [
      | inl same ↦ elim (contains_cases head e (elements_of rest) (subst (λ (b : Bracket). Contains b.members e) (sym same) e_member)) [
        | inl first ↦ absurd (apart.head_more (subst (Contains (elements_of more)) (sym first) e_in))
        | inr inner ↦ absurd (apart.rest_more e inner e_in)
      ]
      | inr others ↦ elim (Contains-append_cases (brackets_of rest) (brackets_of more) found.0 others) [
        | inl inner ↦ absurd (apart.rest_more e (bracket_members rest found.0 e inner e_member) e_in)
        | inr later ↦ outer c of (subst (Contains (elements_of more)) exits (bracket_exit more found.0 later)) inside
      ]
    ]

-- the first vertex, and the first component
first_vertex : (p : PlanView) (v : ℕ) (more : Level) → IsProper p (Vertex_then v more) → IsLone p (Vertex_then v more) v
first_vertex p v more proper = record {
  in_level = contains_here v (elements_of more);
  outer = λ c of has inside.
      let found = proper.enclosed c of has in
      proper.apart.0 (bracket_members more found.0 v found.1 ((found.2.members v).1 inside));
  no_exit = λ c of same.
      let found = proper.enclosed c of (subst (Contains (v ∷ elements_of more)) (sym same) (contains_here v (elements_of more))) in
      let exits = found.2.exit in
      proper.apart.0 (subst (Contains (elements_of more)) (exits ∙ same) (bracket_exit more found.0 found.1));
}

record IsFirst (p : PlanView) (head exit : ℕ) (rest more : Level) : Type 0 where
  component : Component
  encloses : Encloses p (record { head = head; exit = exit; members = head ∷ elements_of rest }) component
  outermost : IsOutermost p (Component_then head exit rest more) component

first_component : (p : PlanView) (head exit : ℕ) (rest more : Level) → IsProper p (Component_then head exit rest more) → IsFirst p head exit rest more
first_component p head exit rest more proper = record {
  component = d.0;
  encloses = d.2;
  outermost = record {
    of = d.1;
    in_level = subst (Contains (elements_of (Component_then head exit rest more))) d.2.exit (in_exit head exit rest more);
    outer = λ c of has inside.
        let found = proper.enclosed c of has in
        let x_member : Contains found.0.members exit = (found.2.members exit).1 (subst (Inside p c) (sym d.2.exit) inside) in
        elim (contains_cases own found.0 (brackets_of rest ++ brackets_of more) found.1) [
          | inl same ↦ elim (contains_cases head exit (elements_of rest) (subst (λ (b : Bracket). Contains b.members exit) (sym same) x_member)) [
            | inl first ↦ apart.head_exit first
            | inr inner ↦ apart.rest_exit inner
          ]
          | inr others ↦ elim (Contains-append_cases (brackets_of rest) (brackets_of more) found.0 others) [
            | inl inner ↦ apart.rest_exit (bracket_members rest found.0 exit inner x_member)
            | inr later ↦ apart.exit_more (bracket_members more found.0 exit later x_member)
          ]
        ];
  };
}
  where
    own : Bracket
    own = record { head = head; exit = exit; members = head ∷ elements_of rest }

    d : (c : Component) × Of p c × Encloses p own c
    d = proper.drawn own (contains_here own (brackets_of rest ++ brackets_of more))

    apart : ArePartsApart head exit rest more
    apart = parts_apart head exit rest more proper.apart

-- each item is a lone vertex or an outermost component
abbrev IsKind : PlanView → Level → Item → Type 0
IsKind p level i = ((v : ℕ) × IsLone p level v × (vertex_item v ≡ i)) ⊎ ((c : Component) × IsOutermost p level c × IsItemOf p c i)

kind_of : (p : PlanView) (level : Level) (i : Item) → IsProper p level → Contains (items_of level) i → IsKind p level i
kind_of p Empty i proper has = absurd (contains_none has)
kind_of p (Vertex_then v more) i proper has = elim (contains_cases (vertex_item v) i (items_of more) has) [
  | inl same ↦ inl (v, first_vertex p v more proper, same)
  | inr later ↦ elim (kind_of p more i (proper_after_vertex p v more proper) later) [
    | inl lone ↦ inl (
      lone.0,
      (record {
        in_level = contains_there v (elements_of more) lone.1.in_level;
        outer = outer_after_vertex p v more lone.0 proper lone.1.outer;
        no_exit = lone.1.no_exit;
      }),
      lone.2,
    )
    | inr outermost ↦ inr (
      outermost.0,
      (record {
        of = outermost.1.of;
        in_level = contains_there v (elements_of more) outermost.1.in_level;
        outer = outer_after_vertex p v more outermost.0.exit proper outermost.1.outer;
      }),
      outermost.2,
    )
  ]
]
kind_of p (Component_then head exit rest more) i proper has = elim (contains_cases (component_item head exit rest) i (items_of more) has) [
  | inl same ↦
      let first = first_component p head exit rest more proper in
      inr (first.component, first.outermost, subst (IsItemOf p first.component) same (own_item p head exit rest first.component first.encloses))
  | inr later ↦ elim (kind_of p more i (proper_more p head exit rest more proper) later) [
    | inl lone ↦ inl (
      lone.0,
      (record {
        in_level = in_more head exit rest more lone.0 lone.1.in_level;
        outer = outer_more p head exit rest more lone.0 proper lone.1.in_level lone.1.outer;
        no_exit = lone.1.no_exit;
      }),
      lone.2,
    )
    | inr outermost ↦ inr (
      outermost.0,
      (record {
        of = outermost.1.of;
        in_level = in_more head exit rest more outermost.0.exit outermost.1.in_level;
        outer = outer_more p head exit rest more outermost.0.exit proper outermost.1.in_level outermost.1.outer;
      }),
      outermost.2,
    )
  ]
]

-- and each lone vertex or outermost component is an item
lone_item : (p : PlanView) (level : Level) (v : ℕ) → Axioms p → IsProper p level → IsLone p level v → Contains (items_of level) (vertex_item v)
lone_item p Empty v axioms proper lone = absurd (contains_none lone.in_level)
lone_item p (Vertex_then w more) v axioms proper lone = elim (contains_cases w v (elements_of more) lone.in_level) [
  | inl same ↦ subst (λ (x : ℕ). Contains (vertex_item w ∷ items_of more) (vertex_item x)) same (contains_here (vertex_item w) (items_of more))
  | inr later ↦ contains_there (vertex_item w) (items_of more) (lone_item p more v axioms (proper_after_vertex p w more proper) (record {
    in_level = later;
    outer = λ c of has inside. lone.outer c of (contains_there w (elements_of more) has) inside;
    no_exit = lone.no_exit;
  }))
]
lone_item p (Component_then head exit rest more) v axioms proper lone =
    let first = first_component p head exit rest more proper in
    let inside_first = lone.outer first.component first.outermost.of first.outermost.in_level in
    elim (component_cases head exit rest more v lone.in_level) [
      | inl same ↦ absurd (inside_first ((first.encloses.members v).0 (subst (Contains (head ∷ elements_of rest)) same (contains_here head (elements_of rest)))))
      | inr others ↦ elim others [
        | inl inner ↦ absurd (inside_first ((first.encloses.members v).0 (contains_there head (elements_of rest) inner)))
        | inr last ↦ elim last [
          | inl same ↦ let exits = first.encloses.exit in absurd (lone.no_exit first.component first.outermost.of (sym exits ∙ same))
          | inr later ↦ contains_there (component_item head exit rest) (items_of more) (lone_item p more v axioms (proper_more p head exit rest more proper) (record {
            in_level = later;
            outer = λ c of has inside. lone.outer c of (in_more head exit rest more c.exit has) inside;
            no_exit = lone.no_exit;
          }))
        ]
      ]
    ]

outermost_item : (p : PlanView) (level : Level) (c : Component) → IsProper p level → IsOutermost p level c → (i : Item) × Contains (items_of level) i × IsItemOf p c i
outermost_item p Empty c proper outermost = absurd (contains_none outermost.in_level)
outermost_item p (Vertex_then w more) c proper outermost =
    let enclosed = proper.enclosed c outermost.of outermost.in_level in
    let exits = enclosed.2.exit in
    let found = outermost_item p more c (proper_after_vertex p w more proper) (record {
      of = outermost.of;
      in_level = subst (Contains (elements_of more)) exits (bracket_exit more enclosed.0 enclosed.1);
      outer = λ d of has inside. outermost.outer d of (contains_there w (elements_of more) has) inside;
    }) in
    (found.0, contains_there (vertex_item w) (items_of more) found.1, found.2)
outermost_item p (Component_then head exit rest more) c proper outermost =
    let own : Bracket = record { head = head; exit = exit; members = head ∷ elements_of rest } in
    let enclosed = proper.enclosed c outermost.of outermost.in_level in
    let exits = enclosed.2.exit in
    elim (contains_cases own enclosed.0 (brackets_of rest ++ brackets_of more) enclosed.1) [
      | inl same ↦ (component_item head exit rest, contains_here (component_item head exit rest) (items_of more), own_item p head exit rest c (subst (λ (b : Bracket). Encloses p b c) (sym same) enclosed.2))
      | inr others ↦ elim (Contains-append_cases (brackets_of rest) (brackets_of more) enclosed.0 others) [
        | inl inner ↦
            let first = first_component p head exit rest more proper in
            absurd (outermost.outer first.component first.outermost.of first.outermost.in_level
            ((first.encloses.members c.exit).0 (contains_there head (elements_of rest) (subst (Contains (elements_of rest)) exits (bracket_exit rest enclosed.0 inner)))))
        | inr later ↦
            let found = outermost_item p more c (proper_more p head exit rest more proper) (record {
              of = outermost.of;
              in_level = subst (Contains (elements_of more)) exits (bracket_exit more enclosed.0 later);
              outer = λ d of has inside. outermost.outer d of (in_more head exit rest more d.exit has) inside;
            }) in
            (found.0, contains_there (component_item head exit rest) (items_of more) found.1, found.2)
      ]
    ]

-- an item of one level is one of another level of the same elements
abbrev SameElements : Level → Level → Type 0
SameElements one other = ((e : ℕ) → Contains (elements_of one) e → Contains (elements_of other) e) × ((e : ℕ) → Contains (elements_of other) e → Contains (elements_of one) e)

record IsMatch (other : Level) (i : Item) : Type 0 where
  item : Item
  in_level : Contains (items_of other) item
  number : item.number ≡ i.number
  to : (e : ℕ) → Contains item.elements e → Contains i.elements e
  from : (e : ℕ) → Contains i.elements e → Contains item.elements e

match : (p : PlanView) (one other : Level) (i : Item) → Axioms p → IsProper p one → IsProper p other → SameElements one other → Contains (items_of one) i → IsMatch other i
match p one other i axioms proper_one proper_other same has = elim (kind_of p one i proper_one has) [
  | inl lone ↦ record {
    item = vertex_item lone.0;
    in_level = lone_item p other lone.0 axioms proper_other (record {
      in_level = same.0 lone.0 lone.1.in_level;
      outer = λ c of has' inside. lone.1.outer c of (same.1 c.exit has') inside;
      no_exit = lone.1.no_exit;
    });
    number = ap (λ (x : Item). x.number) lone.2;
    to = λ e e_in. subst (λ (x : Item). Contains x.elements e) lone.2 e_in;
    from = λ e e_in. subst (λ (x : Item). Contains x.elements e) (sym lone.2) e_in;
  }
  | inr outermost ↦
      let c : Component = outermost.0 in
      let found = outermost_item p other c proper_other (record {
        of = outermost.1.of;
        in_level = same.0 c.exit outermost.1.in_level;
        outer = λ d of has' inside. outermost.1.outer d of (same.1 d.exit has') inside;
      }) in
      record {
        item = found.0;
        in_level = found.1;
        number = found.2.number ∙ sym outermost.2.number;
        to = λ e e_in. outermost.2.has e (found.2.only e e_in);
        from = λ e e_in. found.2.has e (outermost.2.only e e_in);
      }
]

-- so the next items have the same number
next_number_le : (p : PlanView) (one other : Level) (i j : Item) → Axioms p → IsProper p one → IsProper p other → SameElements one other
    → Contains (items_of one) i → IsNext p one i → IsNext p other j → j.number ≤ i.number
next_number_le p one other i j axioms proper_one proper_other same has next_i next_j =
    let m = match p one other i axioms proper_one proper_other same has in
    let small = next_j.least m.item m.in_level (λ a b a_in b_in constrains. m.from a (next_i.ready a b (same.1 a a_in) (m.to b b_in) constrains)) in
    let number = m.number in
    omega (arith, small, number)

flip_same : (one other : Level) → SameElements one other → SameElements other one
flip_same one other same = (same.1, same.0)

-- a vertex and a component are not next in levels of the same elements
vertex_or_component : (p : PlanView) (v head exit : ℕ) (rest more more' : Level) → Axioms p → IsProper p (Vertex_then v more) → IsProper p (Component_then head exit rest more')
    → SameElements (Vertex_then v more) (Component_then head exit rest more') → ⊥
vertex_or_component p v head exit rest more more' axioms proper_one proper_other same =
    let one = Vertex_then v more in
    let other = Component_then head exit rest more' in
    let le = next_number_le p one other (vertex_item v) (component_item head exit rest) axioms proper_one proper_other same (contains_here (vertex_item v) (items_of more)) proper_one.next.0 proper_other.next.0 in
    let ge = next_number_le p other one (component_item head exit rest) (vertex_item v) axioms proper_other proper_one (flip_same one other same) (contains_here (component_item head exit rest) (items_of more')) proper_other.next.0 proper_one.next.0 in
    let heads : v ≡ head = omega (arith, le, ge) in
    let first = first_component p head exit rest more' proper_other in
    let lone = first_vertex p v more proper_one in
    lone.outer first.component first.outermost.of (same.1 first.component.exit first.outermost.in_level)
    (subst (Inside p first.component) (sym heads) ((first.encloses.members head).0 (contains_here head (elements_of rest))))

-- an element of what follows one component follows the other
later_same : (head exit head' exit' : ℕ) (rest more rest' more' : Level) → ArePartsApart head exit rest more
    → head ≡ head' → exit ≡ exit' → ((e : ℕ) → Contains (elements_of rest') e → Contains (elements_of rest) e)
    → SameElements (Component_then head exit rest more) (Component_then head' exit' rest' more')
    → (e : ℕ) → Contains (elements_of more) e → Contains (elements_of more') e
later_same head exit head' exit' rest more rest' more' apart heads exits rests same e has = elim (component_cases head' exit' rest' more' e (same.0 e (in_more head exit rest more e has))) [
  | inl first ↦ absurd (apart.head_more (subst (Contains (elements_of more)) (sym first ∙ sym heads) has))
  | inr others ↦ elim others [
    | inl inner ↦ absurd (apart.rest_more e (rests e inner) has)
    | inr last ↦ elim last [
      | inl at_exit ↦ absurd (apart.exit_more (subst (Contains (elements_of more)) (sym at_exit ∙ sym exits) has))
      | inr later ↦ later
    ]
  ]
]

-- an element of the rest of a component is in any rest of it
rest_same : (p : PlanView) (head exit head' exit' : ℕ) (rest rest' : Level) (c : Component) → Encloses p (record { head = head; exit = exit; members = head ∷ elements_of rest }) c
    → Encloses p (record { head = head'; exit = exit'; members = head' ∷ elements_of rest' }) c → (Contains (elements_of rest) head → ⊥)
    → (e : ℕ) → Contains (elements_of rest) e → Contains (elements_of rest') e
rest_same p head exit head' exit' rest rest' c one other none e has =
    let heads = one.head in
    let heads' = other.head in
    elim (contains_cases head' e (elements_of rest') ((other.members e).1 ((one.members e).0 (contains_there head (elements_of rest) has)))) [
      | inl first ↦ absurd (none (subst (Contains (elements_of rest)) (sym first ∙ heads' ∙ sym heads) has))
      | inr inner ↦ inner
    ]

determined : (p : PlanView) (one other : Level) → Axioms p → IsProper p one → IsProper p other → SameElements one other → one ≡ other
determined p Empty Empty axioms proper_one proper_other same = refl
determined p Empty (Vertex_then v more) axioms proper_one proper_other same = absurd (contains_none (same.1 v (contains_here v (elements_of more))))
determined p Empty (Component_then head exit rest more) axioms proper_one proper_other same =
    absurd (contains_none (same.1 head (contains_here head (elements_of rest ++ exit ∷ elements_of more))))
determined p (Vertex_then v more) Empty axioms proper_one proper_other same = absurd (contains_none (same.0 v (contains_here v (elements_of more))))
determined p (Component_then head exit rest more) Empty axioms proper_one proper_other same =
    absurd (contains_none (same.0 head (contains_here head (elements_of rest ++ exit ∷ elements_of more))))
determined p (Vertex_then v more) (Vertex_then w more') axioms proper_one proper_other same =
    let one = Vertex_then v more in
    let other = Vertex_then w more' in
    let le = next_number_le p one other (vertex_item v) (vertex_item w) axioms proper_one proper_other same (contains_here (vertex_item v) (items_of more)) proper_one.next.0 proper_other.next.0 in
    let ge = next_number_le p other one (vertex_item w) (vertex_item v) axioms proper_other proper_one (flip_same one other same) (contains_here (vertex_item w) (items_of more')) proper_other.next.0 proper_one.next.0 in
    let heads : v ≡ w = omega (arith, le, ge) in
    let tails : more ≡ more' = determined p more more' axioms (proper_after_vertex p v more proper_one) (proper_after_vertex p w more' proper_other) (
      (λ e has. elim (contains_cases w e (elements_of more') (same.0 e (contains_there v (elements_of more) has))) [
        | inl first ↦ absurd (proper_one.apart.0 (subst (Contains (elements_of more)) (sym first ∙ sym heads) has))
        | inr later ↦ later
      ]),
      (λ e has. elim (contains_cases v e (elements_of more) (same.1 e (contains_there w (elements_of more') has))) [
        | inl first ↦ absurd (proper_other.apart.0 (subst (Contains (elements_of more')) (sym first ∙ heads) has))
        | inr later ↦ later
      ]),
    ) in
    ap (λ (x : ℕ). Vertex_then x more) heads ∙ ap (Vertex_then w) tails
determined p (Vertex_then v more) (Component_then head exit rest more') axioms proper_one proper_other same =
    absurd (vertex_or_component p v head exit rest more more' axioms proper_one proper_other same)
determined p (Component_then head exit rest more) (Vertex_then v more') axioms proper_one proper_other same =
    absurd (vertex_or_component p v head exit rest more' more axioms proper_other proper_one (flip_same (Component_then head exit rest more) (Vertex_then v more') same))
determined p (Component_then head exit rest more) (Component_then head' exit' rest' more') axioms proper_one proper_other same =
    let one = Component_then head exit rest more in
    let other = Component_then head' exit' rest' more' in
    let i = component_item head exit rest in
    let j = component_item head' exit' rest' in
    let le = next_number_le p one other i j axioms proper_one proper_other same (contains_here i (items_of more)) proper_one.next.0 proper_other.next.0 in
    let ge = next_number_le p other one j i axioms proper_other proper_one (flip_same one other same) (contains_here j (items_of more')) proper_other.next.0 proper_one.next.0 in
    let heads : head ≡ head' = omega (arith, le, ge) in
    let first = first_component p head exit rest more proper_one in
    let first' = first_component p head' exit' rest' more' proper_other in
    let c : Component = first.component in
    let equal : first'.component ≡ c = same_head p first'.component c axioms first'.outermost.of first.outermost.of (sym first'.encloses.head ∙ sym heads ∙ first.encloses.head) in
    let encloses' : Encloses p (record { head = head'; exit = exit'; members = head' ∷ elements_of rest' }) c = subst (Encloses p (record { head = head'; exit = exit'; members = head' ∷ elements_of rest' })) equal first'.encloses in
    let exits : exit ≡ exit' = first.encloses.exit ∙ sym encloses'.exit in
    let apart = parts_apart head exit rest more proper_one.apart in
    let apart' = parts_apart head' exit' rest' more' proper_other.apart in
    let to = rest_same p head exit head' exit' rest rest' c first.encloses encloses' apart.head_rest in
    let from = rest_same p head' exit' head exit rest' rest c encloses' first.encloses apart'.head_rest in
    let rests : rest ≡ rest' = determined p rest rest' axioms (proper_rest p head exit rest more proper_one) (proper_rest p head' exit' rest' more' proper_other) (to, from) in
    let mores : more ≡ more' = determined p more more' axioms (proper_more p head exit rest more proper_one) (proper_more p head' exit' rest' more' proper_other) (
      later_same head exit head' exit' rest more rest' more' apart heads exits from same,
      later_same head' exit' head exit rest' more' rest more apart' (sym heads) (sym exits) to (flip_same one other same),
    ) in
    ap (λ (x : ℕ). Component_then x exit rest more) heads ∙ ap (λ (x : ℕ). Component_then head' x rest more) exits
    ∙ ap (λ (level : Level). Component_then head' exit' level more) rests ∙ ap (Component_then head' exit' rest') mores

pub linear_same : (p : PlanView) (one other : Level) → Axioms p → IsLinear p one → IsLinear p other → one ≡ other
linear_same p one other axioms linear_one linear_other = determined p one other axioms (proper one linear_one) (proper other linear_other) (
  (λ e has. linear_other.every e (within one linear_one e has)),
  (λ e has. linear_one.every e (within other linear_other e has)),
)
  where
    proper : (level : Level) → IsLinear p level → IsProper p level
    proper level linear = record {
      apart = apart_of (elements_of level) linear.once;
      drawn = linear.drawn;
      enclosed = λ c of has. linear.enclosed c of;
      next = linear.next;
    }

    within : (level : Level) → IsLinear p level → (e : ℕ) → Contains (elements_of level) e → e < p.elements
    within level linear e has = All-contains (λ (x : ℕ). x < p.elements) (elements_of level) e linear.within has
