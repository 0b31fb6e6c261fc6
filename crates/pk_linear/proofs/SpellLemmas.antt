-- Steps that place all elements spell a linear order.
use Rattle.std.proofs.Common.{◌≡◌, ◌≢◌, ◌⊎◌, ℕ, zero, suc, ◌+◌, ◌<◌, ◌≤◌, List, [], ◌∷◌, ◌++◌, length, get_or, refl, sym, ap, subst, ◌∙◌, inl, inr, arith, append_assoc, append-nil, length-append, Contains, AllPairs}
use Rattle.std.proofs.lemmas.Bool.{cases_eq, cases_lt}
use Rattle.std.proofs.lemmas.List.{map-append}
use Rattle.std.proofs.lemmas.List.Elements.{Contains-append_left, Contains-append_right, Contains-append_cases, Contains-get_or}
use Rattle.pk_plan.specs.declared.components.Component.{Component}
use Rattle.pk_plan.specs.declared.places.Role.{Role}
use Rattle.pk_plan.specs.declared.places.Role.TheVariants.{Vertex, Head, Exit}
use Rattle.pk_plan.specs.declared.places.Place.{Place}
use Rattle.pk_plan.specs.Order.{Level, Empty, Vertex_then, Component_then, places_of}
use Rattle.pk_plan.specs.Plans.{PlanView, Constrains, place_of, Inside}
use Rattle.pk_plan.specs.Axioms.{Axioms}
use Rattle.pk_plan.proofs.PlanLemmas.{Of, first_at, end_at, first_before_end, end_within, exit_within, exit_at, head_within, head_is_point, head_inside, inside_by_place, stands_inside, same_place, same_head, same_exit, constrains_from}
use Rattle.pk_linear.specs.Waits.{AreLasts, WaitsFor}
use Rattle.pk_plan.specs.Linear.{elements_of, Item, vertex_item, component_item, items_of, Bracket, brackets_of, IsReady, IsNext, TakesLeastReady, Encloses, IsLinear, GoesForward}
use Rattle.pk_linear.specs.Steps.{elements_at, Stands, IsOpen, IsFree, Follows, HasRole, IsStep, AreSteps, Start, Then}
use Rattle.pk_linear.proofs.ListLemmas.{contains_none, contains_here, contains_there, contains_cases, is_or_is_not, push_split, push_append, nil_of_append, nil_is_not, pairs_push}
use Rattle.pk_linear.proofs.LevelLemmas.{elements_at-places_of, in_rest, in_exit, in_more, component_cases, item_cases, item_rest, item_exit, item_elements, item_number}
use Rattle.pk_linear.proofs.StepLemmas.{vertex_opens, stands_more, stands_right, stands_last, stands_cases, stands_push_cases, waits_itself, map_split, precedes_placed, head_precedes, head_placed, members_placed}

-- the places of all elements, each by a step
pub record AreAll (p : PlanView) (lasts : List ℕ) (all : List Place) : Type 0 where
  pub steps : (before after : List Place) → all ≡ before ++ after → AreSteps p lasts before
  pub step : (before after : List Place) (place : Place) → all ≡ before ++ place ∷ after → IsStep p lasts before place
  pub every : (e : ℕ) → e < p.elements → Stands all e

-- an element whose place is from low on and below high, and that isn't placed
pub record IsLeft (p : PlanView) (places : List Place) (low high e : ℕ) : Type 0 where
  pub within : e < p.elements
  pub from : low ≤ place_of p e
  pub before : place_of p e < high
  pub fresh : Stands places e → ⊥

-- what surrounds a stretch of the listing: all open components do, and what constrains its elements from before it was placed
pub record IsStretch (p : PlanView) (places : List Place) (low high : ℕ) : Type 0 where
  pub inside : (c : Component) → IsOpen p places c → (c.first < low) × (high ≤ c.end)
  pub fits : (c : Component) → Of p c → low ≤ c.first → c.first < high → c.end < high
  pub before : (a b : ℕ) → Constrains p a b → low ≤ place_of p b → place_of p b < high → place_of p a < low → Stands places a
  pub ends : ((low ≡ 0) × (high ≡ p.elements)) ⊎ ((c : Component) × IsOpen p places c × (low ≡ c.first + 1) × (high ≡ c.end))

-- an item is the stretch from its number's place to its last
pub record IsItem (p : PlanView) (lasts : List ℕ) (i : Item) : Type 0 where
  pub within : i.number < p.elements
  pub has : (e : ℕ) → e < p.elements → place_of p i.number ≤ place_of p e → place_of p e ≤ get_or lasts i.number 0 → Contains i.elements e
  pub only : (e : ℕ) → Contains i.elements e → (e < p.elements) × (place_of p i.number ≤ place_of p e) × (place_of p e ≤ get_or lasts i.number 0)

-- the places to come spell a level, and go on with the exit of the component around it
pub record Spells (p : PlanView) (lasts : List ℕ) (places rest : List Place) (low high : ℕ) : Type 0 where
  pub level : Level
  pub after : List Place
  pub spells : rest ≡ places_of level ++ after
  pub left : (e : ℕ) → Contains (elements_of level) e → IsLeft p places low high e
  pub covers : (e : ℕ) → IsLeft p places low high e → Contains (elements_of level) e
  pub items : (i : Item) → Contains (items_of level) i → IsItem p lasts i
  pub next : TakesLeastReady p level
  pub drawn : (bracket : Bracket) → Contains (brackets_of level) bracket → (c : Component) × Of p c × Encloses p bracket c
  pub enclosed : (c : Component) → Of p c → low ≤ c.first → c.first < high → (Stands places c.head → ⊥) → (bracket : Bracket) × Contains (brackets_of level) bracket × Encloses p bracket c
  pub ends : ((after ≡ []) × (high ≡ p.elements)) ⊎ ((place : Place) × (more : List Place) × (after ≡ place ∷ more) × (place.element < p.elements) × (place_of p place.element ≡ high))

-- the element of the step is next among the items of what is left of its level
next_item : (p : PlanView) (lasts : List ℕ) (places : List Place) (place : Place) (low high : ℕ) (level : Level) (item : Item)
    → Axioms p → AreLasts p lasts → IsStep p lasts places place → IsStretch p places low high
    → ((e : ℕ) → Contains (elements_of level) e → IsLeft p places low high e)
    → ((e : ℕ) → IsLeft p places low high e → Contains (elements_of level) e)
    → ((i : Item) → Contains (items_of level) i → IsItem p lasts i)
    → item.number ≡ place.element → IsItem p lasts item
    → IsNext p level item
next_item p lasts places place low high level item axioms are step stretch left covers items is is_item = record { ready = ready; least = least }
  where
    ready : (a b : ℕ) → Contains (elements_of level) a → Contains item.elements b → Constrains p a b → Contains item.elements a
    ready a b a_in b_in c =
        let at : IsLeft p places low high a = left a a_in in
        let b_at = is_item.only b b_in in
        elim (cases_lt (place_of p a) (place_of p item.number)) [
          | inl earlier ↦ absurd (at.fresh (step.free a (
              subst (λ (x : ℕ). WaitsFor p lasts x a) is (b, c, b_at.1, b_at.2, earlier))))
          | inr later ↦ let rises = axioms.rises a b c in let upto = b_at.2 in is_item.has a at.within later (omega (arith, rises, upto))
        ]

    least : (other : Item) → Contains (items_of level) other → IsReady p level other → item.number ≤ other.number
    least other other_in other_ready =
        let f : ℕ = other.number in
        let at : IsLeft p places low high f = left f (item_number level other other_in) in
        let other_is : IsItem p lasts other = items other other_in in
        let free : (a : ℕ) → WaitsFor p lasts f a → Stands places a = (λ a waits.
        let b : ℕ = waits.0 in
        let c : Constrains p a b = waits.1 in
        let b_in : Contains other.elements b = other_is.has b (axioms.within a b c) waits.2 waits.3 in
        let b_at : IsLeft p places low high b = left b (item_elements level other b other_in b_in) in
        elim (is_or_is_not (elements_at places) a) [
          | inl has ↦ has
          | inr none ↦ elim (cases_lt (place_of p a) low) [
            | inl earlier ↦ stretch.before a b c b_at.from b_at.before earlier
            | inr later ↦
                let rises = axioms.rises a b c in
                let upto = b_at.before in
                let a_at : IsLeft p places low high a = record { within = constrains_from p a b axioms c; from = later; before = omega (arith, rises, upto); fresh = none } in
                let a_in = other_ready a b (covers a a_at) b_in c in
                let a_from = (other_is.only a a_in).1 in
                absurd (omega (arith, a_from, waits.4))
          ]
        ]) in
        let inside : (c : Component) → IsOpen p places c → Follows p c f = (λ c is_open.
        let around = stretch.inside c is_open in
        let from = at.from in
        let upto = at.before in
        (omega (arith, around.0, from), omega (arith, around.1, upto))) in
        let small = step.least f at.within at.fresh free inside in
        omega (arith, small, is)

-- more places, by which no component was opened that is open still, and the one around the stretch was not closed
stretch_later : (p : PlanView) (places more : List Place) (low high : ℕ) → IsStretch p places low high
    → ((c : Component) → IsOpen p (places ++ more) c → IsOpen p places c)
    → ((c : Component) → Of p c → high ≡ c.end → Stands more c.exit → ⊥)
    → IsStretch p (places ++ more) low high
stretch_later p places more low high stretch opens still = record {
  inside = λ c is_open. stretch.inside c (opens c is_open);
  fits = stretch.fits;
  before = λ a b c low_b b_high a_low. stands_more places more a (stretch.before a b c low_b b_high a_low);
  ends = elim stretch.ends [
    | inl whole ↦ inl whole
    | inr around ↦ inr (
      around.0,
      (record {
        component = around.1.component;
        head = stands_more places more around.0.head around.1.head;
        exit = λ has. elim (stands_cases places more around.0.exit has) [
          | inl old ↦ around.1.exit old
          | inr new ↦ still around.0 around.1.component around.3 new
        ];
      }),
      around.2,
      around.3,
    )
  ];
}

-- what is left when one more place was written was left before
left_before : (p : PlanView) (places more : List Place) (low high low' high' e : ℕ) → low ≤ low' → high' ≤ high → IsLeft p (places ++ more) low' high' e → IsLeft p places low high e
left_before p places more low high low' high' e lower higher left =
    let from = left.from in
    let before = left.before in
    record { within = left.within; from = omega (arith, from, lower); before = omega (arith, before, higher); fresh = λ has. left.fresh (stands_more places more e has) }

vertex_step : (p : PlanView) (lasts : List ℕ) (places more : List Place) (place : Place) (low high : ℕ)
    → Axioms p → AreLasts p lasts → IsStep p lasts places place → IsStretch p places low high
    → low ≤ place_of p place.element → place_of p place.element < high
    → place.role ≡ Vertex → get_or lasts place.element 0 ≡ place_of p place.element
    → Spells p lasts (places ++ place ∷ []) more low high → Spells p lasts places (place ∷ more) low high
vertex_step p lasts places more place low high axioms are step stretch from before role alone r = record {
  level = level;
  after = r.after;
  spells = ap (λ (q : Place). q ∷ more) spelled_place ∙ ap (λ (ps : List Place). here ∷ ps) r.spells;
  left = left;
  covers = covers;
  items = items;
  next = (next_item p lasts places place low high level (vertex_item v) axioms are step stretch left covers items refl is_item, r.next);
  drawn = r.drawn;
  enclosed = λ c of low_c c_high fresh. r.enclosed c of low_c c_high (λ has. elim (stands_push_cases places place c.head has) [
    | inl old ↦ fresh old
    | inr same ↦
        let last = are.heads c of in
        let first = first_at p c axioms of in
        let order = first_before_end p c axioms of in
        let alone' : get_or lasts c.head 0 ≡ place_of p c.head = subst (λ (x : ℕ). get_or lasts x 0 ≡ place_of p x) same alone in
        absurd (omega (arith, last, first, order, alone'))
  ]);
  ends = r.ends;
}
  where
    v : ℕ
    v = place.element

    level : Level
    level = Vertex_then place.element r.level

    here : Place
    here = record { element = place.element; role = Vertex }

    spelled_place : place ≡ here
    spelled_place = ap (λ (role : Role). let q : Place = record { element = place.element; role = role } in q) role

    left : (e : ℕ) → Contains (place.element ∷ elements_of r.level) e → IsLeft p places low high e
    left e has = elim (contains_cases place.element e (elements_of r.level) has) [
      | inl same ↦ subst (IsLeft p places low high) same (record { within = step.within; from = from; before = before; fresh = step.fresh })
      | inr later ↦ left_before p places (place ∷ []) low high low high e (omega arith) (omega arith) (r.left e later)
    ]

    covers : (e : ℕ) → IsLeft p places low high e → Contains (place.element ∷ elements_of r.level) e
    covers e is_left = elim (cases_eq place.element e) [
      | inl same ↦ subst (Contains (place.element ∷ elements_of r.level)) same (contains_here place.element (elements_of r.level))
      | inr other ↦ contains_there place.element (elements_of r.level) (r.covers e (record {
        within = is_left.within;
        from = is_left.from;
        before = is_left.before;
        fresh = λ has. elim (stands_push_cases places place e has) [ inl old ↦ is_left.fresh old | inr same ↦ other same ];
      }))
    ]

    is_item : IsItem p lasts (vertex_item place.element)
    is_item = record {
      within = step.within;
      has = λ e within from' upto. (
          let same : place.element ≡ e = same_place p place.element e axioms step.within within (omega (arith, from', upto, alone)) in
          subst (Contains (place.element ∷ [])) same (contains_here place.element []));
      only = λ e has. elim (contains_cases place.element e [] has) [
        | inl same ↦ subst (λ (x : ℕ). (x < p.elements) × (place_of p place.element ≤ place_of p x) × (place_of p x ≤ get_or lasts place.element 0)) same (step.within, omega arith, omega (arith, alone))
        | inr none ↦ absurd (contains_none none)
      ];
    }

    items : (i : Item) → Contains (vertex_item place.element ∷ items_of r.level) i → IsItem p lasts i
    items i has = elim (contains_cases (vertex_item place.element) i (items_of r.level) has) [
      | inl same ↦ subst (IsItem p lasts) same is_item
      | inr later ↦ r.items i later
    ]

-- the places of a component before what follows it: its head, its rest, its exit
abbrev enclosed_places : Place → Level → Place → List Place
enclosed_places head rest exit = head ∷ (places_of rest ++ exit ∷ [])

enclosed_cases : (head : Place) (rest : Level) (exit : Place) (e : ℕ) → Stands (enclosed_places head rest exit) e → (head.element ≡ e) ⊎ Contains (elements_of rest) e ⊎ (exit.element ≡ e)
enclosed_cases head rest exit e has = elim (contains_cases head.element e (elements_at (places_of rest ++ exit ∷ [])) has) [
  | inl same ↦ inl same
  | inr others ↦ elim (stands_cases (places_of rest) (exit ∷ []) e others) [
    | inl inner ↦ inr (inl (subst (λ (xs : List ℕ). Contains xs e) (elements_at-places_of rest) inner))
    | inr last ↦ elim (contains_cases exit.element e [] last) [ inl same ↦ inr (inr same) | inr none ↦ absurd (contains_none none) ]
  ]
]

enclosed_rest : (head : Place) (rest : Level) (exit : Place) (e : ℕ) → Contains (elements_of rest) e → Stands (enclosed_places head rest exit) e
enclosed_rest head rest exit e has =
    contains_there head.element (elements_at (places_of rest ++ exit ∷ [])) (stands_more (places_of rest) (exit ∷ []) e (subst (λ (xs : List ℕ). Contains xs e) (sym (elements_at-places_of rest)) has))

enclosed_exit : (head : Place) (rest : Level) (exit : Place) → Stands (enclosed_places head rest exit) exit.element
enclosed_exit head rest exit = contains_there head.element (elements_at (places_of rest ++ exit ∷ [])) (stands_last (places_of rest) exit)

-- what surrounds a component's rest, once its head was placed
stretch_inner : (p : PlanView) (lasts : List ℕ) (places : List Place) (place : Place) (low high : ℕ) (c : Component)
    → Axioms p → AreLasts p lasts → AreSteps p lasts places → IsStep p lasts places place → IsStretch p places low high
    → Of p c → c.head ≡ place.element → low ≤ c.first → c.first < high
    → IsStretch p (places ++ place ∷ []) (c.first + 1) c.end
stretch_inner p lasts places place low high c axioms are steps step stretch of is low_c c_high = record {
  inside = λ d is_open. elim (stands_push_cases places place d.head is_open.head) [
    | inl old ↦
        let around = stretch.inside d (record { component = is_open.component; head = old; exit = λ has. is_open.exit (stands_more places (place ∷ []) d.exit has) }) in
        let ends = axioms.nested d c is_open.component of (omega (arith, around.0, low_c)) (omega (arith, around.1, c_high)) in
        (omega (arith, around.0, low_c), omega (arith, ends))
    | inr new ↦
        let same : c ≡ d = same_head p c d axioms of is_open.component (is ∙ new) in
        subst (λ (x : Component). (x.first < c.first + 1) × (c.end ≤ x.end)) same (omega arith, omega arith)
  ];
  fits = λ d of_d low_d d_high. axioms.nested c d of of_d (omega (arith, low_d)) d_high;
  before = λ a b constrains low_b b_high a_low.
      let first = first_at p c axioms of in
      let at : place_of p c.head ≡ place_of p place.element = ap (place_of p) is in
      elim (cases_lt (place_of p a) (place_of p place.element)) [
        | inl earlier ↦ stands_more places (place ∷ []) a (
            let last : get_or lasts place.element 0 ≡ c.end = ap (λ (x : ℕ). get_or lasts x 0) (sym is) ∙ are.heads c of in
            step.free a (b, constrains, omega (arith, at, first, low_b), omega (arith, last, b_high), earlier))
        | inr later ↦
            let same : place.element ≡ a = same_place p place.element a axioms step.within (constrains_from p a b axioms constrains) (omega (arith, later, a_low, at, first)) in
            subst (Stands (places ++ place ∷ [])) same (stands_last places place)
      ];
  ends = inr (
    c,
    (record {
      component = of;
      head = subst (Stands (places ++ place ∷ [])) (sym is) (stands_last places place);
      exit = λ has. elim (stands_push_cases places place c.exit has) [
        | inl old ↦ step.fresh (subst (Stands places) is (precedes_placed p lasts places c.head c.exit axioms are steps old (head_precedes p c c.exit axioms of (exit_within p c axioms of) (exit_follows p c axioms of))))
        | inr new ↦
            let point = head_is_point p c axioms of in
            let at = exit_at p c axioms of in
            absurd (omega (arith, point, at, is, new))
      ];
    }),
    refl,
    refl,
  );
}
  where
    exit_follows : (p : PlanView) (c : Component) → Axioms p → Of p c → Follows p c c.exit
    exit_follows p c axioms of =
        let order = first_before_end p c axioms of in
        let end = end_at p c axioms of in
        (omega (arith, order, end), omega (arith, end))

component_step : (p : PlanView) (lasts : List ℕ) (places more tail : List Place) (head exit : Place) (low high : ℕ) (c : Component)
    → Axioms p → AreLasts p lasts → AreSteps p lasts places → IsStep p lasts places head → IsStretch p places low high
    → Of p c → c.head ≡ head.element → low ≤ c.first → c.first < high
    → head.role ≡ Head
    → (r : Spells p lasts (places ++ head ∷ []) more (c.first + 1) c.end)
    → r.after ≡ exit ∷ tail → exit.element ≡ c.exit → exit.role ≡ Exit (length (places_of r.level) + 1)
    → Spells p lasts (places ++ enclosed_places head r.level exit) tail low high
    → Spells p lasts places (head ∷ more) low high
component_step p lasts places more tail head exit low high c axioms are steps step stretch of is low_c c_high role r after is_exit exit_role s = record {
  level = level;
  after = s.after;
  spells = spelled;
  left = left;
  covers = covers;
  items = items;
  next = (next_item p lasts places head low high level (component_item head.element c.exit r.level) axioms are step stretch left covers items refl is_item, r.next, s.next);
  drawn = drawn;
  enclosed = enclosed;
  ends = s.ends;
}
  where
    level : Level
    level = Component_then head.element c.exit r.level s.level

    h : Place
    h = record { element = head.element; role = Head }

    x : Place
    x = record { element = c.exit; role = Exit (length (places_of r.level) + 1) }

    is_h : head ≡ h
    is_h = ap (λ (role : Role). let q : Place = record { element = head.element; role = role } in q) role

    is_x : exit ≡ x
    is_x = ap (λ (role : Role). let q : Place = record { element = exit.element; role = role } in q) exit_role
        ∙ ap (λ (e : ℕ). let q : Place = record { element = e; role = Exit (length (places_of r.level) + 1) } in q) is_exit

    spelled : head ∷ more ≡ places_of level ++ s.after
    spelled =
        ap (λ (q : Place). q ∷ more) is_h
        ∙ ap (λ (ps : List Place). h ∷ ps) (
        r.spells
        ∙ ap (λ (ps : List Place). places_of r.level ++ ps) (after ∙ ap (λ (q : Place). q ∷ tail) is_x ∙ ap (λ (ps : List Place). x ∷ ps) s.spells)
        ∙ sym (append_assoc (places_of r.level) (x ∷ places_of s.level) s.after))

    first : c.first ≡ place_of p head.element
    first = first_at p c axioms of ∙ ap (place_of p) is

    last : get_or lasts head.element 0 ≡ c.end
    last = ap (λ (e : ℕ). get_or lasts e 0) (sym is) ∙ are.heads c of

    order : c.first < c.end
    order = first_before_end p c axioms of

    end_below : c.end < high
    end_below = stretch.fits c of low_c c_high

    end : c.end ≡ place_of p c.exit
    end = end_at p c axioms of

    -- what follows the head in the component isn't placed before it
    unplaced : (e : ℕ) → e < p.elements → c.first < place_of p e → place_of p e ≤ c.end → Stands places e → ⊥
    unplaced e within from upto has = step.fresh (subst (Stands places) is (precedes_placed p lasts places c.head e axioms are steps has (head_precedes p c e axioms of within (from, upto))))

    left : (e : ℕ) → Contains (elements_of (Component_then head.element c.exit r.level s.level)) e → IsLeft p places low high e
    left e has = elim (component_cases head.element c.exit r.level s.level e has) [
      | inl same ↦ subst (IsLeft p places low high) same (record { within = step.within; from = omega (arith, first, low_c); before = omega (arith, first, c_high); fresh = step.fresh })
      | inr others ↦ elim others [
        | inl inner ↦ left_before p places (head ∷ []) low high (c.first + 1) c.end e (omega (arith, low_c)) (omega (arith, end_below)) (r.left e inner)
        | inr later ↦ elim later [
          | inl same ↦ subst (IsLeft p places low high) same (record {
            within = exit_within p c axioms of;
            from = omega (arith, end, order, low_c);
            before = omega (arith, end, end_below);
            fresh = unplaced c.exit (exit_within p c axioms of) (omega (arith, end, order)) (omega (arith, end));
          })
          | inr following ↦ left_before p places (enclosed_places head r.level exit) low high low high e (omega arith) (omega arith) (s.left e following)
        ]
      ]
    ]

    covers : (e : ℕ) → IsLeft p places low high e → Contains (elements_of (Component_then head.element c.exit r.level s.level)) e
    covers e is_left = elim (is_or_is_not (elements_at (places ++ enclosed_places head r.level exit)) e) [
      | inl has ↦ elim (stands_cases places (enclosed_places head r.level exit) e has) [
        | inl old ↦ absurd (is_left.fresh old)
        | inr new ↦ elim (enclosed_cases head r.level exit e new) [
          | inl same ↦ subst (Contains (elements_of level)) same (contains_here head.element (elements_of r.level ++ c.exit ∷ elements_of s.level))
          | inr others ↦ elim others [
            | inl inner ↦ in_rest head.element c.exit r.level s.level e inner
            | inr same ↦ subst (Contains (elements_of level)) (sym is_exit ∙ same) (in_exit head.element c.exit r.level s.level)
          ]
        ]
      ]
      | inr none ↦ in_more head.element c.exit r.level s.level e (s.covers e (record { within = is_left.within; from = is_left.from; before = is_left.before; fresh = none }))
    ]

    -- what follows the head in the component stands in the rest
    inner : (e : ℕ) → e < p.elements → c.first < place_of p e → place_of p e < c.end → Contains (elements_of r.level) e
    inner e within from before = r.covers e (record {
      within = within;
      from = omega (arith, from);
      before = before;
      fresh = λ has. elim (stands_push_cases places head e has) [
        | inl old ↦ unplaced e within from (omega (arith, before)) old
        | inr same ↦ let at : place_of p head.element ≡ place_of p e = ap (place_of p) same in absurd (omega (arith, at, first, from))
      ];
    })

    is_item : IsItem p lasts (component_item head.element c.exit r.level)
    is_item = record {
      within = step.within;
      has = λ e within from upto. elim (cases_lt (place_of p head.element) (place_of p e)) [
        | inl later ↦ elim (cases_lt (place_of p e) c.end) [
          | inl before ↦ item_rest head.element c.exit r.level e (inner e within (omega (arith, first, later)) before)
          | inr at_end ↦
              let same : c.exit ≡ e = same_place p c.exit e axioms (exit_within p c axioms of) within (omega (arith, end, at_end, upto, last)) in
              subst (Contains (component_item head.element c.exit r.level).elements) same (item_exit head.element c.exit r.level)
        ]
        | inr at_first ↦
            let same : head.element ≡ e = same_place p head.element e axioms step.within within (omega (arith, from, at_first)) in
            subst (Contains (component_item head.element c.exit r.level).elements) same (contains_here head.element (elements_of r.level ++ c.exit ∷ []))
      ];
      only = λ e has. elim (item_cases head.element c.exit r.level e has) [
        | inl same ↦ subst (λ (x : ℕ). (x < p.elements) × (place_of p head.element ≤ place_of p x) × (place_of p x ≤ get_or lasts head.element 0)) same (step.within, omega arith, omega (arith, first, last, order))
        | inr others ↦ elim others [
          | inl in_level ↦
              let l : IsLeft p (places ++ head ∷ []) (c.first + 1) c.end e = r.left e in_level in
              let from = l.from in
              let before = l.before in
              (l.within, omega (arith, from, first), omega (arith, before, last))
          | inr same ↦ subst (λ (x : ℕ). (x < p.elements) × (place_of p head.element ≤ place_of p x) × (place_of p x ≤ get_or lasts head.element 0)) same (exit_within p c axioms of, omega (arith, end, first, order), omega (arith, end, last))
        ]
      ];
    }

    items : (i : Item) → Contains (component_item head.element c.exit r.level ∷ items_of s.level) i → IsItem p lasts i
    items i has = elim (contains_cases (component_item head.element c.exit r.level) i (items_of s.level) has) [
      | inl same ↦ subst (IsItem p lasts) same is_item
      | inr later ↦ s.items i later
    ]

    own : Bracket
    own = record { head = head.element; exit = c.exit; members = head.element ∷ elements_of r.level }

    own_encloses : Encloses p own c
    own_encloses = record {
      head = sym is;
      exit = refl;
      members = λ e. (
        (λ has. elim (contains_cases head.element e (elements_of r.level) has) [
          | inl same ↦ subst (Inside p c) (is ∙ same) (head_inside p c axioms of)
          | inr in_level ↦
              let l : IsLeft p (places ++ head ∷ []) (c.first + 1) c.end e = r.left e in_level in
              let from = l.from in
              inside_by_place p c e axioms of (record { within = l.within; from = omega (arith, from); before = l.before })
        ]),
        (λ inside.
            let stands = stands_inside p c e axioms of inside in
            let from = stands.from in
            elim (cases_lt c.first (place_of p e)) [
              | inl later ↦ contains_there head.element (elements_of r.level) (inner e stands.within later stands.before)
              | inr at_first ↦
                  let same : head.element ≡ e = same_place p head.element e axioms step.within stands.within (omega (arith, first, from, at_first)) in
                  subst (Contains (head.element ∷ elements_of r.level)) same (contains_here head.element (elements_of r.level))
            ]),
      );
    }

    drawn : (bracket : Bracket) → Contains (brackets_of (Component_then head.element c.exit r.level s.level)) bracket → (d : Component) × Of p d × Encloses p bracket d
    drawn bracket has = elim (contains_cases own bracket (brackets_of r.level ++ brackets_of s.level) has) [
      | inl same ↦ (c, of, subst (λ (x : Bracket). Encloses p x c) same own_encloses)
      | inr others ↦ elim (Contains-append_cases (brackets_of r.level) (brackets_of s.level) bracket others) [
        | inl in_level ↦ r.drawn bracket in_level
        | inr later ↦ s.drawn bracket later
      ]
    ]

    enclosed : (d : Component) → Of p d → low ≤ d.first → d.first < high → (Stands places d.head → ⊥) → (bracket : Bracket) × Contains (brackets_of (Component_then head.element c.exit r.level s.level)) bracket × Encloses p bracket d
    enclosed d of_d low_d d_high fresh = elim (cases_eq head.element d.head) [
      | inl same ↦
          let equal : c ≡ d = same_head p c d axioms of of_d (is ∙ same) in
          (own, contains_here own (brackets_of r.level ++ brackets_of s.level), subst (Encloses p own) equal own_encloses)
      | inr other ↦ elim (is_or_is_not (elements_of r.level) d.head) [
        | inl in_level ↦
            let l : IsLeft p (places ++ head ∷ []) (c.first + 1) c.end d.head = r.left d.head in_level in
            let from = l.from in
            let before = l.before in
            let first_d = first_at p d axioms of_d in
            let found = r.enclosed d of_d (omega (arith, from, first_d)) (omega (arith, before, first_d)) l.fresh in
            (found.0, contains_there own (brackets_of r.level ++ brackets_of s.level) (Contains-append_left (brackets_of r.level) (brackets_of s.level) found.0 found.1), found.2)
        | inr none ↦
            let found = s.enclosed d of_d low_d d_high (λ has. elim (stands_cases places (enclosed_places head r.level exit) d.head has) [
              | inl old ↦ fresh old
              | inr new ↦ elim (enclosed_cases head r.level exit d.head new) [
                | inl same ↦ other same
                | inr others ↦ elim others [
                  | inl in_level ↦ none in_level
                  | inr same ↦
                      let point = head_is_point p d axioms of_d in
                      let at = exit_at p c axioms of in
                      absurd (omega (arith, point, at, is_exit, same))
                ]
              ]
            ]) in
            (found.0, contains_there own (brackets_of r.level ++ brackets_of s.level) (Contains-append_right (brackets_of r.level) (brackets_of s.level) found.0 found.1), found.2)
      ]
    ]

-- nothing is left of the stretch
spells_nothing : (p : PlanView) (lasts : List ℕ) (places rest : List Place) (low high : ℕ) → Axioms p
    → ((e : ℕ) → IsLeft p places low high e → ⊥)
    → ((rest ≡ []) × (high ≡ p.elements)) ⊎ ((place : Place) × (more : List Place) × (rest ≡ place ∷ more) × (place.element < p.elements) × (place_of p place.element ≡ high))
    → Spells p lasts places rest low high
spells_nothing p lasts places rest low high axioms none ends = record {
  level = Empty;
  after = rest;
  spells = refl;
  left = λ e has. absurd (contains_none has);
  covers = λ e is_left. absurd (none e is_left);
  items = λ i has. absurd (contains_none has);
  next = tt;
  drawn = λ bracket has. absurd (contains_none has);
  enclosed = λ c of low_c c_high fresh.
      let first = first_at p c axioms of in
      absurd (none c.head (record { within = head_within p c axioms of; from = omega (arith, first, low_c); before = omega (arith, first, c_high); fresh = fresh }));
  ends = ends;
}

abbrev Spelled : PlanView → List ℕ → List Place → ℕ → Type 0
Spelled p lasts all n = (places rest : List Place) (low high : ℕ) → all ≡ places ++ rest → length rest ≤ n → IsStretch p places low high → Spells p lasts places rest low high

-- the exit at which a component's rest ends
exit_place : (p : PlanView) (lasts : List ℕ) (all places : List Place) (head exit : Place) (rest : Level) (tail : List Place) (c : Component)
    → Axioms p → AreAll p lasts all → Of p c → c.head ≡ head.element
    → all ≡ places ++ head ∷ (places_of rest ++ exit ∷ tail) → exit.element ≡ c.exit → exit.role ≡ Exit (length (places_of rest) + 1)
exit_place p lasts all places head exit rest tail c axioms whole of is split is_exit = by_role exit.role refl step.role
  where
    before : List Place
    before = places ++ head ∷ places_of rest

    step : IsStep p lasts before exit
    step = whole.step before tail exit (split ∙ sym (append_assoc places (head ∷ places_of rest) (exit ∷ tail)))

    by_role : (role : Role) → exit.role ≡ role → HasRole p lasts before exit.element role → role ≡ Exit (length (places_of rest) + 1)
    by_role Vertex r has = absurd (has.1 c of (sym is_exit))
    by_role Head r has =
        let point = head_is_point p has.0 axioms has.1 in
        let at = exit_at p c axioms of in
        absurd (omega (arith, point, at, has.2, is_exit))
    by_role (Exit back) r has =
        let same : has.0 ≡ c = same_exit p has.0 c axioms has.1 of (has.2 ∙ is_exit) in
        let back_is : back ≡ length (places_of rest) + 1 = has.3 places (places_of rest) head refl (sym is ∙ ap (λ (d : Component). d.head) (sym same)) in
        ap Exit back_is

-- one more element
step_on : (p : PlanView) (lasts : List ℕ) (all : List Place) (n : ℕ) → Axioms p → AreLasts p lasts → AreAll p lasts all → Spelled p lasts all n
    → (places more : List Place) (place : Place) (low high : ℕ) → all ≡ places ++ place ∷ more → length more ≤ n → IsStretch p places low high
    → low ≤ place_of p place.element → place_of p place.element < high → Spells p lasts places (place ∷ more) low high
step_on p lasts all n axioms are whole spell places more place low high split long stretch from before = by_role place.role refl step.role
  where
    step : IsStep p lasts places place
    step = whole.step places more place split

    steps : AreSteps p lasts places
    steps = whole.steps places (place ∷ more) split

    split_on : all ≡ (places ++ place ∷ []) ++ more
    split_on = split ∙ sym (append_assoc places (place ∷ []) more)

    component : (c : Component) → Of p c → c.head ≡ place.element → place.role ≡ Head → Spells p lasts places (place ∷ more) low high
    component c of is role = elim r.ends [
      | inl whole_end ↦ let below = end_within p c axioms of in absurd (omega (arith, below, whole_end.1))
      | inr e ↦
          let exit : Place = e.0 in
          let tail : List Place = e.1 in
          let after : r.after ≡ exit ∷ tail = e.2 in
          let end = end_at p c axioms of in
          let at_end : place_of p exit.element ≡ c.end = e.4 in
          let is_exit : exit.element ≡ c.exit = same_place p exit.element c.exit axioms e.3 (exit_within p c axioms of) (at_end ∙ end) in
          let more_is : more ≡ places_of r.level ++ exit ∷ tail = r.spells ∙ ap (λ (ps : List Place). places_of r.level ++ ps) after in
          let split_exit : all ≡ places ++ place ∷ (places_of r.level ++ exit ∷ tail) = split ∙ ap (λ (ps : List Place). places ++ place ∷ ps) more_is in
          let exit_role : exit.role ≡ Exit (length (places_of r.level) + 1) = exit_place p lasts all places place exit r.level tail c axioms whole of is split_exit is_exit in
          let split_later : all ≡ (places ++ enclosed_places place r.level exit) ++ tail =
          split_exit ∙ ap (λ (ps : List Place). places ++ place ∷ ps) (sym (append_assoc (places_of r.level) (exit ∷ []) tail)) ∙ sym (append_assoc places (enclosed_places place r.level exit) tail) in
          let tail_long : length tail ≤ n = (let l = ap length more_is in let m = length-append (places_of r.level) (exit ∷ tail) in omega (arith, l, m, long)) in
          let later : IsStretch p (places ++ enclosed_places place r.level exit) low high = stretch_later p places (enclosed_places place r.level exit) low high stretch (opens r exit is_exit) (still r exit is_exit) in
          component_step p lasts places more tail place exit low high c axioms are steps step stretch of is low_c c_high role r after is_exit exit_role
          (spell (places ++ enclosed_places place r.level exit) tail low high split_later tail_long later)
    ]
      where
        first : c.first ≡ place_of p place.element
        first = first_at p c axioms of ∙ ap (place_of p) is

        low_c : low ≤ c.first
        low_c = omega (arith, first, from)

        c_high : c.first < high
        c_high = omega (arith, first, before)

        r : Spells p lasts (places ++ place ∷ []) more (c.first + 1) c.end
        r = spell (places ++ place ∷ []) more (c.first + 1) c.end split_on long (stretch_inner p lasts places place low high c axioms are steps step stretch of is low_c c_high)

        opens : (r : Spells p lasts (places ++ place ∷ []) more (c.first + 1) c.end) (exit : Place) → exit.element ≡ c.exit → (d : Component) → IsOpen p (places ++ enclosed_places place r.level exit) d → IsOpen p places d
        opens r exit is_exit d is_open = record {
          component = is_open.component;
          head = elim (stands_cases places (enclosed_places place r.level exit) d.head is_open.head) [
            | inl old ↦ old
            | inr new ↦ elim (enclosed_cases place r.level exit d.head new) [
              | inl same ↦
                  let equal : c ≡ d = same_head p c d axioms of is_open.component (is ∙ same) in
                  let gone : exit.element ≡ d.exit = is_exit ∙ ap (λ (x : Component). x.exit) equal in
                  absurd (is_open.exit (subst (Stands (places ++ enclosed_places place r.level exit)) gone
                  (stands_right places (enclosed_places place r.level exit) exit.element (enclosed_exit place r.level exit))))
              | inr others ↦ elim others [
                | inl inner ↦ absurd (closed d is_open (r.left d.head inner))
                | inr same ↦
                    let point = head_is_point p d axioms is_open.component in
                    let at = exit_at p c axioms of in
                    absurd (omega (arith, point, at, is_exit, same))
              ]
            ]
          ];
          exit = λ has. is_open.exit (stands_more places (enclosed_places place r.level exit) d.exit has);
        }
          where
            -- a component whose head is in the rest ends there
            closed : (d : Component) → IsOpen p (places ++ enclosed_places place r.level exit) d → IsLeft p (places ++ place ∷ []) (c.first + 1) c.end d.head → ⊥
            closed d is_open l =
                let of_d : Of p d = is_open.component in
                let first_d = first_at p d axioms of_d in
                let end_d = end_at p d axioms of_d in
                let order_d = first_before_end p d axioms of_d in
                let l_from = l.from in
                let l_before = l.before in
                let ends = axioms.nested c d of of_d (omega (arith, first_d, l_from)) (omega (arith, first_d, l_before)) in
                let none : Stands (places ++ place ∷ []) d.exit → ⊥ = (λ has. elim (stands_push_cases places place d.exit has) [
                  | inl old ↦ is_open.exit (stands_more places (enclosed_places place r.level exit) d.exit old)
                  | inr same ↦ is_open.exit (subst (Stands (places ++ enclosed_places place r.level exit)) same
                      (stands_right places (enclosed_places place r.level exit) place.element (contains_here place.element (elements_at (places_of r.level ++ exit ∷ [])))))
                ]) in
                let inner : Contains (elements_of r.level) d.exit = r.covers d.exit (record {
                  within = exit_within p d axioms of_d;
                  from = omega (arith, end_d, order_d, first_d, l_from);
                  before = omega (arith, end_d, ends);
                  fresh = none;
                }) in
                is_open.exit (stands_right places (enclosed_places place r.level exit) d.exit (enclosed_rest place r.level exit d.exit inner))

        still : (r : Spells p lasts (places ++ place ∷ []) more (c.first + 1) c.end) (exit : Place) → exit.element ≡ c.exit → (d : Component) → Of p d → high ≡ d.end → Stands (enclosed_places place r.level exit) d.exit → ⊥
        still r exit is_exit d of_d ends has =
            let end_d = end_at p d axioms of_d in
            let end_c = end_at p c axioms of in
            let below = stretch.fits c of low_c c_high in
            elim (enclosed_cases place r.level exit d.exit has) [
              | inl same ↦ let at : place_of p place.element ≡ place_of p d.exit = ap (place_of p) same in absurd (omega (arith, at, end_d, ends, before))
              | inr others ↦ elim others [
                | inl inner ↦ let l_before = (r.left d.exit inner).before in absurd (omega (arith, l_before, end_d, ends, below))
                | inr same ↦ let at : place_of p c.exit ≡ place_of p d.exit = ap (place_of p) (sym is_exit ∙ same) in absurd (omega (arith, at, end_d, end_c, ends, below))
              ]
            ]

    by_role : (role : Role) → place.role ≡ role → HasRole p lasts places place.element role → Spells p lasts places (place ∷ more) low high
    by_role Vertex role has =
        vertex_step p lasts places more place low high axioms are step stretch from before role has.0
        (spell (places ++ place ∷ []) more low high split_on long
        (stretch_later p places (place ∷ []) low high stretch (vertex_opens p lasts places place axioms are has.0)
        (λ c of ends new. elim (contains_cases place.element c.exit [] new) [
          | inl same ↦ has.1 c of (sym same)
          | inr none ↦ contains_none none
        ])))
    by_role Head role has = component has.0 has.1 has.2 role
    by_role (Exit back) role has =
        let c : Component = has.0 in
        let of : Of p c = has.1 in
        let end = end_at p c axioms of ∙ ap (place_of p) has.2 in
        let order = first_before_end p c axioms of in
        let head : Stands places c.head = head_placed p lasts places c place.element axioms are steps of step.within (omega (arith, end, order), omega (arith, end)) step.free in
        let around = stretch.inside c (record { component = of; head = head; exit = λ gone. step.fresh (subst (Stands places) has.2 gone) }) in
        absurd (omega (arith, around.1, end, before))

-- one more element, or the end of the stretch
element_on : (p : PlanView) (lasts : List ℕ) (all : List Place) (n : ℕ) → Axioms p → AreLasts p lasts → AreAll p lasts all → Spelled p lasts all n
    → (places more : List Place) (place : Place) (low high : ℕ) → all ≡ places ++ place ∷ more → length more ≤ n → IsStretch p places low high
    → Spells p lasts places (place ∷ more) low high
element_on p lasts all n axioms are whole spell places more place low high split long stretch = elim stretch.ends [
  | inl none_around ↦
      let place_in = axioms.place place.element step.within in
      go_on (omega (arith, none_around.0)) (omega (arith, none_around.1, place_in))
  | inr around ↦
      let c : Component = around.0 in
      let of : Of p c = around.1.component in
      let follows = step.inside c around.1 in
      elim (cases_lt (place_of p place.element) high) [
        | inl before ↦ go_on (omega (arith, around.2, follows.0)) before
        | inr at_end ↦
            let end = end_at p c axioms of in
            let is_exit : place.element ≡ c.exit = same_place p place.element c.exit axioms step.within (exit_within p c axioms of) (omega (arith, end, around.3, at_end, follows.1)) in
            spells_nothing p lasts places (place ∷ more) low high axioms
            (λ e is_left.
            let from = is_left.from in
            let before = is_left.before in
            is_left.fresh (members_placed p lasts places c e axioms are (whole.steps places (place ∷ more) split) of (subst (IsFree p lasts places) is_exit step.free) is_left.within (omega (arith, from, around.2)) (omega (arith, before, around.3))))
            (inr (place, more, refl, step.within, omega (arith, around.3, at_end, follows.1)))
      ]
]
  where
    step : IsStep p lasts places place
    step = whole.step places more place split

    go_on : low ≤ place_of p place.element → place_of p place.element < high → Spells p lasts places (place ∷ more) low high
    go_on from before = step_on p lasts all n axioms are whole spell places more place low high split long stretch from before

-- a stretch is spelled, whatever is left of it
spelled : (p : PlanView) (lasts : List ℕ) (all : List Place) (n : ℕ) → Axioms p → AreLasts p lasts → AreAll p lasts all → Spelled p lasts all n
spelled p lasts all n axioms are whole places [] low high split long stretch = elim stretch.ends [
  | inl none_around ↦
      spells_nothing p lasts places [] low high axioms
      (λ e is_left. is_left.fresh (subst (λ (ps : List Place). Stands ps e) (split ∙ append-nil places) (whole.every e is_left.within)))
      (inl (refl, none_around.1))
  | inr around ↦
      absurd (around.1.exit (subst (λ (ps : List Place). Stands ps around.0.exit) (split ∙ append-nil places) (whole.every around.0.exit (exit_within p around.0 axioms around.1.component))))
]
spelled p lasts all zero axioms are whole places (place ∷ more) low high split long stretch = absurd (omega (arith, long))
spelled p lasts all (suc n) axioms are whole places (place ∷ more) low high split long stretch =
    element_on p lasts all n axioms are whole (spelled p lasts all n axioms are whole) places more place low high split (omega (arith, long)) stretch

-- each prefix of steps is steps
steps_before : (p : PlanView) (lasts : List ℕ) (all before after : List Place) → AreSteps p lasts all → all ≡ before ++ after → AreSteps p lasts before
steps_before p lasts _ before after Start split = subst (AreSteps p lasts) (sym (nil_of_append before after (sym split))) Start
steps_before p lasts _ before after (Then {places} {place} steps step) split = elim (push_append places before after place split) [
  | inl end ↦ subst (AreSteps p lasts) (sym end.1) (Then steps step)
  | inr inner ↦ steps_before p lasts places before inner.0 steps inner.2
]

step_at : (p : PlanView) (lasts : List ℕ) (all before after : List Place) (place : Place) → AreSteps p lasts all → all ≡ before ++ place ∷ after → IsStep p lasts before place
step_at p lasts _ before after place Start split = absurd (nil_is_not before after place split)
step_at p lasts _ before after place (Then {places} {place = last} steps step) split = elim (push_split places before after last place split) [
  | inl end ↦ subst (λ (q : Place). IsStep p lasts before q) end.1 (subst (λ (ps : List Place). IsStep p lasts ps last) end.0 step)
  | inr inner ↦ step_at p lasts places before inner.0 place steps inner.2
]

-- no element is placed twice
pub steps_differ : (p : PlanView) (lasts : List ℕ) (all : List Place) → AreSteps p lasts all → AllPairs (λ a b. a ≢ b) (elements_at all)
steps_differ p lasts _ Start = λ i j d less within. absurd (omega (arith, within))
steps_differ p lasts _ (Then {places} {place} steps step) =
    subst (AllPairs (λ (a b : ℕ). a ≢ b)) (sym (map-append (λ (q : Place). q.element) places (place ∷ [])))
    (pairs_push (elements_at places) place.element (steps_differ p lasts places steps) step.fresh)

-- steps that place all elements spell the linear order
pub record SpellsOrder (p : PlanView) (places : List Place) : Type 0 where
  pub level : Level
  pub spells : places ≡ places_of level
  pub linear : IsLinear p level
  pub forward : GoesForward p level

pub steps_spell : (p : PlanView) (lasts : List ℕ) (all : List Place) → Axioms p → AreLasts p lasts → AreSteps p lasts all → ((e : ℕ) → e < p.elements → Stands all e) → SpellsOrder p all
steps_spell p lasts all axioms are steps every = record {
  level = s.level;
  spells = spells;
  linear = record {
    within = λ k d in_range. (s.left (get_or (elements_of s.level) k d) (Contains-get_or (elements_of s.level) k d in_range)).within;
    every = λ e within. s.covers e (record { within = within; from = omega arith; before = axioms.place e within; fresh = λ has. contains_none has });
    once = subst (AllPairs (λ (a b : ℕ). a ≢ b)) elements (steps_differ p lasts all steps);
    drawn = s.drawn;
    enclosed = λ c of.
        let first = first_at p c axioms of in
        let at = axioms.place c.head (head_within p c axioms of) in
        s.enclosed c of (omega arith) (omega (arith, first, at)) (λ has. contains_none has);
    next = s.next;
  };
  forward = λ a b before after constrains split.
      let at = map_split all before after b (elements ∙ split) in
      let step = step_at p lasts all at.before at.after at.place steps at.is in
      subst (λ (xs : List ℕ). Contains xs a) at.first (step.free a (waits_itself p lasts a at.place.element axioms are (subst (Constrains p a) (sym at.element) constrains)));
}
  where
    whole : AreAll p lasts all
    whole = record {
      steps = λ before after split. steps_before p lasts all before after steps split;
      step = λ before after place split. step_at p lasts all before after place steps split;
      every = every;
    }

    stretch : IsStretch p [] 0 p.elements
    stretch = record {
      inside = λ c is_open. absurd (contains_none is_open.head);
      fits = λ c of low_c c_high. end_within p c axioms of;
      before = λ a b constrains low_b b_high a_low. absurd (omega (arith, a_low));
      ends = inl (refl, refl);
    }

    s : Spells p lasts [] all 0 p.elements
    s = spelled p lasts all (length all) axioms are whole [] all 0 p.elements refl (omega arith) stretch

    spells : all ≡ places_of s.level
    spells = s.spells ∙ ap (λ (ps : List Place). places_of s.level ++ ps) nothing_after ∙ append-nil (places_of s.level)
      where
        nothing_after : s.after ≡ []
        nothing_after = elim s.ends [
          | inl end ↦ end.0
          | inr e ↦ let at = axioms.place e.0.element e.3 in absurd (omega (arith, e.4, at))
        ]

    elements : elements_at all ≡ elements_of s.level
    elements = ap elements_at spells ∙ elements_at-places_of s.level
