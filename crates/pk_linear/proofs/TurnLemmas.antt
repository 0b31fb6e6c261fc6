-- How the open components and what is ready change by one more place.
use Rattle.std.proofs.Common.{◌≡◌, ◌≢◌, ◌⊎◌, ℕ, ◌+◌, ◌-◌, ◌<◌, ◌≤◌, List, [], ◌∷◌, ◌++◌, length, get_or, reverse, refl, sym, ap, subst, ◌∙◌, inl, inr, arith, length-append, Contains, All}
use Rattle.std.specs.BTreeSet.{BTreeSet}
use Rattle.std.proofs.lemmas.Bool.{cases_lt}
use Rattle.std.proofs.lemmas.List.{reverse-append, get_or_default}
use Rattle.std.proofs.lemmas.List.Elements.{Contains-append_left, Contains-append_right, Contains-push, Contains-push_cases, All-contains}
use Rattle.pk_plan.specs.declared.components.Component.{Component}
use Rattle.pk_plan.specs.declared.places.Role.{Role}
use Rattle.pk_plan.specs.declared.places.Role.TheVariants.{Vertex, Head, Exit}
use Rattle.pk_plan.specs.declared.places.Place.{Place}
use Rattle.pk_plan.specs.Plans.{PlanView, place_of}
use Rattle.pk_plan.specs.Axioms.{Axioms}
use Rattle.pk_plan.proofs.PlanLemmas.{Of, first_at, end_at, first_before_end, exit_within, exit_at, head_is_point, same_place, same_head}
use Rattle.pk_linear.specs.declared.progress.Opened.{Opened}
use Rattle.pk_linear.specs.declared.progress.Progress.{Progress}
use Rattle.pk_linear.specs.Steps.{elements_at, Stands, IsOpen, IsFree, Follows, HasRole, IsStep}
use Rattle.pk_linear.specs.Progress.{IsCandidate, IsOpened, AreOpened, IsReadyAround, IsKnown, Turns}
use Rattle.pk_linear.proofs.ListLemmas.{contains_none, contains_here, contains_there, contains_cases, push_split}
use Rattle.pk_linear.proofs.StepLemmas.{vertex_opens, stands_more, stands_right, stands_last, stands_push_cases, find_component, free_more, precedes_placed, head_precedes, head_placed, members_placed}

-- what a list reversed holds
pub reverse_push : {X : Type 0} (xs : List X) (x : X) → reverse (xs ++ x ∷ []) ≡ x ∷ reverse xs
reverse_push xs x = reverse-append xs (x ∷ [])

pub contains_reverse : {X : Type 0} (xs : List X) (x : X) → Contains xs x → Contains (reverse xs) x
contains_reverse [] x has = has
contains_reverse (y ∷ xs) x has =
    subst (λ (zs : List _). Contains zs x) (sym (reverse-append (y ∷ []) xs))
    (elim (contains_cases y x xs has) [
      | inl same ↦ Contains-append_right (reverse xs) (y ∷ []) x (subst (Contains (y ∷ [])) same (contains_here y []))
      | inr later ↦ Contains-append_left (reverse xs) (y ∷ []) x (contains_reverse xs x later)
    ])

-- an opened one of the list is of one of the components
pub record IsOneOf (p : PlanView) (lasts : List ℕ) (places : List Place) (components : List Component) (o : Opened) : Type 0 where
  pub component : Component
  pub around : List Component
  pub has : Contains components component
  pub is : IsOpened p lasts places component around o

pub one_of : (p : PlanView) (lasts : List ℕ) (places : List Place) (cs : List Component) (os : List Opened) (o : Opened) → AreOpened p lasts places cs os → Contains os o → IsOneOf p lasts places cs o
one_of p lasts places [] [] o opened has = absurd (contains_none has)
one_of p lasts places [] (o' ∷ os) o opened has = absurd opened
one_of p lasts places (c ∷ cs) [] o opened has = absurd opened
one_of p lasts places (c ∷ cs) (o' ∷ os) o opened has = elim (contains_cases o' o os has) [
  | inl same ↦ record { component = c; around = cs; has = contains_here c cs; is = subst (IsOpened p lasts places c cs) same opened.0 }
  | inr later ↦
      let it = one_of p lasts places cs os o opened.1 later in
      record { component = it.component; around = it.around; has = contains_there c cs it.has; is = it.is }
]

-- the components are open
pub are_open : (p : PlanView) (lasts : List ℕ) (places : List Place) (cs : List Component) (os : List Opened) (c : Component) → AreOpened p lasts places cs os → Contains cs c → IsOpen p places c
are_open p lasts places [] os c opened has = absurd (contains_none has)
are_open p lasts places (d ∷ cs) [] c opened has = absurd opened
are_open p lasts places (d ∷ cs) (o ∷ os) c opened has = elim (contains_cases d c cs has) [
  | inl same ↦ subst (IsOpen p places) same opened.0.is_open
  | inr later ↦ are_open p lasts places cs os c opened.1 later
]

-- a candidate that isn't placed now is one still
candidate_later : (p : PlanView) (lasts : List ℕ) (places : List Place) (place : Place) (cs : List Component) (e : ℕ) → IsCandidate p lasts places cs e → place.element ≢ e → IsCandidate p lasts (places ++ place ∷ []) cs e
candidate_later p lasts places place cs e it other = record {
  within = it.within;
  fresh = λ has. elim (stands_push_cases places place e has) [ inl old ↦ it.fresh old | inr same ↦ other same ];
  free = free_more p lasts places (place ∷ []) e it.free;
  inside = it.inside;
}

-- an element placed inside the open components, and no exit of one
opened_later : (p : PlanView) (lasts : List ℕ) (places : List Place) (place : Place) (cs : List Component) (os : List Opened) → Axioms p
    → (Stands places place.element → ⊥) → ((c : Component) → Contains cs c → (c.first < place_of p place.element) × (place_of p place.element < c.end))
    → AreOpened p lasts places cs os → AreOpened p lasts (places ++ place ∷ []) cs os
opened_later p lasts places place [] [] axioms fresh inside opened = tt
opened_later p lasts places place [] (o ∷ os) axioms fresh inside opened = opened
opened_later p lasts places place (c ∷ cs) [] axioms fresh inside opened = opened
opened_later p lasts places place (c ∷ cs) (o ∷ os) axioms fresh inside opened = (
  (record {
    is_open = record {
      component = is.is_open.component;
      head = stands_more places (place ∷ []) c.head is.is_open.head;
      exit = λ has. elim (stands_push_cases places place c.exit has) [
        | inl old ↦ is.is_open.exit old
        | inr same ↦
            let end = end_at p c axioms is.is_open.component in
            let at : place_of p place.element ≡ place_of p c.exit = ap (place_of p) same in
            absurd (omega (arith, end, at, here.1))
      ];
    };
    head = λ above below head split same. elim (push_split places above below place head split) [
      | inl end ↦ absurd (fresh (subst (Stands places) (sym same ∙ ap (λ (q : Place). q.element) (sym end.1)) is.is_open.head))
      | inr inner ↦ is.head above inner.0 head inner.2 same
    ];
    within = is.within;
    ready = λ e has. candidate_later p lasts places place cs e (is.ready e has) (λ same.
        let at : place_of p place.element ≡ place_of p e = ap (place_of p) same in
        is.outside e has (omega (arith, at, here.0)) (omega (arith, at, here.1)));
    outside = is.outside;
  }),
  opened_later p lasts places place cs os axioms fresh (λ d has. inside d (contains_there c cs has)) opened.1,
)
  where
    is : IsOpened p lasts places c cs o
    is = opened.0

    here : (c.first < place_of p place.element) × (place_of p place.element < c.end)
    here = inside c (contains_here c cs)

-- what one more place makes of the open components and what is ready
pub record IsTurned (p : PlanView) (lasts : List ℕ) (places : List Place) (opened : List Opened) (ready : List ℕ) (opened' : List Opened) (ready' : List ℕ) : Type 0 where
  pub components : List Component
  pub are_opened : AreOpened p lasts places components (reverse opened')
  pub all_open : (c : Component) → IsOpen p places c → Contains components c
  pub candidates : (e : ℕ) → Contains ready' e → IsCandidate p lasts places components e
  pub kept : (e : ℕ) → e < p.elements → (Stands places e → ⊥) → Contains ready e ⊎ IsReadyAround opened e → Contains ready' e ⊎ IsReadyAround opened' e

-- what a step needs to know: the element to be placed is the least of those that are ready
pub record IsNow (p : PlanView) (s : Progress) (e : ℕ) : Type 0 where
  pub known : IsKnown p s (e ∷ s.ready.keys) (λ x. ⊥)
  pub least : All (λ x. e < x) s.ready.keys

pub now_candidate : (p : PlanView) (s : Progress) (e : ℕ) (now : IsNow p s e) → IsCandidate p s.lasts.items s.places.items now.known.components e
now_candidate p s e now = now.known.candidates e (contains_here e s.ready.keys)

-- an open component, of those that are known
now_open : (p : PlanView) (s : Progress) (e : ℕ) (now : IsNow p s e) (c : Component) → Contains now.known.components c → IsOpen p s.places.items c
now_open p s e now c has = are_open p s.lasts.items s.places.items now.known.components (reverse s.opened.items) c now.known.opened has

-- where what is placed is an exit, its component is open
pub now_closes : (p : PlanView) (s : Progress) (e : ℕ) → Axioms p → IsNow p s e → (c : Component) → Of p c → c.exit ≡ e → IsOpen p s.places.items c
now_closes p s e axioms now c of is =
    let it = now_candidate p s e now in
    let end = end_at p c axioms of in
    let order = first_before_end p c axioms of in
    let at : place_of p c.exit ≡ place_of p e = ap (place_of p) is in
    record {
      component = of;
      head = head_placed p s.lasts.items s.places.items c e axioms now.known.lasts now.known.steps of it.within (omega (arith, end, at, order), omega (arith, end, at)) it.free;
      exit = λ has. it.fresh (subst (Stands s.places.items) is has);
    }

-- an exit has a component
pub exit_component : (p : PlanView) (e : ℕ) → Axioms p → p.points ≤ e → e + 1 < p.elements → (c : Component) × Of p c × (c.exit ≡ e)
exit_component p e axioms from before =
    let none : Component = record { head = 0; exit = 0; first = 0; end = 0 } in
    let k : ℕ = e - p.points in
    let in_range : k < length p.components = (let counted = axioms.counted in omega (arith, counted, from, before)) in
    let c : Component = get_or p.components k none in
    let of : Of p c = (k, in_range, get_or_default p.components k c none in_range) in
    let at : c.exit ≡ p.points + k = exit_at p c axioms of in
    (c, of, omega (arith, at, from))

-- the innermost of the open components is the one whose exit comes next
innermost : (p : PlanView) (s : Progress) (e : ℕ) (c d : Component) (ds : List Component) (o : Opened) (os : List Opened) → Axioms p → (now : IsNow p s e)
    → IsOpened p s.lasts.items s.places.items d ds o → ((x : Component) → Contains (d ∷ ds) x → Follows p x e) → Contains (d ∷ ds) c → Of p c → c.exit ≡ e → d ≡ c
innermost p s e c d ds o os axioms now is inside has of is_exit = elim (contains_cases d c ds has) [
  | inl same ↦ same
  | inr later ↦
      let around = is.within c later in
      let follows = inside d (contains_here d ds) in
      let end = end_at p c axioms of in
      let at : place_of p c.exit ≡ place_of p e = ap (place_of p) is_exit in
      absurd (omega (arith, around.1, follows.1, end, at))
]

role_of : (p : PlanView) (s s' : Progress) (e : ℕ) (role : Role) → Axioms p → IsNow p s e → Turns p s s' e role → HasRole p s.lasts.items s.places.items e role
role_of p s s' e Vertex axioms now turns = elim turns.1 [
  | inl point ↦ (point.1, λ c of same. let at = exit_at p c axioms of in absurd (omega (arith, at, same, point.0)))
  | inr last ↦
      let counted = axioms.counted in (
        now.known.lasts.others e (now_candidate p s e now).within (λ c of same. let point = head_is_point p c axioms of in absurd (omega (arith, point, same, last, counted))),
        λ c of same. let at = exit_at p c axioms of in absurd (omega (arith, at, same, last, counted, of.1)),
      )
]
role_of p s s' e Head axioms now turns = elim (find_component (λ (c : Component). c.head) p.components e) [
  | inl found ↦ found
  | inr none ↦ absurd (turns.2 (now.known.lasts.others e (now_candidate p s e now).within none))
]
role_of p s s' e (Exit back) axioms now turns = by_opened now.known.components (reverse s.opened.items) refl now.known.opened (now_candidate p s e now).inside now.known.all_open
  where
    it : (c : Component) × Of p c × (c.exit ≡ e)
    it = exit_component p e axioms turns.1 turns.2

    o : Opened
    o = turns.3

    by_opened : (cs : List Component) (os : List Opened) → reverse s.opened.items ≡ os → AreOpened p s.lasts.items s.places.items cs os
        → ((c : Component) → Contains cs c → Follows p c e) → ((c : Component) → IsOpen p s.places.items c → Contains cs c)
        → (c : Component) × Of p c × (c.exit ≡ e)
        × ((above below : List Place) (head : Place) → s.places.items ≡ above ++ head ∷ below → head.element ≡ c.head → back ≡ length below + 1)
    by_opened [] os is opened inside all_open = absurd (contains_none (all_open it.0 (now_closes p s e axioms now it.0 it.1 it.2)))
    by_opened (d ∷ ds) [] is opened inside all_open = absurd opened
    by_opened (d ∷ ds) (o' ∷ os) is opened inside all_open =
        let same : d ≡ it.0 = innermost p s e it.0 d ds o' os axioms now opened.0 inside (all_open it.0 (now_closes p s e axioms now it.0 it.1 it.2)) it.1 it.2 in
        let last : o ∷ reverse s'.opened.items ≡ o' ∷ os = sym (reverse_push s'.opened.items o) ∙ ap (λ (xs : List Opened). reverse xs) (sym turns.4) ∙ is in
        let this : o ≡ o' = cc in (
          it.0,
          it.1,
          it.2,
          λ above below head split is_head.
              let at : length above ≡ o'.head = opened.0.head above below head split (is_head ∙ ap (λ (c : Component). c.head) (sym same)) in
              let at' : o'.head ≡ o.head = ap (λ (x : Opened). x.head) (sym this) in
              let long : length s.places.items ≡ length above + (length below + 1) = ap (λ (ps : List Place). length ps) split ∙ length-append above (head ∷ below) ∙ omega arith in
              omega (arith, at, at', long, turns.6),
        )

-- the next step
pub step_of : (p : PlanView) (s s' : Progress) (e : ℕ) (role : Role) → Axioms p → IsNow p s e → Turns p s s' e role → IsStep p s.lasts.items s.places.items (record { element = e; role = role })
step_of p s s' e role axioms now turns = record {
  within = it.within;
  fresh = it.fresh;
  free = it.free;
  inside = λ c is_open. it.inside c (now.known.all_open c is_open);
  least = λ f within fresh free inside. elim (now.known.found f within fresh) [
    | inl ready ↦ elim (contains_cases e f s.ready.keys ready) [
      | inl same ↦ omega (arith, same)
      | inr other ↦ let less = All-contains (λ (x : ℕ). e < x) s.ready.keys f now.least other in omega (arith, less)
    ]
    | inr others ↦ elim others [
      | inl around ↦
          let one = one_of p s.lasts.items s.places.items now.known.components (reverse s.opened.items) around.0 now.known.opened (contains_reverse s.opened.items around.0 around.1) in
          let follows = inside one.component (now_open p s e now one.component one.has) in
          absurd (one.is.outside f around.2 (omega (arith, follows.0)) follows.1)
      | inr last ↦ elim last [
        | inl waiting ↦ absurd (waiting.2 (free waiting.0 (now.known.waits waiting.0 f waiting.1 waiting.2).1))
        | inr none ↦ absurd none
      ]
    ]
  ];
  role = role_of p s s' e role axioms now turns;
}
  where
    it : IsCandidate p s.lasts.items s.places.items now.known.components e
    it = now_candidate p s e now

-- a vertex opens and closes nothing
turned_vertex : (p : PlanView) (s : Progress) (e : ℕ) → Axioms p → IsNow p s e → HasRole p s.lasts.items s.places.items e Vertex
    → IsTurned p s.lasts.items (s.places.items ++ record { element = e; role = Vertex } ∷ []) s.opened.items (e ∷ s.ready.keys) s.opened.items s.ready.keys
turned_vertex p s e axioms now alone = record {
  components = now.known.components;
  are_opened = opened_later p s.lasts.items s.places.items place now.known.components (reverse s.opened.items) axioms it.fresh (λ c has. strictly c (now_open p s e now c has)) now.known.opened;
  all_open = λ c is_open. now.known.all_open c (vertex_opens p s.lasts.items s.places.items place axioms now.known.lasts alone.0 c is_open);
  candidates = λ f has.
      let less = All-contains (λ (x : ℕ). e < x) s.ready.keys f now.least has in
      candidate_later p s.lasts.items s.places.items place now.known.components f (now.known.candidates f (contains_there e s.ready.keys has)) (λ same. absurd (omega (arith, less, same)));
  kept = λ f within fresh before. elim before [
    | inl ready ↦ elim (contains_cases e f s.ready.keys ready) [
      | inl same ↦ absurd (fresh (subst (Stands (s.places.items ++ place ∷ [])) same (stands_last s.places.items place)))
      | inr other ↦ inl other
    ]
    | inr around ↦ inr around
  ];
}
  where
    it : IsCandidate p s.lasts.items s.places.items now.known.components e
    it = now_candidate p s e now

    place : Place
    place = record { element = e; role = Vertex }

    strictly : (c : Component) → IsOpen p s.places.items c → (c.first < place_of p e) × (place_of p e < c.end)
    strictly c is_open =
        let of : Of p c = is_open.component in
        let follows = it.inside c (now.known.all_open c is_open) in
        let end = end_at p c axioms of in
        let apart : place_of p e ≢ c.end = (λ at. alone.1 c of (same_place p c.exit e axioms (exit_within p c axioms of) it.within (omega (arith, end, at)))) in
        (follows.0, omega (arith, follows.1, apart))

-- a head opens its component
turned_head : (p : PlanView) (s : Progress) (e : ℕ) (ready' : List ℕ) (opened' : List Opened) → Axioms p → IsNow p s e
    → (c : Component) → Of p c → c.head ≡ e → opened' ≡ s.opened.items ++ record { head = length s.places.items; ready = s.ready } ∷ [] → ready' ≡ []
    → IsTurned p s.lasts.items (s.places.items ++ record { element = e; role = Head } ∷ []) s.opened.items (e ∷ s.ready.keys) opened' ready'
turned_head p s e ready' opened' axioms now c of is_head opens none = record {
  components = c ∷ now.known.components;
  are_opened = subst (AreOpened p s.lasts.items (s.places.items ++ place ∷ []) (c ∷ now.known.components)) (sym (ap (λ (xs : List Opened). reverse xs) opens ∙ reverse_push s.opened.items o)) (
    is_opened,
    opened_later p s.lasts.items s.places.items place now.known.components (reverse s.opened.items) axioms it.fresh (λ d has. strictly d (now_open p s e now d has)) now.known.opened,
  );
  all_open = λ d is_open. elim (stands_push_cases s.places.items place d.head is_open.head) [
    | inl old ↦ contains_there c now.known.components (now.known.all_open d (record {
      component = is_open.component;
      head = old;
      exit = λ has. is_open.exit (stands_more s.places.items (place ∷ []) d.exit has);
    }))
    | inr new ↦ subst (Contains (c ∷ now.known.components)) (same_head p c d axioms of is_open.component (is_head ∙ new)) (contains_here c now.known.components)
  ];
  candidates = λ f has. absurd (contains_none (subst (λ (xs : List ℕ). Contains xs f) none has));
  kept = λ f within fresh before. elim before [
    | inl ready ↦ elim (contains_cases e f s.ready.keys ready) [
      | inl same ↦ absurd (fresh (subst (Stands (s.places.items ++ place ∷ [])) same (stands_last s.places.items place)))
      | inr other ↦ inr (o, subst (λ (xs : List Opened). Contains xs o) (sym opens) (Contains-push s.opened.items o), other)
    ]
    | inr around ↦ inr (around.0, subst (λ (xs : List Opened). Contains xs around.0) (sym opens) (Contains-append_left s.opened.items (o ∷ []) around.0 around.1), around.2)
  ];
}
  where
    it : IsCandidate p s.lasts.items s.places.items now.known.components e
    it = now_candidate p s e now

    place : Place
    place = record { element = e; role = Head }

    o : Opened
    o = record { head = length s.places.items; ready = s.ready }

    first : c.first ≡ place_of p e
    first = first_at p c axioms of ∙ ap (place_of p) is_head

    strictly : (d : Component) → IsOpen p s.places.items d → (d.first < place_of p e) × (place_of p e < d.end)
    strictly d is_open =
        let of_d : Of p d = is_open.component in
        let follows = it.inside d (now.known.all_open d is_open) in
        let end = end_at p d axioms of_d in
        let apart : place_of p e ≢ d.end = (λ at.
        let same : d.exit ≡ e = same_place p d.exit e axioms (exit_within p d axioms of_d) it.within (omega (arith, end, at)) in
        let point = head_is_point p c axioms of in
        let exits = exit_at p d axioms of_d in
        absurd (omega (arith, same, point, exits, is_head))) in
        (follows.0, omega (arith, follows.1, apart))

    is_opened : IsOpened p s.lasts.items (s.places.items ++ place ∷ []) c now.known.components o
    is_opened = record {
      is_open = record {
        component = of;
        head = subst (Stands (s.places.items ++ place ∷ [])) (sym is_head) (stands_last s.places.items place);
        exit = λ has. elim (stands_push_cases s.places.items place c.exit has) [
          | inl old ↦
              let end = end_at p c axioms of in
              let order = first_before_end p c axioms of in
              it.fresh (subst (Stands s.places.items) is_head (precedes_placed p s.lasts.items s.places.items c.head c.exit axioms now.known.lasts now.known.steps old
              (head_precedes p c c.exit axioms of (exit_within p c axioms of) (omega (arith, end, order), omega (arith, end)))))
          | inr same ↦
              let point = head_is_point p c axioms of in
              let exits = exit_at p c axioms of in
              absurd (omega (arith, point, exits, is_head, same))
        ];
      };
      head = λ above below head split same. elim (push_split s.places.items above below place head split) [
        | inl end ↦ ap (λ (ps : List Place). length ps) (sym end.0)
        | inr inner ↦
            let old : Stands s.places.items head.element =
            subst (λ (ps : List Place). Stands ps head.element) (sym inner.2) (stands_right above (head ∷ inner.0) head.element (contains_here head.element (elements_at inner.0))) in
            absurd (it.fresh (subst (Stands s.places.items) (same ∙ is_head) old))
      ];
      within = λ d has.
          let is_open = now_open p s e now d has in
          let inside = strictly d is_open in
          (omega (arith, first, inside.0), axioms.nested d c is_open.component of (omega (arith, first, inside.0)) (omega (arith, first, inside.1)));
      ready = λ f has.
          let less = All-contains (λ (x : ℕ). e < x) s.ready.keys f now.least has in
          candidate_later p s.lasts.items s.places.items place now.known.components f (now.known.candidates f (contains_there e s.ready.keys has)) (λ same. absurd (omega (arith, less, same)));
      outside = λ f has from upto.
          let less = All-contains (λ (x : ℕ). e < x) s.ready.keys f now.least has in
          let other = now.known.candidates f (contains_there e s.ready.keys has) in
          elim (cases_lt c.first (place_of p f)) [
            | inl later ↦
                it.fresh (subst (Stands s.places.items) is_head (head_placed p s.lasts.items s.places.items c f axioms now.known.lasts now.known.steps of other.within (later, upto) other.free))
            | inr at_first ↦
                let same : e ≡ f = same_place p e f axioms it.within other.within (omega (arith, first, from, at_first)) in
                absurd (omega (arith, less, same))
          ];
    }

-- an exit closes its component
turned_exit : (p : PlanView) (s : Progress) (e back : ℕ) (o : Opened) (opened' : List Opened) → Axioms p → IsNow p s e
    → (c : Component) → Of p c → c.exit ≡ e → s.opened.items ≡ opened' ++ o ∷ []
    → IsTurned p s.lasts.items (s.places.items ++ record { element = e; role = Exit back } ∷ []) s.opened.items (e ∷ s.ready.keys) opened' o.ready.keys
turned_exit p s e back o opened' axioms now c of is_exit closes =
    by_opened now.known.components (reverse s.opened.items) (sym (reverse_push opened' o) ∙ ap (λ (xs : List Opened). reverse xs) (sym closes)) now.known.opened now.known.candidates now.known.all_open
  where
    place : Place
    place = record { element = e; role = Exit back }

    places : List Place
    places = s.places.items ++ place ∷ []

    is_open : IsOpen p s.places.items c
    is_open = now_closes p s e axioms now c of is_exit

    end : c.end ≡ place_of p e
    end = end_at p c axioms of ∙ ap (place_of p) is_exit

    by_opened : (cs : List Component) (os : List Opened) → o ∷ reverse opened' ≡ os → AreOpened p s.lasts.items s.places.items cs os
        → ((f : ℕ) → Contains (e ∷ s.ready.keys) f → IsCandidate p s.lasts.items s.places.items cs f) → ((d : Component) → IsOpen p s.places.items d → Contains cs d)
        → IsTurned p s.lasts.items places s.opened.items (e ∷ s.ready.keys) opened' o.ready.keys
    by_opened [] os is are candidates all_open = absurd (contains_none (all_open c is_open))
    by_opened (d ∷ ds) [] is are candidates all_open = absurd are
    by_opened (d ∷ ds) (o' ∷ os) is are candidates all_open =
        let it : IsCandidate p s.lasts.items s.places.items (d ∷ ds) e = candidates e (contains_here e s.ready.keys) in
        let equal : d ≡ c = innermost p s e c d ds o' os axioms now are.0 it.inside (all_open c is_open) of is_exit in
        let this : o ≡ o' = cc in
        let others : reverse opened' ≡ os = cc in
        let here : IsOpened p s.lasts.items s.places.items c ds o = subst (λ (x : Component). IsOpened p s.lasts.items s.places.items x ds o) equal (subst (IsOpened p s.lasts.items s.places.items d ds) (sym this) are.0) in
        closed ds here (subst (AreOpened p s.lasts.items s.places.items ds) (sym others) are.1) it
        (λ f has. subst (λ (x : Component). IsCandidate p s.lasts.items s.places.items (x ∷ ds) f) equal (candidates f has))
        (λ x open_x. subst (λ (y : Component). Contains (y ∷ ds) x) equal (all_open x open_x))
      where
        closed : (ds : List Component) → IsOpened p s.lasts.items s.places.items c ds o → AreOpened p s.lasts.items s.places.items ds (reverse opened') → IsCandidate p s.lasts.items s.places.items (d ∷ ds) e
            → ((f : ℕ) → Contains (e ∷ s.ready.keys) f → IsCandidate p s.lasts.items s.places.items (c ∷ ds) f) → ((x : Component) → IsOpen p s.places.items x → Contains (c ∷ ds) x)
            → IsTurned p s.lasts.items places s.opened.items (e ∷ s.ready.keys) opened' o.ready.keys
        closed ds here are it candidates all_open = record {
          components = ds;
          are_opened = opened_later p s.lasts.items s.places.items place ds (reverse opened') axioms it.fresh (λ x has.
              let around = here.within x has in
              let order = first_before_end p c axioms of in
              (omega (arith, around.0, order, end), omega (arith, around.1, end))) are;
          all_open = λ x open_x. elim (stands_push_cases s.places.items place x.head open_x.head) [
            | inl old ↦ elim (contains_cases c x ds (all_open x (record { component = open_x.component; head = old; exit = λ has. open_x.exit (stands_more s.places.items (place ∷ []) x.exit has) }))) [
              | inl same ↦ absurd (open_x.exit (subst (Stands places) (sym is_exit ∙ ap (λ (y : Component). y.exit) same) (stands_last s.places.items place)))
              | inr later ↦ later
            ]
            | inr new ↦
                let point = head_is_point p x axioms open_x.component in
                let exits = exit_at p c axioms of in
                absurd (omega (arith, point, exits, is_exit, new))
          ];
          candidates = λ f has. candidate_later p s.lasts.items s.places.items place ds f (here.ready f has) (λ same.
              let at : place_of p e ≡ place_of p f = ap (place_of p) same in
              let order = first_before_end p c axioms of in
              here.outside f has (omega (arith, at, end, order)) (omega (arith, at, end)));
          kept = λ f within fresh before. elim before [
            | inl ready ↦ absurd (
                let other = candidates f ready in
                let follows = other.inside c (contains_here c ds) in
                elim (cases_lt (place_of p f) c.end) [
                  | inl inner ↦ other.fresh (members_placed p s.lasts.items s.places.items c f axioms now.known.lasts now.known.steps of (subst (IsFree p s.lasts.items s.places.items) (sym is_exit) it.free) within (omega (arith, follows.0)) inner)
                  | inr at_end ↦
                      let same : e ≡ f = same_place p e f axioms it.within within (omega (arith, follows.1, at_end, end)) in
                      fresh (subst (Stands places) same (stands_last s.places.items place))
                ])
            | inr around ↦ elim (Contains-push_cases opened' o around.0 (subst (λ (xs : List Opened). Contains xs around.0) closes around.1)) [
              | inl old ↦ inr (around.0, old, around.2)
              | inr last ↦ inl (subst (λ (x : Opened). Contains x.ready.keys f) (sym last) around.2)
            ]
          ];
        }

pub turned : (p : PlanView) (s s' : Progress) (e : ℕ) (role : Role) → Axioms p → IsNow p s e → Turns p s s' e role
    → IsTurned p s.lasts.items (s.places.items ++ record { element = e; role = role } ∷ []) s.opened.items (e ∷ s.ready.keys) s'.opened.items s'.ready.keys
turned p s s' e Vertex axioms now turns =
    subst (λ (x : Progress). IsTurned p s.lasts.items (s.places.items ++ record { element = e; role = Vertex } ∷ []) s.opened.items (e ∷ s.ready.keys) x.opened.items x.ready.keys) (sym turns.0)
    (turned_vertex p s e axioms now (role_of p s s' e Vertex axioms now turns))
turned p s s' e Head axioms now turns =
    let has = role_of p s s' e Head axioms now turns in
    turned_head p s e s'.ready.keys s'.opened.items axioms now has.0 has.1 has.2 turns.3 turns.4
turned p s s' e (Exit back) axioms now turns =
    let has = role_of p s s' e (Exit back) axioms now turns in
    subst (λ (keys : List ℕ). IsTurned p s.lasts.items (s.places.items ++ record { element = e; role = Exit back } ∷ []) s.opened.items (e ∷ s.ready.keys) s'.opened.items keys) (ap (λ (r : BTreeSet ℕ). r.keys) (sym turns.5))
    (turned_exit p s e back turns.3 s'.opened.items axioms now has.0 has.1 has.2 turns.4)
