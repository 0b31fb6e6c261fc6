-- What is known between two steps, and at the end.
use Rattle.std.proofs.Common.{◌≡◌, ◌≢◌, ◌⊎◌, ◌↔◌, ℕ, zero, suc, ◌+◌, ◌-◌, ◌<◌, ◌≤◌, Bool, true, false, eqb, List, [], ◌∷◌, ◌++◌, length, get_or, set, drop, replicate, reverse, refl, sym, ap, subst, ◌∙◌, inl, inr, arith, Contains, All}
use Rattle.std.specs.Vec.{with_item}
use Rattle.std.specs.declared.vec.Vec.{Vec}
use Rattle.std.specs.declared.alloc.Global.{Global}
use Rattle.std.specs.BTreeSet.{BTreeSet}
use Rattle.std.specs.List.{IsDistinct}
use Rattle.std.proofs.lemmas.Bool.{eqb-true}
use Rattle.std.proofs.lemmas.Bool.Decides.{Decides-eqb}
use Rattle.std.proofs.lemmas.Map.Made.{IsDistinct-from_AllPairs}
use Rattle.std.proofs.lemmas.Map.Steps.{length-le_from_distinct_below}
use Rattle.std.proofs.lemmas.Map.Views.{Contains-from_any}
use Rattle.std.proofs.lemmas.Bool.{cases_eq, cases_lt}
use Rattle.std.proofs.lemmas.List.{length-reverse, length-append, drop_more, length-replicate, get_or-replicate, length-set, length-map, map-append, length_push, get_or-set_same, get_or-set_other, get_or_past, get_or_push, get_or_append_left}
use Rattle.std.proofs.lemmas.List.Elements.{Contains-get_or}
use Rattle.pk_plan.specs.declared.components.Component.{Component}
use Rattle.pk_plan.specs.declared.places.Role.{Role}
use Rattle.pk_plan.specs.declared.places.Role.TheVariants.{Vertex, Head, Exit}
use Rattle.pk_plan.specs.declared.places.Place.{Place}
use Rattle.pk_plan.specs.Plans.{PlanView, place_of, predecessors_of}
use Rattle.pk_plan.specs.Axioms.{Axioms}
use Rattle.pk_plan.proofs.PlanLemmas.{Of, first_at, end_at, first_before_end, end_within, exit_within, head_within, inside_by_place, stands_inside, same_place, constrains_from}
use Rattle.pk_plan.specs.Digraphs.{lists_of}
use Rattle.pk_linear.specs.declared.waits.Reading.{Reading}
use Rattle.pk_linear.specs.declared.progress.Opened.{Opened}
use Rattle.pk_linear.specs.declared.progress.Progress.{Progress}
use Rattle.pk_linear.specs.Waits.{AreLasts, WaitsFor, IsPlaced, IsReadTo}
use Rattle.pk_linear.specs.Steps.{elements_at, Stands, IsOpen, IsFree, Follows, AreSteps, Start, Then}
use Rattle.pk_linear.specs.Progress.{IsCandidate, AreOpened, IsReadyAround, IsKnown, IsWaiting, IsLookedAt, Turns, reading_of}
use Rattle.pk_linear.proofs.ListLemmas.{contains_none, contains_here, contains_cases, is_or_is_not, IsSplit, split_at}
use Rattle.pk_linear.proofs.StepLemmas.{MapSplit, map_split, last_inside, stands_more, stands_last, stands_push_cases, placed_free}
use Rattle.pk_linear.proofs.WaitLemmas.{read_nothing}
use Rattle.pk_linear.proofs.LookLemmas.{list_elsewhere}
use Rattle.pk_linear.proofs.SpellLemmas.{steps_differ}
use Rattle.pk_linear.proofs.TurnLemmas.{contains_reverse, IsOneOf, one_of, are_open, IsTurned, turned, IsNow, step_of, now_closes, exit_component}

-- the set of ready elements is named apart
pub known_apart : (p : PlanView) (s : Progress) (ready : List ℕ) (left : ℕ → Type 0) (set : BTreeSet ℕ) → IsKnown p s ready left → IsKnown p (record s { ready = set }) ready left
known_apart p s ready left set known = record {
  lasts = known.lasts;
  marks = known.marks;
  readings = known.readings;
  waiting = known.waiting;
  steps = known.steps;
  marked = known.marked;
  read = known.read;
  waits = known.waits;
  components = known.components;
  opened = known.opened;
  all_open = known.all_open;
  candidates = known.candidates;
  found = known.found;
}

-- less is left to be looked at
pub known_less : (p : PlanView) (s : Progress) (ready : List ℕ) (left left' : ℕ → Type 0) → ((e : ℕ) → e < p.elements → left e → left' e) → IsKnown p s ready left → IsKnown p s ready left'
known_less p s ready left left' less known = record {
  lasts = known.lasts;
  marks = known.marks;
  readings = known.readings;
  waiting = known.waiting;
  steps = known.steps;
  marked = known.marked;
  read = known.read;
  waits = known.waits;
  components = known.components;
  opened = known.opened;
  all_open = known.all_open;
  candidates = known.candidates;
  found = λ e within fresh. elim (known.found e within fresh) [
    | inl it ↦ inl it
    | inr others ↦ elim others [
      | inl around ↦ inr (inl around)
      | inr last ↦ elim last [
        | inl waiting ↦ inr (inr (inl waiting))
        | inr it ↦ inr (inr (inr (less e within it)))
      ]
    ]
  ];
}

-- an item that isn't placed, and that all open components hold
pub record IsAwaited (p : PlanView) (places : List Place) (e : ℕ) : Type 0 where
  pub within : e < p.elements
  pub fresh : Stands places e → ⊥
  pub inside : (c : Component) → IsOpen p places c → Follows p c e

looked_from : (p : PlanView) (s : Progress) (item : ℕ) (readings : Vec Reading Global) (waiting : Vec (Vec ℕ Global) Global) (ready : BTreeSet ℕ) (left left' : ℕ → Type 0)
    → IsKnown p s s.ready.keys left → IsAwaited p s.places.items item → IsLookedAt p s (record s { readings = readings; waiting = waiting; ready = ready }) item
    → ((e : ℕ) → left e → (e ≡ item) ⊎ left' e)
    → IsKnown p (record s { readings = readings; waiting = waiting; ready = ready }) ready.keys left'
looked_from p s item readings waiting ready left left' known awaited looked less = record {
  lasts = known.lasts;
  marks = known.marks;
  readings = looked.readings ∙ known.readings;
  waiting = looked.waiting ∙ known.waiting;
  steps = known.steps;
  marked = known.marked;
  read = λ e within. looked.read e (known.read e within);
  waits = λ a e has fresh. elim (looked.waits_from a e has) [
    | inl old ↦ known.waits a e old fresh
    | inr new ↦ subst (λ (x : ℕ). (x < p.elements) × WaitsFor p s.lasts.items x a) (sym new.0) (awaited.within, new.1)
  ];
  components = known.components;
  opened = known.opened;
  all_open = known.all_open;
  candidates = λ e has. elim (looked.ready_from e has) [
    | inl old ↦ known.candidates e old
    | inr new ↦ subst (IsCandidate p s.lasts.items s.places.items known.components) (sym new.0) (record {
      within = awaited.within;
      fresh = awaited.fresh;
      free = λ a waits. (known.marked a).0 (new.1 a waits);
      inside = λ c has'. awaited.inside c (are_open p s.lasts.items s.places.items known.components (reverse s.opened.items) c known.opened has');
    })
  ];
  found = λ e within fresh. elim (known.found e within fresh) [
    | inl it ↦ inl (looked.ready_kept e it)
    | inr others ↦ elim others [
      | inl around ↦ inr (inl around)
      | inr last ↦ elim last [
        | inl it ↦ inr (inr (inl (it.0, looked.waits_kept it.0 e it.1, it.2)))
        | inr it ↦ elim (less e it) [
          | inl same ↦ elim looked.seen [
            | inl in_ready ↦ inl (subst (Contains ready.keys) (sym same) in_ready)
            | inr on ↦ inr (inr (inl (
              on.0,
              subst (IsWaiting (record s { readings = readings; waiting = waiting; ready = ready }) on.0) (sym same) on.1,
              λ placed. on.2 ((known.marked on.0).1 placed),
            )))
          ]
          | inr more ↦ inr (inr (inr more))
        ]
      ]
    ]
  ];
}

-- after an item was looked at
pub known_looked : (p : PlanView) (s s' : Progress) (item : ℕ) (left left' : ℕ → Type 0)
    → IsKnown p s s.ready.keys left → IsAwaited p s.places.items item → IsLookedAt p s s' item → ((e : ℕ) → left e → (e ≡ item) ⊎ left' e)
    → IsKnown p s' s'.ready.keys left'
known_looked p s s' item left left' known awaited looked less =
    let new : Progress = record s { readings = s'.readings; waiting = s'.waiting; ready = s'.ready } in
    subst (λ (x : Progress). IsKnown p x x.ready.keys left') (sym looked.same)
    (looked_from p s item s'.readings s'.waiting s'.ready left left' known awaited (subst (λ (x : Progress). IsLookedAt p s x item) looked.same looked) less)

-- the places with one more
record IsPlacedNow (p : PlanView) (s : Progress) (e : ℕ) (places : List Place) (opened : List Opened) (ready : List ℕ) : Type 0 where
  steps : AreSteps p s.lasts.items places
  turned : IsTurned p s.lasts.items places s.opened.items (e ∷ s.ready.keys) opened ready
  here : Stands places e
  old : (f : ℕ) → Stands s.places.items f → Stands places f
  new : (f : ℕ) → Stands places f → Stands s.places.items f ⊎ (e ≡ f)
  opens : (c : Component) → IsOpen p places c → (c.first ≤ place_of p e) × (place_of p e < c.end)

placed_now : (p : PlanView) (s s' : Progress) (e : ℕ) (role : Role) → Axioms p → IsNow p s e → Turns p s s' e role
    → IsPlacedNow p s e (s.places.items ++ record { element = e; role = role } ∷ []) s'.opened.items s'.ready.keys
placed_now p s s' e role axioms now turns =
    let step = step_of p s s' e role axioms now turns in
    let place : Place = record { element = e; role = role } in
    record {
      steps = Then now.known.steps step;
      turned = turned p s s' e role axioms now turns;
      here = stands_last s.places.items place;
      old = λ f has. stands_more s.places.items (place ∷ []) f has;
      new = λ f has. stands_push_cases s.places.items place f has;
      opens = λ c is_open.
          let of : Of p c = is_open.component in
          let first = first_at p c axioms of in
          let order = first_before_end p c axioms of in
          elim (stands_push_cases s.places.items place c.head is_open.head) [
            | inl head ↦
                let follows = step.inside c (record { component = of; head = head; exit = λ has. is_open.exit (stands_more s.places.items (place ∷ []) c.exit has) }) in
                let end = end_at p c axioms of in
                let apart : place_of p e ≢ c.end = (λ at.
                let same : e ≡ c.exit = same_place p e c.exit axioms step.within (exit_within p c axioms of) (omega (arith, at, end)) in
                is_open.exit (subst (Stands (s.places.items ++ place ∷ [])) same (stands_last s.places.items place))) in
                (omega (arith, follows.0), omega (arith, follows.1, apart))
            | inr same ↦ let at : place_of p e ≡ place_of p c.head = ap (place_of p) same in (omega (arith, at, first), omega (arith, at, first, order))
          ];
    }

-- an item that waits for an element inside a component, or for its head, is in the component or is its exit
awaited_inside : (p : PlanView) (lasts : List ℕ) (c : Component) (a e : ℕ) → Axioms p → Of p c → a < p.elements → c.first ≤ place_of p a → place_of p a < c.end → WaitsFor p lasts e a → Follows p c e
awaited_inside p lasts c a e axioms of within from before waits =
    let b : ℕ = waits.0 in
    let end = end_at p c axioms of in
    let inner = inside_by_place p c a axioms of (record { within = within; from = from; before = before }) in
    let upto : place_of p b ≤ c.end = elim (axioms.stays c a b of inner waits.1) [
      | inl inside ↦ let stands = stands_inside p c b axioms of inside in let below = stands.before in omega (arith, below)
      | inr same ↦ let at : place_of p b ≡ place_of p c.exit = ap (place_of p) same in omega (arith, at, end)
    ] in
    (omega (arith, from, waits.4), omega (arith, waits.2, upto))

marked_later : (p : PlanView) (s : Progress) (e f : ℕ) (places : List Place) → length s.placed.items ≡ p.elements → e < p.elements
    → IsPlaced s.placed.items f ↔ Stands s.places.items f → Stands places e → ((g : ℕ) → Stands s.places.items g → Stands places g) → ((g : ℕ) → Stands places g → Stands s.places.items g ⊎ (e ≡ g))
    → IsPlaced (set s.placed.items e true) f ↔ Stands places f
marked_later p s e f places long within marked here old new = elim (cases_eq f e) [
  | inl same ↦ (
    (λ placed. subst (Stands places) (sym same) here),
    (λ stands. subst (IsPlaced (set s.placed.items e true)) (sym same) (get_or-set_same s.placed.items e true false (omega (arith, long, within)))),
  )
  | inr other ↦
      let kept : get_or (set s.placed.items e true) f false ≡ get_or s.placed.items f false = get_or-set_other s.placed.items e f true false other in (
        (λ placed. old f (marked.0 (sym kept ∙ placed))),
        (λ stands. elim (new f stands) [ inl before ↦ kept ∙ marked.1 before | inr same ↦ absurd (other (sym same)) ]),
      )
]

still_read : (p : PlanView) (placed : List Bool) (e item : ℕ) (reading : Reading) → e < length placed → IsReadTo p placed item reading → IsReadTo p (set placed e true) item reading
still_read p placed e item reading within before = record {
  from = before.from;
  read = λ place k from earlier in_range lower. still (get_or (predecessors_of p (get_or p.listing place 0)) k 0) (before.read place k from earlier in_range lower);
}
  where
    still : (a : ℕ) → IsPlaced placed a → IsPlaced (set placed e true) a
    still a old = elim (cases_eq a e) [
      | inl same ↦ subst (IsPlaced (set placed e true)) (sym same) (get_or-set_same placed e true false within)
      | inr other ↦ get_or-set_other placed e a true false other ∙ old
    ]

-- after an element was placed, those that waited for it are to be looked at
pub record IsKnownPlaced (p : PlanView) (s s' : Progress) (waited : List ℕ) : Type 0 where
  pub known : IsKnown p s' s'.ready.keys (Contains waited)
  pub awaited : (i : ℕ) → Contains waited i → IsAwaited p s'.places.items i

placed_from : (p : PlanView) (s : Progress) (e : ℕ) (opened : Vec Opened Global) (ready : BTreeSet ℕ) (places : Vec Place Global) (empty : Vec ℕ Global) → Axioms p → IsNow p s e
    → IsPlacedNow p s e places.items opened.items ready.keys → empty.items ≡ []
    → IsKnownPlaced p s (record { lasts = s.lasts; placed = with_item s.placed e true; readings = s.readings; waiting = with_item s.waiting e empty; ready = ready; opened = opened; places = places }) (get_or (lists_of s.waiting.items) e [])
placed_from p s e opened ready places empty axioms now it nothing = record {
  known = record {
    lasts = known.lasts;
    marks = length-set s.placed.items e true ∙ known.marks;
    readings = known.readings;
    waiting = length-set s.waiting.items e empty ∙ known.waiting;
    steps = it.steps;
    marked = λ f. marked_later p s e f places.items known.marks e_in (known.marked f) it.here it.old it.new;
    read = λ f within. still_read p s.placed.items e f (reading_of s f) (omega (arith, marks, e_in)) (known.read f within);
    waits = λ a f has fresh. known.waits a f (subst (λ (xs : List ℕ). Contains xs f) (elsewhere a (λ same. fresh (subst (Stands places.items) (sym same) it.here))) has) (λ old. fresh (it.old a old));
    components = it.turned.components;
    opened = it.turned.are_opened;
    all_open = it.turned.all_open;
    candidates = it.turned.candidates;
    found = λ f within fresh. elim (known.found f within (λ old. fresh (it.old f old))) [
      | inl in_ready ↦ kept f (it.turned.kept f within fresh (inl in_ready))
      | inr others ↦ elim others [
        | inl around ↦ kept f (it.turned.kept f within fresh (inr around))
        | inr last ↦ elim last [
          | inl waiting ↦ elim (cases_eq waiting.0 e) [
            | inl same ↦ inr (inr (inr (subst (λ (x : ℕ). Contains (get_or (lists_of s.waiting.items) x []) f) same waiting.1)))
            | inr other ↦ inr (inr (inl (
              waiting.0,
              subst (λ (xs : List ℕ). Contains xs f) (sym (elsewhere waiting.0 other)) waiting.1,
              λ placed. elim (it.new waiting.0 placed) [ inl old ↦ waiting.2 old | inr same ↦ other (sym same) ],
            )))
          ]
          | inr none ↦ absurd none
        ]
      ]
    ];
  };
  awaited = λ i has.
      let waits = known.waits e i has candidate.fresh in
      record {
        within = waits.0;
        fresh = λ placed. elim (it.new i placed) [
          | inl old ↦ candidate.fresh (placed_free p s.lasts.items s.places.items i known.steps old e waits.1)
          | inr same ↦ let before = waits.1.4 in let at : place_of p e ≡ place_of p i = ap (place_of p) same in absurd (omega (arith, before, at))
        ];
        inside = λ c is_open. let opens = it.opens c is_open in awaited_inside p s.lasts.items c e i axioms is_open.component e_in opens.0 opens.1 waits.1;
      };
}
  where
    known : IsKnown p s (e ∷ s.ready.keys) (λ x. ⊥)
    known = now.known

    candidate : IsCandidate p s.lasts.items s.places.items now.known.components e
    candidate = now.known.candidates e (contains_here e s.ready.keys)

    e_in : e < p.elements
    e_in = candidate.within

    marks : length s.placed.items ≡ p.elements
    marks = now.known.marks

    elsewhere : (a : ℕ) → a ≢ e → get_or (lists_of (set s.waiting.items e empty)) a [] ≡ get_or (lists_of s.waiting.items) a []
    elsewhere a other = list_elsewhere s.waiting.items e a empty other

    kept : (f : ℕ) → Contains ready.keys f ⊎ IsReadyAround opened.items f
        → Contains ready.keys f ⊎ IsReadyAround opened.items f ⊎ ((a : ℕ) × Contains (get_or (lists_of (set s.waiting.items e empty)) a []) f × (Stands places.items a → ⊥)) ⊎ Contains (get_or (lists_of s.waiting.items) e []) f
    kept f it = elim it [ inl in_ready ↦ inl in_ready | inr around ↦ inr (inl around) ]

-- what a turn leaves as it is
pub turn_keeps : (p : PlanView) (s s' : Progress) (e : ℕ) (role : Role) → Turns p s s' e role → s' ≡ record s { opened = s'.opened; ready = s'.ready }
turn_keeps p s s' e Vertex turns = subst (λ (x : Progress). s' ≡ record x { opened = s'.opened; ready = s'.ready }) turns.0 refl
turn_keeps p s s' e Head turns = turns.0
turn_keeps p s s' e (Exit back) turns = turns.0

pub known_placed : (p : PlanView) (s s' : Progress) (e : ℕ) (role : Role) (places : Vec Place Global) (empty : Vec ℕ Global) → Axioms p → IsNow p s e → Turns p s s' e role
    → places.items ≡ s'.places.items ++ record { element = e; role = role } ∷ [] → empty.items ≡ []
    → IsKnownPlaced p s (record { lasts = s'.lasts; placed = with_item s'.placed e true; readings = s'.readings; waiting = with_item s'.waiting e empty; ready = s'.ready; opened = s'.opened; places = places }) (get_or (lists_of s'.waiting.items) e [])
known_placed p s s' e role places empty axioms now turns pushed nothing =
    let keeps = turn_keeps p s s' e role turns in
    let it = placed_now p s s' e role axioms now turns in
    let pushed' : places.items ≡ s.places.items ++ record { element = e; role = role } ∷ [] = pushed ∙ ap (λ (x : Progress). x.places.items ++ record { element = e; role = role } ∷ []) keeps in
    let done = placed_from p s e s'.opened s'.ready places empty axioms now (subst (λ (ps : List Place). IsPlacedNow p s e ps s'.opened.items s'.ready.keys) (sym pushed') it) nothing in
    subst (λ (x : Progress). IsKnownPlaced p s (record { lasts = x.lasts; placed = with_item x.placed e true; readings = x.readings; waiting = with_item x.waiting e empty; ready = s'.ready; opened = s'.opened; places = places }) (get_or (lists_of x.waiting.items) e [])) (sym keeps) done

-- the first place of a stretch whose element isn't placed
record IsFirstOpen (p : PlanView) (places : List Place) (low high : ℕ) : Type 0 where
  at : ℕ
  from : low ≤ at
  before : at < high
  fresh : Stands places (get_or p.listing at 0) → ⊥
  earlier : (q : ℕ) → low ≤ q → q < at → Stands places (get_or p.listing q 0)

first_open : (p : PlanView) (places : List Place) (low k : ℕ) → ((q : ℕ) → low ≤ q → q < low + k → Stands places (get_or p.listing q 0)) ⊎ IsFirstOpen p places low (low + k)
first_open p places low zero = inl (λ q from before. absurd (omega (arith, from, before)))
first_open p places low (suc k) = elim (first_open p places low k) [
  | inl all ↦ elim (is_or_is_not (elements_at places) (get_or p.listing (low + k) 0)) [
    | inl has ↦ inl (λ q from before. elim (cases_eq q (low + k)) [
      | inl same ↦ subst (λ (n : ℕ). Stands places (get_or p.listing n 0)) (sym same) has
      | inr other ↦ all q from (omega (arith, before, other))
    ])
    | inr none ↦ inr (record { at = low + k; from = omega arith; before = omega arith; fresh = none; earlier = all })
  ]
  | inr found ↦ inr (record { at = found.at; from = found.from; before = (let before = found.before in omega (arith, before)); fresh = found.fresh; earlier = found.earlier })
]

-- Where nothing is ready, a stretch that all open components surround has only placed elements: the first of the others would be ready.
none_left : (p : PlanView) (s : Progress) (low k : ℕ) → Axioms p → (known : IsKnown p s [] (λ e. ⊥)) → low + k ≤ p.elements
    → ((f : ℕ) → low ≤ place_of p f → place_of p f < low + k → (c : Component) → Contains known.components c → Follows p c f)
    → ((a f : ℕ) → f < p.elements → low ≤ place_of p f → place_of p f < low + k → WaitsFor p s.lasts.items f a → place_of p a < low → Stands s.places.items a)
    → (f : ℕ) → f < p.elements → low ≤ place_of p f → place_of p f < low + k → Stands s.places.items f
none_left p s low k axioms known within inside outside f f_in f_from f_before = elim (first_open p s.places.items low k) [
  | inl all ↦ subst (Stands s.places.items) (axioms.at_place f f_in) (all (place_of p f) f_from f_before)
  | inr first ↦ absurd (
      let from = first.from in
      let before = first.before in
      let e : ℕ = get_or p.listing first.at 0 in
      let e_in : e < p.elements = axioms.element first.at (omega (arith, before, within)) in
      let at : place_of p e ≡ first.at = axioms.place_at first.at (omega (arith, before, within)) in
      let free : IsFree p s.lasts.items s.places.items e = (λ a waits. elim (cases_lt (place_of p a) low) [
        | inl early ↦ outside a e e_in (omega (arith, at, from)) (omega (arith, at, before)) waits early
        | inr late ↦
            let a_in = constrains_from p a waits.0 axioms waits.1 in
            subst (Stands s.places.items) (axioms.at_place a a_in) (first.earlier (place_of p a) late (omega (arith, waits.4, at)))
      ]) in
      elim (known.found e e_in first.fresh) [
        | inl none ↦ contains_none none
        | inr others ↦ elim others [
          | inl around ↦
              let one = one_of p s.lasts.items s.places.items known.components (reverse s.opened.items) around.0 known.opened (contains_reverse s.opened.items around.0 around.1) in
              let follows = inside e (omega (arith, at, from)) (omega (arith, at, before)) one.component one.has in
              one.is.outside e around.2 (omega (arith, follows.0)) follows.1
          | inr last ↦ elim last [
            | inl waiting ↦ waiting.2 (free waiting.0 (known.waits waiting.0 e waiting.1 waiting.2).1)
            | inr none ↦ none
          ]
        ]
      ])
]

-- where nothing is ready, all is placed
pub all_placed : (p : PlanView) (s : Progress) → Axioms p → IsKnown p s [] (λ e. ⊥) → (e : ℕ) → e < p.elements → Stands s.places.items e
all_placed p s axioms known = by_components known.components (reverse s.opened.items) refl known.opened
  where
    none_open : known.components ≡ [] → (e : ℕ) → e < p.elements → Stands s.places.items e
    none_open is e within =
        let at = axioms.place e within in
        none_left p s 0 p.elements axioms known (omega arith)
        (λ f from before c has. absurd (contains_none (subst (λ (cs : List Component). Contains cs c) is has)))
        (λ a f f_in from before waits early. absurd (omega (arith, early))) e within (omega arith) (omega (arith, at))

    by_components : (cs : List Component) (os : List Opened) → known.components ≡ cs → AreOpened p s.lasts.items s.places.items cs os → (e : ℕ) → e < p.elements → Stands s.places.items e
    by_components [] os is opened = none_open is
    by_components (c ∷ cs) [] is opened = absurd opened
    by_components (c ∷ cs) (o ∷ os) is opened =
        let of : Of p c = opened.0.is_open.component in
        let first = first_at p c axioms of in
        let end = end_at p c axioms of in
        let order = first_before_end p c axioms of in
        let below = end_within p c axioms of in
        absurd (opened.0.is_open.exit (
        none_left p s (c.first + 1) (c.end - c.first) axioms known (omega (arith, below, order))
        (λ f from before d has. elim (contains_cases c d cs (subst (λ (xs : List Component). Contains xs d) is has)) [
          | inl same ↦ subst (λ (x : Component). Follows p x f) same (omega (arith, from), omega (arith, before, order))
          | inr later ↦ let around = opened.0.within d later in (omega (arith, around.0, from), omega (arith, around.1, before, order))
        ])
        (λ a f f_in from before waits early. elim (cases_eq (place_of p a) c.first) [
          | inl at ↦
              let a_in = constrains_from p a waits.0 axioms waits.1 in
              subst (Stands s.places.items) (same_place p c.head a axioms (head_within p c axioms of) a_in (omega (arith, at, first))) opened.0.is_open.head
          | inr other ↦
              let lasts = known.lasts.heads c of in
              let inner = last_inside p s.lasts.items c f axioms known.lasts of f_in (omega (arith, from)) (omega (arith, before, order)) in
              placed_free p s.lasts.items s.places.items c.head known.steps opened.0.is_open.head a
              (waits.0, waits.1, omega (arith, waits.2, first, from), omega (arith, waits.3, inner, lasts), omega (arith, early, other, first))
        ])
        c.exit (exit_within p c axioms of) (omega (arith, end, order)) (omega (arith, end, order))))

-- nothing is placed, and nothing was looked at
pub started : (p : PlanView) (s : Progress) → AreLasts p s.lasts.items
    → length s.placed.items ≡ p.elements → ((e : ℕ) → get_or s.placed.items e false ≡ false)
    → length s.readings.items ≡ p.elements → ((e : ℕ) → e < p.elements → reading_of s e ≡ record { place = place_of p e; read = 0 })
    → length s.waiting.items ≡ p.elements → ((a : ℕ) → get_or (lists_of s.waiting.items) a [] ≡ [])
    → s.ready.keys ≡ [] → s.opened.items ≡ [] → s.places.items ≡ []
    → IsKnown p s s.ready.keys (λ e. e < p.elements)
started p s lasts marks unmarked readings reading waiting empty ready opened places = record {
  lasts = lasts;
  marks = marks;
  readings = readings;
  waiting = waiting;
  steps = subst (AreSteps p s.lasts.items) (sym places) Start;
  marked = λ e. (
    (λ placed. absurd (let both : true ≡ false = sym placed ∙ unmarked e in cc)),
    (λ stands. absurd (none e stands)),
  );
  read = λ e within. subst (IsReadTo p s.placed.items e) (sym (reading e within)) (read_nothing p s.placed.items e);
  waits = λ a e has fresh. absurd (contains_none (subst (λ (xs : List ℕ). Contains xs e) (empty a) has));
  components = [];
  opened = subst (λ (os : List Opened). AreOpened p s.lasts.items s.places.items [] (reverse os)) (sym opened) tt;
  all_open = λ c is_open. absurd (none c.head is_open.head);
  candidates = λ e has. absurd (contains_none (subst (λ (xs : List ℕ). Contains xs e) ready has));
  found = λ e within fresh. inr (inr (inr within));
}
  where
    none : (e : ℕ) → Stands s.places.items e → ⊥
    none e stands = contains_none (subst (λ (ps : List Place). Stands ps e) places stands)

-- one more empty list
pub empties_push : (lists : List (Vec ℕ Global)) (v : Vec ℕ Global) (k : ℕ) → v.items ≡ [] → get_or (lists_of lists) k [] ≡ [] → get_or (lists_of (lists ++ v ∷ [])) k [] ≡ []
empties_push lists v k nothing before = elim (cases_lt k (length (lists_of lists))) [
  | inl inner ↦ is ∙ get_or_append_left (lists_of lists) (v.items ∷ []) [] k inner ∙ before
  | inr later ↦ elim (cases_eq k (length (lists_of lists))) [
    | inl at ↦ is ∙ get_or_push (lists_of lists) v.items [] k (sym at) ∙ nothing
    | inr past ↦ is ∙ get_or_past (lists_of lists ++ v.items ∷ []) k [] (let long = length_push (lists_of lists) v.items in omega (arith, long, later, past))
  ]
]
  where
    is : get_or (lists_of (lists ++ v ∷ [])) k [] ≡ get_or (lists_of lists ++ v.items ∷ []) k []
    is = ap (λ (ls : List (List ℕ)). get_or ls k []) (map-append (λ (x : Vec ℕ Global). x.items) lists (v ∷ []))

-- one more reading
pub readings_push : (f : ℕ → Reading) (readings : List Reading) (d : Reading) → ((k : ℕ) → k < length readings → get_or readings k d ≡ f k)
    → (k : ℕ) → k < length readings + 1 → get_or (readings ++ f (length readings) ∷ []) k d ≡ f k
readings_push f readings d before k less = elim (cases_lt k (length readings)) [
  | inl inner ↦ get_or_append_left readings (f (length readings) ∷ []) d k inner ∙ before k inner
  | inr last ↦
      let at : length readings ≡ k = omega (arith, less, last) in
      get_or_push readings (f (length readings)) d k at ∙ ap f at
]

pub none_marked : (n e : ℕ) → get_or (replicate n false) e false ≡ false
none_marked n e = elim (cases_lt e n) [
  | inl inner ↦ get_or-replicate n e false false inner
  | inr past ↦ get_or_past (replicate n false) e false (let long = length-replicate n false in omega (arith, long, past))
]

-- what a turn asks: an exit closes something, and no head stands past the places
pub exit_closes : (p : PlanView) (s : Progress) (e : ℕ) → Axioms p → IsNow p s e → p.points ≤ e → e + 1 < p.elements → 0 < length s.opened.items
exit_closes p s e axioms now from before = by_components now.known.components (reverse s.opened.items) refl now.known.opened (now.known.all_open it.0 (now_closes p s e axioms now it.0 it.1 it.2))
  where
    it : (c : Component) × Of p c × (c.exit ≡ e)
    it = exit_component p e axioms from before

    by_components : (cs : List Component) (os : List Opened) → reverse s.opened.items ≡ os → AreOpened p s.lasts.items s.places.items cs os → Contains cs it.0 → 0 < length s.opened.items
    by_components [] os is opened has = absurd (contains_none has)
    by_components (c ∷ cs) [] is opened has = absurd opened
    by_components (c ∷ cs) (o ∷ os) is opened has =
        let long : length (reverse s.opened.items) ≡ length (o ∷ os) = ap (λ (xs : List Opened). length xs) is in
        let same = length-reverse s.opened.items in
        omega (arith, long, same)

-- an element that was placed, with the places before it and after it
placed_at : (places : List Place) (e : ℕ) → Stands places e → (before : List Place) × (place : Place) × (after : List Place) × (places ≡ before ++ place ∷ after) × (place.element ≡ e)
placed_at places e has = parted (split_at (elements_at places) e has)
  where
    parted : IsSplit (elements_at places) e → (before : List Place) × (place : Place) × (after : List Place) × (places ≡ before ++ place ∷ after) × (place.element ≡ e)
    parted parts = there (map_split places parts.before parts.after e parts.is)
      where
        there : MapSplit places parts.before e → (before : List Place) × (place : Place) × (after : List Place) × (places ≡ before ++ place ∷ after) × (place.element ≡ e)
        there at = (at.before, at.place, at.after, at.is, at.element)

pub heads_within : (p : PlanView) (s : Progress) (e : ℕ) → IsNow p s e → All (λ o. o.head ≤ length s.places.items) s.opened.items
heads_within p s e now = λ k d in_range. within (get_or s.opened.items k d) (Contains-get_or s.opened.items k d in_range)
  where
    within : (o : Opened) → Contains s.opened.items o → o.head ≤ length s.places.items
    within o has = by_one (one_of p s.lasts.items s.places.items now.known.components (reverse s.opened.items) o now.known.opened (contains_reverse s.opened.items o has))
      where
        by_one : IsOneOf p s.lasts.items s.places.items now.known.components o → o.head ≤ length s.places.items
        by_one one = by_place (placed_at s.places.items one.component.head one.is.is_open.head)
          where
            by_place : (before : List Place) × (place : Place) × (after : List Place) × (s.places.items ≡ before ++ place ∷ after) × (place.element ≡ one.component.head) → o.head ≤ length s.places.items
            by_place at =
                let is : length at.0 ≡ o.head = one.is.head at.0 at.2 at.1 at.3 at.4 in
                let long = ap (λ (ps : List Place). length ps) at.3 in
                omega (arith, is, long, length-append at.0 (at.1 ∷ at.2))

-- the next of the items that waited
pub awaited_next : (xs : List ℕ) (i d : ℕ) → i < length xs → (e : ℕ) → Contains (drop i xs) e → (e ≡ get_or xs i d) ⊎ Contains (drop (i + 1) xs) e
awaited_next xs i d in_range e has =
    elim (contains_cases (get_or xs i d) e (drop (i + 1) xs) (subst (λ (ys : List ℕ). Contains ys e) (drop_more xs i d in_range) has)) [
      | inl same ↦ inl (sym same)
      | inr later ↦ inr later
    ]

-- what was placed is an element
pub steps_within : (p : PlanView) (lasts : List ℕ) (places : List Place) (e : ℕ) → AreSteps p lasts places → Stands places e → e < p.elements
steps_within p lasts _ e Start has = absurd (contains_none has)
steps_within p lasts _ e (Then {places} {place} steps step) has = elim (stands_push_cases places place e has) [
  | inl old ↦ steps_within p lasts places e steps old
  | inr same ↦ subst (λ (x : ℕ). x < p.elements) same step.within
]

-- no more places than elements
pub places_within : (p : PlanView) (lasts : List ℕ) (places : List Place) → AreSteps p lasts places → length places ≤ p.elements
places_within p lasts places steps =
    let xs : List ℕ = elements_at places in
    let apart : IsDistinct eqb xs = IsDistinct-from_AllPairs (λ a b. Decides-eqb a b) xs (steps_differ p lasts places steps) in
    let few : length xs ≤ p.elements = length-le_from_distinct_below xs p.elements apart (λ q has. steps_within p lasts places q steps (Contains-from_any (λ a b same. eqb-true a b same) q xs has)) in
    let long = length-map places (λ (q : Place). q.element) in
    omega (arith, few, long)
